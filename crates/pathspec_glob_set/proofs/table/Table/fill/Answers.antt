use Rattle.std.proofs.Common.{◌≡◌, ◌<◌, ◌*◌, ◌+◌, ◌∙◌, refl, sym, ap, subst, arith, length, []}
use Rattle.std.proofs.lemmas.List.{get_or_default}
use Rattle.pathspec_glob_set.specs.Moves.{IsStep}
use Rattle.pathspec_glob_set.specs.Sizes.{row_at}
use Rattle.pathspec_glob_set.specs.Tables.{nowhere, row_of, AreCells}
use Rattle.pathspec_glob_set.proofs.TableProofs.{added-right, fill-cells, no-cells, one-row, one-sink, right-nowhere, right-row}
use Rattle.pathspec_glob_set.proofs.table.Table.fill.Goals as goal

pub returns-then-holds_none-clause-table : goal.returns-then-holds_none-clause-table
returns-then-holds_none-clause-table c =
    let table = c.args.self.now in
    let was = c.requires.table in
    let takes = row_at table.moves.takes.items c.args.class in
    let here : c.index.result.now ≡ row_of table c.args.row = c.index.ensures ∙ get_or_default table.rows.items c.args.row _ [] (omega (arith, c.requires.row, was.rows.within)) in
    let step : IsStep table.moves takes (row_of table c.args.row) c.step.new.row = subst (λ r. IsStep table.moves takes r c.step.new.row) here c.step.ensures.row in
    record {
      rows = was.rows;
      cells = fill-cells table c.args.row c.args.class nowhere c.place-at.result c.put.new.cells.items was c.requires.row c.requires.class c.place-at.ensures.place
          (right-nowhere table.moves table.rows.items table.used takes (row_of table c.args.row) c.step.new.row step (c.if-holds_none.ensures refl)) c.put.ensures;
      sinks = was.sinks;
      spare = step.size;
      index = was.index;
      misses = was.misses;
    }

pub returns-then-holds_none-clause-leads : goal.returns-then-holds_none-clause-leads
returns-then-holds_none-clause-leads c =
    let table = c.args.self.now in
    let was = c.requires.table in
    let takes = row_at table.moves.takes.items c.args.class in
    let here : c.index.result.now ≡ row_of table c.args.row = c.index.ensures ∙ get_or_default table.rows.items c.args.row _ [] (omega (arith, c.requires.row, was.rows.within)) in
    let step : IsStep table.moves takes (row_of table c.args.row) c.step.new.row = subst (λ r. IsStep table.moves takes r c.step.new.row) here c.step.ensures.row in
    let right = right-nowhere table.moves table.rows.items table.used takes (row_of table c.args.row) c.step.new.row step (c.if-holds_none.ensures refl) in
    right.lost refl

pub note_sink-requires : goal.note_sink-requires
note_sink-requires c =
    let table = c.args.self.now in
    let was = c.requires.table in
    let found = c.in-Some.found in
    let takes = row_at table.moves.takes.items c.args.class in
    let is : (found < table.used) × (row_of table found ≡ c.step.new.row) = c.in-Some.ensures in
    let here : c.index.result.now ≡ row_of table c.args.row = c.index.ensures ∙ get_or_default table.rows.items c.args.row _ [] (omega (arith, c.requires.row, was.rows.within)) in
    let step : IsStep table.moves takes (row_of table c.args.row) c.step.new.row = subst (λ r. IsStep table.moves takes r c.step.new.row) here c.step.ensures.row in
    let leads : IsStep table.moves takes (row_of table c.args.row) (row_of table found) = subst (λ r. IsStep table.moves takes (row_of table c.args.row) r) (sym is.1) step in
    record {
      table = record {
        rows = was.rows;
        cells = fill-cells table c.args.row c.args.class found c.place-at.result c.put-in-Some.new.cells.items was c.requires.row c.requires.class c.place-at.ensures.place
            (right-row table.moves table.rows.items table.used takes (row_of table c.args.row) found (omega (arith, was.rows.within, was.rows.few)) is.0 leads) c.put-in-Some.ensures;
        sinks = was.sinks;
        spare = step.size;
        index = was.index;
        misses = was.misses;
      };
      row = c.requires.row;
      class = c.requires.class;
      leads = leads;
    }

pub add-requires-clause-table : goal.add-requires-clause-table
add-requires-clause-table c =
    let table = c.args.self.now in
    let was = c.requires.table in
    record {
      rows = one-row table.moves table.rows.items table.firsts.items table.used was.rows;
      cells = subst (AreCells table.moves table.rows.items 1) (sym c.clear.ensures) (no-cells table.moves table.rows.items table.used 1 table.cells.items was.cells);
      sinks = one-sink table.moves table.rows.items table.used table.sinks.items was.rows.some was.sinks;
      spare = c.step.ensures.row.size;
      index = was.index;
      misses = was.misses;
    }

pub returns-clause-table : goal.returns-clause-table
returns-clause-table c =
    let table = c.args.self.now in
    let was = c.requires.table in
    let new = c.add-added.new.self in
    let is = c.add-added.ensures.table in
    let adds = c.add-added.ensures.added in
    let class = c.args.class in
    let row = c.args.row in
    let takes = row_at table.moves.takes.items class in
    let here : c.index.result.now ≡ row_of table row = c.index.ensures ∙ get_or_default table.rows.items row _ [] (omega (arith, c.requires.row, was.rows.within)) in
    let step : IsStep table.moves takes (row_of table row) c.step.new.row = subst (λ r. IsStep table.moves takes r c.step.new.row) here c.step.ensures.row in
    let room : table.used < length table.rows.items = omega (arith, was.rows.within, c.if-self-len.false, c.len.ensures) in
    record {
      rows = is.rows;
      cells = fill-cells new row class c.add-added.result c.place-at.result c.put-2.new.cells.items is (omega (arith, adds.used, c.requires.row))
          (subst (λ m. class < length m.takes.items) (sym adds.moves) c.requires.class)
          (c.place-at.ensures.place ∙ ap (λ m. row * length m.takes.items + class) (sym adds.moves))
          (added-right row class adds is room c.requires.row step) c.put-2.ensures;
      sinks = is.sinks;
      spare = is.spare;
      index = is.index;
      misses = is.misses;
    }
