use Rattle.std.proofs.Common.{◌≡◌, ◌<◌, ◌∙◌, refl, sym, ap, subst, arith, [], length}
use Rattle.std.proofs.lemmas.List.{get_or_default}
use Rattle.pathspec_glob_set.specs.Moves.{IsSink, IsStep}
use Rattle.pathspec_glob_set.specs.Sizes.{row_at}
use Rattle.pathspec_glob_set.specs.Tables.{row_of}
use Rattle.pathspec_glob_set.proofs.TableProofs.{put-sink}
use Rattle.pathspec_glob_set.proofs.table.Table.note_sink.Goals as goal

pub is_sink-requires : goal.is_sink-requires
is_sink-requires c =
    let table = c.args.self.now in
    let was = c.requires.table in
    let row = c.args.row in
    let takes = row_at table.moves.takes.items c.args.class in
    let low : row < length table.rows.items = omega (arith, c.requires.row, was.rows.within) in
    let here : c.index.result.now ≡ row_of table row = c.index.ensures ∙ get_or_default table.rows.items row _ [] low in
    let stays : IsStep table.moves takes (row_of table row) (row_of table row) = subst (λ k. IsStep table.moves takes (row_of table row) (row_of table k)) c.if-found-row.true c.requires.leads in
    record {
      class = c.requires.class;
      row = ap length here ∙ was.rows.sizes row low;
      stays = subst (λ r. IsStep table.moves takes r r) (sym here) stays;
    }

pub returns-then-is_sink-clause-table : goal.returns-then-is_sink-clause-table
returns-then-is_sink-clause-table c =
    let table = c.args.self.now in
    let was = c.requires.table in
    let row = c.args.row in
    let low : row < length table.rows.items = omega (arith, c.requires.row, was.rows.within) in
    let here : c.index.result.now ≡ row_of table row = c.index.ensures ∙ get_or_default table.rows.items row _ [] low in
    record {
      rows = was.rows;
      cells = was.cells;
      sinks = put-sink table.moves table.rows.items table.used row table.sinks.items was.sinks low (subst (IsSink table.moves) here (c.if-is_sink.ensures refl));
      spare = was.spare;
      index = was.index;
      misses = was.misses;
    }
