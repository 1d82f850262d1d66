use Rattle.std.proofs.Common.{◌≡◌, ◌∙◌, sym, ap, subst, arith, length}
use Rattle.pathspec_glob_set.specs.Sizes.{IsFirst}
use Rattle.pathspec_glob_set.proofs.TableProofs.{added-cells, added-rows, added-sinks}
use Rattle.pathspec_glob_set.proofs.table.Table.add.Goals as goal

pub returns-clause-table : goal.returns-clause-table
returns-clause-table c =
    let table = c.args.self.now in
    let was = c.requires.table in
    let row = c.copy_from.new.self in
    let first = c.first_from-first.result in
    let same : row ≡ table.spare = c.copy_from.ensures in
    let is : IsFirst table.moves.ends.items row 0 first =
    subst (λ r. IsFirst table.moves.ends.items r 0 first) (sym same) (subst (λ e. IsFirst e table.spare 0 first) c.deref.ensures.value c.first_from-first.ensures.first) in
    record {
      rows = added-rows table.moves table.rows.items table.firsts.items table.used row first was.rows c.requires.room (ap length same ∙ was.spare) is;
      cells = added-cells table.moves table.rows.items table.used table.cells.items row was.cells;
      sinks = added-sinks table.moves table.rows.items table.used table.sinks.items row was.sinks c.requires.room;
      spare = was.spare;
      index = omega (arith, c.remember.ensures, was.index);
      misses = was.misses;
    }
