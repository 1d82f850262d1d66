use Rattle.std.proofs.Common.{◌≡◌, ◌*◌, ◌∙◌, sym, subst, ap, arith, length}
use Rattle.pathspec_glob_set.specs.Sizes.{IsFirst}
use Rattle.pathspec_glob_set.specs.Tables.{AreCells, AreSinks}
use Rattle.pathspec_glob_set.proofs.TableProofs.{new-rows, no-sinks, unknown-cells}
use Rattle.pathspec_glob_set.proofs.table.Table.new.Goals as goal

pub returns-clause-table : goal.returns-clause-table
returns-clause-table c =
    let moves = c.args.moves in
    let rows = c.in_ok-rows.rows.items in
    let first = c.first_from-first.result in
    let is : IsFirst moves.ends.items moves.start 0 first = subst (λ e. IsFirst e moves.start 0 first) c.deref.ensures.value c.first_from-first.ensures.first in
    let size : c.in-Some.size ≡ length rows * length moves.takes.items =
    let product : c.in-Some.size ≡ c.args.count * c.width.result = omega (arith, c.in-Some.ensures.1) in
    product ∙ ap (λ k. c.args.count * k) c.width.ensures ∙ ap (λ k. k * length moves.takes.items) (sym c.in_ok-rows.ensures.len) in
    record {
      rows = new-rows moves rows c.in_ok-firsts.firsts.items c.args.count first c.requires.many c.requires.few c.in_ok-rows.ensures.len c.in_ok-rows.ensures.rows (c.in_ok-firsts.ensures.items_if_clones_equal (λ y h. h)) is;
      cells = subst (AreCells moves rows 1) (sym (c.in_ok-cells.ensures.items_if_clones_equal (λ y h. h))) (unknown-cells moves rows 1 c.in-Some.size size);
      sinks = subst (AreSinks moves rows 1) (sym (c.in_ok-sinks.ensures.items_if_clones_equal (λ y h. h))) (no-sinks moves rows 1 c.args.count c.in_ok-rows.ensures.len);
      spare = ap length c.in_ok-spare.ensures ∙ moves.sizes.start_alike;
      index = omega (arith, c.in_ok-index.ensures.len, c.requires.many);
      misses = omega arith;
    }
