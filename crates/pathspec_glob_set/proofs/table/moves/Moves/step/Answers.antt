use Rattle.std.proofs.Common.{◌≡◌, ℕ, ◌||◌, ◌&&◌, ◌∙◌, sym, subst, ap, arith, [], false}
use Rattle.std.proofs.lemmas.List.{get_or_default}
use Rattle.pathspec_glob.specs.GlobCells.{further}
use Rattle.pathspec_glob_set.specs.Sizes.{row_at}
use Rattle.pathspec_glob.specs.BitVecs.{holds}
use Rattle.pathspec_glob_set.specs.Rows.{leads_on, taken_of, IsUncut}
use Rattle.pathspec_glob_set.specs.Moves.{entered_by}
use Rattle.pathspec_glob_set.proofs.RowProofs.{leads-same, uncut-before}
use Rattle.pathspec_glob_set.proofs.table.moves.Moves.step.Goals as goal

pub returns-clause-row : goal.returns-clause-row
returns-clause-row c =
    let moves = c.args.self.now in
    let takes : c.index.result.now ≡ row_at moves.takes.items c.args.class = c.index.ensures ∙ get_or_default moves.takes.items c.args.class _ [] c.requires.class in
    let ends : c.deref.result.now ≡ moves.ends.items = c.deref.ensures.value in
    let here : (i : ℕ) → IsUncut moves.cuts moves.ends.items c.cut.new.row i → IsUncut moves.cuts c.deref.result.now c.cut.new.row i =
    λ i. subst (λ e. IsUncut moves.cuts e c.cut.new.row i) (sym ends) in
    record {
      size = c.cut.ensures.len ∙ c.close.ensures.len ∙ c.enter.ensures.len ∙ c.requires.row;
      places = λ i h uncut.
          c.cut.ensures.kept i (here i uncut)
          ∙ c.close.ensures.closed i (omega (arith, h, c.enter.ensures.len, c.requires.row))
          ∙ ap (λ x. x || leads_on (holds moves.wide) (holds moves.over) (holds c.close.new.row) i) (c.enter.ensures.entered i (omega (arith, h, c.requires.old)) ∙ ap (λ t. further false (taken_of t c.args.old.now) i || (taken_of t c.args.old.now i && holds moves.wide i)) takes)
          ∙ ap (λ x. entered_by moves (row_at moves.takes.items c.args.class) c.args.old.now i || x)
          (leads-same (holds moves.wide) (holds moves.over) (holds c.close.new.row) (holds c.cut.new.row) i (λ j low. sym (c.cut.ensures.kept j (here j (uncut-before moves.cuts moves.ends.items c.cut.new.row j i (omega (arith, low)) uncut)))));
    }
