-- Where nothing was found, no glob comes by it.
use Rattle.std.proofs.Common.{◌≡◌, ℕ, false, sym, ◌∙◌, arith, Option, Some, None}
use Rattle.std.specs.Prelude.{is_some}
use Rattle.std.proofs.lemmas.Bool.{true≢false}
use Rattle.pathspec_glob_set.specs.Answers.{ComesBy}
use Rattle.pathspec_callers.proofs.sets.may_match.Goals as goal

none-comes : (found : Option ℕ) (g : ℕ) → is_some found ≡ false → ComesBy found g → ⊥
none-comes None g e h = h
none-comes (Some x) g e h = true≢false e

pub returns-clause-none : goal.returns-clause-none
returns-clause-none c h globs is g glob at matched =
    none-comes c.next.result g (sym c.is_some.ensures ∙ h) (c.next.ensures.no_other globs is (λ k cutter less _ _ _. let no : ⊥ = omega (arith, less) in no) g glob at (omega arith) matched)
