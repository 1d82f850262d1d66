use Rattle.std.proofs.Common.{◌≡◌, ◌+◌, ◌-◌, ◌*◌, ◌<◌, ℕ, false, arith, sym, ap, ◌∙◌, inl, inr}
use Rattle.std.proofs.lemmas.Bool.{cases_lt, or_parts}
use Rattle.pathspec_glob.specs.BitVecs.{holds}
use Rattle.pathspec_glob.proofs.state_set.StateSet.skip_words.Goals as goal

pub loop-self-preserved : goal.loop-self-preserved
loop-self-preserved c =
    let invariant = c.loop-self.invariant in
    let entered = c.loop-self.self.entered in
    let staying = c.loop-self.self.staying in
    let first = c.loop-self.self.first in
    let none : (i : ℕ) → i < (first + 1) * 64 → (holds entered i ≡ false) × (holds staying i ≡ false) = λ i h. elim (cases_lt i (first * 64)) [
      | inl l ↦ (invariant.before_entered i l, invariant.before_staying i l)
      | inr g ↦
          let there : first * 64 + (i - first * 64) ≡ i = omega (arith, g) in
          let off = or_parts (holds entered (first * 64 + (i - first * 64))) (holds staying (first * 64 + (i - first * 64)))
          (c.active_states.ensures.none c.if-active_states-eq0.true (i - first * 64) (omega (arith, g, h))) in
          (sym (ap (holds entered) there) ∙ off.0, sym (ap (holds staying) there) ∙ off.1)
    ] in
    record {
      entered = invariant.entered;
      staying = invariant.staying;
      end = invariant.end;
      order = omega (arith, c.loop-self-test.true);
      before_entered = λ i h. (none i h).0;
      before_staying = λ i h. (none i h).1;
    }
