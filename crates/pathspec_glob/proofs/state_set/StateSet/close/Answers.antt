use Rattle.std.proofs.Common.{◌≡◌, ◌≤◌, ◌<◌, ◌*◌, ℕ, suc, true, length, sym, ◌∙◌, add-one, arith, inl, inr, refl}
use Rattle.std.specs.Prelude.{◌⊎◌}
use Rattle.std.proofs.lemmas.Bool.{cases_lt, or_left}
use Rattle.pathspec_glob.specs.BitVecs.{holds}
use Rattle.pathspec_glob.specs.StateSets.{with_carry}
use Rattle.pathspec_glob.proofs.AcceptProofs.{over-next}
use Rattle.pathspec_glob.proofs.ClosureProofs.{carry-none, carry-before, unheld}
use Rattle.pathspec_glob.proofs.state_set.StateSet.close.Goals.{then-loop-index-test+else-carry-ne0, else-loop-index-test}
use Rattle.pathspec_glob.proofs.state_set.StateSet.close.Goals as goal

pub loop-index-init : goal.loop-index-init
loop-index-init c =
    let first = c.args.self.now.first in
    let entered = c.args.self.now.entered in
    let bounds = c.requires.bounds in
    record {
      includes = λ parts moves i h on. carry-none first entered i ∙ on;
      closed = λ parts moves. record {
        next = λ i h on wide. absurd (unheld (with_carry first 0 entered i) (holds c.args.self.now.staying i) (carry-none first entered i ∙ bounds.before_entered i h) (bounds.before_staying i h) on);
        over = λ i h on over. absurd (unheld (with_carry first 0 entered i) (holds c.args.self.now.staying i) (carry-none first entered i ∙ bounds.before_entered i h) (bounds.before_staying i h) (or_left _ _ on));
      };
      least = λ parts moves all has closed i h on. has i h (sym (carry-none first entered i) ∙ on);
      behind = λ i h. refl;
      before = bounds.before_entered;
      from = omega arith;
      within = omega (arith, bounds.order, bounds.within);
      entered = refl;
      staying = refl;
      first = refl;
      end = refl;
    }

pub loop-index-preserved : goal.loop-index-preserved
loop-index-preserved c =
    let index = c.loop-index.index in
    let invariant = c.loop-index.invariant in
    let word = c.close_word-carry.ensures in
    let same = word.same in
    record {
      includes = λ parts moves i h on. rw (add-one index) ((word.closes parts moves).includes i h (invariant.includes parts moves i h on));
      closed = λ parts moves. rw (add-one index, sym invariant.staying) ((word.closes parts moves).closed (rw invariant.staying (invariant.closed parts moves)));
      least = λ parts moves all has closed i h on.
          (word.closes parts moves).least all (invariant.least parts moves all has closed) (rw invariant.staying closed) i h (rw (add-one index) at on);
      behind = λ i h. same.behind i (omega arith) ∙ invariant.behind i (omega arith);
      before = λ i h. same.before i (omega (arith, invariant.from)) ∙ invariant.before i h;
      from = omega (arith, invariant.from);
      within = omega (arith, c.loop-index-test.true, c.len-last.ensures);
      entered = same.entered ∙ invariant.entered;
      staying = same.staying ∙ invariant.staying;
      first = same.first ∙ invariant.first;
      end = same.end ∙ invariant.end;
    }

pub returns-clause-closure : goal.returns-clause-closure
returns-clause-closure c parts moves =
    let index = c.loop-index.index in
    let carry = c.loop-index.carry in
    let row = c.loop-index.self.entered in
    let invariant = c.loop-index.invariant in
    let n = length parts.tokens in
    let stop : (n < index * 64) ⊎ ((c.loop-index.self.end ≤ index) × (carry ≡ 0)) = elim c.loop-index-test.branch [
      | then-loop-index-test+else-carry-ne0 w ↦ inr w.if-carry-ne0.false
      | else-loop-index-test w ↦ inl (omega (arith, w.loop-index-test.false, c.len-last.ensures, moves.len))
    ] in
    let same : (i : ℕ) → i ≤ n → with_carry index carry row i ≡ holds row i = λ i h. elim stop [
      | inl past ↦ carry-before index carry row i (omega arith)
      | inr done ↦ rw done.1 (carry-none index row i)
    ] in
    let kept : (i : ℕ) → with_carry index carry row i ≡ true → i ≤ n → holds row i ≡ true = λ i on h. sym (same i h) ∙ on in
    record {
      includes = λ i h on. kept i (invariant.includes parts moves i h on) h;
      closed = record {
        next = λ i h on wide. elim (cases_lt i (index * 64)) [
          | inl l ↦ kept (suc i) ((invariant.closed parts moves).next i l (rw (same i (omega arith)) on) wide) (omega arith)
          | inr g ↦ elim stop [
            | inl past ↦ absurd (let bad : ⊥ = omega arith in bad)
            | inr done ↦ absurd (unheld (holds row i) (holds c.args.self.now.staying i)
                (invariant.behind i g ∙ c.requires.bounds.after_entered i (omega (arith, done.0, invariant.end)) (omega (arith, moves.len)))
                (c.requires.bounds.after_staying i (omega (arith, done.0, invariant.end)) (omega (arith, moves.len))) on)
          ]
        ];
        over = λ i h on over. elim (cases_lt i (index * 64)) [
          | inl l ↦ kept (suc (suc i)) ((invariant.closed parts moves).over i l (same i (omega arith) ∙ on) over) (let next = over-next parts.mode i parts.tokens over in omega arith)
          | inr g ↦ elim stop [
            | inl past ↦ absurd (let bad : ⊥ = omega arith in bad)
            | inr done ↦ absurd (unheld (holds row i) (holds c.args.self.now.staying i)
                (invariant.behind i g ∙ c.requires.bounds.after_entered i (omega (arith, done.0, invariant.end)) (omega (arith, moves.len)))
                (c.requires.bounds.after_staying i (omega (arith, done.0, invariant.end)) (omega (arith, moves.len))) (or_left _ _ on))
          ]
        ];
      };
      least = λ all has closed i h on. invariant.least parts moves all has closed i h (same i h ∙ on);
      staying = invariant.staying;
    }
