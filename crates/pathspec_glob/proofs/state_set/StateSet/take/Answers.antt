use Rattle.std.proofs.Common.{◌≡◌, ◌≤◌, ◌<◌, ◌+◌, ◌-◌, ◌*◌, ◌&&◌, ℕ, zero, suc, Bool, true, false, not, length, drop, sym, ◌∙◌, ap, List, arith, inl, inr, refl, subst}
use Rattle.std.proofs.lemmas.Bool.{and_left, and_right, cases_eq, cases_lt, or_from}
use Rattle.std.proofs.lemmas.List.{get_or-set_same, get_or-set_other}
use Rattle.pathspec_glob.specs.GlobSteps.{is_wide_at, token_takes}
use Rattle.pathspec_glob.specs.GlobCells.{has}
use Rattle.pathspec_glob.specs.BitVecs.{holds}
use Rattle.pathspec_glob.specs.StateSets.{arrives, is_active, stays}
use Rattle.pathspec_glob.proofs.StepProofs.{behind-none, arrives-none, arrives-behind, arrives-within, stays-none}
use Rattle.pathspec_glob.proofs.state_set.StateSet.take.Goals as goal

-- a word of a row is what it is at its first place, and behind each other
word-is : (row : List Bool) (is : ℕ → Bool) (n from : ℕ) → (from ≤ n → holds row from ≡ is from)
    → ((j : ℕ) → suc j < 64 → from + j < n → holds row (from + suc j) ≡ is (suc (from + j)))
    → (k i : ℕ) → k < 64 → from + k ≡ i → i ≤ n → holds row i ≡ is i
word-is row is n from first behind zero i low at within =
    let here : from ≡ i = omega (arith, at) in
    subst (λ p. holds row p ≡ is p) here (first (omega (arith, at, within)))
word-is row is n from first behind (suc j) i low at within =
    let here : suc (from + j) ≡ i = omega (arith, at) in
    let there : from + suc j ≡ i = at in
    sym (ap (holds row) there) ∙ behind j low (omega (arith, at, within)) ∙ ap is here

pub loop-index-preserved : goal.loop-index-preserved
loop-index-preserved c =
    let index = c.loop-index.index in
    let invariant = c.loop-index.invariant in
    let tokens = c.args.tokens.now in
    let case = c.args.case in
    let b = c.args.byte in
    let old = c.args.self.now in
    let n = length tokens.tokens in
    let from = index * 64 in
    let puts = c.put_taken-carry.ensures.puts in
    let took = c.taken-taken.ensures in
    let inside : from ≤ n = omega (arith, c.loop-index-test.true, invariant.end, c.requires.bounds.within) in
    let held : (j : ℕ) → j < 64 → from + j < n → has c.active_states-active.result j ≡ is_active old (from + j) = λ j low short.
    c.active_states-active.ensures.active j low (omega (arith, short, c.requires.room.entered, invariant.room.entered)) (omega (arith, short, c.requires.room.staying, invariant.room.staying))
    ∙ rw (invariant.behind_entered (from + j) (omega arith), invariant.behind_staying (from + j) (omega arith)) refl in
    let taken : (j : ℕ) → j < 64 → from + j < n → has c.taken-taken.result j ≡ (is_active old (from + j) && token_takes tokens case (from + j) b) = λ j low short.
    took.taken j low ∙ ap (λ h. h && token_takes tokens case (from + j) b) (held j low short) in
    let wide : (j : ℕ) → j < 64 → from + j < n → has c.word.result j ≡ is_wide_at (drop (from + j) tokens.tokens) = λ j low short.
    c.word.ensures j low (omega (arith, short, c.requires.moves.len)) ∙ c.requires.moves.wide (from + j) short in
    let moves : (j : ℕ) → j < 64 → from + j < n → (has c.taken-taken.result j && not (has c.word.result j)) ≡ arrives tokens case old b (suc (from + j)) = λ j low short.
    rw (taken j low short, wide j low short) refl in
    let entered = word-is c.put_taken-carry.new.self.entered (arrives tokens case old b) n from
    (λ h. puts.first (omega (arith, c.requires.room.entered, invariant.room.entered)) ∙ invariant.carry)
    (λ j low short. puts.entered j low (omega (arith, short, c.requires.room.entered, invariant.room.entered)) ∙ moves j (omega arith) short) in
    let next : (has c.taken-taken.result 63 && not (has c.word.result 63)) ≡ arrives tokens case old b (suc (from + 63)) = elim (cases_lt (from + 63) n) [
      | inl l ↦ moves 63 (omega arith) l
      | inr g ↦
          and_left _ _ (took.taken 63 (omega arith) ∙ rw (behind-none tokens case (from + 63) b g) (and_right (has c.active_states-active.result 63) false refl))
          ∙ sym (arrives-behind tokens case old b (from + 63) g)
    ] in
    record {
      entered = λ i h k. elim (cases_lt i from) [
        | inl l ↦ puts.before_entered i l ∙ invariant.entered i l k
        | inr g ↦ entered (i - from) i (omega arith) (omega arith) k
      ];
      staying = λ i h k. elim (cases_lt i from) [
        | inl l ↦ puts.before_staying i l ∙ invariant.staying i l k
        | inr g ↦
            let at : from + (i - from) ≡ i = omega arith in
            subst (λ p. holds c.put_taken-carry.new.self.staying p ≡ stays tokens case old b p) at
            (puts.staying (i - from) (omega arith) (omega (arith, c.requires.room.staying, invariant.room.staying))
            ∙ rw (taken (i - from) (omega arith) (omega arith), wide (i - from) (omega arith) (omega arith)) refl)
      ];
      carry = let at : suc (from + 63) ≡ (index + 1) * 64 = omega arith in c.put_taken-carry.ensures.next ∙ next ∙ ap (arrives tokens case old b) at;
      small = c.put_taken-carry.ensures.carry;
      none = λ count i h k. elim (cases_lt i from) [
        | inl l ↦ invariant.none (omega (arith, took.rises)) i l k
        | inr g ↦
            let at : from + (i - from) ≡ i = omega arith in
            subst (λ p. is_active old p ≡ false) at (sym (held (i - from) (omega arith) (omega arith)) ∙ took.none (omega (arith, took.rises)) (i - from) (omega arith) (omega arith))
      ];
      most = omega (arith, took.most);
      within = took.within;
      alone = took.alone;
      behind_entered = λ i h. puts.behind_entered i (omega arith) ∙ invariant.behind_entered i (omega arith);
      behind_staying = λ i h. puts.behind_staying i (omega arith) ∙ invariant.behind_staying i (omega arith);
      before_entered = λ i h. puts.before_entered i (omega (arith, invariant.from)) ∙ invariant.before_entered i h;
      before_staying = λ i h. puts.before_staying i (omega (arith, invariant.from)) ∙ invariant.before_staying i h;
      from = omega (arith, invariant.from);
      to = omega (arith, c.loop-index-test.true, invariant.end);
      room = record { entered = puts.room.entered ∙ invariant.room.entered; staying = puts.room.staying ∙ invariant.room.staying };
      first = puts.from ∙ invariant.first;
      end = puts.end ∙ invariant.end;
    }

pub returns-then-carry-ne0-clause-takes : goal.returns-then-carry-ne0-clause-takes
returns-then-carry-ne0-clause-takes c =
    let index = c.loop-index.index in
    let from = index * 64 in
    let invariant = c.loop-index.invariant in
    let bounds = c.requires.bounds in
    let tokens = c.args.tokens.now in
    let case = c.args.case in
    let b = c.args.byte in
    let old = c.args.self.now in
    let n = length tokens.tokens in
    let row = c.loop-index.self.entered in
    let past : old.end ≤ index = omega (arith, c.loop-index-test.false, invariant.end) in
    let unheld : (i : ℕ) → from ≤ i → i < n → is_active old i ≡ false = λ i g h.
    or_from _ _ (bounds.after_entered i (omega (arith, past)) (omega arith)) (bounds.after_staying i (omega (arith, past)) h) in
    let on : true ≡ arrives tokens case old b from = let one : c.loop-index.carry ≡ 1 = omega (arith, c.if-carry-ne0.true, invariant.small) in rw one at invariant.carry in
    let within : from ≤ n = arrives-within tokens case old b from (sym on) in
    let inside : from < length row = omega (arith, c.requires.room.entered, invariant.room.entered) in
    record {
      entered = λ i h. rw c.set.ensures (elim (cases_lt i from) [
        | inl l ↦ get_or-set_other row from i true false (λ e. omega (arith, l, e)) ∙ invariant.entered i l h
        | inr g ↦ elim (cases_eq i from) [
          | inl e ↦ rw e (get_or-set_same row from true false inside ∙ on)
          | inr d ↦
              get_or-set_other row from i true false d ∙ invariant.behind_entered i g ∙ bounds.after_entered i (omega (arith, past)) h
              ∙ sym (arrives-none tokens case old b i (λ j at. unheld j (omega (arith, d)) (omega arith)))
        ]
      ]);
      staying = λ i h. elim (cases_lt i from) [
        | inl l ↦ invariant.staying i l h
        | inr g ↦ invariant.behind_staying i g ∙ bounds.after_staying i (omega (arith, past)) h ∙ sym (stays-none tokens case old b i (unheld i g h))
      ];
    }
