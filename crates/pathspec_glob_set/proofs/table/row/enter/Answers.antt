use Rattle.std.proofs.Common.{◌≡◌, ℕ, suc, ◌+◌, ◌-◌, ◌*◌, ◌<◌, ◌||◌, ◌&&◌, ◌∙◌, false, subst, ap, arith, length, inl, inr, bit_and}
use Rattle.std.proofs.lemmas.Bool.{cases_lt}
use Rattle.pathspec_glob.specs.BitVecs.{holds}
use Rattle.pathspec_glob.specs.GlobCells.{further, has}
use Rattle.pathspec_glob.proofs.BitProofs.{has-and, has-zero}
use Rattle.pathspec_glob_set.specs.Rows.{taken_of}
use Rattle.pathspec_glob_set.proofs.RowProofs.{enter-word, shifted-last}
use Rattle.pathspec_glob_set.proofs.table.row.enter.Goals as goal

pub loop-index-init : goal.loop-index-init
loop-index-init c = record {
  done = λ i h within. absurd (let no : ⊥ = omega (arith, h) in no);
  first = λ h. has-zero 0;
  none = λ k. has-zero (suc k);
  len = c.requires.row;
}

pub loop-index-preserved : goal.loop-index-preserved
loop-index-preserved c =
    let was = c.loop-index.invariant in
    let index = c.loop-index.index in
    let old = c.args.old.now in
    let wide = c.args.wide.now in
    let takes = c.args.takes.now in
    let new = c.set_word.new.self in
    let put = c.set_word.ensures in
    let taken = bit_and c.word-held.result c.word-takers.result in
    let is : (j : ℕ) → j < 64 → index * 64 + j < length old → has taken j ≡ taken_of takes old (index * 64 + j) = λ j low h.
    has-and c.word-held.result c.word-takers.result j
    ∙ ap (λ x. x && has c.word-takers.result j) (c.word-held.ensures j low h)
    ∙ ap (λ x. holds old (index * 64 + j) && x) (c.word-takers.ensures j low (omega (arith, h, c.requires.takes))) in
    let last = shifted-last c.word-held.result c.word-takers.result c.word-held.type_inv in
    record {
      done = λ i low within. elim (cases_lt i (index * 64)) [
        | inl l ↦ put.before i l ∙ was.done i l within
        | inr g ↦
            let k = i - index * 64 in
            let at : index * 64 + k ≡ i = omega (arith, g) in
            let small : k < 64 = omega (arith, low, g) in
            let inside : index * 64 + k < length old = omega (arith, at, within) in
            subst (λ p. holds new p ≡ (further false (taken_of takes old) p || (taken_of takes old p && holds wide p))) at
            (put.there k small (omega (arith, inside, was.len)) ∙ c.entered_word-entered.ensures k small
            ∙ enter-word (taken_of takes old) (holds wide) (index * 64) taken c.word-widens.result c.loop-index.carry k (was.first (omega (arith, inside))) was.none
            (λ j h. is j (omega (arith, h, small)) (omega (arith, h, inside))) (c.word-widens.ensures k small (omega (arith, inside, c.requires.wide))))
      ];
      first = λ more.
          let next : suc (index * 64 + 63) ≡ (index + 1) * 64 = omega arith in
          last.0 ∙ is 63 (omega arith) (omega (arith, more)) ∙ ap (further false (taken_of takes old)) next;
      none = last.1;
      len = put.len ∙ was.len;
    }

pub returns-clause-entered : goal.returns-clause-entered
returns-clause-entered c i h = c.loop-index.invariant.done i (omega (arith, h, c.loop-index-test.false)) h
