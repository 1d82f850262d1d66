use Rattle.std.proofs.Common.{◌≡◌, ◌+◌, ◌-◌, ◌*◌, ◌<◌, ◌&&◌, ◌∙◌, sym, subst, ap, arith, length, inl, inr, bit_and}
use Rattle.std.proofs.lemmas.Bool.{cases_lt}
use Rattle.pathspec_glob.specs.BitVecs.{holds}
use Rattle.pathspec_glob.specs.GlobCells.{has}
use Rattle.pathspec_glob.proofs.BitProofs.{has-and}
use Rattle.pathspec_glob_set.specs.Rows.{taken_of}
use Rattle.pathspec_glob_set.proofs.table.row.are_alike.Goals as goal

pub loop-index-preserved : goal.loop-index-preserved
loop-index-preserved c i low within =
    let row = c.args.row.now in
    let some = c.args.some.now in
    let others = c.args.others.now in
    let index = c.loop-index.index in
    let held = c.word-held.result in
    let same : bit_and held c.word.result ≡ bit_and held c.word-in-loop-index.result = c.if-held-word.false in
    elim (cases_lt i (index * 64)) [
      | inl l ↦ c.loop-index.invariant i l within
      | inr g ↦
          let k = i - index * 64 in
          let at : index * 64 + k ≡ i = omega (arith, g) in
          let small : k < 64 = omega (arith, low, g) in
          let inside : index * 64 + k < length row = omega (arith, at, within) in
          let here : has held k ≡ holds row (index * 64 + k) = c.word-held.ensures k small inside in
          subst (λ p. taken_of some row p ≡ taken_of others row p) at
          (ap (λ x. holds row (index * 64 + k) && x) (sym (c.word.ensures k small (omega (arith, inside, c.requires.some))))
          ∙ ap (λ x. x && has c.word.result k) (sym here)
          ∙ sym (has-and held c.word.result k)
          ∙ ap (λ x. has x k) same
          ∙ has-and held c.word-in-loop-index.result k
          ∙ ap (λ x. x && has c.word-in-loop-index.result k) here
          ∙ ap (λ x. holds row (index * 64 + k) && x) (c.word-in-loop-index.ensures k small (omega (arith, inside, c.requires.others))))
    ]
