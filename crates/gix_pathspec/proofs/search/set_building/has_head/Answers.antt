-- The head is that of a set, or of none.
use Rattle.std.proofs.Common.{◌≡◌, ◌∙◌, inl, inr, true, sym, ap, arith, get_or}
use Rattle.std.specs.Prelude.{bytes_eq}
use Rattle.std.proofs.lemmas.Bool.{both_ways, cases_lt}
use Rattle.std.proofs.lemmas.List.{get_or-map}
use Rattle.std.proofs.lemmas.Slice.Eq.{bytes_eq-Decides}
use Rattle.gix_pathspec.specs.declared.by_head.head_set.HeadSet.{HeadSet}
use Rattle.gix_pathspec.specs.HeadSets.{set_heads}
use Rattle.gix_pathspec.proofs.KeptSetsProofs.{head-nowhere, head-there}
use Rattle.gix_pathspec.proofs.search.set_building.has_head.Goals as goal

pub returns-then-eq : goal.returns-then-eq
returns-then-eq c sources own =
    let sets = c.args.sets.now in
    let at = c.loop-set.set-index in
    let old = get_or sets at c.set-item.result in
    let is : old ≡ get_or sets at old = ap (λ d. get_or sets at d) c.set-item.is in
    let told : bytes_eq c.as_slice.result.now c.args.head.now ≡ true = sym c.eq.ensures ∙ c.if-eq.true in
    let same = sym (ap (λ (s : HeadSet). s.head) c.set-item.is) ∙ sym c.head.ensures ∙ sym c.as_slice.ensures ∙ (bytes_eq-Decides c.as_slice.result.now c.args.head.now).0 told in
    sym (head-there sources sets at old c.args.head.now own c.loop-set-test.true is same)

pub loop-set-preserved : goal.loop-set-preserved
loop-set-preserved c k d l e = elim (cases_lt k c.loop-set.set-index) [
  | inl less ↦ c.loop-set.invariant k d less e
  | inr g ↦
      let sets = c.args.sets.now in
      let here : k ≡ c.loop-set.set-index = omega (arith, l, g) in
      let there : get_or (set_heads sets) c.loop-set.set-index d ≡ c.set-item.result.head =
      get_or-map (λ (s : HeadSet). s.head) sets c.loop-set.set-index c.set-item.result d c.loop-set-test.true ∙ ap (λ (s : HeadSet). s.head) (sym c.set-item.is) in
      let same = c.as_slice.ensures ∙ c.head.ensures ∙ sym there ∙ ap (λ j. get_or (set_heads sets) j d) (sym here) ∙ e in
      both_ways c.eq.result c.if-eq.false (c.eq.ensures ∙ (bytes_eq-Decides c.as_slice.result.now c.args.head.now).1 same)
]

pub returns : goal.returns
returns c sources own =
    sym (head-nowhere sources c.args.sets.now c.args.head.now own (λ k d l e. c.loop-set.invariant k d (omega (arith, l, c.loop-set-test.false)) e))
