-- There are members where there is a set, and the heads beside the sets are those of the specs.
use Rattle.std.proofs.Common.{◌≡◌, ◌∙◌, Bool, ℕ, true, false, refl, sym, ap, subst, arith, List, [], ◌∷◌, length, map, eqb}
use Rattle.std.specs.Box.{box_value}
use Rattle.std.proofs.lemmas.Bool.{both_ways, eq-eqb, eqb-true}
use Rattle.pathspec_heads.specs.Groups.{IsGrouped}
use Rattle.gix_pathspec.specs.declared.by_head.head_set.HeadSet.{HeadSet}
use Rattle.gix_pathspec.specs.Beside.{head_beside, ArePlacesBeside}
use Rattle.gix_pathspec.specs.HeadSets.{AreHeadSetsOf}
use Rattle.gix_pathspec.specs.Members.{AreMembersOf}
use Rattle.gix_pathspec.specs.Search.{Numbered}
use Rattle.gix_pathspec.specs.SetSources.{all_sources, has_any_set, SetSource}
use Rattle.gix_pathspec.proofs.KeptSetsProofs.{sets-some, sets-there}
use Rattle.gix_pathspec.proofs.search.init.members_of.Goals as goal

-- no set, and so no head has one
none-made : (sources : List SetSource) (sets : List HeadSet) (n : ℕ) (told : Bool) → AreHeadSetsOf sources sets → n ≡ length sets → told ≡ eqb n 0 → told ≡ true → has_any_set sources ≡ false
none-made sources [] n told own size is on = sets-there sources [] own refl
none-made sources (s ∷ ss) n told own size is on = let zero : n ≡ 0 = eqb-true n 0 (sym is ∙ on) in absurd (let no : ⊥ = omega (arith, zero, size) in no)

-- a set, and so its head has one
some-made : (sources : List SetSource) (sets : List HeadSet) (n : ℕ) (told : Bool) → AreHeadSetsOf sources sets → n ≡ length sets → told ≡ eqb n 0 → told ≡ false → has_any_set sources ≡ true
some-made sources [] n told own size is off = absurd (both_ways (eqb n 0) (sym is ∙ off) (eq-eqb n 0 size))
some-made sources (s ∷ ss) n told own size is off = sets-some sources (s ∷ ss) own s ss refl

pub returns-then-is_empty-clause-made : goal.returns-then-is_empty-clause-made
returns-then-is_empty-clause-made c =
    let sets = c.args.sets.now in
    sym (none-made (all_sources c.args.specs.now) sets (length sets) c.is_empty.result c.requires refl c.is_empty.ensures c.if-is_empty.true)

pub returns-clause-made : goal.returns-clause-made
returns-clause-made c =
    let sets = c.args.sets.now in
    sym (some-made (all_sources c.args.specs.now) sets (length sets) c.is_empty.result c.requires refl c.is_empty.ensures c.if-is_empty.false)

pub returns-clause-members : goal.returns-clause-members
returns-clause-members c =
    let specs = c.args.specs.now in
    let sources = all_sources specs in
    let sets = c.args.sets.now in
    let others = box_value c.in_ok-others.others in
    let owned = c.in_ok-owned.ensures sources c.requires in
    let texts : map (λ text. text.now) c.deref-2.result.now ≡ map (λ (n : Numbered). head_beside true sources n.spec) specs =
    ap (λ hs. map (λ head. head.now) hs) c.deref-2.ensures.value ∙ (rw c.deref.ensures.value at c.in_ok-slices.ensures) ∙ owned in
    let grouped : IsGrouped (map (λ (n : Numbered). head_beside true sources n.spec) specs) others.heads others.starts others.order = subst (λ hs. IsGrouped hs others.heads others.starts others.order) texts c.in_ok-others.ensures in
    let same : box_value c.new-members.result.others ≡ others = ap box_value c.new-members.ensures.others in
    subst (AreMembersOf specs) (sym c.in_ok-new.ensures.ok) (record {
      enough = some-made sources sets (length sets) c.is_empty.result c.requires refl c.is_empty.ensures c.if-is_empty.false;
      places = ap (λ v. v.items) c.new-members.ensures.places ∙ c.in_ok-source_places.ensures;
      beside = subst (ArePlacesBeside true specs) (sym same) grouped;
    })
