-- Excludes that are looked for by their heads, beside a set that is asked or without one.
use Rattle.std.proofs.Common.{◌≡◌, ℕ, ◌<◌, ◌≤◌, Bool, true, false, not, ◌&&◌, ◌||◌, cond, refl, sym, ◌∙◌, ap, subst, List, [], ◌∷◌, length, map, filter, find, drop, arith, Option, Some, None, slice_get}
use Rattle.std.specs.Prelude.{IfSome}
use Rattle.std.specs.List.{list_any}
use Rattle.std.proofs.lemmas.Bool.{and_parts, both_ways}
use Rattle.std.proofs.lemmas.List.{get_or-map}
use Rattle.std.proofs.lemmas.Option.{get_or_from_slice_get}
use Rattle.pathspec_glob.specs.Bytes.{star}
use Rattle.pathspec_heads.specs.Heads.{head_at, IsChainOf, IsLastFront}
use Rattle.pathspec_heads.specs.Groups.{GroupedPlaces, IsInChain, IsLeastFrom}
use Rattle.gix_pathspec.specs.Bytes.{begins_with}
use Rattle.gix_pathspec.specs.EndBytes.{has_wildcard_at}
use Rattle.gix_pathspec.specs.Specs.{Spec}
use Rattle.gix_pathspec.specs.SubtreeExcludes.{AreExcludePlaces, covers, exclude_head, subtree_exclude_count}
use Rattle.gix_pathspec.specs.ExcludeSets.{covers_beside, exclude_count_beside, exclude_head_beside, is_exclude_member, is_headed_beside, member_covers, AreExcludePlacesBeside, AreExcludesBeside, AreHeadsBeside}
use Rattle.gix_pathspec.proofs.CandidateProofs.{ended-wild}
use Rattle.gix_pathspec.proofs.HeadSearchProofs.{got-within, next-candidate, no-candidate}
use Rattle.gix_pathspec.proofs.SubtreeExcludeProofs.{element-at, headless}

-- an exclude beside the set whose head doesn't begin the directory doesn't cover it
pub headless-beside : (asked : Bool) (d : List ℕ) (s : Spec) → begins_with d (exclude_head_beside asked s) ≡ false → covers_beside asked d s ≡ false
headless-beside asked d s off = at (asked && is_exclude_member s) off
  where
    at : (c : Bool) → begins_with d (cond c (star ∷ []) (exclude_head s)) ≡ false → (not c && covers s d) ≡ false
    at true h = refl
    at false h = headless d s h

-- the head at a place is that of the exclude there
head-there : (head : Spec → List ℕ) (excludes : List Spec) (place : ℕ) (s : Spec) → slice_get excludes place ≡ Some s → head_at (map head excludes) place ≡ head s
head-there head excludes place s is = get_or-map head excludes place s [] (got-within excludes place s is) ∙ ap head (get_or_from_slice_get excludes place s s is)

module _ (asked : Bool) (excludes : List Spec) (d : List ℕ) (plain : asked ≡ true → has_wildcard_at d 0 ≡ false) (place : ℕ) (s : Spec) (is : slice_get excludes place ≡ Some s)
    (begun : begins_with d (head_at (map (exclude_head_beside asked) excludes) place) ≡ true) where
  -- one whose head begins the directory stands beside the set
  outside : (asked && is_exclude_member s) ≡ false
  outside = at (asked && is_exclude_member s) refl (subst (λ h. begins_with d h ≡ true) (head-there (exclude_head_beside asked) excludes place s is) begun)
    where
      at : (c : Bool) → (asked && is_exclude_member s) ≡ c → begins_with d (cond c (star ∷ []) (exclude_head s)) ≡ true → (asked && is_exclude_member s) ≡ false
      at true e h = absurd (both_ways (has_wildcard_at d 0) (plain (and_parts asked (is_exclude_member s) e).0) (ended-wild d [] h).1)
      at false e h = e

  -- so its own head begins the directory
  begins-own : begins_with d (head_at (map exclude_head excludes) place) ≡ true
  begins-own =
      let own : exclude_head_beside asked s ≡ exclude_head s = ap (λ c. cond c (star ∷ []) (exclude_head s)) outside in
      subst (λ h. begins_with d h ≡ true) (head-there (exclude_head_beside asked) excludes place s is ∙ own ∙ sym (head-there exclude_head excludes place s is)) begun

  -- and it is one of those that are looked for by their heads
  pub is-headed : is_headed_beside asked d s ≡ true
  is-headed =
      let own : begins_with d (exclude_head s) ≡ true = subst (λ h. begins_with d h ≡ true) (head-there exclude_head excludes place s is) begins-own in
      ap (λ c. not c && begins_with d (exclude_head s)) outside ∙ own

  -- and what it covers is what it covers beside the set
  pub covers-own : covers s d ≡ covers_beside asked d s
  covers-own = sym (ap (λ c. not c && covers s d) outside)

-- without a set all excludes are looked for by their own heads
pub heads-alone : (excludes : List Spec) (d : List ℕ) (places : GroupedPlaces) → AreExcludePlaces excludes places → AreHeadsBeside false excludes d places
heads-alone excludes d places grouped = record { grouped = grouped; plain = λ h. cc }

-- where a set is asked of a directory that no wildcard byte begins, all others are looked for beside it
pub heads-beside-set : (asked : Bool) (excludes : List Spec) (d text : List ℕ) (places : GroupedPlaces) → asked ≡ true → AreExcludePlacesBeside asked excludes places → text ≡ d
    → has_wildcard_at text 0 ≡ false → AreHeadsBeside true excludes d places
heads-beside-set asked excludes d text places is grouped same plain = record {
  grouped = subst (λ b. AreExcludePlacesBeside b excludes places) is grouped;
  plain = λ h. subst (λ t. has_wildcard_at t 0 ≡ false) same plain;
}

-- the longest head that begins the directory leads to all excludes beside the set that may cover it
pub longest-beside : (asked : Bool) (excludes : List Spec) (d text : List ℕ) (places : GroupedPlaces) (longest : Option ℕ) (head : ℕ) → longest ≡ Some head → text ≡ d → AreHeadsBeside asked excludes d places
    → IsLastFront places.heads (length places.heads) text longest → IfSome longest (λ j. IsChainOf places.heads text j) → AreExcludesBeside asked excludes d places head
longest-beside asked excludes d text places longest head is same are found chain = record {
  grouped = are.grouped;
  within = (found.begins head is).0;
  chain = subst (λ t. IsChainOf places.heads t head) same (subst (λ o. IfSome o (λ j. IsChainOf places.heads text j)) is chain);
  plain = are.plain;
}

-- what an exclude of the set covers, and what one beside it covers, is all that they cover
pub covers-split : (d : List ℕ) (excludes : List Spec) → list_any (λ s. covers s d) excludes ≡ (list_any (member_covers d) excludes || list_any (covers_beside true d) excludes)
covers-split d [] = refl
covers-split d (s ∷ ss) =
    ap (λ b. covers s d || b) (covers-split d ss) ∙ at (is_exclude_member s) (covers s d) (list_any (member_covers d) ss) (list_any (covers_beside true d) ss)
  where
    at : (m c x y : Bool) → (c || (x || y)) ≡ ((m && c || x) || (not m && c || y))
    at true true x y = refl
    at true false x y = refl
    at false true true y = refl
    at false true false y = refl
    at false false x y = refl

-- those that are looked for by their heads are no more than all
pub fewer-beside : (asked : Bool) (d : List ℕ) (excludes : List Spec) → exclude_count_beside asked excludes d ≤ subtree_exclude_count excludes d
fewer-beside asked d [] = omega arith
fewer-beside asked d (s ∷ ss) = at (asked && is_exclude_member s) (begins_with d (exclude_head s)) (fewer-beside asked d ss)
  where
    at : (m b : Bool) → exclude_count_beside asked ss d ≤ subtree_exclude_count ss d
        → length (cond (not m && b) (s ∷ filter (is_headed_beside asked d) ss) (filter (is_headed_beside asked d) ss)) ≤ length (cond b (s ∷ filter (λ x. begins_with d (exclude_head x)) ss) (filter (λ x. begins_with d (exclude_head x)) ss))
    at true true few = omega (arith, few)
    at true false few = few
    at false true few = omega (arith, few)
    at false false few = few

-- where one of the set covers the directory, one of all does
pub told-all : (d : List ℕ) (excludes : List Spec) → list_any (member_covers d) excludes ≡ true → true ≡ list_any (λ s. covers s d) excludes
told-all d excludes on = sym (covers-split d excludes ∙ ap (λ b. b || list_any (covers_beside true d) excludes) on)

-- where none of the set does, those beside it tell
pub told-rest : (d : List ℕ) (excludes : List Spec) → list_any (member_covers d) excludes ≡ false → list_any (covers_beside true d) excludes ≡ list_any (λ s. covers s d) excludes
told-rest d excludes off = sym (covers-split d excludes ∙ ap (λ b. b || list_any (covers_beside true d) excludes) off)

-- ---- the next one to be asked

-- The next exclude to be asked: those before it, from a place on, cover nothing beside the set, and it covers beside the set what it covers.
pub record IsNextExclude (asked : Bool) (excludes : List Spec) (d : List ℕ) (from place : ℕ) : Type 0 where
  pub behind : from ≤ place
  pub within : place < length excludes
  pub rest : find (covers_beside asked d) (drop from excludes) ≡ find (covers_beside asked d) (drop place excludes)
  pub spec : Spec
  pub there : slice_get excludes place ≡ Some spec
  pub headed : is_headed_beside asked d spec ≡ true
  pub own : covers spec d ≡ covers_beside asked d spec

module _ (asked : Bool) (excludes : List Spec) (d : List ℕ) (places : GroupedPlaces) (head from : ℕ) (beside : AreExcludesBeside asked excludes d places head) (next : Option ℕ)
    (least : IsLeastFrom (IsInChain places.heads places.starts places.order head) from next) where
  pub next-exclude : (place : ℕ) → next ≡ Some place → IsNextExclude asked excludes d from place
  next-exclude place is =
      let n = next-candidate (exclude_head_beside asked) (covers_beside asked d) d (headless-beside asked d) excludes places beside.grouped head beside.chain from next least place is in
      let e = element-at excludes place n.1 in
      record {
        behind = n.0;
        within = n.1;
        rest = n.3;
        spec = e.0;
        there = e.1;
        headed = is-headed asked excludes d beside.plain place e.0 e.1 n.2;
        own = covers-own asked excludes d beside.plain place e.0 e.1 n.2;
      }

  pub no-exclude : next ≡ None → from ≤ length excludes → find (covers_beside asked d) (drop from excludes) ≡ None
  no-exclude = no-candidate (exclude_head_beside asked) (covers_beside asked d) d (headless-beside asked d) excludes places beside.grouped head beside.chain from next least
