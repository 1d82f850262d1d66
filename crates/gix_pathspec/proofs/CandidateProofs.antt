-- The next spec that a match asks: of those beside sets by their heads, and of the members that the sets don't leave out.
use Rattle.std.proofs.Common.{◌≡◌, ℕ, zero, suc, ◌+◌, ◌<◌, ◌≤◌, ◌==◌, Bool, true, false, not, ◌&&◌, cond, inl, inr, refl, sym, ◌∙◌, ap, subst, arith, List, [], ◌∷◌, length, map, find, drop, ◌⊎◌, Option, Some, None, slice_get}
use Rattle.std.specs.Prelude.{bytes_eq, is_some, IfSome}
use Rattle.std.specs.Option.{option_and_then}
use Rattle.std.proofs.lemmas.Bool.{and_from, and_parts, both_ways, cases_Bool, cases_lt, eqb-true, or_left, or_right}
use Rattle.std.proofs.lemmas.List.{get_or-map, length-map}
use Rattle.std.proofs.lemmas.Option.{get_or_from_slice_get}
use Rattle.std.proofs.lemmas.Slice.Eq.{bytes_eq-Decides}
use Rattle.pathspec_glob.specs.Bytes.{star}
use Rattle.pathspec_heads.specs.Heads.{head_at, IsChainOf}
use Rattle.pathspec_heads.specs.Groups.{earlier, GroupedPlaces, IsInChain, IsLeastFrom}
use Rattle.pathspec_heads.proofs.CandidateProofs.{candidates-next, IsCandidate}
use Rattle.gix_pathspec.specs.Attributes.{Table}
use Rattle.gix_pathspec.specs.Bytes.{begins_with, is_wildcard}
use Rattle.gix_pathspec.specs.Specs.{Spec}
use Rattle.gix_pathspec.specs.declared.search.MatchKind.{MatchKind}
use Rattle.gix_pathspec.specs.declared.by_head.head_set.HeadSet.{HeadSet}
use Rattle.gix_pathspec.specs.Matching.{fit, glob_matches, has_attributes, spec_matches}
use Rattle.gix_pathspec.specs.Found.{matched_kind}
use Rattle.gix_pathspec.specs.Effort.{is_unsettled, is_unsettled_candidate, kind_at}
use Rattle.gix_pathspec.specs.Room.{asks_no_more}
use Rattle.gix_pathspec.specs.Prefixes.{head}
use Rattle.gix_pathspec.specs.EndBytes.{has_wildcard_at, NeverMatches}
use Rattle.gix_pathspec.specs.Search.{Numbered}
use Rattle.gix_pathspec.specs.Sets.{any_spec, IsKindAt, IsNext, IsNextAt, NoneBefore}
use Rattle.gix_pathspec.specs.SetSources.{all_sources, ended, has_set_behind, has_source, is_of_head, is_of_heads, set_source_of, stands_in_set, SetSource}
use Rattle.gix_pathspec.specs.HeadSets.{set_heads, AreHeadSetsOf, IsGlobHit}
use Rattle.gix_pathspec.specs.Beside.{head_beside, is_beside, ArePlacesBeside, IsHit, IsUnbarred}
use Rattle.gix_pathspec.proofs.EffortProofs.{unmatched-headless}
use Rattle.gix_pathspec.proofs.HeadSearchProofs.{drop-all, element-within, got-within, skip-to}
use Rattle.gix_pathspec.proofs.HeadSetsProofs.{hit-of-both, next-of-both}
use Rattle.gix_pathspec.proofs.SetSourceProofs.{matched-always-matches}

-- ---- beside sets

-- a head with a star behind it begins a path where the head does, and a wildcard byte stands right behind that
pub ended-wild : (path h : List ℕ) → begins_with path (ended h) ≡ true → (begins_with path h ≡ true) × (has_wildcard_at path (length h) ≡ true)
ended-wild [] [] e = cc
ended-wild [] (b ∷ h) e = cc
ended-wild (c ∷ path) [] e = let star_is : star ≡ c = eqb-true star c (and_parts (star == c) (begins_with path []) e).0 in (refl, ap is_wildcard (sym star_is))
ended-wild (c ∷ path) (b ∷ h) e =
    let p = and_parts (b == c) (begins_with path (ended h)) e in
    let r = ended-wild path h p.1 in
    (and_from (b == c) (begins_with path h) p.0 r.0, r.1)

module _ (specs : List Numbered) (path : List ℕ) (b : Bool) (plain : b ≡ true → IsUnbarred specs path) where
  abbrev heads_beside : List (List ℕ)
  heads_beside = map (λ n. head_beside b (all_sources specs) n.spec) specs

  abbrev stands : Spec → Bool
  stands s = stands_in_set (all_sources specs) s

  -- the head by which the spec at a place is looked for
  head-there : (p : ℕ) (n : Numbered) → slice_get specs p ≡ Some n → head_at heads_beside p ≡ head_beside b (all_sources specs) n.spec
  head-there p n is =
      let within = got-within specs p n is in
      get_or-map (λ m. head_beside b (all_sources specs) m.spec) specs p n [] within ∙ ap (λ m. head_beside b (all_sources specs) m.spec) (get_or_from_slice_get specs p n n is)

  -- that of a spec beside the sets is its own
  beside-own : (s : Spec) → is_beside b (all_sources specs) s ≡ true → head_beside b (all_sources specs) s ≡ head s
  beside-own s so = at (b && stands s) so
    where
      at : (c : Bool) → not c ≡ true → cond c (ended (head s)) (head s) ≡ head s
      at false h = refl
      at true h = cc

  -- where it begins the path, the spec's own does
  begins-own : (s : Spec) → begins_with path (head_beside b (all_sources specs) s) ≡ true → begins_with path (head s) ≡ true
  begins-own s h = at (b && stands s) h
    where
      at : (c : Bool) → begins_with path (cond c (ended (head s)) (head s)) ≡ true → begins_with path (head s) ≡ true
      at false k = k
      at true k = (ended-wild path (head s) k).0

  -- a spec beside the sets whose head doesn't begin the path doesn't match
  beside-off : (p : ℕ) (n : Numbered) → slice_get specs p ≡ Some n → is_beside b (all_sources specs) n.spec ≡ true → (IsCandidate heads_beside path p → ⊥) → NeverMatches n.spec path
  beside-off p n is so away table is_dir = elim (cases_Bool (begins_with path (head n.spec))) [
    | inr off ↦ unmatched-headless table n.spec path is_dir off
    | inl on ↦
        let there : head_at heads_beside p ≡ head n.spec = head-there p n is ∙ beside-own n.spec so in
        let within = got-within specs p n is in
        absurd (away (omega (arith, within, length-map specs (λ (m : Numbered). head_beside b (all_sources specs) m.spec)), subst (λ h. begins_with path h ≡ true) (sym there) on))
  ]

  next-of-least : (from : ℕ) (result : Option ℕ) → IsLeastFrom (IsCandidate heads_beside path) from result → IsNext (is_beside b (all_sources specs)) specs path from result
  next-of-least from None n = λ p m a l is so. beside-off p m is so (λ candidate. n.first p a candidate)
  next-of-least from (Some place) n =
      let candidate = n.found.1 in
      let there = element-within specs place (omega (arith, candidate.0, length-map specs (λ (m : Numbered). head_beside b (all_sources specs) m.spec))) in
      record {
        behind = n.found.0;
        headed = (there.0, there.1, begins-own there.0.spec (subst (λ h. begins_with path h ≡ true) (head-there place there.0 there.1) candidate.1));
        others = λ p m a l is so. beside-off p m is so (λ other. let le = n.first p a other in omega (arith, le, l));
      }

  pub next-beside : (places : GroupedPlaces) → ArePlacesBeside b specs places → (j from : ℕ) (result : Option ℕ) → IsChainOf places.heads path j
      → IsLeastFrom (IsInChain places.heads places.starts places.order j) from result → IsNext (is_beside b (all_sources specs)) specs path from result
  next-beside places grouped j from result chain least =
      next-of-least from result (candidates-next heads_beside places.heads places.starts places.order grouped path j from result chain least)

  -- a spec whose head begins the path, by which it is looked for, stands beside the sets
  kind-of-least : (from : ℕ) (result : Option ℕ) → IsLeastFrom (IsCandidate heads_beside path) from result → IfSome result (IsKindAt (is_beside b (all_sources specs)) specs)
  kind-of-least from None n = tt
  kind-of-least from (Some place) n = λ m is. at m.spec (b && stands m.spec) refl (subst (λ h. begins_with path h ≡ true) (head-there place m is) n.found.1.1)
    where
      at : (m : Spec) (c : Bool) → (b && stands m) ≡ c → begins_with path (cond c (ended (head m)) (head m)) ≡ true → not c ≡ true
      at m false e k = refl
      at m true e k =
          let p = and_parts b (stands m) e in
          let has = (and_parts (has_set_behind (all_sources specs) (head m)) (has_source m) p.1).0 in
          let r = ended-wild path (head m) k in
          absurd (both_ways (has_wildcard_at path (length (head m))) (plain p.0 (head m) has r.0) r.1)

  pub kind-beside : (places : GroupedPlaces) → ArePlacesBeside b specs places → (j from : ℕ) (result : Option ℕ) → IsChainOf places.heads path j
      → IsLeastFrom (IsInChain places.heads places.starts places.order j) from result → IfSome result (IsKindAt (is_beside b (all_sources specs)) specs)
  kind-beside places grouped j from result chain least =
      kind-of-least from result (candidates-next heads_beside places.heads places.starts places.order grouped path j from result chain least)

  -- where no head begins the path, no spec beside the sets matches
  pub none-beside : (places : GroupedPlaces) → ArePlacesBeside b specs places → ((k : ℕ) → k < length places.heads → begins_with path (head_at places.heads k) ≡ false)
      → (from : ℕ) → IsNext (is_beside b (all_sources specs)) specs path from None
  none-beside places grouped none from = λ p n a l is so. beside-off p n is so (λ candidate.
      let f = grouped.listed p candidate.0 in
      both_ways (begins_with path (head_at heads_beside p)) (subst (λ h. begins_with path h ≡ false) f.2 (none f.0 f.1)) candidate.1)

-- ---- both together

-- a spec stands beside the sets, or in one of them
which : (specs : List Numbered) (sets : List HeadSet) → AreHeadSetsOf (all_sources specs) sets → (s : Spec) → any_spec s ≡ true
    → (is_beside true (all_sources specs) s ≡ true) ⊎ (is_of_heads (set_heads sets) s ≡ true)
which specs sets own s so = elim (cases_Bool (stands_in_set (all_sources specs) s)) [
  | inr off ↦ inl (ap not off)
  | inl on ↦
      let p = and_parts (has_set_behind (all_sources specs) (head s)) (has_source s) on in
      let k = own.all (head s) p.0 in
      inr (in-heads (set_heads sets) k.0 s (omega (arith, k.1, length-map sets (λ (x : HeadSet). x.head))) p.1 k.2)
]
  where
    in-heads : (hs : List (List ℕ)) (k : ℕ) (s : Spec) → k < length hs → has_source s ≡ true → head_at hs k ≡ head s → is_of_heads hs s ≡ true
    in-heads [] k s l has e = absurd (let no : ⊥ = omega (arith, l) in no)
    in-heads (h ∷ hs) zero s l has e =
        or_left (is_of_head h s) (is_of_heads hs s) (and_from (has_source s) (bytes_eq (head s) h) has ((bytes_eq-Decides (head s) h).1 (sym e)))
    in-heads (h ∷ hs) (suc k) s l has e = or_right (is_of_head h s) (is_of_heads hs s) (in-heads hs k s (omega (arith, l)) has e)

pub both-next : (specs : List Numbered) (path : List ℕ) (from : ℕ) (sets : List HeadSet) → AreHeadSetsOf (all_sources specs) sets → (other member : Option ℕ)
    → IsNext (is_beside true (all_sources specs)) specs path from other → IsNext (is_of_heads (set_heads sets)) specs path from member → IsNext any_spec specs path from (earlier other member)
both-next specs path from sets own other member o m =
    next-of-both (is_beside true (all_sources specs)) (is_of_heads (set_heads sets)) any_spec (which specs sets own) specs path from other member o m

-- ---- where a member is found, its glob matches

beside-hit : (specs : List Numbered) (path : List ℕ) (place : ℕ) → IsKindAt (is_beside true (all_sources specs)) specs place → IsHit specs path place
beside-hit specs path place beside n is stands =
    let off : not (stands_in_set (all_sources specs) n.spec) ≡ false = ap not stands in
    absurd (both_ways (not (stands_in_set (all_sources specs) n.spec)) off (beside n is))

pub both-hit : (specs : List Numbered) (path : List ℕ) (other member : Option ℕ) → IfSome other (IsKindAt (is_beside true (all_sources specs)) specs) → IfSome member (IsGlobHit specs path)
    → IfSome (earlier other member) (IsHit specs path)
both-hit specs path other member o m = hit-of-both (IsHit specs path) other member (left other o) (right member m)
  where
    left : (found : Option ℕ) → IfSome found (IsKindAt (is_beside true (all_sources specs)) specs) → IfSome found (IsHit specs path)
    left None k = tt
    left (Some place) k = beside-hit specs path place k

    right : (found : Option ℕ) → IfSome found (IsGlobHit specs path) → IfSome found (IsHit specs path)
    right None k = tt
    right (Some place) k = λ n is stands. k n is

-- without sets all specs stand beside them
pub all-beside : (specs : List Numbered) (path : List ℕ) (from : ℕ) (result : Option ℕ) → IsNext (is_beside false (all_sources specs)) specs path from result → IsNext any_spec specs path from result
all-beside specs path from None n = λ p m a l is so. n p m a l is refl
all-beside specs path from (Some place) n = record { behind = n.behind; headed = n.headed; others = λ p m a l is so. n.others p m a l is refl }

-- ---- the search goes on from the next spec

-- a spec that matches in no way doesn't match
unmatched : (table : Table) (s : Spec) (path : List ℕ) (is_dir : Bool) → matched_kind table s path is_dir ≡ None → spec_matches table s path is_dir ≡ false
unfolding matched_kind spec_matches
unmatched table s path is_dir h = at (has_attributes table s path is_dir) (fit s path is_dir) h
  where
    at : (a : Bool) (o : Option MatchKind) → cond a o None ≡ None → (is_some o && a) ≡ false
    at true None e = refl
    at true (Some kind) e = cc
    at false None e = refl
    at false (Some kind) e = refl

module _ (table : Table) (specs : List Numbered) (path : List ℕ) (is_dir : Bool) where
  abbrev test : Numbered → Bool
  test n = spec_matches table n.spec path is_dir

  -- those before the next spec don't matter
  pub from-next : (from place : ℕ) → IsNextAt any_spec specs path from place
      → (place < length specs) × (begins_with path (head_at (map (λ n. head n.spec) specs) place) ≡ true) × (find test (drop from specs) ≡ find test (drop place specs))
  from-next from place n =
      let m = n.headed.0 in
      let within = got-within specs place m n.headed.1 in
      let headed : head_at (map (λ n. head n.spec) specs) place ≡ head m.spec = get_or-map (λ n. head n.spec) specs place m [] within ∙ ap (λ k. head k.spec) (get_or_from_slice_get specs place m m n.headed.1) in
      (within, subst (λ h. begins_with path h ≡ true) (sym headed) n.headed.2, skip-to test specs from place n.behind (λ p a l x is. n.others p x a l is refl table is_dir))

  -- none is left
  pub none-next : (from : ℕ) → IsNext any_spec specs path from None → from ≤ length specs → find test (drop from specs) ≡ None
  none-next from n low =
      skip-to test specs from (length specs) low (λ p a l x is. n p x a l is refl table is_dir) ∙ ap (find test) (drop-all specs (length specs) (omega arith))

  -- where the next spec doesn't match, none up to it does
  pub none-after : (from place : ℕ) → IsNextAt any_spec specs path from place → NoneBefore table specs path is_dir from → kind_at table specs path is_dir place ≡ None → NoneBefore table specs path is_dir (place + 1)
  none-after from place n none away p m l is = elim (cases_lt p from) [
    | inl low ↦ none p m low is
    | inr high ↦ elim (cases_lt p place) [
      | inl less ↦ n.others p m high less is refl table is_dir
      | inr g ↦
          let same : p ≡ place = omega (arith, l, g) in
          let there : slice_get specs place ≡ Some m = sym (ap (slice_get specs) same) ∙ is in
          unmatched table m.spec path is_dir (sym (ap (option_and_then (λ (k : Numbered). matched_kind table k.spec path is_dir)) there) ∙ away)
    ]
  ]

  -- a spec that was asked and doesn't match isn't settled by a set
  pub unsettled-there : (place : ℕ) (n : Numbered) → slice_get specs place ≡ Some n → begins_with path (head n.spec) ≡ true → IsHit specs path place
      → kind_at table specs path is_dir place ≡ None → is_unsettled_candidate (all_sources specs) path n ≡ true
  unsettled-there place n is begins hit away =
      let off : spec_matches table n.spec path is_dir ≡ false = unmatched table n.spec path is_dir (sym (ap (option_and_then (λ (k : Numbered). matched_kind table k.spec path is_dir)) is) ∙ away) in
      and_from (begins_with path (head n.spec)) (is_unsettled (all_sources specs) path n.spec) begins
      (at (stands_in_set (all_sources specs) n.spec) refl off)
    where
      asks-more : has_source n.spec ≡ true → glob_matches n.spec.mode n.spec path ≡ true → spec_matches table n.spec path is_dir ≡ false → asks_no_more n.spec ≡ false
      asks-more has on off = elim (cases_Bool (asks_no_more n.spec)) [
        | inr more ↦ more
        | inl no_more ↦
            let r = source-there (set_source_of n.spec) has in
            absurd (both_ways (spec_matches table n.spec path is_dir) off (matched-always-matches n.spec r.0 path r.1 no_more on table is_dir))
      ]
        where
          source-there : (o : Option SetSource) → is_some o ≡ true → (source : SetSource) × (o ≡ Some source)
          source-there (Some source) e = (source, refl)
          source-there None e = cc

      at : (c : Bool) → stands_in_set (all_sources specs) n.spec ≡ c → spec_matches table n.spec path is_dir ≡ false
          → cond c (not (asks_no_more n.spec) && glob_matches n.spec.mode n.spec path) true ≡ true
      at false e off = refl
      at true e off =
          let has = (and_parts (has_set_behind (all_sources specs) (head n.spec)) (has_source n.spec) e).1 in
          let on = hit n is e in
          and_from (not (asks_no_more n.spec)) (glob_matches n.spec.mode n.spec path) (ap not (asks-more has on off)) on
