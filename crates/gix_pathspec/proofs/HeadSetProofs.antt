-- The members of the set of a head, by their places and by their numbers, and what the set says of them.
use Rattle.std.proofs.Common.{◌≡◌, ℕ, ◌+◌, ◌*◌, ◌<◌, ◌≤◌, Bool, true, false, inl, inr, refl, sym, ◌∙◌, ap, subst, arith, List, length, get_or, Option, Some, None, slice_get}
use Rattle.std.specs.Prelude.{bytes_eq, is_some, unwrap_or, IfSome}
use Rattle.std.specs.Option.{option_and_then}
use Rattle.std.proofs.lemmas.Bool.{and_parts, both_ways, cases_Bool, cases_lt}
use Rattle.std.proofs.lemmas.List.{get_or-map, length-map}
use Rattle.std.proofs.lemmas.Option.{get_or_from_slice_get, slice_get-get_or, slice_get_past}
use Rattle.std.proofs.lemmas.Slice.Eq.{bytes_eq-Decides}
use Rattle.pathspec_glob.proofs.GlobProofs.{glob_is_relation}
use Rattle.pathspec_glob_set.specs.declared.member.Member.{Member}
use Rattle.pathspec_glob_set.specs.declared.set.SetScratch.{SetScratch}
use Rattle.pathspec_glob_set.specs.Answers.{set_in, ComesBy, HasRead, IsMatch, IsNumber, KeepsReading, LeavesOutNone, MemberMatches, NoneCuts}
use Rattle.pathspec_glob_set.specs.declared.table.Table as set_table
use Rattle.pathspec_glob_set.specs.Tables.{Finds, IsKnown}
use Rattle.pathspec_glob_set.specs.Sets.{member_matches, AreMovesOf, IsAt}
use Rattle.pathspec_glob_set.proofs.ColumnProofs.{same-glob}
use Rattle.gix_pathspec.specs.Attributes.{Table}
use Rattle.gix_pathspec.specs.Bytes.{begins_with}
use Rattle.gix_pathspec.specs.Paths.{IsBytes}
use Rattle.gix_pathspec.specs.Matching.{glob_matches, spec_matches}
use Rattle.gix_pathspec.specs.EndBytes.{has_wildcard_at, NeverMatches}
use Rattle.gix_pathspec.specs.Search.{Numbered}
use Rattle.gix_pathspec.specs.Prefixes.{head}
use Rattle.gix_pathspec.specs.Specs.{Spec}
use Rattle.gix_pathspec.specs.Sets.{IsNext, IsNextAt, NoneBefore}
use Rattle.gix_pathspec.specs.SetSources.{all_sources, behind, has_set_behind, has_source, is_behind, is_of_head, member_behind, members_behind, numbers_behind, places_behind, set_source_of, source_places, sources_behind, SetSource}
use Rattle.gix_pathspec.specs.declared.by_head.head_set.HeadSet.{HeadSet}
use Rattle.gix_pathspec.specs.HeadSets.{IsAtRest, IsGlobHit, IsHeadSetOf, IsLittleStepped, IsNextOf, IsReadBehind, NoneAhead, StaysAsked, StaysSame}
use Rattle.gix_pathspec.proofs.EffortProofs.{unmatched-headless}
use Rattle.gix_pathspec.proofs.HeadSearchProofs.{got-within}
use Rattle.gix_pathspec.proofs.PositionProofs.{mapped-at, mapped-count, position-at, position-number, positions-count, positions-rise}
use Rattle.gix_pathspec.proofs.SetSourceProofs.{matched-always-matches, member-is-glob-behind, set-source-parts, unmatched-never-matches}

-- ---- places

-- the spec of the member with a number, and its source
pub record IsMemberBehind (h : List ℕ) (specs : List Numbered) (k : ℕ) : Type 0 where
  pub at : ℕ
  pub spec : Numbered
  pub source : SetSource
  pub place : get_or (places_behind h specs) k 0 ≡ at
  pub there : slice_get specs at ≡ Some spec
  pub has : set_source_of spec.spec ≡ Some source
  pub is_head : source.head ≡ h
  pub listed : slice_get (sources_behind h (all_sources specs)) k ≡ Some source

abbrev place_of_number : List Numbered → ℕ → ℕ
place_of_number specs r = get_or (source_places specs) r 0

-- as many places as sources
sources-count : (specs : List Numbered) → length (source_places specs) ≡ length (all_sources specs)
sources-count specs = positions-count (λ (n : Numbered). has_source n.spec) 0 specs ∙ sym (mapped-count (λ (n : Numbered). set_source_of n.spec) specs)

-- the spec of the source with a number
source-spec : (specs : List Numbered) (r : ℕ) (source : SetSource) → slice_get (all_sources specs) r ≡ Some source
    → (at : ℕ) × (n : Numbered) × (place_of_number specs r ≡ at) × (slice_get specs at ≡ Some n) × (set_source_of n.spec ≡ Some source)
source-spec specs r source is =
    let low : r < length (source_places specs) = omega (arith, got-within (all_sources specs) r source is, sources-count specs) in
    let p = position-at (λ (n : Numbered). has_source n.spec) 0 specs r low in
    (p.at, p.element, omega (arith, p.place), p.there, sym (mapped-at (λ (n : Numbered). set_source_of n.spec) 0 specs r p.element p.listed) ∙ is)

module _ (h : List ℕ) (specs : List Numbered) where
  abbrev sources : List SetSource
  sources = all_sources specs

  abbrev numbers : List ℕ
  numbers = numbers_behind h sources

  pub numbers-length : length (places_behind h specs) ≡ length numbers
  numbers-length = length-map numbers (place_of_number specs)

  at-number : (k : ℕ) → k < length numbers → get_or (places_behind h specs) k 0 ≡ place_of_number specs (get_or numbers k 0)
  at-number k l = get_or-map (place_of_number specs) numbers k 0 0 l

  pub member-behind-at : (k : ℕ) → k < length (places_behind h specs) → IsMemberBehind h specs k
  member-behind-at k l =
      let low : k < length numbers = omega (arith, l, numbers-length) in
      let r = position-at (is_behind h) 0 sources k low in
      let n = source-spec specs r.at r.element r.there in
      let number : get_or numbers k 0 ≡ r.at = omega (arith, r.place) in
      record {
        at = n.0;
        spec = n.1;
        source = r.element;
        place = at-number k low ∙ ap (place_of_number specs) number ∙ n.2;
        there = n.3;
        has = n.4;
        is_head = (bytes_eq-Decides r.element.head h).0 r.passes;
        listed = r.listed;
      }

  -- each spec with the head has a number
  pub member-behind-number : (q : ℕ) (n : Numbered) (source : SetSource) → slice_get specs q ≡ Some n → set_source_of n.spec ≡ Some source → source.head ≡ h
      → (k : ℕ) × (k < length (places_behind h specs)) × (get_or (places_behind h specs) k 0 ≡ q)
  member-behind-number q n source is has own =
      let some : has_source n.spec ≡ true = ap is_some has in
      let p = position-number (λ (n : Numbered). has_source n.spec) 0 specs q n is some in
      let there = position-at (λ (n : Numbered). has_source n.spec) 0 specs p.0 p.1 in
      let same_place : there.at ≡ q = omega (arith, there.place, p.2) in
      let both : Some there.element ≡ Some n = sym there.there ∙ ap (slice_get specs) same_place ∙ is in
      let same : there.element ≡ n = cc in
      let listed : slice_get sources p.0 ≡ Some source = mapped-at (λ (n : Numbered). set_source_of n.spec) 0 specs p.0 there.element there.listed ∙ ap (λ (m : Numbered). set_source_of m.spec) same ∙ has in
      let k = position-number (is_behind h) 0 sources p.0 source listed ((bytes_eq-Decides source.head h).1 own) in
      let number : get_or numbers k.0 0 ≡ p.0 = omega (arith, k.2) in
      let place : place_of_number specs p.0 ≡ q = omega (arith, p.2) in
      (k.0, omega (arith, k.1, numbers-length), at-number k.0 k.1 ∙ ap (place_of_number specs) number ∙ place)

  -- places rise
  pub places-behind-rise : (j k : ℕ) → j < k → k < length (places_behind h specs) → get_or (places_behind h specs) j 0 < get_or (places_behind h specs) k 0
  places-behind-rise j k less l =
      let low : k < length numbers = omega (arith, l, numbers-length) in
      let r = position-at (is_behind h) 0 sources k low in
      let within : get_or numbers k 0 < length (source_places specs) = omega (arith, r.place, got-within sources r.at r.element r.there, sources-count specs) in
      let rise = positions-rise (λ (n : Numbered). has_source n.spec) 0 specs (get_or numbers j 0) (get_or numbers k 0) (positions-rise (is_behind h) 0 sources j k less low) within in
      omega (arith, rise, at-number j (omega (arith, less, low)), at-number k low)

  pub places-behind-order : (j k : ℕ) → j ≤ k → k < length (places_behind h specs) → get_or (places_behind h specs) j 0 ≤ get_or (places_behind h specs) k 0
  places-behind-order j k low l = elim (cases_lt j k) [
    | inl less ↦ omega (arith, places-behind-rise j k less l)
    | inr g ↦ let same : j ≡ k = omega (arith, low, g) in omega (arith, ap (λ i. get_or (places_behind h specs) i 0) same)
  ]

  -- the place of a member, found by its number among all
  pub place-is : (k : ℕ) → option_and_then (slice_get (source_places specs)) (slice_get numbers k) ≡ slice_get (places_behind h specs) k
  place-is k = elim (cases_lt k (length numbers)) [
    | inl l ↦
        let r = position-at (is_behind h) 0 sources k l in
        let within : get_or numbers k 0 < length (source_places specs) = omega (arith, r.place, got-within sources r.at r.element r.there, sources-count specs) in
        ap (option_and_then (slice_get (source_places specs))) (slice_get-get_or numbers k 0 l)
        ∙ slice_get-get_or (source_places specs) (get_or numbers k 0) 0 within
        ∙ ap Some (sym (at-number k l))
        ∙ sym (slice_get-get_or (places_behind h specs) k 0 (omega (arith, l, numbers-length)))
    | inr g ↦
        ap (option_and_then (slice_get (source_places specs))) (slice_get_past numbers k g)
        ∙ sym (slice_get_past (places_behind h specs) k (omega (arith, g, numbers-length)))
  ]

-- a spec of a head has a source with it
of-head : (h : List ℕ) (s : Spec) → is_of_head h s ≡ true → (source : SetSource) × (set_source_of s ≡ Some source) × (source.head ≡ h)
of-head h s is =
    let p = and_parts (has_source s) (bytes_eq (head s) h) is in
    let r = there (set_source_of s) p.0 in
    (r.0, r.1, (set-source-parts s r.0 r.1).is_head ∙ (bytes_eq-Decides (head s) h).0 p.1)
  where
    there : (o : Option SetSource) → is_some o ≡ true → (source : SetSource) × (o ≡ Some source)
    there (Some source) e = (source, refl)
    there None e = cc

-- ---- what a set says

-- by the relation of all globs
pub matches-true : (glob : Member) (text : List ℕ) → MemberMatches glob text → member_matches glob text ≡ true
matches-true glob text matched = (glob_is_relation glob.tokens.mode glob.case glob.tokens.tokens text).1 matched

pub true-matches : (glob : Member) (text : List ℕ) → member_matches glob text ≡ true → MemberMatches glob text
true-matches glob text e = (glob_is_relation glob.tokens.mode glob.case glob.tokens.tokens text).0 e

-- the member of a source stands in the set under its number
glob-behind-at : (h : List ℕ) (sources : List SetSource) (k : ℕ) (source : SetSource) → slice_get (sources_behind h sources) k ≡ Some source → IsAt (members_behind h sources) k (member_behind source)
glob-behind-at h sources k source is =
    let own = sources_behind h sources in
    let within = got-within own k source is in
    record {
      within = omega (arith, within, length-map own member_behind);
      is = get_or-map member_behind own k source (member_behind source) within ∙ ap member_behind (get_or_from_slice_get own k source source is);
    }

-- the set of a head read what stands behind it in a path
module _ (h : List ℕ) (specs : List Numbered) (path : List ℕ) (bytes : IsBytes path) (begins : begins_with path h ≡ true) (plain : has_wildcard_at path (length h) ≡ false) where
  abbrev places : List ℕ
  places = places_behind h specs

  abbrev globs : List Member
  globs = members_behind h (all_sources specs)

  abbrev text : List ℕ
  text = behind h path

  -- the member matches where the glob of the spec does
  glob-is : (n : Numbered) (source : SetSource) → set_source_of n.spec ≡ Some source → source.head ≡ h → member_matches (member_behind source) text ≡ glob_matches n.spec.mode n.spec path
  glob-is n source has own =
      ap (λ g. member_matches (member_behind source) (behind g path)) (sym own)
      ∙ member-is-glob-behind n.spec source path has bytes (subst (λ g. begins_with path g ≡ true) (sym own) begins)

  never : (n : Numbered) (source : SetSource) → set_source_of n.spec ≡ Some source → source.head ≡ h → member_matches (member_behind source) text ≡ false → NeverMatches n.spec path
  never n source has own off =
      unmatched-never-matches n.spec source path has (subst (λ g. has_wildcard_at path (length g) ≡ false) (sym own) plain) (sym (glob-is n source has own) ∙ off)

  always : (table : Table) (is_dir : Bool) (n : Numbered) (source : SetSource) → set_source_of n.spec ≡ Some source → source.head ≡ h → source.member.cuts ≡ true
      → member_matches (member_behind source) text ≡ true → spec_matches table n.spec path is_dir ≡ true
  always table is_dir n source has own cuts on =
      let asks = sym (ap (λ m. m.cuts) (set-source-parts n.spec source has).is) ∙ cuts in
      matched-always-matches n.spec source path has asks (sym (glob-is n source has own) ∙ on) table is_dir

  -- no member that the set leaves out matches
  left-out : (scratch : SetScratch) → AreMovesOf globs scratch.table.moves → (low : ℕ) (found : Option ℕ) → LeavesOutNone (set_in scratch) text low found → NoneCuts globs text low
      → (k : ℕ) (n : Numbered) → low ≤ k → k < unwrap_or found (length places) → unwrap_or found (length places) ≤ length places
      → slice_get specs (get_or places k 0) ≡ Some n → NeverMatches n.spec path
  left-out scratch own low found leaves cutless k n after before within is =
      let m = member-behind-at h specs k (omega (arith, before, within)) in
      let both : Some m.spec ≡ Some n = sym m.there ∙ ap (slice_get specs) (sym m.place) ∙ is in
      let same : m.spec ≡ n = cc in
      let has = ap (λ (x : Numbered). set_source_of x.spec) (sym same) ∙ m.has in
      elim (cases_Bool (member_matches (member_behind m.source) text)) [
        | inr off ↦ never n m.source has m.is_head off
        | inl on ↦ absurd (comes-behind found (leaves globs own cutless k (member_behind m.source) (glob-behind-at h (all_sources specs) k m.source m.listed) after (true-matches (member_behind m.source) text on)) before)
      ]
    where
      comes-behind : (found : Option ℕ) → ComesBy found k → k < unwrap_or found (length places) → ⊥
      comes-behind None comes before = comes
      comes-behind (Some r) comes before = omega (arith, comes, before)

  -- no member before a number cuts, where none before a place matches, and the members from there on don't
  cutless-before : (table : Table) (is_dir : Bool) (from low : ℕ) → low ≤ length places → NoneBefore table specs path is_dir from
      → ((c : ℕ) (n : Numbered) → c < low → from ≤ get_or places c 0 → slice_get specs (get_or places c 0) ≡ Some n → NeverMatches n.spec path)
      → NoneCuts globs text low
  cutless-before table is_dir from low within none ahead c cutter less at cuts matched =
      let m = member-behind-at h specs c (omega (arith, less, within)) in
      let there : slice_get specs (get_or places c 0) ≡ Some m.spec = ap (slice_get specs) m.place ∙ m.there in
      let glob : member_behind m.source ≡ cutter = same-glob globs c (member_behind m.source) cutter (glob-behind-at h (all_sources specs) c m.source m.listed) at in
      let does : m.source.member.cuts ≡ true = ap (λ (x : Member). x.cuts) glob ∙ cuts in
      let on : member_matches (member_behind m.source) text ≡ true = ap (λ (x : Member). member_matches x text) glob ∙ matches-true cutter text matched in
      let yes : spec_matches table m.spec.spec path is_dir ≡ true = always table is_dir m.spec m.source m.has m.is_head does on in
      elim (cases_lt (get_or places c 0) from) [
        | inl l ↦ both_ways (spec_matches table m.spec.spec path is_dir) (none (get_or places c 0) m.spec l there) yes
        | inr g ↦ both_ways (spec_matches table m.spec.spec path is_dir) (ahead c m.spec less g there table is_dir) yes
      ]

  -- what is known of the members up to one that was passed
  known-passed : (from next : ℕ) → get_or places next 0 < from → NoneAhead places specs path from next
      → (c : ℕ) (m : Numbered) → c < next + 1 → from ≤ get_or places c 0 → slice_get specs (get_or places c 0) ≡ Some m → NeverMatches m.spec path
  known-passed from next passed ahead c m l there at = elim (cases_lt c next) [
    | inl l ↦ ahead c m l there at
    | inr g ↦
        let same : c ≡ next = omega (arith, l, g) in
        let no : ⊥ = omega (arith, there, passed, ap (λ j. get_or places j 0) same) in
        absurd no
  ]

  -- so none of them cuts
  cutless-next : (table : Table) (is_dir : Bool) (from next : ℕ) → next < length places → get_or places next 0 < from → NoneBefore table specs path is_dir from → NoneAhead places specs path from next
      → NoneCuts globs text (next + 1)
  cutless-next table is_dir from next low passed none ahead = cutless-before table is_dir from (next + 1) (omega (arith, low)) none (known-passed from next passed ahead)

  none-cuts : NoneCuts globs text 0
  none-cuts c cutter low at cuts matched = let no : ⊥ = omega (arith, low) in no

  -- the glob of the member that was found matches the path
  found-hit : (scratch : SetScratch) → AreMovesOf globs scratch.table.moves → scratch.gave_up ≡ false → (low found : ℕ) → IsMatch (set_in scratch) text low scratch.gave_up found
      → NoneCuts globs text low → found < length places → IsGlobHit specs path (get_or places found 0)
  found-hit scratch own went_on low found matched cutless within n is =
      let m = member-behind-at h specs found within in
      let both : Some m.spec ≡ Some n = sym m.there ∙ ap (slice_get specs) (sym m.place) ∙ is in
      let same : m.spec ≡ n = cc in
      ap (λ (x : Numbered). glob_matches x.spec.mode x.spec path) (sym same) ∙ sym (glob-is m.spec m.source m.has m.is_head)
      ∙ matches-true (member_behind m.source) text (matched went_on globs own cutless (member_behind m.source) (glob-behind-at h (all_sources specs) found m.source m.listed))

  said-hit : (scratch : SetScratch) → AreMovesOf globs scratch.table.moves → scratch.gave_up ≡ false → (low : ℕ) (found : Option ℕ) → IfSome found (IsMatch (set_in scratch) text low scratch.gave_up)
      → NoneCuts globs text low → unwrap_or found (length places) < length places → IsGlobHit specs path (get_or places (unwrap_or found (length places)) 0)
  said-hit scratch own went_on low None matched cutless within = absurd (let no : ⊥ = omega (arith, within) in no)
  said-hit scratch own went_on low (Some found) matched cutless within = found-hit scratch own went_on low found matched cutless within

  -- ---- the next member

  module _ (scratch : SetScratch) (own : AreMovesOf globs scratch.table.moves) where
    -- what the set says of the members before the first that it finds
    pub first-ahead : (found : Option ℕ) (next : ℕ) → next ≡ unwrap_or found (length places) → next ≤ length places → LeavesOutNone (set_in scratch) text 0 found → NoneAhead places specs path 0 next
    first-ahead found next is within leaves k n less at there =
        left-out scratch own 0 found leaves none-cuts k n (omega arith) (omega (arith, less, is)) (omega (arith, within, is)) there

    pub first-hit : (found : Option ℕ) (next : ℕ) → next ≡ unwrap_or found (length places) → scratch.gave_up ≡ false → IfSome found (IsMatch (set_in scratch) text 0 scratch.gave_up)
        → next < length places → IsGlobHit specs path (get_or places next 0)
    first-hit found next is went_on matched within =
        subst (λ k. IsGlobHit specs path (get_or places k 0)) (sym is) (said-hit scratch own went_on 0 found matched none-cuts (omega (arith, within, is)))

    module _ (table : Table) (is_dir : Bool) (from last : ℕ) (low : last < length places) (passed : get_or places last 0 < from) (none : NoneBefore table specs path is_dir from) (ahead : NoneAhead places specs path from last) where
      -- and before the next one, once the one that was next is passed
      pub next-ahead : (found : Option ℕ) (next : ℕ) → next ≡ unwrap_or found (length places) → next ≤ length places → LeavesOutNone (set_in scratch) text (last + 1) found → NoneAhead places specs path from next
      next-ahead found next is within leaves k n less at there = elim (cases_lt k (last + 1)) [
        | inl l ↦ known-passed from last passed ahead k n l at there
        | inr g ↦ left-out scratch own (last + 1) found leaves (cutless-next table is_dir from last low passed none ahead) k n g (omega (arith, less, is)) (omega (arith, within, is)) there
      ]

      pub next-hit : (found : Option ℕ) (next : ℕ) → next ≡ unwrap_or found (length places) → scratch.gave_up ≡ false → IfSome found (IsMatch (set_in scratch) text (last + 1) scratch.gave_up)
          → next < length places → IsGlobHit specs path (get_or places next 0)
      next-hit found next is went_on matched within =
          subst (λ k. IsGlobHit specs path (get_or places k 0)) (sym is) (said-hit scratch own went_on (last + 1) found matched (cutless-next table is_dir from last low passed none ahead) (omega (arith, within, is)))

-- ---- the next member that may match

module _ (h : List ℕ) (specs : List Numbered) (path : List ℕ) where
  -- the member with the number is the next that may match
  pub next-behind : (from next : ℕ) → NoneAhead (places_behind h specs) specs path from next → (next < length (places_behind h specs) → begins_with path h ≡ true)
      → (next < length (places_behind h specs) → from ≤ get_or (places_behind h specs) next 0) → IsNext (is_of_head h) specs path from (slice_get (places_behind h specs) next)
  next-behind from next ahead begins at = elim (cases_lt next (length (places_behind h specs))) [
    | inl l ↦ subst (IsNext (is_of_head h) specs path from) (sym (slice_get-get_or (places_behind h specs) next 0 l)) (found l)
    | inr g ↦ subst (IsNext (is_of_head h) specs path from) (sym (slice_get_past (places_behind h specs) next g)) (λ p n a l is m.
        let o = own n m in
        let r = member-behind-number h specs p n o.0 is o.1 o.2 in
        ahead r.0 n (omega (arith, r.1, g)) (omega (arith, r.2, a)) (ap (slice_get specs) r.2 ∙ is))
  ]
    where
      own : (n : Numbered) → is_of_head h n.spec ≡ true → (source : SetSource) × (set_source_of n.spec ≡ Some source) × (source.head ≡ h)
      own n m = of-head h n.spec m

      found : next < length (places_behind h specs) → IsNextAt (is_of_head h) specs path from (get_or (places_behind h specs) next 0)
      found l =
          let m = member-behind-at h specs next l in
          record {
            behind = at l;
            headed = (m.spec, ap (slice_get specs) m.place ∙ m.there, ap (begins_with path) (sym (set-source-parts m.spec.spec m.source m.has).is_head ∙ m.is_head) ∙ begins l);
            others = λ p n a less is is_so.
                let o = own n is_so in
                let r = member-behind-number h specs p n o.0 is o.1 o.2 in
                elim (cases_lt r.0 next) [
                  | inl k ↦ ahead r.0 n k (omega (arith, r.2, a)) (ap (slice_get specs) r.2 ∙ is)
                  | inr g ↦
                      let high : get_or (places_behind h specs) next 0 ≤ get_or (places_behind h specs) r.0 0 = places-behind-order h specs next r.0 g r.1 in
                      absurd (let no : ⊥ = omega (arith, less, r.2, high) in no)
                ];
          }

  -- where the head doesn't begin the path, no member matches
  pub headless-ahead : begins_with path h ≡ false → (from next : ℕ) → next ≤ length (places_behind h specs) → NoneAhead (places_behind h specs) specs path from next
  headless-ahead off from next within k n less at is table is_dir =
      let m = member-behind-at h specs k (omega (arith, less, within)) in
      let both : Some m.spec ≡ Some n = sym m.there ∙ ap (slice_get specs) (sym m.place) ∙ is in
      let same : m.spec ≡ n = cc in
      let own : head n.spec ≡ h = ap (λ (x : Numbered). head x.spec) (sym same) ∙ sym (set-source-parts m.spec.spec m.source m.has).is_head ∙ m.is_head in
      unmatched-headless table n.spec path is_dir (ap (begins_with path) own ∙ off)

-- ---- questions to a set

keeps-trans : (a b c : SetScratch) → KeepsReading a b → KeepsReading b c → KeepsReading a c
keeps-trans a b c p q = record { table = q.table ∙ p.table; lead = q.lead ∙ p.lead; gave_up = q.gave_up ∙ p.gave_up; losses = q.losses ∙ p.losses }

pub keeps-own : (sources : List SetSource) (a b : HeadSet) → StaysAsked a b → IsHeadSetOf sources a → IsHeadSetOf sources b
keeps-own sources a b stays own = record {
  enough = subst (λ h. has_set_behind sources h ≡ true) (sym stays.head) own.enough;
  numbers = stays.numbers ∙ own.numbers ∙ ap (λ h. numbers_behind h sources) (sym stays.head);
  own = subst (λ h. AreMovesOf (members_behind h sources) b.set.table.moves) (sym stays.head) (subst (λ (t : set_table.Table). AreMovesOf (members_behind a.head sources) t.moves) (sym stays.kept.table) own.own);
}

pub same-own : (sources : List SetSource) (a b : HeadSet) → StaysSame a b → IsHeadSetOf sources a → IsHeadSetOf sources b
same-own sources a b same own = record {
  enough = subst (λ h. has_set_behind sources h ≡ true) (sym same.head) own.enough;
  numbers = same.numbers ∙ own.numbers ∙ ap (λ h. numbers_behind h sources) (sym same.head);
  own = subst (λ h. AreMovesOf (members_behind h sources) b.set.table.moves) (sym same.head) (subst (AreMovesOf (members_behind a.head sources)) (sym same.moves) own.own);
}

has-read-on : (text : List ℕ) (a b : SetScratch) → KeepsReading a b → HasRead a text → HasRead b text
has-read-on text a b kept read = λ known. subst (λ l. Finds b.table text l) (sym kept.lead) (subst (λ (t : set_table.Table). Finds t text a.lead) (sym kept.table) (read (subst IsKnown kept.lead known)))

pub keeps-read : (path : List ℕ) (a b : HeadSet) → StaysAsked a b → IsReadBehind path a → IsReadBehind path b
keeps-read path a b stays read = record {
  begins = ap (begins_with path) stays.head ∙ read.begins;
  plain = ap (λ (h : List ℕ). has_wildcard_at path (length h)) stays.head ∙ read.plain;
  read = subst (λ h. HasRead b.set (behind h path)) (sym stays.head) (has-read-on (behind a.head path) a.set b.set stays.kept read.read);
  went_on = stays.kept.gave_up ∙ read.went_on;
}

pub stays-trans : (a b c : HeadSet) → StaysAsked a b → StaysAsked b c → StaysAsked a c
stays-trans a b c p q = record { head = q.head ∙ p.head; numbers = q.numbers ∙ p.numbers; begun = q.begun ∙ p.begun; steps = q.steps ∙ p.steps; kept = keeps-trans a.set b.set c.set p.kept q.kept }

pub little-stays : (path : List ℕ) (a b : HeadSet) → StaysAsked a b → IsLittleStepped path a → IsLittleStepped path b
little-stays path a b stays few =
    let wide : length b.set.table.moves.wide ≡ length a.set.table.moves.wide = ap (λ (t : set_table.Table). length t.moves.wide) stays.kept.table in
    subst (λ k. b.steps ≤ length path * (k + 2)) (sym wide) (subst (λ k. k ≤ length path * (length a.set.table.moves.wide + 2)) (sym stays.steps) few)

-- as many places as numbers
pub own-length : (specs : List Numbered) (set : HeadSet) → IsHeadSetOf (all_sources specs) set → length (places_behind set.head specs) ≡ length set.numbers.items
own-length specs set own = numbers-length set.head specs ∙ ap (λ (rs : List ℕ). length rs) (sym own.numbers)

-- the place of the next member
pub place-known : (specs : List Numbered) (places : List ℕ) (set : HeadSet) (result : Option ℕ) → IsHeadSetOf (all_sources specs) set → places ≡ source_places specs
    → result ≡ option_and_then (slice_get places) (slice_get set.numbers.items set.next) → result ≡ slice_get (places_behind set.head specs) set.next
place-known specs places set result own same is =
    is ∙ ap (λ ps. option_and_then (slice_get ps) (slice_get set.numbers.items set.next)) same
    ∙ ap (λ (rs : List ℕ). option_and_then (slice_get (source_places specs)) (slice_get rs set.next)) own.numbers ∙ place-is set.head specs set.next

-- a number that was found, or the count
pub within-found : (set : SetScratch) (from count : ℕ) (found : Option ℕ) → length set.table.moves.ends.items ≡ count → IfSome found (IsNumber (set_in set) from) → unwrap_or found count ≤ count
within-found set from count None same is = omega arith
within-found set from count (Some k) same is = omega (arith, is.within, same)

module _ (specs : List Numbered) (path : List ℕ) (bytes : IsBytes path) (old new : HeadSet) (stays : StaysAsked old new) (found : Option ℕ) (within : new.next ≤ length old.numbers.items)
    (is : new.next ≡ unwrap_or found (length old.numbers.items)) (own : IsHeadSetOf (all_sources specs) old) (read : IsReadBehind path old) where
  abbrev h : List ℕ
  h = old.head

  count : length (places_behind h specs) ≡ length old.numbers.items
  count = own-length specs old own

  next-is : new.next ≡ unwrap_or found (length (places_behind h specs))
  next-is = is ∙ ap (unwrap_or found) (sym count)

  next-low : new.next ≤ length (places_behind h specs)
  next-low = omega (arith, within, count)

  low : new.next < length new.numbers.items → new.next < length (places_behind h specs)
  low l = omega (arith, l, count, ap (λ (rs : List ℕ). length rs) stays.numbers)

  known : (from : ℕ) → NoneAhead (places_behind h specs) specs path from new.next → (new.next < length (places_behind h specs) → IsGlobHit specs path (get_or (places_behind h specs) new.next 0)) → IsNextOf specs path from new
  known from ahead hit = record {
    are = keeps-own (all_sources specs) old new stays own;
    read = λ l. keeps-read path old new stays read;
    ahead = subst (λ g. NoneAhead (places_behind g specs) specs path from new.next) (sym stays.head) ahead;
    hit = λ l. subst (λ g. IsGlobHit specs path (get_or (places_behind g specs) new.next 0)) (sym stays.head) (hit (low l));
  }

  -- the first member is found
  pub first-known : LeavesOutNone (set_in old.set) (behind h path) 0 found → IfSome found (IsMatch (set_in old.set) (behind h path) 0 old.set.gave_up) → IsNextOf specs path 0 new
  first-known leaves matched = known 0
      (first-ahead h specs path bytes read.begins read.plain old.set own.own found new.next next-is next-low leaves)
      (first-hit h specs path bytes read.begins read.plain old.set own.own found new.next next-is read.went_on matched)

  -- and so is the next one, once the one that was next is passed
  pub next-known : (table : Table) (is_dir : Bool) (from : ℕ) → old.next < length old.numbers.items → get_or (places_behind h specs) old.next 0 < from → NoneBefore table specs path is_dir from
      → NoneAhead (places_behind h specs) specs path from old.next → LeavesOutNone (set_in old.set) (behind h path) (old.next + 1) found
      → IfSome found (IsMatch (set_in old.set) (behind h path) (old.next + 1) old.set.gave_up) → IsNextOf specs path from new
  next-known table is_dir from l passed none ahead leaves matched =
      let last : old.next < length (places_behind h specs) = omega (arith, l, count) in
      known from
      (next-ahead h specs path bytes read.begins read.plain old.set own.own table is_dir from old.next last passed none ahead found new.next next-is next-low leaves)
      (next-hit h specs path bytes read.begins read.plain old.set own.own table is_dir from old.next last passed none ahead found new.next next-is read.went_on matched)

-- the place found is that of the next spec that may match
pub found-place : (specs : List Numbered) (path : List ℕ) (from : ℕ) (set : HeadSet) (result : Option ℕ) → IsNextOf specs path from set → result ≡ slice_get (places_behind set.head specs) set.next
    → (set.next < length set.numbers.items → from ≤ get_or (places_behind set.head specs) set.next 0) → IsNext (is_of_head set.head) specs path from result × IfSome result (IsGlobHit specs path)
found-place specs path from set result next is behind =
    let count = own-length specs set next.are in (
      subst (IsNext (is_of_head set.head) specs path from) (sym is)
          (next-behind set.head specs path from set.next next.ahead (λ l. (next.read (omega (arith, l, count))).begins) (λ l. behind (omega (arith, l, count)))),
      hit-there result is,
    )
  where
    hit-there : (o : Option ℕ) → o ≡ slice_get (places_behind set.head specs) set.next → IfSome o (IsGlobHit specs path)
    hit-there None e = tt
    hit-there (Some place) e =
        subst (IsGlobHit specs path) (get_or_from_slice_get (places_behind set.head specs) set.next place 0 (sym e))
        (next.hit (omega (arith, got-within (places_behind set.head specs) set.next place (sym e), own-length specs set next.are)))

-- where the head doesn't begin the path, a set that rests tells of it without a question
pub headless-known : (specs : List Numbered) (path : List ℕ) (set : HeadSet) → IsAtRest set → begins_with path set.head ≡ false → IsHeadSetOf (all_sources specs) set → (from : ℕ) → IsNextOf specs path from set
headless-known specs path set at_rest off own from = record {
  are = own;
  read = λ l. absurd (let no : ⊥ = omega (arith, l, at_rest.none) in no);
  ahead = headless-ahead set.head specs path off from set.next (omega (arith, at_rest.none, own-length specs set own));
  hit = λ l. absurd (let no : ⊥ = omega (arith, l, at_rest.none) in no);
}
