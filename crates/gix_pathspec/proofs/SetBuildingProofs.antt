-- Sets are made group by group, each at the first source of its group.
use Rattle.std.proofs.Common.{◌≡◌, ℕ, zero, suc, ◌+◌, ◌<◌, ◌≤◌, Bool, true, false, not, ◌&&◌, inl, inr, refl, sym, ◌∙◌, ap, subst, arith, All, List, [], ◌∷◌, ◌++◌, length, length-append, map, take, get_or, eqb, ltb, Vec, Global, Option, Some, None, slice_get}
use Rattle.std.specs.Prelude.{is_some, IfSome}
use Rattle.std.proofs.lemmas.Bool.{and_parts, both_ways, cases_Bool, cases_lt, eq-eqb, eqb-true, le-ltb, lt-ltb, ltb-false, not-true}
use Rattle.std.specs.Option.{option_eq}
use Rattle.std.specs.Borrow.{Bor}
use Rattle.std.proofs.lemmas.List.{get_or_append_left, length-map, map-append, take_all, take_more}
use Rattle.std.proofs.lemmas.List.Elements.{All-push}
use Rattle.std.proofs.Math.Seq.{get_or-append_seam}
use Rattle.std.proofs.lemmas.Option.{get_or_from_slice_get}
use Rattle.std.proofs.lemmas.Slice.Eq.{bytes_eq-Decides}
use Rattle.std.specs.List.{list_any}
use Rattle.pathspec_heads.specs.Heads.{head_at}
use Rattle.pathspec_heads.specs.Groups.{IsLeastFrom}
use Rattle.pathspec_heads.proofs.CandidateProofs.{IsCandidate}
use Rattle.pathspec_glob_set.specs.declared.member.Member.{Member}
use Rattle.pathspec_glob_set.specs.Sets.{count_places, AreMovesOf}
use Rattle.pathspec_glob_set.specs.Sizes.{most_places}
use Rattle.gix_pathspec.specs.declared.by_head.head_set.HeadSet.{HeadSet}
use Rattle.gix_pathspec.specs.Bytes.{begins_with, is_wildcard}
use Rattle.gix_pathspec.specs.HeadSets.{set_heads, AreApart, AreHeadSetsOf, IsHeadSetOf, IsUnread}
use Rattle.gix_pathspec.specs.SetSources.{ended, ended_heads, has_set_behind, is_behind, member_behind, members_behind, numbers_behind, sources_behind, positions_from, IsFirstOf, IsGroupOf, SetSource}
use Rattle.gix_pathspec.proofs.BeginsProofs.{begins_with-from_front, front-itself}
use Rattle.gix_pathspec.proofs.HeadSearchProofs.{element-within, got-within}
use Rattle.gix_pathspec.proofs.HeadGroupProofs.{ended-is, numbers-of-group}
use Rattle.gix_pathspec.proofs.PositionProofs.{position-at, position-number, positions-count, positions-rise}

begins-itself : (text : List ℕ) → begins_with text text ≡ true
begins-itself text = begins_with-from_front text text (front-itself text)

-- ---- the first of a group

module _ (texts : List (List ℕ)) (number : ℕ) (text : List ℕ) (is : slice_get texts number ≡ Some text) where
  own-candidate : IsCandidate texts text number
  own-candidate = (got-within texts number text is, ap (begins_with text) (get_or_from_slice_get texts number text [] is) ∙ begins-itself text)

  pub first-found : IsLeastFrom (IsCandidate texts text) 0 (Some number) → IsFirstOf texts number
  first-found least own k t there less at =
      let same : own ≡ text = let both : Some own ≡ Some text = sym there ∙ is in cc in
      elim (cases_Bool (begins_with own t)) [
        | inr off ↦ off
        | inl on ↦
            let candidate : IsCandidate texts text k = (got-within texts k t at, ap (begins_with text) (get_or_from_slice_get texts k t [] at) ∙ ap (λ x. begins_with x t) (sym same) ∙ on) in
            absurd (let low = least.first k (omega arith) candidate in let no : ⊥ = omega (arith, less, low) in no)
      ]

  -- the first of a group is found
  pub found-first : (result : Option ℕ) → IsLeastFrom (IsCandidate texts text) 0 result → IsFirstOf texts number → result ≡ Some number
  found-first None least first = absurd (least.first number (omega arith) own-candidate)
  found-first (Some q) least first =
      let low = least.first number (omega arith) own-candidate in
      let candidate = least.found.1 in
      elim (cases_lt q number) [
        | inr g ↦ let e : q ≡ number = omega (arith, low, g) in ap Some e
        | inl less ↦
            let r = element-within texts q candidate.0 in
            let on = ap (begins_with text) (sym (get_or_from_slice_get texts q r.0 [] r.1)) ∙ candidate.1 in
            absurd (both_ways (begins_with text r.0) (first text q r.0 is less r.1) on)
      ]

  -- and so is some group
  pub some-group : ((p : ℕ) → p < length texts → begins_with text (head_at texts p) ≡ false) → ⊥
  some-group none = both_ways (begins_with text (head_at texts number)) (none number own-candidate.0) own-candidate.1

-- the places found are those that the text itself begins with
pub own-text : (texts : List (List ℕ)) (number : ℕ) (text numbers : List ℕ) → slice_get texts number ≡ Some text → numbers ≡ positions_from (begins_with text) 0 texts
    → (own : List ℕ) → slice_get texts number ≡ Some own → numbers ≡ positions_from (begins_with own) 0 texts
own-text texts number text numbers is all own at =
    let both : Some text ≡ Some own = sym is ∙ at in
    let same : text ≡ own = cc in
    all ∙ ap (λ t. positions_from (begins_with t) 0 texts) same

-- the test for the place itself
pub is-that : (found : Option ℕ) (number : ℕ) → not (option_eq eqb found (Some number)) ≡ false → found ≡ Some number
is-that None number h = cc
is-that (Some m) number h = at (eqb m number) refl h
  where
    at : (b : Bool) → eqb m number ≡ b → not b ≡ false → Some m ≡ Some number
    at true e k = ap Some (eqb-true m number e)
    at false e k = cc

pub is-other : (found : Option ℕ) (number : ℕ) → not (option_eq eqb found (Some number)) ≡ true → found ≡ Some number → ⊥
is-other found number h is =
    let on : not (eqb number number) ≡ true = sym (ap (λ o. not (option_eq eqb o (Some number))) is) ∙ h in
    let off : not (eqb number number) ≡ false = ap not (eq-eqb number number refl) in
    both_ways (not (eqb number number)) off on

-- the text at a place of slices
pub text-there : (texts : List (Bor (List ℕ))) (number : ℕ) (d : Bor (List ℕ)) → number < length texts → slice_get (map (λ (t : Bor (List ℕ)). t.now) texts) number ≡ Some ((get_or texts number d).now)
text-there [] number d l = absurd (let no : ⊥ = omega (arith, l) in no)
text-there (t ∷ texts) zero d l = refl
text-there (t ∷ texts) (suc number) d l = text-there texts number d (omega (arith, l))

-- ---- sets so far

-- the number of the first source with a head
abbrev first_number : List SetSource → List ℕ → ℕ
first_number sources h = get_or (numbers_behind h sources) 0 0

-- the sets of the heads whose first source stands before a number
pub record AreSetsSoFar (sources : List SetSource) (sets : List HeadSet) (number : ℕ) : Type 0 where
  pub each : All (IsHeadSetOf sources) sets
  pub low : (k : ℕ) → k < length (set_heads sets) → first_number sources (head_at (set_heads sets) k) < number
  pub apart : AreApart (set_heads sets)
  pub all : (h : List ℕ) → has_set_behind sources h ≡ true → first_number sources h < number → (k : ℕ) × (k < length (set_heads sets)) × (head_at (set_heads sets) k ≡ h)

module _ (sources : List SetSource) where
  -- the first source of a head that has some
  pub first-source : (h : List ℕ) → 0 < length (numbers_behind h sources) → (source : SetSource) × (slice_get sources (first_number sources h) ≡ Some source) × (source.head ≡ h)
  first-source h some =
      let r = position-at (is_behind h) 0 sources 0 some in
      let at : first_number sources h ≡ r.at = omega (arith, r.place) in
      (r.element, ap (slice_get sources) at ∙ r.there, (bytes_eq-Decides r.element.head h).0 r.passes)

  -- a head that has a set has sources
  pub set-some : (h : List ℕ) → has_set_behind sources h ≡ true → 0 < length (numbers_behind h sources)
  set-some h has =
      let four = ltb-false (length (sources_behind h sources)) 4 (not-true (ltb (length (sources_behind h sources)) 4) (and_parts _ _ has).0) in
      omega (arith, four, positions-count (is_behind h) 0 sources)

  -- in the end these are all
  pub sets-all : (sets : List HeadSet) (number : ℕ) → length sources ≤ number → AreSetsSoFar sources sets number → AreHeadSetsOf sources sets
  sets-all sets number end are = record {
    each = are.each;
    all = λ h has.
        let r = first-source h (set-some h has) in
        let k = are.all h has (omega (arith, got-within sources (first_number sources h) r.0 r.1, end)) in
        (k.0, omega (arith, k.1, length-map sets (λ (s : HeadSet). s.head)), k.2);
    apart = are.apart;
  }

  module _ (sets : List HeadSet) (number : ℕ) (are : AreSetsSoFar sources sets number) (source : SetSource) (at : slice_get sources number ≡ Some source) where
    -- a head whose first source this is
    same-head : (h : List ℕ) → has_set_behind sources h ≡ true → first_number sources h ≡ number → h ≡ source.head
    same-head h has is =
        let r = first-source h (set-some h has) in
        let both : Some r.0 ≡ Some source = sym r.1 ∙ ap (slice_get sources) is ∙ at in
        let same : r.0 ≡ source = cc in
        sym r.2 ∙ ap (λ (x : SetSource). x.head) same

    -- no set is added where this head has none, or another source is its first
    pub sets-kept : (has_set_behind sources source.head ≡ true → first_number sources source.head ≡ number → ⊥) → AreSetsSoFar sources sets (number + 1)
    sets-kept none = record {
      each = are.each;
      low = λ k l. omega (arith, are.low k l);
      apart = are.apart;
      all = λ h has l. elim (cases_lt (first_number sources h) number) [
        | inl less ↦ are.all h has less
        | inr g ↦
            let is : first_number sources h ≡ number = omega (arith, l, g) in
            let same = same-head h has is in
            absurd (none (subst (λ x. has_set_behind sources x ≡ true) same has) (subst (λ x. first_number sources x ≡ number) same is))
      ];
    }

    -- a set is added
    pub sets-more : (set : HeadSet) → IsHeadSetOf sources set → set.head ≡ source.head → first_number sources source.head ≡ number → AreSetsSoFar sources (sets ++ set ∷ []) (number + 1)
    sets-more set own is first = record {
      each = All-push (IsHeadSetOf sources) sets set are.each own;
      low = λ k l. subst (λ h. first_number sources h < number + 1) (sym (ap (λ hs. head_at hs k) heads)) (low k (omega (arith, l, ap (λ (hs : List (List ℕ)). length hs) heads)));
      apart = λ j k less l same. apart j k less (omega (arith, l, ap (λ (hs : List (List ℕ)). length hs) heads)) (sym (ap (λ hs. head_at hs j) heads) ∙ same ∙ ap (λ hs. head_at hs k) heads);
      all = λ h has l. let r = all h has l in (r.0, omega (arith, r.1, ap (λ (hs : List (List ℕ)). length hs) heads), ap (λ hs. head_at hs r.0) heads ∙ r.2);
    }
      where
        heads : set_heads (sets ++ set ∷ []) ≡ set_heads sets ++ source.head ∷ []
        heads = map-append (λ (s : HeadSet). s.head) sets (set ∷ []) ∙ ap (λ h. set_heads sets ++ h ∷ []) is

        count : length (set_heads sets ++ source.head ∷ []) ≡ length (set_heads sets) + 1
        count = length-append (set_heads sets) (source.head ∷ [])

        old-at : (k : ℕ) → k < length (set_heads sets) → head_at (set_heads sets ++ source.head ∷ []) k ≡ head_at (set_heads sets) k
        old-at k l = get_or_append_left (set_heads sets) (source.head ∷ []) [] k l

        new-at : (k : ℕ) → k ≡ length (set_heads sets) → head_at (set_heads sets ++ source.head ∷ []) k ≡ source.head
        new-at k e = ap (head_at (set_heads sets ++ source.head ∷ [])) e ∙ get_or-append_seam (set_heads sets) source.head [] []

        low : (k : ℕ) → k < length (set_heads sets ++ source.head ∷ []) → first_number sources (head_at (set_heads sets ++ source.head ∷ []) k) < number + 1
        low k l = elim (cases_lt k (length (set_heads sets))) [
          | inl less ↦ subst (λ h. first_number sources h < number + 1) (sym (old-at k less)) (omega (arith, are.low k less))
          | inr g ↦ subst (λ h. first_number sources h < number + 1) (sym (new-at k (omega (arith, l, g, count)))) (omega (arith, first))
        ]

        apart : AreApart (set_heads sets ++ source.head ∷ [])
        apart j k less l same = elim (cases_lt k (length (set_heads sets))) [
          | inl below ↦ are.apart j k less below (sym (old-at j (omega (arith, less, below))) ∙ same ∙ old-at k below)
          | inr g ↦
              let j_low : j < length (set_heads sets) = omega (arith, less, l, count) in
              let e : head_at (set_heads sets) j ≡ source.head = sym (old-at j j_low) ∙ same ∙ new-at k (omega (arith, l, g, count)) in
              let before = are.low j j_low in
              let no : ⊥ = omega (arith, before, ap (first_number sources) e, first) in
              no
        ]

        all : (h : List ℕ) → has_set_behind sources h ≡ true → first_number sources h < number + 1 → (k : ℕ) × (k < length (set_heads sets ++ source.head ∷ [])) × (head_at (set_heads sets ++ source.head ∷ []) k ≡ h)
        all h has l = elim (cases_lt (first_number sources h) number) [
          | inl less ↦ let r = are.all h has less in (r.0, omega (arith, r.1, count), old-at r.0 r.1 ∙ r.2)
          | inr g ↦ (length (set_heads sets), omega (arith, count), new-at (length (set_heads sets)) refl ∙ sym (same-head h has (omega (arith, l, g))))
        ]

  -- ---- groups of texts

  -- the first of a group is the first source with its head
  module _ (number : ℕ) (source : SetSource) (at : slice_get sources number ≡ Some source) (plain : list_any is_wildcard source.head ≡ false) where
    text-at : (k : ℕ) (x : SetSource) → slice_get sources k ≡ Some x → slice_get (ended_heads sources) k ≡ Some (ended x.head)
    text-at k x is = mapped sources k is
      where
        mapped : (xs : List SetSource) (k : ℕ) → slice_get xs k ≡ Some x → slice_get (map (λ (y : SetSource). ended y.head) xs) k ≡ Some (ended x.head)
        mapped [] k e = cc
        mapped (y ∷ xs) zero e = let same : y ≡ x = cc in ap (λ (z : SetSource). Some (ended z.head)) same
        mapped (y ∷ xs) (suc k) e = mapped xs k e

    own-number : (k : ℕ) × (k < length (numbers_behind source.head sources)) × (get_or (numbers_behind source.head sources) k 0 ≡ number)
    own-number =
        let r = position-number (is_behind source.head) 0 sources number source at ((bytes_eq-Decides source.head source.head).1 refl) in
        (r.0, r.1, omega (arith, r.2))

    first-low : (k : ℕ) → k < length (numbers_behind source.head sources) → first_number sources source.head ≤ get_or (numbers_behind source.head sources) k 0
    first-low zero l = omega arith
    first-low (suc k) l = omega (arith, positions-rise (is_behind source.head) 0 sources 0 (suc k) (omega arith) l)

    pub first-is : IsFirstOf (ended_heads sources) number → first_number sources source.head ≡ number
    first-is first =
        let o = own-number in
        let r = first-source source.head (omega (arith, o.1)) in
        elim (cases_lt (first_number sources source.head) number) [
          | inr g ↦ omega (arith, g, first-low o.0 o.1, o.2)
          | inl less ↦
              let off = first (ended source.head) (first_number sources source.head) (ended r.0.head) (text-at number source at) less (text-at (first_number sources source.head) r.0 r.1) in
              absurd (both_ways (is_behind source.head r.0) (sym (ended-is source.head r.0 plain) ∙ off) ((bytes_eq-Decides r.0.head source.head).1 r.2))
        ]

    pub is-first : first_number sources source.head ≡ number → IsFirstOf (ended_heads sources) number
    is-first is own k t there less here =
        let same : ended source.head ≡ own = let both : Some (ended source.head) ≡ Some own = sym (text-at number source at) ∙ there in cc in
        let x = element-within sources k (omega (arith, less, got-within sources number source at)) in
        let its : ended x.0.head ≡ t = let both : Some (ended x.0.head) ≡ Some t = sym (text-at k x.0 x.1) ∙ here in cc in
        elim (cases_Bool (is_behind source.head x.0)) [
          | inr off ↦ ap (λ a. begins_with a t) (sym same) ∙ ap (begins_with (ended source.head)) (sym its) ∙ ended-is source.head x.0 plain ∙ off
          | inl on ↦
              let r = position-number (is_behind source.head) 0 sources k x.0 x.1 on in
              absurd (let no : ⊥ = omega (arith, first-low r.0 r.1, r.2, is, less) in no)
        ]

-- ---- the globs of a set

-- the source with the number that stands at a place
pub source-of-number : (h : List ℕ) (sources : List SetSource) (k : ℕ) → k < length (numbers_behind h sources)
    → (source : SetSource) × (slice_get sources (get_or (numbers_behind h sources) k 0) ≡ Some source) × (slice_get (sources_behind h sources) k ≡ Some source)
source-of-number h sources k l =
    let r = position-at (is_behind h) 0 sources k l in
    let at : get_or (numbers_behind h sources) k 0 ≡ r.at = omega (arith, r.place) in
    (r.element, ap (slice_get sources) at ∙ r.there, r.listed)

pub number-within : (h : List ℕ) (sources : List SetSource) (numbers : List ℕ) (k number : ℕ) → numbers ≡ numbers_behind h sources → k < length numbers → number ≡ get_or numbers k 0 → number < length sources
number-within h sources numbers k number own l is =
    let r = source-of-number h sources k (omega (arith, l, ap (λ (rs : List ℕ). length rs) own)) in
    omega (arith, got-within sources (get_or (numbers_behind h sources) k 0) r.0 r.1, is, ap (λ (rs : List ℕ). get_or rs k 0) own)

-- the glob of the source with the next number is added
pub globs-more : (h : List ℕ) (sources : List SetSource) (numbers : List ℕ) (k number : ℕ) (source : SetSource) → numbers ≡ numbers_behind h sources → k < length numbers → number ≡ get_or numbers k 0
    → source ≡ get_or sources number source → map member_behind (take (k + 1) (sources_behind h sources)) ≡ map member_behind (take k (sources_behind h sources)) ++ member_behind source ∷ []
globs-more h sources numbers k number source own l is read =
    let low : k < length (numbers_behind h sources) = omega (arith, l, ap (λ (rs : List ℕ). length rs) own) in
    let r = source-of-number h sources k low in
    let at : get_or (numbers_behind h sources) k 0 ≡ number = ap (λ (rs : List ℕ). get_or rs k 0) (sym own) ∙ sym is in
    let its : slice_get sources number ≡ Some r.0 = ap (slice_get sources) (sym at) ∙ r.1 in
    let same : source ≡ r.0 = read ∙ get_or_from_slice_get sources number r.0 source its in
    let listed = get_or_from_slice_get (sources_behind h sources) k r.0 r.0 r.2 in
    ap (map member_behind) (take_more (sources_behind h sources) k r.0 (got-within (sources_behind h sources) k r.0 r.2) ∙ ap (λ x. take k (sources_behind h sources) ++ x ∷ []) (listed ∙ sym same))
    ∙ map-append member_behind (take k (sources_behind h sources)) (source ∷ [])

-- as many numbers as globs
pub globs-count : (h : List ℕ) (sources : List SetSource) → length (members_behind h sources) ≡ length (numbers_behind h sources)
globs-count h sources = length-map (sources_behind h sources) member_behind ∙ sym (positions-count (is_behind h) 0 sources)

-- ---- one source after the other

-- what is made of a source's group is put behind the sets so far
abbrev pub with_made : List HeadSet → Option HeadSet → List HeadSet
with_made sets None = sets
with_made sets (Some set) = sets ++ set ∷ []

-- the sets read nothing, nor did the one that is made
pub made-unread : (sets : List HeadSet) (made : Option HeadSet) → All IsUnread sets → IfSome made IsUnread → All IsUnread (with_made sets made)
made-unread sets None all own = all
made-unread sets (Some set) all own = All-push IsUnread sets set all own

module _ (sources : List SetSource) (number : ℕ) (source : SetSource) (texts : List (List ℕ)) (same : texts ≡ ended_heads sources)
    (at : slice_get sources number ≡ Some source) (plain : list_any is_wildcard source.head ≡ false) where
  -- the group has the numbers of the sources with the head
  pub group-numbers : (numbers : List ℕ) → IsGroupOf texts number numbers → numbers ≡ numbers_behind source.head sources
  group-numbers numbers group =
      group.all (ended source.head) (ap (λ ts. slice_get ts number) same ∙ text-at sources number source at plain number source at)
      ∙ ap (positions_from (begins_with (ended source.head)) 0) same ∙ numbers-of-group source.head 0 sources plain

  first-there : IsFirstOf texts number → first_number sources source.head ≡ number
  first-there first = first-is sources number source at plain (subst (λ ts. IsFirstOf ts number) same first)

  pub group-given : (head : List ℕ) (group : Option (Vec ℕ Global)) → head ≡ source.head → IfSome group (λ numbers. IsGroupOf texts number numbers.items)
      → IfSome group (λ numbers. numbers.items ≡ numbers_behind head sources)
  group-given head None own found = tt
  group-given head (Some numbers) own found = group-numbers numbers.items found ∙ ap (λ h. numbers_behind h sources) (sym own)

  pub sets-step : (head : List ℕ) (group : Option (Vec ℕ Global)) (made : Option HeadSet) (sets : List HeadSet) → head ≡ source.head
      → IfSome group (λ numbers. IsGroupOf texts number numbers.items) → (group ≡ None → IsFirstOf texts number → ⊥)
      → IfSome made (λ set. (is_some group ≡ true) × IsHeadSetOf sources set × (set.head ≡ head))
      → (made ≡ None → is_some group ≡ true → has_set_behind sources head ≡ false)
      → AreSetsSoFar sources sets number → AreSetsSoFar sources (with_made sets made) (number + 1)
  sets-step head (Some numbers) (Some set) sets own found none is out are = sets-more sources sets number are source at set is.1 (is.2 ∙ own) (first-there found.first)
  sets-step head None (Some set) sets own found none is out are = absurd (both_ways false refl is.0)
  sets-step head (Some numbers) None sets own found none is out are =
      sets-kept sources sets number are source at (λ has first. both_ways (has_set_behind sources source.head) (ap (has_set_behind sources) (sym own) ∙ out refl refl) has)
  sets-step head None None sets own found none is out are =
      sets-kept sources sets number are source at (λ has first. none refl (subst (λ ts. IsFirstOf ts number) (sym same) (is-first sources number source at plain first)))

-- ---- one set

-- too few sources make none
pub few-none : (h : List ℕ) (sources : List SetSource) (numbers : List ℕ) → numbers ≡ numbers_behind h sources → length numbers < 4 → has_set_behind sources h ≡ false
few-none h sources numbers own few =
    let low : length (sources_behind h sources) < 4 = omega (arith, few, ap (λ (rs : List ℕ). length rs) own, positions-count (is_behind h) 0 sources) in
    ap (λ b. not b && not (ltb most_places (count_places (members_behind h sources)))) (lt-ltb (length (sources_behind h sources)) 4 low)

pub set-made : (h : List ℕ) (sources : List SetSource) (set : HeadSet) → set.head ≡ h → set.numbers.items ≡ numbers_behind h sources → 4 ≤ length set.numbers.items
    → count_places (members_behind h sources) ≤ most_places → AreMovesOf (members_behind h sources) set.set.table.moves → IsHeadSetOf sources set
set-made h sources set same numbers many few own =
    let four : 4 ≤ length (sources_behind h sources) = omega (arith, many, ap (λ (rs : List ℕ). length rs) numbers, positions-count (is_behind h) 0 sources) in
    record {
      enough = ap (has_set_behind sources) same ∙ both-true (not (ltb (length (sources_behind h sources)) 4)) (not (ltb most_places (count_places (members_behind h sources))))
          (ap not (le-ltb (length (sources_behind h sources)) 4 four)) (ap not (le-ltb most_places (count_places (members_behind h sources)) few));
      numbers = numbers ∙ ap (λ g. numbers_behind g sources) (sym same);
      own = subst (λ g. AreMovesOf (members_behind g sources) set.set.table.moves) (sym same) own;
    }
  where
    both-true : (a b : Bool) → a ≡ true → b ≡ true → (a && b) ≡ true
    both-true true b p q = q
    both-true false b p q = cc

-- all globs are made
pub globs-all : (h : List ℕ) (sources : List SetSource) (numbers : List ℕ) (globs : List Member) (k : ℕ) → numbers ≡ numbers_behind h sources → length numbers ≤ k
    → globs ≡ map member_behind (take k (sources_behind h sources)) → globs ≡ members_behind h sources
globs-all h sources numbers globs k own end is =
    is ∙ ap (map member_behind) (take_all k (sources_behind h sources) (omega (arith, end, ap (λ (rs : List ℕ). length rs) own, positions-count (is_behind h) 0 sources)))
