-- The sets of a search stay its own, and their steps and looks are few.
use Rattle.std.proofs.Common.{◌≡◌, ℕ, zero, suc, ◌+◌, ◌*◌, ◌<◌, ◌≤◌, Bool, true, false, cond, inl, inr, refl, sym, ◌∙◌, ap, subst, arith, All, List, [], ◌∷◌, ◌++◌, append-nil, drop, length, map, take, get_or, ltb, Option, Some, None, slice_get}
use Rattle.std.specs.List.{before_first, cons_option, list_any, sum_by}
use Rattle.std.proofs.Math.Nat.{mul-le-mul_left}
use Rattle.std.proofs.lemmas.Bool.{and_parts, both_ways, cases_Bool, cases_lt, ltb-false, not-true, or_left, or_right}
use Rattle.std.proofs.Math.ListN.{drop_of_length-le}
use Rattle.std.proofs.lemmas.List.{length-map, take_all}
use Rattle.std.proofs.lemmas.Option.{get_or_from_slice_get, slice_get_within}
use Rattle.std.proofs.lemmas.List.Sums.{sum_by-cons}
use Rattle.std.proofs.lemmas.List.Elements.{All-cons, All-head, All-nil, All-tail}
use Rattle.pathspec_heads.specs.Heads.{head_at}
use Rattle.pathspec_glob_set.specs.declared.member.Member.{Member}
use Rattle.pathspec_glob_set.specs.Sets.{count_places, size_of}
use Rattle.gix_pathspec.specs.declared.by_head.head_set.HeadSet.{HeadSet}
use Rattle.gix_pathspec.specs.Bytes.{begins_with, is_wildcard}
use Rattle.gix_pathspec.specs.EndBytes.{has_wildcard_at}
use Rattle.gix_pathspec.specs.Search.{Numbered}
use Rattle.gix_pathspec.specs.Effort.{most_steps}
use Rattle.gix_pathspec.specs.Beside.{IsUnbarred}
use Rattle.gix_pathspec.specs.HeadSets.{most_effort, set_heads, AreApart, AreHeadSetsOf, IsHeadSetOf, NoneBarred}
use Rattle.gix_pathspec.specs.Candidates.{KeepsSets}
use Rattle.gix_pathspec.specs.SetSources.{all_sources, has_any_set, has_set_behind, head_set_sources, member_behind, places_behind_heads, set_source_of, sources_behind, ArePlain, SetSource}
use Rattle.gix_pathspec.proofs.HeadSumProofs.{heads-sum}
use Rattle.pathspec_glob.proofs.StemProofs.{before_first-none}
use Rattle.gix_pathspec.proofs.EndByteProofs.{parts}
use Rattle.gix_pathspec.proofs.HeadProofs.{stem-at_false}
use Rattle.gix_pathspec.proofs.SetSourceProofs.{set-source-parts}
use Rattle.gix_pathspec.proofs.SetBuildingProofs.{first-source, globs-count, set-some}

-- ---- the sets stay

pub kept-own : (sources : List SetSource) (old new : List HeadSet) → set_heads new ≡ set_heads old → (All (IsHeadSetOf sources) old → All (IsHeadSetOf sources) new) → AreHeadSetsOf sources old → AreHeadSetsOf sources new
kept-own sources old new heads each own = record {
  each = each own.each;
  all = λ h has.
      let r = own.all h has in
      (r.0, omega (arith, r.1, length-map old (λ (s : HeadSet). s.head), length-map new (λ (s : HeadSet). s.head), ap (λ (hs : List (List ℕ)). length hs) heads), ap (λ hs. head_at hs r.0) heads ∙ r.2);
  apart = subst AreApart (sym heads) own.apart;
}

pub kept-self : (sets : List HeadSet) → KeepsSets sets sets
kept-self sets = record { own = λ sources own. own; few = λ path few. few; heads = refl; begun = refl }

pub kept-trans : (a b c : List HeadSet) → KeepsSets a b → KeepsSets b c → KeepsSets a c
kept-trans a b c p q = record { own = λ sources own. q.own sources (p.own sources own); few = λ path few. q.few path (p.few path few); heads = q.heads ∙ p.heads; begun = q.begun ∙ p.begun }

-- a slice of all of a vector is the vector once it has been written
pub written : (len : ℕ) (new old : List HeadSet) → len ≡ length old → length new ≡ length old → take len (new ++ drop (length new) old) ≡ new
written len new old all same = rw (drop_of_length-le old {i = length new} (omega arith), append-nil new) (take_all len new (omega arith))

-- ---- the sets of a room are those of the specs

any-there : (test : SetSource → Bool) (xs : List SetSource) (k : ℕ) (x : SetSource) → slice_get xs k ≡ Some x → test x ≡ true → list_any test xs ≡ true
any-there test [] k x is on = cc
any-there test (y ∷ xs) zero x is on = let same : y ≡ x = cc in or_left (test y) (list_any test xs) (ap test same ∙ on)
any-there test (y ∷ xs) (suc k) x is on = or_right (test y) (list_any test xs) (any-there test xs k x is on)

-- where a head has a set, some source has this head
pub any-set : (sources : List SetSource) (h : List ℕ) → has_set_behind sources h ≡ true → has_any_set sources ≡ true
any-set sources h has =
    let r = first-source sources h (set-some sources h has) in
    any-there (λ (x : SetSource). has_set_behind sources x.head) sources _ r.0 r.1 (ap (has_set_behind sources) r.2 ∙ has)

no-sets : (sets : List HeadSet) → All (IsHeadSetOf []) sets → sets ≡ []
no-sets [] each = refl
no-sets (s ∷ sets) each = let no : false ≡ true = (All-head (IsHeadSetOf []) s sets each).enough in cc

pub own-all : (specs : List Numbered) (sets : List HeadSet) → AreHeadSetsOf (head_set_sources specs) sets → AreHeadSetsOf (all_sources specs) sets
own-all specs sets own = at (has_any_set (all_sources specs)) refl own
  where
    at : (b : Bool) → has_any_set (all_sources specs) ≡ b → AreHeadSetsOf (cond b (all_sources specs) []) sets → AreHeadSetsOf (all_sources specs) sets
    at true e h = h
    at false e h = record {
      each = subst (All (IsHeadSetOf (all_sources specs))) (sym (no-sets sets h.each)) (All-nil (IsHeadSetOf (all_sources specs)));
      all = λ g has. absurd (both_ways (has_any_set (all_sources specs)) e (any-set (all_sources specs) g has));
      apart = h.apart;
    }

pub own-room : (specs : List Numbered) (sets : List HeadSet) → AreHeadSetsOf (all_sources specs) sets → AreHeadSetsOf (head_set_sources specs) sets
own-room specs sets own = at (has_any_set (all_sources specs)) refl
  where
    at : (b : Bool) → has_any_set (all_sources specs) ≡ b → AreHeadSetsOf (cond b (all_sources specs) []) sets
    at true e = own
    at false e =
        let none = λ (s : HeadSet) (ss : List HeadSet) (is : sets ≡ s ∷ ss).
        let has = (All-head (IsHeadSetOf (all_sources specs)) s ss (subst (All (IsHeadSetOf (all_sources specs))) is own.each)).enough in
        both_ways (has_any_set (all_sources specs)) e (any-set (all_sources specs) s.head has) in
        empty sets refl none
      where
        empty : (ss : List HeadSet) → sets ≡ ss → ((s : HeadSet) (rest : List HeadSet) → sets ≡ s ∷ rest → ⊥) → AreHeadSetsOf [] sets
        empty [] e none = subst (AreHeadSetsOf []) (sym e) (record { each = All-nil (IsHeadSetOf []); all = λ h has. let no : false ≡ true = has in cc; apart = λ j k less l. absurd (let no : ⊥ = omega (arith, l) in no) })
        empty (s ∷ rest) e none = absurd (none s rest e)

-- some head has a set just where there are sets
pub sets-there : (sources : List SetSource) (sets : List HeadSet) → AreHeadSetsOf sources sets → sets ≡ [] → has_any_set sources ≡ false
sets-there sources sets own none = elim (cases_Bool (has_any_set sources)) [
  | inr off ↦ off
  | inl on ↦
      let r = which sources on in
      let k = own.all r.0 r.1 in
      absurd (let no : ⊥ = omega (arith, k.1, ap (λ (ss : List HeadSet). length ss) none) in no)
]
  where
    which : (xs : List SetSource) → list_any (λ (x : SetSource). has_set_behind sources x.head) xs ≡ true → (h : List ℕ) × (has_set_behind sources h ≡ true)
    which [] e = cc
    which (x ∷ xs) e = elim (cases_Bool (has_set_behind sources x.head)) [
      | inl on ↦ (x.head, on)
      | inr off ↦ which xs (rw off at e)
    ]

pub sets-some : (sources : List SetSource) (sets : List HeadSet) → AreHeadSetsOf sources sets → (set : HeadSet) (rest : List HeadSet) → sets ≡ set ∷ rest → has_any_set sources ≡ true
sets-some sources sets own set rest is = any-set sources set.head (All-head (IsHeadSetOf sources) set rest (subst (All (IsHeadSetOf sources)) is own.each)).enough

-- ---- what bars the sets

pub unbarred : (specs : List Numbered) (path : List ℕ) (sets : List HeadSet) → AreHeadSetsOf (all_sources specs) sets → NoneBarred path (set_heads sets) → IsUnbarred specs path
unbarred specs path sets own none h has =
    let r = own.all h has in
    subst (λ g. begins_with path g ≡ true → has_wildcard_at path (length g) ≡ false) r.2 (none r.0 [] (omega (arith, r.1, length-map sets (λ (s : HeadSet). s.head))))

pub none-barred : (specs : List Numbered) (path : List ℕ) (sets : List HeadSet) → AreHeadSetsOf (all_sources specs) sets → IsUnbarred specs path → NoneBarred path (set_heads sets)
none-barred specs path sets own plain k d l = at sets own.each k l
  where
    at : (ss : List HeadSet) → All (IsHeadSetOf (all_sources specs)) ss → (k : ℕ) → k < length (set_heads ss) → begins_with path (get_or (set_heads ss) k d) ≡ true → has_wildcard_at path (length (get_or (set_heads ss) k d)) ≡ false
    at [] each k l = absurd (let no : ⊥ = omega (arith, l) in no)
    at (s ∷ ss) each zero l = plain s.head (All-head (IsHeadSetOf (all_sources specs)) s ss each).enough
    at (s ∷ ss) each (suc k) l = at ss (All-tail (IsHeadSetOf (all_sources specs)) s ss each) k (omega (arith, l))

-- ---- efforts

places-sum : (xs : List SetSource) → count_places (map member_behind xs) ≡ sum_by (λ x. size_of (member_behind x) + 1) xs
places-sum [] = refl
places-sum (x ∷ xs) =
    omega (arith, sum_by-cons (λ x. size_of (member_behind x) + 1) x xs, sum_by-cons (λ (glob : Member). size_of glob + 1) (member_behind x) (map member_behind xs), places-sum xs)

length-sum : (xs : List SetSource) → length xs ≡ sum_by (λ x. 1) xs
length-sum [] = refl
length-sum (x ∷ xs) = omega (arith, sum_by-cons (λ x. 1) x xs, length-sum xs)

module _ (sources : List SetSource) (path : List ℕ) where
  abbrev places_at : List ℕ → ℕ
  places_at h = sum_by (λ x. size_of (member_behind x) + 1) (sources_behind h sources)

  abbrev members_at : List ℕ → ℕ
  members_at h = sum_by (λ x. 1) (sources_behind h sources)

  efforts : (sets : List HeadSet) → All (IsHeadSetOf sources) sets
      → (sum_by (most_effort path) sets ≤ length path * (sum_by places_at (set_heads sets) + 2 * length sets) + sum_by members_at (set_heads sets)) × (4 * length sets ≤ sum_by members_at (set_heads sets))
  efforts [] each = (omega arith, omega arith)
  efforts (s ∷ sets) each =
      let own = All-head (IsHeadSetOf sources) s sets each in
      let h = s.head in
      let more = efforts sets (All-tail (IsHeadSetOf sources) s sets each) in
      let wide : length s.set.table.moves.wide ≡ places_at h = own.own.places ∙ places-sum (sources_behind h sources) in
      let count : length s.numbers.items ≡ members_at h = ap (λ (ns : List ℕ). length ns) own.numbers ∙ sym (globs-count h sources) ∙ length-map (sources_behind h sources) member_behind ∙ length-sum (sources_behind h sources) in
      let four = ltb-false (length (sources_behind h sources)) 4 (not-true (ltb (length (sources_behind h sources)) 4) (and_parts _ _ own.enough).0) in
      let effort : most_effort path s ≡ length path * (places_at h + 2) + members_at h = ap (λ k. length path * (k + 2) + length s.numbers.items) wide ∙ ap (λ k. length path * (places_at h + 2) + k) count in
      let low = sum-more (length path) (places_at h) (sum_by places_at (set_heads sets)) (length sets) (members_at h) (sum_by members_at (set_heads sets)) (most_effort path s) (sum_by (most_effort path) sets) effort more.0 in
      let members = sum_by-cons members_at h (set_heads sets) in (
        subst (λ k. sum_by (most_effort path) (s ∷ sets) ≤ length path * (k + 2 * suc (length sets)) + sum_by members_at (h ∷ set_heads sets)) (sym (sum_by-cons places_at h (set_heads sets)))
            (omega (arith, sum_by-cons (most_effort path) s sets, members, low)),
        omega (arith, more.1, four, length-sum (sources_behind h sources), members),
      )
    where
      sum-more : (l p ps k m ms e es : ℕ) → e ≡ l * (p + 2) + m → es ≤ l * (ps + 2 * k) + ms → e + es ≤ l * (p + ps + 2 * suc k) + (m + ms)
      sum-more l p ps k m ms e es is low = omega (arith, is, low)

-- sets take few steps and looks, with few comparisons of their heads
pub few-efforts : (specs : List Numbered) (path : List ℕ) (sets : List HeadSet) (effort compared : ℕ) → AreHeadSetsOf (head_set_sources specs) sets → effort ≤ sum_by (most_effort path) sets
    → compared ≤ length sets + 2 → (length sets ≡ 0 → compared ≡ 0) → effort + compared ≤ most_steps specs path
few-efforts specs path sets effort compared own few seldom none =
    let sources = head_set_sources specs in
    let hs = set_heads sets in
    let r = efforts sources path sets own.each in
    let places = heads-sum (λ (x : SetSource). size_of (member_behind x) + 1) sources hs own.apart in
    let members = heads-sum (λ (x : SetSource). 1) sources hs own.apart in
    let all : places_behind_heads sources ≡ sum_by (λ (x : SetSource). size_of (member_behind x) + 1) sources = places-sum sources in
    let count = length-sum sources in
    let little : compared ≤ 4 * length sets = elim (cases_lt 0 (length sets)) [ inl some ↦ omega (arith, some, seldom) | inr g ↦ omega (arith, none (omega (arith, g))) ] in
    let low : sum_by (places_at sources path) hs + 2 * length sets ≤ places_behind_heads sources + length sources = omega (arith, places, members, all, count, r.1) in
    omega (arith, r.0, mul-le-mul_left (length path) low, members, count, r.1, few, little)

-- ---- heads

-- no wildcard byte stands in the head of a source
pub all-plain : (specs : List Numbered) → ArePlain (all_sources specs)
all-plain [] = All-nil (λ (x : SetSource). list_any is_wildcard x.head ≡ false)
all-plain (n ∷ specs) = at (set_source_of n.spec) refl (all-plain specs)
  where
    at : (o : Option SetSource) → set_source_of n.spec ≡ o → ArePlain (all_sources specs) → ArePlain (cons_option o (all_sources specs))
    at None e more = more
    at (Some source) e more =
        let is = set-source-parts n.spec source e in
        let own : source.head ≡ before_first is_wildcard n.spec.path = is.is_head ∙ sym is.same ∙ stem-at_false n.spec (parts n.spec is.wild).0 in
        All-cons (λ (x : SetSource). list_any is_wildcard x.head ≡ false) source (all_sources specs) (ap (list_any is_wildcard) own ∙ before_first-none is_wildcard n.spec.path) more

-- a head that a set has
pub head-there : (sources : List SetSource) (sets : List HeadSet) (k : ℕ) (set : HeadSet) (h : List ℕ) → AreHeadSetsOf sources sets → k < length sets → set ≡ get_or sets k set → set.head ≡ h → has_set_behind sources h ≡ true
head-there sources sets k set h own l is same =
    let its : IsHeadSetOf sources set = subst (IsHeadSetOf sources) (sym is) (own.each k set l) in
    ap (has_set_behind sources) (sym same) ∙ its.enough

-- a head that none has
pub head-nowhere : (sources : List SetSource) (sets : List HeadSet) (h : List ℕ) → AreHeadSetsOf sources sets → ((k : ℕ) (d : List ℕ) → k < length sets → get_or (set_heads sets) k d ≡ h → ⊥) → has_set_behind sources h ≡ false
head-nowhere sources sets h own none = elim (cases_Bool (has_set_behind sources h)) [
  | inr off ↦ off
  | inl on ↦ let r = own.all h on in absurd (none r.0 [] r.1 r.2)
]

-- the sets of a scratch are those of the specs, and stay so once they read a path
pub begin-own : (specs : List Numbered) (members : List SetSource) (old new : List HeadSet) → members ≡ head_set_sources specs → AreHeadSetsOf members old → set_heads new ≡ set_heads old
    → ((sources : List SetSource) → All (IsHeadSetOf sources) old → All (IsHeadSetOf sources) new)
    → AreHeadSetsOf (all_sources specs) old × AreHeadSetsOf (all_sources specs) new × AreHeadSetsOf (head_set_sources specs) new
begin-own specs members old new room own heads each =
    let has = subst (λ (m : List SetSource). AreHeadSetsOf m old) room own in
    let all = own-all specs old has in
    (all, kept-own (all_sources specs) old new heads (each (all_sources specs)) all, kept-own (head_set_sources specs) old new heads (each (head_set_sources specs)) has)

-- what is so of all sets is so of one of them
pub set-at : (P : HeadSet → Type 0) (sets : List HeadSet) (k : ℕ) (set : HeadSet) → All P sets → slice_get sets k ≡ Some set → P set
set-at P sets k set all is = subst P (get_or_from_slice_get sets k set set is) (all k set (slice_get_within sets k set is))
