-- A loop over the sets whose heads begin a path: the sets between are at rest, and tell of the path without a question.
use Rattle.std.proofs.Common.{◌≡◌, ℕ, zero, suc, ◌+◌, ◌-◌, ◌%◌, ◌^◌, ◌<◌, ◌≤◌, Bool, true, false, inl, inr, refl, sym, ◌∙◌, ap, subst, arith, All, List, [], ◌∷◌, ◌++◌, length, take, get_or, Option, Some, None, slice_get}
use Rattle.std.specs.Prelude.{bytes_eq, IfSome, IsSomeAnd}
use Rattle.std.specs.List.{sum_by, AllWithin}
use Rattle.std.proofs.lemmas.Bool.{and_parts, both_ways, cases_Bool, cases_lt}
use Rattle.std.proofs.lemmas.List.{get_or-map, get_or_default, length-map, take_more}
use Rattle.std.proofs.lemmas.List.Sums.{sum_by_more}
use Rattle.std.proofs.lemmas.Slice.Eq.{bytes_eq-Decides}
use Rattle.pathspec_glob.specs.Counts.{Counts}
use Rattle.pathspec_heads.specs.Groups.{earlier, GroupedPlaces, IsGrouped, IsInChain, IsLeastFrom}
use Rattle.pathspec_heads.specs.Heads.{head_at}
use Rattle.pathspec_heads.proofs.CandidateProofs.{candidates-next}
use Rattle.gix_pathspec.specs.declared.by_head.head_set.HeadSet.{HeadSet}
use Rattle.gix_pathspec.specs.Bytes.{begins_with}
use Rattle.gix_pathspec.specs.EndBytes.{has_wildcard_at}
use Rattle.gix_pathspec.specs.HeadSets.{effort_of, most_effort, set_heads, total_of, IsAtRest, IsBegunAt, IsGivenUp, IsHeadSetOf, IsIdleBeside, IsLittleStepped, IsLongestOf, IsNextOf, NoneBarred}
use Rattle.gix_pathspec.specs.Paths.{IsBytes}
use Rattle.gix_pathspec.specs.Search.{Numbered}
use Rattle.gix_pathspec.specs.Prefixes.{head}
use Rattle.gix_pathspec.specs.Sets.{IsNext}
use Rattle.gix_pathspec.specs.SetSources.{all_sources, has_source, is_of_head, is_of_heads, SetSource}
use Rattle.gix_pathspec.proofs.EffortProofs.{unmatched-headless}
use Rattle.gix_pathspec.proofs.HeadSetProofs.{headless-known}
use Rattle.gix_pathspec.proofs.HeadSetsProofs.{next-of-both, of-more}

-- ---- the next that begins the path

module _ (texts : List (List ℕ)) (path : List ℕ) (places : GroupedPlaces) where
  pub begun-next : (head : Option ℕ) → IsLongestOf texts path places head → (j from : ℕ) (next : Option ℕ) → head ≡ Some j
      → IsLeastFrom (IsInChain places.heads places.starts places.order j) from next → IsLeastFrom (IsBegunAt texts path) from next
  begun-next head is j from next e least = candidates-next texts places.heads places.starts places.order is.grouped path j from next (is.chain j e).1 least

  -- or none does
  pub none-begun : (head : Option ℕ) → IsLongestOf texts path places head → head ≡ None → (from : ℕ) → IsLeastFrom (IsBegunAt texts path) from None
  none-begun head is e from = record {
    found = tt;
    first = λ p a begun.
        let f = is.grouped.listed p begun.0 in
        absurd (both_ways (begins_with path (head_at texts p)) (subst (λ h. begins_with path h ≡ false) f.2 (is.none e f.0 f.1)) begun.1);
  }

-- what stands in a chain is the number of a text
pub chain-within : (texts : List (List ℕ)) (places : GroupedPlaces) → IsGrouped texts places.heads places.starts places.order → (j from : ℕ) (next : Option ℕ)
    → IsLeastFrom (IsInChain places.heads places.starts places.order j) from next → IfSome next (λ number. (from ≤ number) × (number < length texts))
chain-within texts places grouped j from None least = tt
chain-within texts places grouped j from (Some number) least =
    let c = least.found.1 in
    (least.found.0, (grouped.meant c.0 number c.1 c.3).0)

-- those before it don't
abbrev pub NoneBegun : List (List ℕ) → List ℕ → ℕ → ℕ → Type 0
NoneBegun texts path from to = (k : ℕ) → from ≤ k → k < to → begins_with path (head_at texts k) ≡ false

module _ (texts : List (List ℕ)) (path : List ℕ) (from : ℕ) where
  off-before : (next : Option ℕ) → IsLeastFrom (IsBegunAt texts path) from next → (to : ℕ) → to ≤ length texts → ((k : ℕ) → k < to → IsSomeAnd next (λ q. q ≤ k) → ⊥) → NoneBegun texts path from to
  off-before next least to within away k a l = elim (cases_Bool (begins_with path (head_at texts k))) [
    | inr off ↦ off
    | inl on ↦ absurd (away k l (least.first k a (omega (arith, l, within), on)))
  ]

  pub none-between : (number : ℕ) → IsLeastFrom (IsBegunAt texts path) from (Some number) → NoneBegun texts path from number
  none-between number least = off-before (Some number) least number (omega (arith, least.found.1.0)) (λ k l le. omega (arith, l, le))

  pub none-left : IsLeastFrom (IsBegunAt texts path) from None → NoneBegun texts path from (length texts)
  none-left least = off-before None least (length texts) (omega arith) (λ k l le. le)

-- ---- sets at rest

-- a set at rest counted all that it read before
pub rest-begun : (set : HeadSet) → IsAtRest set → Counts 0 (total_of set) set.begun
rest-begun set at_rest = sym (ap (λ k. k % 2 ^ 128) (none set.begun (set.steps + set.looks) (omega (arith, at_rest.unstepped, at_rest.unlooked)))) ∙ sym set.counted ∙ ap (λ k. k % 2 ^ 128) (same set.set.total)
  where
    same : (t : ℕ) → t ≡ 0 + t
    same t = omega arith

    none : (b e : ℕ) → e ≡ 0 → b + e ≡ b
    none b e z = omega (arith, z)

pub rest-effort : (set : HeadSet) → IsAtRest set → effort_of set ≡ 0
rest-effort set at_rest = omega (arith, at_rest.unstepped, at_rest.unlooked)

-- the head of a set
pub head-there : (sets : List HeadSet) (k : ℕ) (d : HeadSet) → k < length sets → head_at (set_heads sets) k ≡ (get_or sets k d).head
head-there sets k d l = get_or-map (λ (s : HeadSet). s.head) sets k d [] l

module _ (path : List ℕ) (sets : List HeadSet) (from to : ℕ) (within : to ≤ length sets) (none : NoneBegun (set_heads sets) path from to) where
  -- the heads of those between don't begin the path
  pub off-between : (k : ℕ) (d : HeadSet) → from ≤ k → k < to → begins_with path (get_or sets k d).head ≡ false
  off-between k d a l = subst (λ h. begins_with path h ≡ false) (head-there sets k d (omega (arith, l, within))) (none k a l)

-- ---- sets asked so far

-- The sets whose heads begin the path were asked, up to one, and the others are as they were.
pub record AskedSoFar (path : List ℕ) (given sets : List HeadSet) (from : ℕ) (tells gave : Bool) : Type 0 where
  pub within : from ≤ length sets
  pub at_rest : All IsAtRest given
  pub heads : set_heads sets ≡ set_heads given
  pub own : (sources : List SetSource) → All (IsHeadSetOf sources) given → All (IsHeadSetOf sources) sets
  pub few : All (IsLittleStepped path) sets
  pub idle : All (IsIdleBeside path) sets
  pub begun : (k : ℕ) (d : HeadSet) → k < from → Counts 0 (total_of (get_or given k d)) (get_or sets k d).begun
  pub rest : (k : ℕ) (d : HeadSet) → from ≤ k → get_or sets k d ≡ get_or given k d
  pub unbarred : tells ≡ true → (k : ℕ) (d : List ℕ) → k < from → begins_with path (get_or (set_heads given) k d) ≡ true → has_wildcard_at path (length (get_or (set_heads given) k d)) ≡ false
  pub told : NoneBarred path (set_heads given) → gave ≡ false → tells ≡ true
  pub next : (specs : List Numbered) → All (IsHeadSetOf (all_sources specs)) given → IsBytes path → tells ≡ true → AllWithin (IsNextOf specs path 0) sets 0 from
  pub gave_up : gave ≡ true → (tells ≡ false) × ((k : ℕ) × (set : HeadSet) × (k < from) × (slice_get sets k ≡ Some set) × IsGivenUp path set)

-- as many as before
pub same-length : (given sets : List HeadSet) → set_heads sets ≡ set_heads given → length sets ≡ length given
same-length given sets same =
    omega (arith, length-map sets (λ (s : HeadSet). s.head), length-map given (λ (s : HeadSet). s.head), ap (λ (hs : List (List ℕ)). length hs) same)

-- the number of a head is that of a set
pub number-within : (given sets : List HeadSet) (number : ℕ) → set_heads sets ≡ set_heads given → number < length (set_heads given) → number < length sets
number-within given sets number same l = omega (arith, l, same-length given sets same, length-map given (λ (s : HeadSet). s.head))

-- further on, where no head between begins the path
pub asked-skip : (path : List ℕ) (given sets : List HeadSet) (from to : ℕ) (tells gave_up : Bool) → AskedSoFar path given sets from tells gave_up → from ≤ to → to ≤ length sets → NoneBegun (set_heads given) path from to
    → AskedSoFar path given sets to tells gave_up
asked-skip path given sets from to tells gave_up are further within none = record {
  within = within;
  at_rest = are.at_rest;
  heads = are.heads;
  own = are.own;
  few = are.few;
  idle = are.idle;
  begun = λ k d l. elim (cases_lt k from) [
    | inl less ↦ are.begun k d less
    | inr g ↦ subst (λ (s : HeadSet). Counts 0 (total_of (get_or given k d)) s.begun) (sym (are.rest k d g)) (rest-begun (get_or given k d) (are.at_rest k d (omega (arith, l, within, size))))
  ];
  rest = λ k d l. are.rest k d (omega (arith, further, l));
  unbarred = λ tells k d l. elim (cases_lt k from) [
    | inl less ↦ are.unbarred tells k d less
    | inr g ↦ λ on. absurd (both_ways (begins_with path (get_or (set_heads given) k d)) (ap (begins_with path) (get_or_default (set_heads given) k d [] (omega (arith, l, within, size, count))) ∙ none k g l) on)
  ];
  told = are.told;
  next = λ specs own bytes tells k d a l. elim (cases_lt k from) [
    | inl less ↦ are.next specs own bytes tells k d a less
    | inr g ↦
        let off : begins_with path (get_or given k d).head ≡ false = off-between path given from to (omega (arith, within, size)) none k d g l in
        let its = own k d (omega (arith, l, within, size)) in
        subst (IsNextOf specs path 0) (sym (are.rest k d g)) (headless-known specs path (get_or given k d) (are.at_rest k d (omega (arith, l, within, size))) off its 0)
  ];
  gave_up = λ up. let g = are.gave_up up in let r = g.1 in (g.0, (r.0, r.1, omega (arith, r.2, further), r.3, r.4));
}
  where
    size : length sets ≡ length given
    size = same-length given sets are.heads

    count : length (set_heads given) ≡ length given
    count = length-map given (λ (s : HeadSet). s.head)

-- ---- efforts of those that rest

-- the element at a place
element : (xs : List HeadSet) (i : ℕ) → i < length xs → (x : HeadSet) × ((d : HeadSet) → get_or xs i d ≡ x)
element [] i l = absurd (let no : ⊥ = omega (arith, l) in no)
element (x ∷ xs) zero l = (x, λ d. refl)
element (x ∷ xs) (suc i) l = element xs i (omega (arith, l))

-- the sum of what is nothing between
pub sum-skip : (weight : HeadSet → ℕ) (sets : List HeadSet) (from to : ℕ) → from ≤ to → to ≤ length sets → ((k : ℕ) (d : HeadSet) → from ≤ k → k < to → weight (get_or sets k d) ≡ 0)
    → sum_by weight (take to sets) ≡ sum_by weight (take from sets)
sum-skip weight sets from to low within none =
    let e : to ≡ from + (to - from) = omega (arith, low) in
    ap (λ k. sum_by weight (take k sets)) e ∙ at (to - from) (omega (arith, e))
  where
    at : (n : ℕ) → from + n ≤ to → sum_by weight (take (from + n) sets) ≡ sum_by weight (take from sets)
    at zero l = let e : from + 0 ≡ from = omega arith in ap (λ k. sum_by weight (take k sets)) e
    at (suc n) l =
        let low : from + n < length sets = omega (arith, l, within) in
        let e : from + suc n ≡ from + n + 1 = omega arith in
        ap (λ k. sum_by weight (take k sets)) e ∙ one n low l (at n (omega (arith, l)))
      where
        one : (n : ℕ) → from + n < length sets → from + suc n ≤ to → sum_by weight (take (from + n) sets) ≡ sum_by weight (take from sets) → sum_by weight (take (from + n + 1) sets) ≡ sum_by weight (take from sets)
        one n low l so_far = at_set (element sets (from + n) low)
          where
            at_set : (x : HeadSet) × ((d : HeadSet) → get_or sets (from + n) d ≡ x) → sum_by weight (take (from + n + 1) sets) ≡ sum_by weight (take from sets)
            at_set x = omega (arith, sum_by_more weight sets (from + n) x.0 low, none (from + n) x.0 (omega arith) (omega (arith, l)), so_far)

-- a longer front has no less
sum-grows : (weight : HeadSet → ℕ) (sets : List HeadSet) (from to : ℕ) → from ≤ to → to ≤ length sets → sum_by weight (take from sets) ≤ sum_by weight (take to sets)
sum-grows weight sets from to low within =
    let e : to ≡ from + (to - from) = omega (arith, low) in
    subst (λ k. sum_by weight (take from sets) ≤ sum_by weight (take k sets)) (sym e) (at (to - from) (omega (arith, e)))
  where
    at : (n : ℕ) → from + n ≤ to → sum_by weight (take from sets) ≤ sum_by weight (take (from + n) sets)
    at zero l = let e : from ≡ from + 0 = omega arith in subst (λ k. sum_by weight (take from sets) ≤ sum_by weight (take k sets)) e (omega arith)
    at (suc n) l =
        let e : from + n + 1 ≡ from + suc n = omega arith in
        let r = element sets (from + n) (omega (arith, l, within)) in
        subst (λ k. sum_by weight (take from sets) ≤ sum_by weight (take k sets)) e (omega (arith, at n (omega (arith, l)), sum_by_more weight sets (from + n) r.0 (omega (arith, l, within))))

-- The sets whose heads begin the path rest, up to one, and the others are as they were.
pub record RestedSoFar (path : List ℕ) (given sets : List HeadSet) (from effort : ℕ) : Type 0 where
  pub within : from ≤ length sets
  pub idle : All (IsIdleBeside path) given
  pub heads : set_heads sets ≡ set_heads given
  pub own : (sources : List SetSource) → All (IsHeadSetOf sources) given → All (IsHeadSetOf sources) sets
  pub total : sum_by total_of sets ≡ sum_by total_of given
  pub rest : (k : ℕ) (d : HeadSet) → from ≤ k → get_or sets k d ≡ get_or given k d
  pub at_rest : AllWithin IsAtRest sets 0 from
  pub counted : Counts 0 (sum_by effort_of (take from given)) effort
  pub few : All (IsLittleStepped path) given → effort ≤ sum_by (most_effort path) (take from given)

-- further on, where no head between begins the path
pub rested-skip : (path : List ℕ) (given sets : List HeadSet) (from to effort : ℕ) → RestedSoFar path given sets from effort → from ≤ to → to ≤ length sets → NoneBegun (set_heads given) path from to
    → RestedSoFar path given sets to effort
rested-skip path given sets from to effort are further within none = record {
  within = within;
  idle = are.idle;
  heads = are.heads;
  own = are.own;
  total = are.total;
  rest = λ k d l. are.rest k d (omega (arith, further, l));
  at_rest = λ k d a l. elim (cases_lt k from) [
    | inl less ↦ are.at_rest k d a less
    | inr g ↦ subst IsAtRest (sym (are.rest k d g)) (idle-between k d g l)
  ];
  counted = subst (λ e. Counts 0 e effort) (sym (sum-skip effort_of given from to further low (λ k d a l. rest-effort (get_or given k d) (idle-between k d a l)))) are.counted;
  few = λ little. omega (arith, are.few little, sum-grows (most_effort path) given from to further low);
}
  where
    low : to ≤ length given
    low = omega (arith, within, same-length given sets are.heads)

    idle-between : (k : ℕ) (d : HeadSet) → from ≤ k → k < to → IsAtRest (get_or given k d)
    idle-between k d a l = are.idle k d (omega (arith, l, low)) (off-between path given from to low none k d a l)

-- ---- the next spec of sets

-- no spec with a head that doesn't begin the path matches
headless-next : (h : List ℕ) (specs : List Numbered) (path : List ℕ) (from : ℕ) → begins_with path h ≡ false → IsNext (is_of_head h) specs path from None
headless-next h specs path from off k n a l is so table is_dir =
    let own : head n.spec ≡ h = (bytes_eq-Decides (head n.spec) h).0 (and_parts (has_source n.spec) (bytes_eq (head n.spec) h) so).1 in
    unmatched-headless table n.spec path is_dir (ap (begins_with path) own ∙ off)

-- so the next spec stays where the heads between don't begin the path
pub next-skip : (specs : List Numbered) (path : List ℕ) (from : ℕ) (hs : List (List ℕ)) (asked to : ℕ) (next : Option ℕ) → asked ≤ to → to ≤ length hs → NoneBegun hs path asked to
    → IsNext (is_of_heads (take asked hs)) specs path from next → IsNext (is_of_heads (take to hs)) specs path from next
next-skip specs path from hs asked to next low within none first =
    let e : to ≡ asked + (to - asked) = omega (arith, low) in
    subst (λ k. IsNext (is_of_heads (take k hs)) specs path from next) (sym e) (at (to - asked) (omega (arith, e)))
  where
    at : (n : ℕ) → asked + n ≤ to → IsNext (is_of_heads (take (asked + n) hs)) specs path from next
    at zero l = let e : asked ≡ asked + 0 = omega arith in subst (λ k. IsNext (is_of_heads (take k hs)) specs path from next) e first
    at (suc n) l =
        let e : asked + n + 1 ≡ asked + suc n = omega arith in
        let h = head_at hs (asked + n) in
        let more = next-of-both (is_of_heads (take (asked + n) hs)) (is_of_head h) (is_of_heads (take (asked + n) hs ++ h ∷ [])) (of-more (take (asked + n) hs) h) specs path from next None (at n (omega (arith, l)))
        (headless-next h specs path from (none (asked + n) (omega arith) (omega (arith, l)))) in
        subst (λ k. IsNext (is_of_heads (take k hs)) specs path from next) e
        (subst (λ gs. IsNext (is_of_heads gs) specs path from next) (sym (take_more hs (asked + n) [] (omega (arith, l, within)))) (subst (IsNext (is_of_heads (take (asked + n) hs ++ h ∷ [])) specs path from) (earlier-none next) more))
      where
        earlier-none : (o : Option ℕ) → earlier o None ≡ o
        earlier-none None = refl
        earlier-none (Some p) = refl
