-- Excludes that are asked one by one: what they take, and that a directory which they take begins with their heads.
use Rattle.std.proofs.Common.{◌≡◌, ℕ, suc, zero, ◌+◌, ◌-◌, ◌%◌, ◌^◌, ◌<◌, ◌≤◌, Bool, true, false, not, ◌&&◌, ◌||◌, cond, inl, inr, ◌⊎◌, refl, sym, ◌∙◌, ap, subst, List, [], ◌∷◌, ◌++◌, length, take, drop, filter, find, slice_get, get_or, All, Option, Some, None, is_some, arith, length-append}
use Rattle.std.proofs.lemmas.Bool.{and_parts, and_from, or_cases, or_left, or_right, cases_Bool, both_ways, not-true, not_from_false, false_from_ne_true}
use Rattle.std.proofs.lemmas.List.Elements.{All-filter, All-map, filter-append}
use Rattle.std.specs.List.{list_any, before_first}
use Rattle.std.proofs.lemmas.List.{take-append-drop, append-nil, length-take-le, drop_all, take_more, map-append}
use Rattle.std.proofs.Math.Seq.{drop-append_seam}
use Rattle.pathspec_pattern.specs.declared.SearchMode.{SearchMode}
use Rattle.pathspec_pattern.specs.declared.SearchMode.TheVariants.{ShellGlob, Literal, PathAwareGlob}
use Rattle.pathspec_glob.specs.Counts.{Counts}
use Rattle.pathspec_glob.specs.Globs.{GlobSource, AnswersGlob, GlobIsRelation}
use Rattle.gix_pathspec.specs.SkipCounts.{asks_excludes, exclude_count, IsExcludeCounted, IsExcludeSetCounted, IsSkipCounted}
use Rattle.gix_pathspec.specs.Bytes.{slash, is_empty, is_wildcard, fold_case, begins_with}
use Rattle.gix_pathspec.specs.Paths.{ends_with_slash, without_last_slash}
use Rattle.gix_pathspec.specs.Tokens.{tokens}
use Rattle.gix_pathspec.specs.GlobRelation.{matches}
use Rattle.gix_pathspec.specs.Specs.{Spec, is_exclude, ignores_case, wants_directory, always_matches, has_wildcard, prefix_directory}
use Rattle.gix_pathspec.specs.Prefixes.{stem, IsFrontOf}
use Rattle.gix_pathspec.specs.Plain.{has_one_case}
use Rattle.gix_pathspec.specs.Matching.{case_of, glob_matches, is_in_prefix_directory, is_verbatim_match, is_prefix_match, fits}
use Rattle.gix_pathspec.specs.Room.{glob_in_mode, glob_of, tokens_of}
use Rattle.gix_pathspec.specs.Search.{Numbered, MatchCounts, BeginsCounts, specs_of}
use Rattle.gix_pathspec.specs.Skipping.{fits_plainly, takes_whole, takes_rest, has_open_end}
use Rattle.gix_pathspec.specs.Reach.{can_take_rest, is_subtree_exclude, subtree_excludes_of, takes_by_path}
use Rattle.gix_pathspec.specs.SubtreeExcludes.{as_subtree_exclude, rest_glob, covers, exclude_head, subtree_exclude_count}
use Rattle.gix_pathspec.proofs.BeginsProofs.{front-itself, front-through, begins_with-from_front, front-from_length}
use Rattle.gix_pathspec.proofs.HeadProofs.{fits-head, glob_stem, stem-at_false, is_in_prefix_directory-front, not_nil, head_sensitive}
use Rattle.gix_pathspec.proofs.SkipProofs.{plainly-fits}

-- ---- what such an exclude takes

same-test : (a b : Bool) → (a ≡ true → b ≡ true) → (b ≡ true → a ≡ true) → a ≡ b
same-test true b f g = sym (f refl)
same-test false true f g = g refl
same-test false false f g = refl

-- the answer of a glob in its mode
pub in-mode : (m : SearchMode) (s : Spec) (g : GlobSource) (text : List ℕ) → Some g ≡ glob_in_mode m s.path → matches g.mode (case_of s) (tokens g.mode g.pattern) text ≡ glob_matches m s text
in-mode ShellGlob s g text e = cc
in-mode Literal s g text e = cc
in-mode PathAwareGlob s g text e = cc

-- a glob to be asked by is that of a spec which can take the rest
rest-parts : (s : Spec) (g : GlobSource) → Some g ≡ rest_glob s → (can_take_rest s ≡ true) × (Some g ≡ glob_in_mode s.mode s.path)
rest-parts s g e = at (can_take_rest s) refl (has_wildcard s) refl
  where
    at : (b : Bool) → can_take_rest s ≡ b → (w : Bool) → has_wildcard s ≡ w → (can_take_rest s ≡ true) × (Some g ≡ glob_in_mode s.mode s.path)
    at false h w k = let no : Some g ≡ None = e ∙ ap (λ b. cond b (glob_of s) None) h in cc
    at true h false k = let no : Some g ≡ None = e ∙ (ap (λ b. cond b (glob_of s) None) h ∙ ap (λ b. cond b (glob_in_mode s.mode s.path) None) k) in cc
    at true h true k = (h, e ∙ (ap (λ b. cond b (glob_of s) None) h ∙ ap (λ b. cond b (glob_in_mode s.mode s.path) None) k))

-- the answer of its glob says whether it takes the rest
pub glob-takes : (s : Spec) (g : GlobSource) (text : List ℕ) (given : Bool) (steps : ℕ) → Some g ≡ rest_glob s → GlobIsRelation → AnswersGlob g.mode (case_of s) g.pattern text given steps → given ≡ (can_take_rest s && glob_matches s.mode s text)
glob-takes s g text given steps e function a =
    let p = rest-parts s g e in
    let f = function g.mode (case_of s) (tokens g.mode g.pattern) text in
    let is : given ≡ glob_matches s.mode s text = same-test given (matches g.mode (case_of s) (tokens g.mode g.pattern) text) (λ h. f.1 (a.relation.0 h)) (λ h. a.relation.1 (f.0 h)) ∙ in-mode s.mode s g text p.1 in
    rw p.0 is

-- ---- as the code asks

-- what is known of such an exclude
pub record IsOne (s : Spec) : Type 0 where
  pub free : is_empty s.attributes ≡ true
  pub never : always_matches s ≡ false
  pub excludes : is_exclude s ≡ true

pub exclude-parts : (s : Spec) → is_subtree_exclude s ≡ true → IsOne s
exclude-parts s h =
    let p = and_parts (takes_by_path s) (can_take_rest s || not (has_one_case s)) h in
    let q = and_parts (is_exclude s && is_empty s.attributes) (not (always_matches s)) p.0 in
    let r = and_parts (is_exclude s) (is_empty s.attributes) q.0 in
    record { free = r.1; never = not-true (always_matches s) q.1; excludes = r.0 }

module _ (s : Spec) (d : List ℕ) (is : is_subtree_exclude s ≡ true) where
  -- the question in its parts
  exclude-ways : covers s d ≡ (is_in_prefix_directory s d true && (is_verbatim_match s d true || is_prefix_match s d)
      || not (wants_directory s) && has_wildcard s && is_in_prefix_directory s d true && has_open_end s.mode s && glob_matches s.mode s (d ++ slash ∷ []))
  unfolding covers takes_whole takes_rest
  exclude-ways = let p = exclude-parts s is in rw (is, p.free, p.never) refl

  pub exclude-lost : is_in_prefix_directory s d true ≡ false → false ≡ covers s d
  exclude-lost k = sym (exclude-ways ∙ rw k (lost (not (wants_directory s)) (has_wildcard s) (has_open_end s.mode s) (glob_matches s.mode s (d ++ slash ∷ []))))
    where
      lost : (n w o g : Bool) → (n && w && false && o && g) ≡ false
      lost true true o g = refl
      lost true false o g = refl
      lost false w o g = refl

  pub exclude-whole : is_in_prefix_directory s d true ≡ true → (is_verbatim_match s d true || is_prefix_match s d) ≡ true → true ≡ covers s d
  exclude-whole k h = sym (exclude-ways ∙ rw (k, h) refl)

  pub exclude-rest : is_in_prefix_directory s d true ≡ true → is_verbatim_match s d true ≡ false → is_prefix_match s d ≡ false → (can_take_rest s && glob_matches s.mode s (d ++ slash ∷ [])) ≡ covers s d
  exclude-rest k v p =
      let glob = glob_matches s.mode s (d ++ slash ∷ []) in
      let same = rest (not (wants_directory s)) (has_wildcard s) (has_open_end s.mode s) glob in
      let short : (can_take_rest s && glob) ≡ (not (wants_directory s) && has_wildcard s && true && has_open_end s.mode s && glob) = rw (exclude-parts s is).free same in
      let long : covers s d ≡ (not (wants_directory s) && has_wildcard s && true && has_open_end s.mode s && glob) = exclude-ways ∙ (rw (k, v, p) refl) in
      short ∙ sym long
    where
      rest : (n w o g : Bool) → (n && w && o && g) ≡ (n && w && true && o && g)
      rest true true o g = refl
      rest true false o g = refl
      rest false w o g = refl

-- ---- which specs are such excludes

-- what is there, as a list
abbrev pub option_list : {X : Type 0} → Option X → List X
option_list None = []
option_list (Some x) = x ∷ []

-- one that can take the rest, or has a prefix directory before a path without case
pub is-exclude : (s : Spec) → takes_by_path s ≡ true → (can_take_rest s ≡ true) ⊎ (has_one_case s ≡ false) → is_subtree_exclude s ≡ true
is-exclude s h w = and_from (takes_by_path s) (can_take_rest s || not (has_one_case s)) h (elim w [
  | inl r ↦ or_left (can_take_rest s) (not (has_one_case s)) r
  | inr o ↦ or_right (can_take_rest s) (not (has_one_case s)) (not_from_false (has_one_case s) o)
])

pub as_subtree_exclude-one : (s t : Spec) → is_subtree_exclude s ≡ true → t ≡ s → Some t ≡ as_subtree_exclude s
as_subtree_exclude-one s t h e = rw (e, h) refl

pub has-rest : (s : Spec) (glob : Option GlobSource) {told : Bool} → glob ≡ rest_glob s → is_some glob ≡ not told → told ≡ false → can_take_rest s ≡ true
has-rest s None e t f = let no : false ≡ true = t ∙ ap not f in cc
has-rest s (Some g) e t f = (rest-parts s g e).0

pub exclude-same : (s t : Spec) → as_subtree_exclude s ≡ Some t → t ≡ s
exclude-same s t e = at (is_subtree_exclude s) refl
  where
    at : (b : Bool) → is_subtree_exclude s ≡ b → t ≡ s
    at true h = let is : Some s ≡ Some t = rw h at e in cc
    at false h = let no : None ≡ Some t = rw h at e in cc

-- one more spec
pub excludes-more : (specs : List Numbered) (i : ℕ) (n : Numbered) (exclude : Option Spec) → i < length specs → n ≡ get_or specs i n → exclude ≡ as_subtree_exclude n.spec
    → subtree_excludes_of (specs_of (take (i + 1) specs)) ≡ subtree_excludes_of (specs_of (take i specs)) ++ option_list exclude
excludes-more specs i n exclude l read e =
    let front : take (i + 1) specs ≡ take i specs ++ n ∷ [] = take_more specs i n l ∙ ap (λ m. take i specs ++ m ∷ []) (sym read) in
    ap (λ (ns : List Numbered). subtree_excludes_of (specs_of ns)) front
    ∙ (ap subtree_excludes_of (map-append (λ m. m.spec) (take i specs) (n ∷ []))
    ∙ (filter-append is_subtree_exclude (specs_of (take i specs)) (n.spec ∷ []) ∙ ap (λ ts. subtree_excludes_of (specs_of (take i specs)) ++ ts) (one (is_subtree_exclude n.spec) refl ∙ ap option_list (sym e))))
  where
    one : (b : Bool) → is_subtree_exclude n.spec ≡ b → filter is_subtree_exclude (n.spec ∷ []) ≡ option_list (as_subtree_exclude n.spec)
    one true h = rw h refl
    one false h = rw h refl

-- ---- its head begins what it takes

last_slash : (front : List ℕ) → ends_with_slash (front ++ slash ∷ []) ≡ true
last_slash front =
    let at : length (front ++ slash ∷ []) - 1 ≡ length front = omega (arith, length-append front (slash ∷ [])) in
    rw (at, drop-append_seam front (slash ∷ [])) refl

without-front : (x : List ℕ) → IsFrontOf (without_last_slash x) x
without-front x = at (ends_with_slash x)
  where
    at : (b : Bool) → IsFrontOf (cond b (take (length x - 1) x) x) x
    at true = (drop (length x - 1) x, sym (take-append-drop (length x - 1) x))
    at false = front-itself x

-- a front of a directory and a slash is no longer than the directory, without its own last slash
without-short : (x d : List ℕ) → IsFrontOf x (d ++ slash ∷ []) → length (without_last_slash x) ≤ length d
without-short x d p = at (ends_with_slash x) refl p.0 p.1
  where
    at : (b : Bool) → ends_with_slash x ≡ b → (rest : List ℕ) → d ++ slash ∷ [] ≡ x ++ rest → length (cond (ends_with_slash x) (take (length x - 1) x) x) ≤ length d
    at true h rest e = rw h (omega (arith, length-take-le (length x - 1) x (omega arith), ap length e, length-append d (slash ∷ []), length-append x rest))
    at false h [] e = absurd (both_ways (ends_with_slash x) h (subst (λ y. ends_with_slash y ≡ true) (e ∙ append-nil x) (last_slash d)))
    at false h (c ∷ rest) e = rw h (omega (arith, ap length e, length-append d (slash ∷ []), length-append x (c ∷ rest)))

-- so it begins the directory
front-without : (x d : List ℕ) → IsFrontOf x (d ++ slash ∷ []) → IsFrontOf (without_last_slash x) d
front-without x d p = front-from_length (without_last_slash x) d (d ++ slash ∷ []) (front-through (without_last_slash x) x (d ++ slash ∷ []) (without-front x) p) (slash ∷ [], refl) (without-short x d p)

-- the prefix directory is kept, and the exclude fits the directory or its glob matches this one and a slash
ways : (s : Spec) (d : List ℕ) → covers s d ≡ true → IsOne s × (is_in_prefix_directory s d true ≡ true) × ((fits s d true ≡ true) ⊎ (glob_matches s.mode s (d ++ slash ∷ []) ≡ true))
unfolding covers takes_whole takes_rest
ways s d h =
    let whole = is_empty s.attributes && fits_plainly s d true in
    let kept = is_in_prefix_directory s d true in
    let front = is_empty s.attributes && not (wants_directory s) && has_wildcard s in
    let ended = has_open_end s.mode s in
    let glob = glob_matches s.mode s (d ++ slash ∷ []) in
    let p = and_parts (is_subtree_exclude s) (whole || front && kept && ended && glob) h in
    elim (or_cases whole (front && kept && ended && glob) p.1) [
      | inl w ↦
          let q = and_parts (is_empty s.attributes) (fits_plainly s d true) w in
          (exclude-parts s p.0, (and_parts kept (always_matches s || is_verbatim_match s d true || is_prefix_match s d) q.1).0, inl (plainly-fits s d true q.1))
      | inr r ↦
          let q = and_parts (front && kept && ended) glob r in
          let t = and_parts (front && kept) ended q.0 in
          (exclude-parts s p.0, (and_parts front kept t.0).1, inr q.1)
    ]

begins : (s : Spec) (d : List ℕ) → covers s d ≡ true → begins_with d (exclude_head s) ≡ true
begins s d h =
    let w = ways s d h in
    let n = not_nil s w.0.never in
    elim (cases_Bool (ignores_case s)) [
      | inl i ↦ rw i (begins_with-from_front (prefix_directory s) d (is_in_prefix_directory-front s d true i w.1))
      | inr i ↦ rw i (begins_with-from_front (without_last_slash (stem s)) d (elim w.2 [
        | inl f ↦ front-through (without_last_slash (stem s)) (stem s) d (without-front (stem s)) (subst (λ x. IsFrontOf x d) (head_sensitive s n i) (fits-head s d true f))
        | inr g ↦
            let folded = glob_stem s.mode s (d ++ slash ∷ []) g in
            front-without (stem s) d (subst (λ x. IsFrontOf x (d ++ slash ∷ [])) (sym (stem-at_false s n)) (subst (λ f. IsFrontOf (fold_case f (before_first is_wildcard s.path)) (fold_case f (d ++ slash ∷ []))) i folded))
      ]))
    ]

pub headless : (d : List ℕ) (s : Spec) → begins_with d (exclude_head s) ≡ false → covers s d ≡ false
headless d s h = false_from_ne_true (covers s d) (λ t. both_ways (begins_with d (exclude_head s)) h (begins s d t))

-- ---- one after the other

pub element-at : {X : Type 0} (xs : List X) (i : ℕ) → i < length xs → (x : X) × (slice_get xs i ≡ Some x)
element-at [] i l = absurd (omega (arith, l))
element-at (x ∷ xs) zero l = (x, refl)
element-at (x ∷ xs) (suc i) l = element-at xs i (omega (arith, l))

module _ {X : Type 0} (test : X → Bool) where
  pub passes-at : (xs : List X) (i : ℕ) (x : X) → slice_get xs i ≡ Some x → true ≡ test x → true ≡ list_any test xs
  passes-at [] i x e t = cc
  passes-at (y ∷ xs) zero x e t = let same : y ≡ x = cc in rw (same, sym t) refl
  passes-at (y ∷ xs) (suc i) x e t = at (test y) (passes-at xs i x e t)
    where
      at : (b : Bool) → true ≡ list_any test xs → true ≡ (b || list_any test xs)
      at true h = refl
      at false h = h

  pub fails-at : (xs : List X) (i : ℕ) (x : X) → slice_get xs i ≡ Some x → false ≡ test x → find test (drop i xs) ≡ find test (drop (i + 1) xs)
  fails-at [] i x e t = cc
  fails-at (y ∷ xs) zero x e t = let same : y ≡ x = cc in rw (same, sym t) refl
  fails-at (y ∷ xs) (suc i) x e t = let n : suc (i + 1) ≡ suc i + 1 = omega arith in fails-at xs i x e t ∙ ap (λ m. find test (drop m (y ∷ xs))) n

  pub none-passes : (xs : List X) → find test xs ≡ None → false ≡ list_any test xs
  none-passes [] e = refl
  none-passes (x ∷ xs) e = at (test x) refl (none-passes xs)
    where
      at : (b : Bool) → test x ≡ b → (find test xs ≡ None → false ≡ list_any test xs) → false ≡ list_any test (x ∷ xs)
      at true t later = let no : Some x ≡ None = rw t at e in cc
      at false t later = let others : find test xs ≡ None = rw t at e in rw t (later others)

  -- none of those that are left passes
  pub none-left-passes : (xs : List X) (n : ℕ) → length xs ≤ n → find test (drop n xs) ≡ find test xs → false ≡ list_any test xs
  none-left-passes xs n l e = none-passes xs (sym e ∙ ap (find test) (drop_all n xs l))

-- ---- room

-- a scratch that fits the specs has room for the globs of these excludes
pub excludes-fit : (specs : List Numbered) (tokens : ℕ) → All (λ n. tokens_of n.spec ≤ tokens) specs → All (λ s. tokens_of s ≤ tokens) (subtree_excludes_of (specs_of specs))
excludes-fit specs tokens h = All-filter is_subtree_exclude (λ s. tokens_of s ≤ tokens) (specs_of specs) (All-map (λ s. tokens_of s ≤ tokens) (λ n. n.spec) specs h)

-- ---- how many are asked

module _ (d : List ℕ) where
  -- each of these excludes is an exclude
  exclude-is-exclude : (s : Spec) → is_subtree_exclude s ≡ true → is_exclude s ≡ true
  exclude-is-exclude s t = (and_parts (is_exclude s) (is_empty s.attributes) (and_parts (is_exclude s && is_empty s.attributes) (not (always_matches s)) (and_parts (takes_by_path s) (can_take_rest s || not (has_one_case s)) t).0).0).0

  abbrev is_headed : Spec → Bool
  is_headed s = begins_with d (exclude_head s)

  excludes-few : (specs : List Spec) → subtree_exclude_count (subtree_excludes_of specs) d ≤ exclude_count specs d
  excludes-few [] = omega arith
  excludes-few (s ∷ ss) = elim (cases_Bool (is_subtree_exclude s)) [
    | inl t ↦ rw (t, exclude-is-exclude s t) (both (is_headed s) (excludes-few ss))
    | inr f ↦ rw f (more (is_exclude s && is_headed s) (excludes-few ss))
  ]
    where
      both : (b : Bool) → subtree_exclude_count (subtree_excludes_of ss) d ≤ exclude_count ss d
          → length (cond b (s ∷ filter is_headed (subtree_excludes_of ss)) (filter is_headed (subtree_excludes_of ss))) ≤ length (cond b (s ∷ filter (λ s. is_exclude s && is_headed s) ss) (filter (λ s. is_exclude s && is_headed s) ss))
      both true few = omega (arith, few)
      both false few = few

      more : (b : Bool) → subtree_exclude_count (subtree_excludes_of ss) d ≤ exclude_count ss d → subtree_exclude_count (subtree_excludes_of ss) d ≤ length (cond b (s ∷ filter (λ s. is_exclude s && is_headed s) ss) (filter (λ s. is_exclude s && is_headed s) ss))
      more true few = omega (arith, few)
      more false few = few

  excludes-shorter : (specs : List Spec) → length (subtree_excludes_of specs) ≤ length specs
  excludes-shorter [] = omega arith
  excludes-shorter (s ∷ ss) = at (is_subtree_exclude s) (excludes-shorter ss)
    where
      at : (t : Bool) → length (subtree_excludes_of ss) ≤ length ss → length (cond t (s ∷ subtree_excludes_of ss) (subtree_excludes_of ss)) ≤ length (s ∷ ss)
      at true few = omega (arith, few)
      at false few = omega (arith, few)

  -- What was asked of these excludes, from counts that were begun, is counted as what was asked of the specs.
  pub skip-counted : (specs : List Spec) (old begun new : MatchCounts) → BeginsCounts old begun → IsExcludeCounted (subtree_excludes_of specs) d begun new
      → IsExcludeSetCounted true (subtree_excludes_of specs) d begun new → IsSkipCounted specs d old new
  skip-counted specs old begun new b c set = record {
    asked = record {
      tested = subst (λ k. Counts k new.last_tested new.tested) b.tested c.tested;
      compared = subst (λ k. Counts k new.last_compared new.compared) b.compared c.compared;
      few_tested = omega (arith, c.few_tested, excludes-few specs);
      few_compared = λ b few. c.few_compared b (omega (arith, few, excludes-shorter specs));
    };
    by_set = record {
      steps = record { stepped = subst (λ k. Counts k new.last_stepped new.stepped) b.stepped set.steps.stepped; few_stepped = set.steps.few_stepped };
      beside = set.beside;
      told = λ asked. set.told refl;
    };
  }

  -- Where the excludes aren't asked, nothing was.
  pub skip-unasked : (specs : List Spec) (old new : MatchCounts) → BeginsCounts old new → asks_excludes specs d ≡ false → IsSkipCounted specs d old new
  skip-unasked specs old new begun off = record {
    asked = record {
      tested = none begun.tested begun.last_tested;
      compared = none begun.compared begun.last_compared;
      few_tested = rw begun.last_tested (omega arith);
      few_compared = λ b small. rw begun.last_compared (omega arith);
    };
    by_set = record {
      steps = record { stepped = none begun.stepped begun.last_stepped; few_stepped = rw begun.last_stepped (omega arith) };
      beside = λ told. absurd (both_ways new.last_by_set begun.last_by_set told);
      told = λ asked. absurd (both_ways (asks_excludes specs d) off asked);
    };
  }
    where
      none : {before after n : ℕ} → after ≡ before → n ≡ 0 → Counts before n after
      none {before} {after} {n} same nil = rw (same, nil) (ap (λ k. k % 2 ^ 128) (omega arith))
