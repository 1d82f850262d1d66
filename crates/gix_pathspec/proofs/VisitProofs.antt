-- What the match of a directory tells of skipping it.
use Rattle.std.proofs.Common.{◌≡◌, ◌≢◌, ◌%◌, ◌^◌, arith, ℕ, Bool, true, false, not, ◌&&◌, ◌||◌, inl, inr, refl, sym, ◌∙◌, ap, subst, List, [], ◌∷◌, length, Option, Some, None, cond}
use Rattle.std.proofs.lemmas.Bool.{and_from, or_left, or_right, cases_Bool, both_ways}
use Rattle.std.specs.Prelude.{MatchBool, find}
use Rattle.std.specs.List.{list_any}
use Rattle.gix_pathspec.specs.Effort.{IsCounted, IsSetCounted}
use Rattle.gix_pathspec.specs.SkipCounts.{asks_excludes, IsSkipCounted, IsVisitCounted}
use Rattle.gix_pathspec.specs.declared.search.MatchKind.{MatchKind}
use Rattle.gix_pathspec.specs.declared.search.MatchKind.TheVariants.{Always, Prefix, WildcardMatch, Verbatim}
use Rattle.gix_pathspec.specs.Bytes.{is_empty, begins_with}
use Rattle.gix_pathspec.specs.Attributes.{Table}
use Rattle.gix_pathspec.specs.Specs.{Spec, is_exclude, is_include, always_matches}
use Rattle.gix_pathspec.specs.Reading.{nil_spec}
use Rattle.gix_pathspec.specs.Matching.{is_chosen, is_in_prefix_directory, is_glob_match, is_verbatim_match, is_prefix_match, fit, spec_matches}
use Rattle.gix_pathspec.specs.Prefixes.{common_prefix}
use Rattle.gix_pathspec.specs.Pruning.{reaches, can_match}
use Rattle.gix_pathspec.specs.Search.{BeginsCounts, MatchCounts, Numbered, Answer, specs_of, in_search_order, answer, answer_of, answer_with, selects}
use Rattle.gix_pathspec.specs.Skipping.{fits_plainly, takes_whole, takes_rest, is_without_glob, found_takes_whole, answer_takes_whole, is_unshadowed, holds_nothing, may_skip}
use Rattle.gix_pathspec.specs.SkipLaws.{FoundIsSkipped}
use Rattle.gix_pathspec.specs.SkipTables.{holds_nothing_by_tables}
use Rattle.gix_pathspec.specs.SelectionLaws.{NoNilPrefix}
use Rattle.pathspec_glob.specs.Counts.{Counts}
use Rattle.gix_pathspec.proofs.ChosenProofs.{chosen_is_test}
use Rattle.gix_pathspec.proofs.SkipProofs.{nothing_is_chosen}
use Rattle.gix_pathspec.proofs.SubtreeExcludeProofs.{skip-unasked}
use Rattle.gix_pathspec.proofs.SkipTableProofs.{tables-hold_nothing, tables-skip}
use Rattle.gix_pathspec.proofs.NotChosenProofs.{all_three}
use Rattle.gix_pathspec.proofs.SelectedProofs.{list_any-map, selects_chosen}

-- ---- one exclude

-- what came to match in another way than by the glob
not_by_glob : (k a g v p : Bool) (kind : MatchKind) → cond k (cond a (Some Always) (cond g (Some WildcardMatch) (cond v (Some Verbatim) (cond p (Some Prefix) None)))) None ≡ Some kind
    → is_without_glob kind ≡ true → (k && (a || v || p)) ≡ true
not_by_glob false a g v p kind h n = cc
not_by_glob true true g v p kind h n = refl
not_by_glob true false true v p kind h n = let e : kind ≡ WildcardMatch = cc in absurd (both_ways (is_without_glob kind) (ap is_without_glob e) n)
not_by_glob true false false true p kind h n = refl
not_by_glob true false false false true kind h n = refl
not_by_glob true false false false false kind h n = cc

-- an exclude without attributes that fits a directory otherwise than by its glob takes it whole
found_whole : (s : Spec) (d : List ℕ) (kind : MatchKind) → is_empty s.attributes ≡ true → fit s d true ≡ Some kind → is_without_glob kind ≡ true → takes_whole s d ≡ true
unfolding takes_whole fit
found_whole s d kind e h n =
    and_from (is_empty s.attributes) (fits_plainly s d true) e
    (not_by_glob (is_in_prefix_directory s d true) (always_matches s) (is_glob_match s d true) (is_verbatim_match s d true) (is_prefix_match s d) kind h n)

-- the exclude takes the directory whole
abbrev excludes_whole : List ℕ → Spec → Bool
excludes_whole d e = is_exclude e && takes_whole e d

-- ---- the answer

-- the nil pattern is no exclude
not_by_nil : (n : ℕ) (a : Answer) → Some (record { pattern = nil_spec; number = n; kind = Always }) ≡ Some a → found_takes_whole a ≡ false
not_by_nil n a h = let e : record { pattern = nil_spec; number = n; kind = Always } ≡ a = cc in ap found_takes_whole (sym e)

-- where an include is there, none answers for all
not_by_default : (b : Bool) (n : ℕ) (a : Answer) → cond b None (Some (record { pattern = nil_spec; number = n; kind = Always })) ≡ Some a → found_takes_whole a ≡ false
not_by_default true n a h = cc
not_by_default false n a h = not_by_nil n a h

-- the spec that answers takes the directory whole
by_whole : (n : Numbered) (d : List ℕ) (o : Option MatchKind) (a : Answer) → fit n.spec d true ≡ o → answer_with n o ≡ Some a → found_takes_whole a ≡ true → excludes_whole d n.spec ≡ true
by_whole n d None a f h t = cc
by_whole n d (Some kind) a f h t =
    let e : a ≡ record { pattern = n.spec; number = n.number; kind = kind } = cc in
    let p = all_three (is_exclude n.spec) (is_empty n.spec.attributes) (is_without_glob kind) (ap found_takes_whole (sym e) ∙ t) in
    and_from (is_exclude n.spec) (takes_whole n.spec d) p.0 (found_whole n.spec d kind p.1 f p.2)

-- what is found stands in the list
any-found : {X : Type 0} (p q : X → Bool) (xs : List X) (x : X) → find p xs ≡ Some x → q x ≡ true → list_any q xs ≡ true
any-found p q [] x h t = cc
any-found p q (y ∷ xs) x h t = elim (cases_Bool (p y)) [
  | inl e ↦ let g = rw e at h in let same : y ≡ x = cc in or_left (q y) (list_any q xs) (ap q same ∙ t)
  | inr e ↦ let g = rw e at h in or_right (q y) (list_any q xs) (any-found p q xs x g t)
]

-- so a spec of the search takes the directory whole
some_whole : (search : List Numbered) (d : List ℕ) (p : Numbered → Bool) (o : Option Numbered) (a : Answer) → find p search ≡ o → answer_of search d true o ≡ Some a → found_takes_whole a ≡ true → list_any (excludes_whole d) (specs_of search) ≡ true
some_whole search d p None a f h t = absurd (both_ways (found_takes_whole a) (not_by_default (list_any is_include (specs_of search)) (length search) a h) t)
some_whole search d p (Some n) a f h t =
    list_any-map (excludes_whole d) (λ (m : Numbered). m.spec) search ∙ any-found p (λ m. excludes_whole d m.spec) search n f (by_whole n d (fit n.spec d true) a refl h t)

-- ---- a walk may skip it

-- one of three tests, the second
second_of_three : (a b c : Bool) → b ≡ true → (a || b || c) ≡ true
second_of_three true b c h = refl
second_of_three false b c h = or_left b c h

whole-skipped : (specs : List Spec) (d : List ℕ) → is_empty d ≡ false → list_any (excludes_whole d) specs ≡ true → may_skip specs d ≡ true
unfolding may_skip holds_nothing
whole-skipped specs d some h =
    let whole = list_any (excludes_whole d) specs in
    let unreached = list_any is_include specs && not (list_any (λ i. is_unshadowed specs i && reaches i d (Some true)) specs) in
    or_left (holds_nothing specs d) (not (is_empty d) && list_any (λ e. is_exclude e && takes_rest e d) specs)
    (and_from (not (is_empty d)) (not (can_match specs d (Some true)) || whole || unreached) (ap not some) (second_of_three (not (can_match specs d (Some true))) whole unreached h))

pub found_is_skipped : FoundIsSkipped
unfolding answer
found_is_skipped table search d a h t = elim (cases_Bool (is_empty d)) [
  | inl e ↦ let g = rw e at h in absurd (both_ways (found_takes_whole a) (not_by_nil 0 a g) t)
  | inr e ↦ elim (cases_Bool (begins_with d (common_prefix (specs_of search)))) [
    | inl b ↦ let g = rw (e, b) at h in whole-skipped (specs_of search) d e (some_whole search d (λ n. spec_matches table n.spec d true) _ a refl g t)
    | inr b ↦ let g = rw (e, b) at h in cc
  ]
]

-- so a directory may be skipped whose match takes it whole
pub visit-skipped : (table : Table) (search : List Numbered) (d : List ℕ) (is_dir : Bool) (o : Option Answer) → o ≡ answer table search d is_dir → is_dir ≡ true → answer_takes_whole o ≡ true → may_skip (specs_of search) d ≡ true
visit-skipped table search d is_dir None e k t = cc
visit-skipped table search d is_dir (Some a) e k t = found_is_skipped table search d a (ap (answer table search d) (sym k) ∙ sym e) t

-- ---- passed over

-- a directory that holds nothing is not chosen itself
held-not-chosen : (table : Table) (specs : List Spec) (d : List ℕ) → NoNilPrefix specs → holds_nothing specs d ≡ true → is_chosen table specs d true ≡ false
held-not-chosen table specs d no_nil h = elim (cases_Bool (is_chosen table specs d true)) [
  | inl e ↦ absurd (nothing_is_chosen table specs no_nil d h d true (inl (refl, refl)) ((chosen_is_test table specs d true).0 e))
  | inr e ↦ e
]

-- What is told of a directory where tables tell that it holds nothing: it isn't selected, and isn't entered.
pub passed-not-chosen : (table : Table) (specs : List Spec) (d : List ℕ) (is_dir : Bool) → NoNilPrefix specs → is_dir ≡ true → holds_nothing_by_tables specs d ≡ true → false ≡ is_chosen table specs d is_dir
passed-not-chosen table specs d is_dir no_nil k h = sym (ap (is_chosen table specs d) k ∙ held-not-chosen table specs d no_nil (tables-hold_nothing specs d h))

passed-path : (specs : List Spec) (d : List ℕ) → holds_nothing_by_tables specs d ≡ true → d ≢ []
passed-path specs [] h e = cc
passed-path specs (b ∷ d) h e = cc

pub passed-not-selected : (table : Table) (search : List Numbered) (d : List ℕ) (is_dir : Bool) → in_search_order search ≡ search → NoNilPrefix (specs_of search) → is_dir ≡ true → holds_nothing_by_tables (specs_of search) d ≡ true → false ≡ selects (answer table search d is_dir)
passed-not-selected table search d is_dir ordered no_nil k h = elim (cases_Bool (selects (answer table search d is_dir))) [
  | inl e ↦
      let chosen = (selects_chosen table search d is_dir ordered (passed-path (specs_of search) d h)).0 e in
      absurd (both_ways (is_chosen table (specs_of search) d is_dir) (sym (passed-not-chosen table (specs_of search) d is_dir no_nil k h)) ((chosen_is_test table (specs_of search) d is_dir).1 chosen))
  | inr e ↦ sym e
]

pub passed-not-entered : (specs : List Spec) (d : List ℕ) (is_dir : Bool) → holds_nothing_by_tables specs d ≡ true → false ≡ (is_dir && not (may_skip specs d))
passed-not-entered specs d true h = rw (tables-skip specs d h) refl
passed-not-entered specs d false h = refl

-- no excludes are asked where tables tell
pub tables-unasked : (specs : List Spec) (d : List ℕ) → holds_nothing_by_tables specs d ≡ true → asks_excludes specs d ≡ false
tables-unasked specs d h = at (is_empty d) (holds_nothing_by_tables specs d) h
  where
    at : (e b : Bool) → b ≡ true → (not e && not b) ≡ false
    at true b h = refl
    at false true h = refl
    at false false h = cc

-- what begins from old counts begins from itself
again : (old new : MatchCounts) → BeginsCounts old new → BeginsCounts new new
again old new b = record {
  last_tested = b.last_tested;
  last_compared = b.last_compared;
  last_stepped = b.last_stepped;
  last_by_set = b.last_by_set;
  last_gave_up = b.last_gave_up;
  tested = refl;
  compared = refl;
  stepped = refl;
}

-- nothing was asked, and that is counted
pub passed-counted : (specs : List Numbered) (path : List ℕ) (is_dir asks : Bool) (old new : MatchCounts) → is_dir ≡ true → holds_nothing_by_tables (specs_of specs) path ≡ true
    → BeginsCounts old new → IsVisitCounted specs path is_dir asks old new
passed-counted specs path is_dir asks old new k told begun = record {
  between = new;
  matched = record {
    tested = counts (begun.tested) begun.last_tested;
    compared = counts (begun.compared) begun.last_compared;
    few_tested = rw begun.last_tested (omega arith);
    few_compared = λ b small. rw begun.last_compared (omega arith);
  };
  by_set = rw (k, told) begun;
  skipped = asked asks;
}
  where
    counts : {before after n : ℕ} → after ≡ before → n ≡ 0 → Counts before n after
    counts {before} {after} {n} same none = rw (same, none) (ap (λ k. k % 2 ^ 128) (omega arith))

    asked : (a : Bool) → MatchBool a (IsSkipCounted (specs_of specs) path new new) (new ≡ new)
    asked true = skip-unasked path (specs_of specs) new new (again old new begun) (tables-unasked (specs_of specs) path told)
    asked false = refl

-- no tables tell of a directory, so it isn't passed over
not-passed : (b h : Bool) → (b ≡ true → h ≡ false) → (b && h) ≡ false
not-passed true h none = none refl
not-passed false h none = refl

-- A match and a question are counted from counts of which the totals stayed.
pub visit-counted : (specs : List Numbered) (path : List ℕ) (is_dir asks : Bool) (old mid between new : MatchCounts) → mid.tested ≡ old.tested → mid.compared ≡ old.compared → mid.stepped ≡ old.stepped
    → (is_dir ≡ true → holds_nothing_by_tables (specs_of specs) path ≡ false) → IsCounted specs path mid between → IsSetCounted specs path mid between
    → MatchBool asks (IsSkipCounted (specs_of specs) path between new) (new ≡ between) → IsVisitCounted specs path is_dir asks old new
visit-counted specs path is_dir asks old mid between new tested compared stepped none counted set skipped =
    let matched : IsSetCounted specs path old between = record {
      stepped = subst (λ k. Counts k between.last_stepped between.stepped) stepped set.stepped;
      few_stepped = set.few_stepped;
      once = set.once;
      told = set.told;
      gave_up = set.gave_up;
    } in
    record {
      between = between;
      matched = record {
        tested = subst (λ k. Counts k between.last_tested between.tested) tested counted.tested;
        compared = subst (λ k. Counts k between.last_compared between.compared) compared counted.compared;
        few_tested = counted.few_tested;
        few_compared = counted.few_compared;
      };
      by_set = rw (not-passed is_dir (holds_nothing_by_tables (specs_of specs) path) none) matched;
      skipped = skipped;
    }
