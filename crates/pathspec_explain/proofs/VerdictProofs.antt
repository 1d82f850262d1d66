-- What the answer of a search says of a path.
use Rattle.std.proofs.Common.{◌≡◌, ◌≢◌, ℕ, Bool, true, false, ◌&&◌, cond, refl, sym, ◌∙◌, ap, subst, List, [], ◌∷◌, ◌++◌, length, Option, Some, None, is_some, inl, inr}
use Rattle.std.proofs.lemmas.Bool.{and_parts, cases_Bool, both_ways, not_from_false, false_from_ne_true, or_right}
use Rattle.std.specs.Prelude.{find}
use Rattle.std.specs.List.{list_any}
use Rattle.gix_pathspec.specs.Bytes.{is_empty, begins_with}
use Rattle.gix_pathspec.specs.Attributes.{Table}
use Rattle.gix_pathspec.specs.declared.search.MatchKind.{MatchKind}
use Rattle.gix_pathspec.specs.declared.search.MatchKind.TheVariants.{Always}
use Rattle.gix_pathspec.specs.Reading.{nil_spec}
use Rattle.gix_pathspec.specs.Specs.{Spec, is_exclude, is_include}
use Rattle.gix_pathspec.specs.Matching.{fit, spec_matches}
use Rattle.gix_pathspec.specs.Prefixes.{common_prefix}
use Rattle.gix_pathspec.specs.Search.{Numbered, Answer, specs_of, answer, answer_of, answer_with}
use Rattle.gix_pathspec.proofs.BeginsProofs.{begins_with-from_front}
use Rattle.gix_pathspec.proofs.ChosenProofs.{contained_where, list_any-contained}
use Rattle.gix_pathspec.proofs.FoundProofs.{empty-nil}
use Rattle.gix_pathspec.proofs.SelectedProofs.{list_any-map, common_prefix-none, fitted_begins_common, fits-from_spec_matches}
use Rattle.pathspec_explain.specs.Verdicts.{Settles, IsSettledBy, NoneIncludes, NoneExcludes}

-- ---- what is found in a list

-- the element that is found, and what stands around it
record FoundAt {X : Type 0} (p : X → Bool) (xs : List X) (x : X) : Type 0 where
  before : List X
  after : List X
  stands : xs ≡ before ++ x ∷ after
  passes : p x ≡ true
  first : list_any p before ≡ false

find-parts : {X : Type 0} (p : X → Bool) (xs : List X) (x : X) → find p xs ≡ Some x → FoundAt p xs x
find-parts p [] x h = cc
find-parts p (y ∷ xs) x h = at (p y) refl h (find-parts p xs x)
  where
    at : (b : Bool) → p y ≡ b → cond b (Some y) (find p xs) ≡ Some x → (find p xs ≡ Some x → FoundAt p xs x) → FoundAt p (y ∷ xs) x
    at true e h rest = let same : y ≡ x = cc in record { before = []; after = xs; stands = ap (λ z. z ∷ xs) same; passes = subst (λ z. p z ≡ true) same e; first = refl }
    at false e h rest = let r = rest h in record { before = y ∷ r.before; after = r.after; stands = ap (λ z. y ∷ z) r.stands; passes = r.passes; first = rw e r.first }

find-nothing : {X : Type 0} (p : X → Bool) (xs : List X) → find p xs ≡ None → list_any p xs ≡ false
find-nothing p [] h = refl
find-nothing p (y ∷ xs) h = at (p y) refl h (find-nothing p xs)
  where
    at : (b : Bool) → p y ≡ b → cond b (Some y) (find p xs) ≡ None → (find p xs ≡ None → list_any p xs ≡ false) → list_any p (y ∷ xs) ≡ false
    at true e h rest = cc
    at false e h rest = rw e (rest h)

-- one that passes among others
any_there : {X : Type 0} (p : X → Bool) (before : List X) (x : X) (after : List X) → p x ≡ true → list_any p (before ++ x ∷ after) ≡ true
any_there p [] x after h = rw h refl
any_there p (y ∷ before) x after h = or_right (p y) (list_any p (before ++ x ∷ after)) (any_there p before x after h)

-- ---- the answer

module _ (table : Table) (search : List Numbered) (path : List ℕ) (is_dir : Bool) where
  -- a numbered spec that matches the path
  abbrev matches_path : Numbered → Bool
  matches_path n = spec_matches table n.spec path is_dir

  -- an include that does
  abbrev includes_path : Spec → Bool
  includes_path s = is_include s && spec_matches table s path is_dir

  -- the first that does
  abbrev first_match : Option Numbered
  first_match = find matches_path search

  no_spec : first_match ≡ None → list_any (λ s. spec_matches table s path is_dir) (specs_of search) ≡ false
  no_spec h = list_any-map (λ s. spec_matches table s path is_dir) (λ (n : Numbered). n.spec) search ∙ find-nothing matches_path search h

  no_include : list_any (λ s. spec_matches table s path is_dir) (specs_of search) ≡ false → list_any includes_path (specs_of search) ≡ false
  no_include h = false_from_ne_true (list_any includes_path (specs_of search)) (λ o.
      let f = contained_where includes_path (specs_of search) o in
      let q = and_parts (is_include f.0) (spec_matches table f.0 path is_dir) f.2 in
      both_ways (list_any (λ s. spec_matches table s path is_dir) (specs_of search)) h (list_any-contained (λ s. spec_matches table s path is_dir) (specs_of search) f.0 f.1 q.1))

  -- a path that lacks the common prefix
  outside : begins_with path (common_prefix (specs_of search)) ≡ false → NoneIncludes table (specs_of search) path is_dir
  outside b =
      let specs = specs_of search in
      let there : list_any is_include specs ≡ true = elim (cases_Bool (list_any is_include specs)) [
        | inl i ↦ i
        | inr i ↦ let no : false ≡ true = sym b ∙ ap (begins_with path) (common_prefix-none specs i) in cc
      ] in (
        there,
        false_from_ne_true (list_any includes_path specs) (λ o.
            let f = contained_where includes_path specs o in
            let q = and_parts (is_include f.0) (spec_matches table f.0 path is_dir) f.2 in
            both_ways (begins_with path (common_prefix specs)) b (begins_with-from_front (common_prefix specs) path (fitted_begins_common specs f.0 path is_dir f.1 q.0 (fits-from_spec_matches table f.0 path is_dir q.1)))),
      )

  -- the spec that is found settles the path
  settles : (n : Numbered) → first_match ≡ Some n → Settles table search path is_dir n
  settles n e = let f = find-parts matches_path search n e in record { before = f.before; after = f.after; stands = f.stands; matches = f.passes; first = f.first }

  has_kind : (n : Numbered) → first_match ≡ Some n → (kind : Spec → Bool) → kind n.spec ≡ true → list_any kind (specs_of search) ≡ true
  has_kind n e kind h =
      let f = find-parts matches_path search n e in
      list_any-map kind (λ (n : Numbered). n.spec) search ∙ (ap (list_any (λ (n : Numbered). kind n.spec)) f.stands ∙ any_there (λ (n : Numbered). kind n.spec) f.before n f.after h)

  -- what an answer says of the path
  abbrev Says : Option Answer → Type 0
  Says None = NoneIncludes table (specs_of search) path is_dir
  Says (Some a) = (is_exclude a.pattern ≡ true → IsSettledBy table search path is_dir is_exclude a.number)
      × (is_exclude a.pattern ≡ false → list_any is_include (specs_of search) ≡ true → IsSettledBy table search path is_dir is_include a.number)
      × (is_exclude a.pattern ≡ false → list_any is_include (specs_of search) ≡ false → NoneExcludes table (specs_of search) path is_dir)

  says-found : (n : Numbered) → first_match ≡ Some n → (o : Option MatchKind) → is_some o ≡ true → Says (answer_with n o)
  says-found n e None h = cc
  says-found n e (Some kind) h = (
    (λ x. (n, refl, x, settles n e)),
    (λ x i. (n, refl, not_from_false (is_exclude n.spec) x, settles n e)),
    (λ x i. absurd (both_ways (list_any is_include (specs_of search)) i (has_kind n e is_include (not_from_false (is_exclude n.spec) x)))),
  )

  -- the nil spec's, which stands for a search without includes
  abbrev nil_answer : Answer
  nil_answer = record { pattern = nil_spec; number = length search; kind = Always }

  says-none : first_match ≡ None → (b : Bool) → list_any is_include (specs_of search) ≡ b → Says (answer_of search path is_dir None)
  says-none e true i = subst (λ (b : Bool). Says (cond b None (Some nil_answer))) (sym i) (i, no_include (no_spec e))
  says-none e false i =
      subst (λ (b : Bool). Says (cond b None (Some nil_answer))) (sym i)
      ((λ x. let no : false ≡ true = x in cc), (λ x j. absurd (both_ways (list_any is_include (specs_of search)) i j)), (λ x j. (i, no_spec e)))

  says-inside : (o : Option Numbered) → first_match ≡ o → Says (answer_of search path is_dir o)
  says-inside None e = says-none e (list_any is_include (specs_of search)) refl
  says-inside (Some n) e = says-found n e (fit n.spec path is_dir) (fits-from_spec_matches table n.spec path is_dir ((find-parts matches_path search n e).passes))

  answer-says : path ≢ [] → Says (answer table search path is_dir)
  unfolding answer
  answer-says some = at (is_empty path) refl (begins_with path (common_prefix (specs_of search))) refl
    where
      at : (e : Bool) → is_empty path ≡ e → (b : Bool) → begins_with path (common_prefix (specs_of search)) ≡ b → Says (answer table search path is_dir)
      at true e b is = empty-nil path e some
      at false e false is = rw (e, is) (outside is)
      at false e true is = rw (e, is) (says-inside first_match refl)

  -- what an answer says, where it is the search's
  pub told : (given : Option Answer) → path ≢ [] → given ≡ answer table search path is_dir → Says given
  told given some e = subst Says (sym e) (answer-says some)

  -- the same of an answer that is known
  pub told-some : (a : Answer) → path ≢ [] → answer table search path is_dir ≡ Some a → Says (Some a)
  told-some a some is = subst Says is (answer-says some)

  pub told-none : (given : Option Answer) → path ≢ [] → given ≡ answer table search path is_dir → given ≡ None → NoneIncludes table (specs_of search) path is_dir
  told-none given some e is = subst Says is (told given some e)

-- ---- whether there is an include

pub any-passed : (rest next : List Spec) (n : Spec) (any : Bool) → rest ≡ n ∷ next → is_exclude n ≡ true → list_any is_include rest ≡ any → list_any is_include next ≡ any
any-passed rest next n any e x h = sym (ap (list_any is_include) e ∙ rw x refl) ∙ h

pub any-here : (rest next : List Spec) (n : Spec) (any : Bool) → rest ≡ n ∷ next → is_exclude n ≡ false → list_any is_include rest ≡ any → true ≡ any
any-here rest next n any e x h = sym (ap (list_any is_include) e ∙ rw x refl) ∙ h

pub any-none : (rest : List Spec) (any : Bool) → rest ≡ [] → list_any is_include rest ≡ any → false ≡ any
any-none rest any e h = sym (ap (list_any is_include) e) ∙ h

-- ---- tests

-- two tests of which each follows from the other
pub same_tests : (a b : Bool) → (a ≡ true → b ≡ true) → (b ≡ true → a ≡ true) → a ≡ b
same_tests true b f g = sym (f refl)
same_tests false true f g = g refl
same_tests false false f g = refl
