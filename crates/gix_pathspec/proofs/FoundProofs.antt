-- How a spec matches a path, attributes included, and which spec of a search settles a path.
use Rattle.std.proofs.Common.{◌≡◌, ◌≢◌, ℕ, IsTrue, ◌+◌, ◌<◌, Bool, true, false, not, ◌&&◌, ◌||◌, ◌==◌, cond, refl, sym, ◌∙◌, ap, List, [], ◌∷◌, length, map, drop, get_or, slice_get, arith, Some, None, Option, is_some, subst}
use Rattle.std.proofs.lemmas.Bool.{both_ways, ne_eqb}
use Rattle.std.proofs.lemmas.List.{length-map, get_or-map, drop_more, at_drop_more}
use Rattle.std.proofs.lemmas.Option.{slice_get_read, get_or_from_slice_get}
use Rattle.std.proofs.Math.Bool.{and-false}
use Rattle.std.specs.Bool.{then_some}
use Rattle.std.specs.List.{list_any, filter}
use Rattle.std.specs.Option.{option_and_then, ForSome}
use Rattle.pathspec_glob.specs.declared.Case.TheVariants.{Sensitive}
use Rattle.pathspec_parts.specs.declared.attributes.state.Assignment.{Assignment as Whole}
use Rattle.gix_pathspec.specs.declared.search.MatchKind.{MatchKind}
use Rattle.gix_pathspec.specs.Bytes.{is_empty, begins_with}
use Rattle.gix_pathspec.specs.Attributes.{State, Table}
use Rattle.gix_pathspec.specs.AttributeStates.{state_view, assignment_view}
use Rattle.gix_pathspec.specs.Outcomes.{NamedState, names_of, states_of, question_of, reply_of}
use Rattle.gix_pathspec.specs.Specs.{Spec, is_include}
use Rattle.gix_pathspec.specs.Matching.{fit, has_attributes, have_states, same_state, spec_matches}
use Rattle.gix_pathspec.specs.Prefixes.{head, common_prefix}
use Rattle.gix_pathspec.specs.Search.{Numbered, Answer, specs_of, in_search_order, answer, answer_of, answer_with, selects}
use Rattle.gix_pathspec.specs.Room.{attribute_names}
use Rattle.gix_pathspec.specs.Found.{matched_kind, first_match, IsFirstMatch, IsFirstFound, answer_found}
use Rattle.gix_pathspec.specs.Effort.{is_settled_early}
use Rattle.gix_pathspec.specs.SelectionLaws.{SelectsChosen, SelectsCommon}
use Rattle.gix_pathspec.proofs.SelectedProofs.{selects_chosen}
use Rattle.gix_pathspec.proofs.HeadProofs.{fitted_begins_head}

-- ---- one spec

none_from : {A : Type 0} (o : Option A) (b : Bool) → (is_some o ≡ true → b ≡ true) → b ≡ false → None ≡ o
none_from None b f h = refl
none_from (Some x) b f h = absurd (both_ways b h (f refl))

-- a path that doesn't begin with the head
pub fit-headless : (s : Spec) (path : List ℕ) (is_dir : Bool) → begins_with path (head s) ≡ false → None ≡ fit s path is_dir
fit-headless s path is_dir h = none_from (fit s path is_dir) (begins_with path (head s)) (fitted_begins_head s path is_dir) h

-- one more place of an outcome
pub have_states-more : (states : List State) (listed : List Whole) (i : ℕ) (x : State) (a : Whole) → length states ≡ length listed → i < length listed → Some x ≡ slice_get states i → a ≡ get_or listed i a
    → have_states (drop i states) (drop i (map assignment_view listed)) ≡ (same_state x (state_view a.state) && have_states (drop (i + 1) states) (drop (i + 1) (map assignment_view listed)))
have_states-more states listed i x a same l got read =
    let s : drop i states ≡ x ∷ drop (i + 1) states = drop_more states i x (omega (arith, same, l)) ∙ ap (λ y. y ∷ drop (i + 1) states) (get_or_from_slice_get states i x x (sym got)) in
    let b = assignment_view a in
    let t : drop i (map assignment_view listed) ≡ b ∷ drop (i + 1) (map assignment_view listed) = drop_more (map assignment_view listed) i b (rw (length-map listed assignment_view) l) ∙ ap (λ y. y ∷ drop (i + 1) (map assignment_view listed)) (get_or-map assignment_view listed i a b l ∙ ap assignment_view (sym read)) in
    rw (s, t) refl

-- a list is empty where its count is 0
pub is_empty-counted : {X : Type 0} (xs : List X) (n : ℕ) → n ≡ length xs → is_empty xs ≡ (n == 0)
is_empty-counted [] n e = rw e refl
is_empty-counted (x ∷ xs) n e = sym (ne_eqb n 0 (λ zero. omega (arith, e, zero)))

-- a spec that lists no attributes
pub has_attributes-unlisted : (table : Table) (s : Spec) (path : List ℕ) (is_dir : Bool) → is_empty s.attributes ≡ true → true ≡ has_attributes table s path is_dir
unfolding has_attributes
has_attributes-unlisted table s path is_dir none = rw none refl

-- what the reply to its question says of the others
pub has_attributes-asked : (table : Table) (s : Spec) (path : List ℕ) (is_dir : Bool) (found : Bool) (before after : List NamedState) → is_empty s.attributes ≡ false → names_of before ≡ attribute_names s → reply_of found after ≡ table (question_of path Sensitive is_dir before)
    → (found && have_states (states_of after) s.attributes) ≡ has_attributes table s path is_dir
unfolding has_attributes
has_attributes-asked table s path is_dir found before after some names reply =
    let r = rw names at reply in
    rw (some, sym r) refl

-- a spec that fits, where it has its attributes
pub matched_kind-fitted : (table : Table) (s : Spec) (path : List ℕ) (is_dir has : Bool) (kind : MatchKind) → fit s path is_dir ≡ Some kind → has ≡ has_attributes table s path is_dir → then_some has kind ≡ matched_kind table s path is_dir
unfolding matched_kind
matched_kind-fitted table s path is_dir true kind fits has = rw (sym has, fits) refl
matched_kind-fitted table s path is_dir false kind fits has = rw (sym has) refl

same-branches : {A : Type 0} (b : Bool) (x : A) → x ≡ cond b x x
same-branches true x = refl
same-branches false x = refl

-- a spec that doesn't match the path
pub matched_kind-never : (table : Table) (s : Spec) (path : List ℕ) (is_dir : Bool) → spec_matches table s path is_dir ≡ false → None ≡ matched_kind table s path is_dir
unfolding matched_kind spec_matches
matched_kind-never table s path is_dir h = at (has_attributes table s path is_dir) (fit s path is_dir) h
  where
    at : (has : Bool) (o : Option MatchKind) → (is_some o && has) ≡ false → None ≡ cond has o None
    at false o h = refl
    at true None h = refl
    at true (Some kind) h = cc

-- one that doesn't fit
pub matched_kind-unfitted : (table : Table) (s : Spec) (path : List ℕ) (is_dir : Bool) → fit s path is_dir ≡ None → None ≡ matched_kind table s path is_dir
unfolding matched_kind
matched_kind-unfitted table s path is_dir none = rw none (same-branches (has_attributes table s path is_dir) None)

-- ---- the first of some specs

-- the kind of a match, and its test
kind-some : {A : Type 0} (has : Bool) (o : Option A) (x : A) → cond has o None ≡ Some x → (is_some o && has ≡ true) × (o ≡ Some x)
kind-some true (Some y) x h = (refl, h)
kind-some true None x h = cc
kind-some false o x h = cc

kind-none : {A : Type 0} (has : Bool) (o : Option A) → cond has o None ≡ None → (is_some o && has) ≡ false
kind-none true (Some y) h = cc
kind-none true None h = refl
kind-none false o h = and-false (is_some o)

matched : (table : Table) (s : Spec) (path : List ℕ) (is_dir : Bool) (kind : MatchKind) → matched_kind table s path is_dir ≡ Some kind → (spec_matches table s path is_dir ≡ true) × (fit s path is_dir ≡ Some kind)
unfolding matched_kind spec_matches
matched table s path is_dir kind h = kind-some (has_attributes table s path is_dir) (fit s path is_dir) kind h

unmatched : (table : Table) (s : Spec) (path : List ℕ) (is_dir : Bool) → matched_kind table s path is_dir ≡ None → spec_matches table s path is_dir ≡ false
unfolding matched_kind spec_matches
unmatched table s path is_dir h = kind-none (has_attributes table s path is_dir) (fit s path is_dir) h

module _ (table : Table) (ns : List Numbered) (path : List ℕ) (is_dir : Bool) (i : ℕ) (n : Numbered) (l : i < length ns) (read : n ≡ get_or ns i n) (rest : first_match table (drop i ns) path is_dir ≡ first_match table ns path is_dir) where
  turn : (b : Bool) → spec_matches table n.spec path is_dir ≡ b → first_match table (drop i ns) path is_dir ≡ cond b (Some n) (first_match table (drop (i + 1) ns) path is_dir)
  turn b h = at_drop_more (λ ms. first_match table ms path is_dir) ns i n l ∙ (rw (sym read, h) refl)

  -- this spec matches
  pub first_match-here : (kind : MatchKind) → matched_kind table n.spec path is_dir ≡ Some kind → IsFirstMatch table ns path is_dir i kind
  first_match-here kind h =
      let m = matched table n.spec path is_dir kind h in
      let got = slice_get_read ns (length ns) i n refl l read in
      record { within = l; first = sym rest ∙ turn true m.0 ∙ sym got; fits = rw got m.1 }

  -- it doesn't
  pub first_match-later : matched_kind table n.spec path is_dir ≡ None → first_match table (drop (i + 1) ns) path is_dir ≡ first_match table ns path is_dir
  first_match-later h = sym (turn false (unmatched table n.spec path is_dir h)) ∙ rest

-- ---- the answer

-- the answer of a spec that fits
fitted-answer : (ns : List Numbered) (path : List ℕ) (is_dir : Bool) (kind : MatchKind) (o : Option Numbered) → option_and_then (λ n. fit n.spec path is_dir) o ≡ Some kind → option_and_then (λ n. answer_with n (Some kind)) o ≡ answer_of ns path is_dir o
fitted-answer ns path is_dir kind None h = cc
fitted-answer ns path is_dir kind (Some n) h = ap (answer_with n) (sym h)

pub empty-nil : {A : Type 0} (path : List ℕ) → is_empty path ≡ true → path ≢ [] → A
empty-nil [] e n = absurd (n refl)
empty-nil (b ∷ path) e n = cc

some_filtered : (p : Spec → Bool) (xs : List Spec) (y : Spec) (ys : List Spec) → filter p xs ≡ y ∷ ys → list_any p xs ≡ true
some_filtered p [] y ys e = cc
some_filtered p (x ∷ xs) y ys e = at (p x) refl (some_filtered p xs y ys)
  where
    at : (b : Bool) → p x ≡ b → (filter p xs ≡ y ∷ ys → list_any p xs ≡ true) → list_any p (x ∷ xs) ≡ true
    at true h later = rw h refl
    at false h later = let others = rw h at e in rw h (later others)

-- where the common prefix fails there is an include
no_front : (specs : List Spec) (path : List ℕ) → begins_with path (common_prefix specs) ≡ false → list_any is_include specs ≡ true
unfolding common_prefix
no_front specs path h = at (filter is_include specs) refl
  where
    at : (includes : List Spec) → filter is_include specs ≡ includes → list_any is_include specs ≡ true
    at [] e = let no : true ≡ false = rw e at h in cc
    at (s ∷ includes) e = some_filtered is_include specs s includes e

-- a path that needs no look at the specs is settled by the nil pattern, or by none
pub answer-unasked : (table : Table) (ns : List Numbered) (path : List ℕ) (is_dir : Bool) → is_settled_early ns path ≡ true → answer_found ns path None ≡ answer table ns path is_dir
unfolding answer
answer-unasked table ns path is_dir h = at (is_empty path) refl (begins_with path (common_prefix (specs_of ns))) refl
  where
    at : (e : Bool) → is_empty path ≡ e → (b : Bool) → begins_with path (common_prefix (specs_of ns)) ≡ b → answer_found ns path None ≡ answer table ns path is_dir
    at true e b is = rw e refl
    at false e false is = let include = no_front (specs_of ns) path is in rw (e, is, include) refl
    at false e true is = let no : false ≡ true = rw (e, is) at h in cc

-- another path isn't empty, and begins with the common prefix
pub asked-parts : (ns : List Numbered) (path : List ℕ) → is_settled_early ns path ≡ false → (is_empty path ≡ false) × (begins_with path (common_prefix (specs_of ns)) ≡ true)
asked-parts ns path h = both (is_empty path) (begins_with path (common_prefix (specs_of ns))) h
  where
    both : (e b : Bool) → (e || not b) ≡ false → (e ≡ false) × (b ≡ true)
    both true b h = cc
    both false true h = (refl, refl)
    both false false h = cc

module _ (table : Table) (ns : List Numbered) (path : List ℕ) (is_dir : Bool) (asked : is_settled_early ns path ≡ false) where
  answer-inside : answer_of ns path is_dir (first_match table ns path is_dir) ≡ answer table ns path is_dir
  unfolding answer
  answer-inside = let p = asked-parts ns path asked in rw (p.0, p.1) refl

  -- what was found among the specs stands for the answer
  answer-first : (found : Option (ℕ × MatchKind)) → IsFirstFound table ns path is_dir found → answer_found ns path found ≡ answer table ns path is_dir
  answer-first (Some found) m = fitted-answer ns path is_dir found.1 (slice_get ns found.0) m.fits ∙ ap (answer_of ns path is_dir) (sym m.first) ∙ answer-inside
  answer-first None none = let some = (asked-parts ns path asked).0 in let e : answer_found ns path None ≡ answer_of ns path is_dir None = rw some refl in e ∙ ap (answer_of ns path is_dir) (sym none) ∙ answer-inside

  -- said of equal specs
  pub answer-found : (specs : List Numbered) (known : Bool) → specs ≡ ns → known ≡ is_dir → (found : Option (ℕ × MatchKind)) → IsFirstFound table specs path known found → answer_found ns path found ≡ answer table ns path is_dir
  answer-found specs known same dir found m =
      let of_specs = subst (λ (ms : List Numbered). IsFirstFound table ms path known found) same m in
      answer-first found (subst (λ (d : Bool). IsFirstFound table ns path d found) dir of_specs)

-- what was found lies in the search
pub found-within : (table : Table) (ns specs : List Numbered) (path : List ℕ) (is_dir : Bool) → specs ≡ ns → (found : Option (ℕ × MatchKind)) → IsFirstFound table specs path is_dir found → ForSome found (λ at. at.0 < length ns)
found-within table ns specs path is_dir same found m = λ at is.
    let here : IsFirstFound table specs path is_dir (Some at) = subst (IsFirstFound table specs path is_dir) is m in
    subst (λ (ms : List Numbered). at.0 < length ms) same here.within

-- the answer selects what is chosen
pub selected-answer : (table : Table) (ns : List Numbered) (path : List ℕ) (is_dir : Bool) (given : Option Answer) → given ≡ answer table ns path is_dir → in_search_order ns ≡ ns → SelectsChosen table ns path is_dir given
selected-answer table ns path is_dir given e ordered = subst (SelectsChosen table ns path is_dir) (sym e) (selects_chosen table ns path is_dir ordered)

-- and only what begins with the common prefix
pub selected-common : (table : Table) (ns : List Numbered) (path : List ℕ) (is_dir : Bool) (given : Option Answer) → given ≡ answer table ns path is_dir → SelectsCommon ns path given
unfolding answer
selected-common table ns path is_dir given e = subst (SelectsCommon ns path) (sym e) (λ some chosen. at some chosen (is_empty path) refl (begins_with path (common_prefix (specs_of ns))) refl)
  where
    at : path ≢ [] → IsTrue (selects (answer table ns path is_dir)) → (e : Bool) → is_empty path ≡ e → (b : Bool) → begins_with path (common_prefix (specs_of ns)) ≡ b → begins_with path (common_prefix (specs_of ns)) ≡ true
    at some chosen true e b is = empty-nil path e some
    at some chosen false e true is = is
    at some chosen false e false is = let no : false ≡ true = rw (e, is) at chosen in cc

-- so does the match at what was found among the specs of a field
pub selected-found : (table : Table) (field ns : List Numbered) (path : List ℕ) (is_dir : Bool) (found : Option (ℕ × MatchKind)) (given : Option Answer) → field ≡ ns → in_search_order field ≡ field → answer_found field path found ≡ answer table field path is_dir → given ≡ answer_found field path found
    → SelectsChosen table ns path is_dir given × SelectsCommon ns path given
selected-found table field ns path is_dir found given same ordered e is =
    let answered : given ≡ answer table ns path is_dir = is ∙ e ∙ ap (λ ms. answer table ms path is_dir) same in
    (selected-answer table ns path is_dir given answered (subst (λ (ms : List Numbered). in_search_order ms ≡ ms) same ordered), selected-common table ns path is_dir given answered)
