-- States beside the assignments that list them, place by place.
use Rattle.std.proofs.Common.{◌≡◌, ℕ, ◌+◌, Bool, true, false, sym, ◌∙◌, ap, subst, is_some, List, [], ◌∷◌, ◌++◌, append_assoc, length, map, get_or, take, slice_get, ◌<◌, Some, zero, suc, add-one}
use Rattle.std.proofs.lemmas.Bool.{and_parts, both_ways, false_from_ne_true}
use Rattle.std.proofs.Math.Bool.{and-true}
use Rattle.std.proofs.lemmas.List.{length-map, get_or-map}
use Rattle.std.proofs.lemmas.Option.{slice_get_read}
use Rattle.pathspec_parts.specs.declared.attributes.state.Assignment.{Assignment as Whole}
use Rattle.pathspec_parts.specs.AttributeStates.{assignment_view}
use Rattle.pathspec_parts.specs.Attributes.{State, Assignment}
use Rattle.gix_pathspec.specs.Specs.{Spec}
use Rattle.gix_pathspec.specs.Matching.{same_state, have_states}
use Rattle.gix_pathspec.specs.Matching.{fit, question}
use Rattle.gix_pathspec.specs.Room.{attribute_names}
use Rattle.gix_pathspec.specs.declared.search.MatchKind.{MatchKind}
use Rattle.pathspec_glob.specs.declared.Case.TheVariants.{Sensitive}
use Rattle.pathspec_parts.specs.Bytes.{is_empty}
use Rattle.pathspec_parts.specs.Attributes.{Reply, Table}
use Rattle.pathspec_parts.specs.Outcomes.{NamedState, names_of, states_of, question_of, reply_of}
use Rattle.pathspec_explain.specs.declared.reason.Reason.TheVariants.{OtherState, NoStates}
use Rattle.pathspec_explain.specs.Reasons.{DifferAt, IsReason}

-- one more place
more : (states : List State) (listed : List Assignment) (i : ℕ) (state : State) (a : Assignment) → slice_get states i ≡ Some state → slice_get listed i ≡ Some a → have_states (take i states) (take i listed) ≡ true
    → have_states (take (suc i) states) (take (suc i) listed) ≡ same_state state a.state
more [] listed i state a s l h = cc
more (x ∷ states) [] i state a s l h = cc
more (x ∷ states) (b ∷ listed) zero state a s l h = let one : x ≡ state = cc in let other : b ≡ a = cc in rw (one, other) (and-true (same_state state a.state))
more (x ∷ states) (b ∷ listed) (suc i) state a s l h =
    let p = and_parts (same_state x b.state) (have_states (take i states) (take i listed)) h in
    rw p.0 (more states listed i state a s l p.1)

pub have_states-more : (states : List State) (listed : List Assignment) (i : ℕ) (state : State) (a : Assignment) → slice_get states i ≡ Some state → slice_get listed i ≡ Some a → have_states (take i states) (take i listed) ≡ true
    → have_states (take (i + 1) states) (take (i + 1) listed) ≡ same_state state a.state
have_states-more states listed i state a s l h = rw add-one (more states listed i state a s l h)

-- what is listed at a place
pub listed-at : (listed : List Whole) (i : ℕ) (a : Whole) → i < length listed → a ≡ get_or listed i a → slice_get (map assignment_view listed) i ≡ Some (assignment_view a)
listed-at listed i a l is =
    slice_get_read (map assignment_view listed) (length listed) i (assignment_view a) (sym (length-map listed assignment_view)) l (ap assignment_view is ∙ sym (get_or-map assignment_view listed i a (assignment_view a) l))

-- where all are as listed, each is
at_each : (states : List State) (listed : List Assignment) (i : ℕ) (state : State) (a : Assignment) → have_states states listed ≡ true → slice_get states i ≡ Some state → slice_get listed i ≡ Some a → same_state state a.state ≡ true
at_each [] listed i state a h s l = cc
at_each (x ∷ states) [] i state a h s l = cc
at_each (x ∷ states) (b ∷ listed) zero state a h s l =
    let one : x ≡ state = cc in let other : b ≡ a = cc in
    let p = and_parts (same_state x b.state) (have_states states listed) h in
    rw (sym one, sym other) p.0
at_each (x ∷ states) (b ∷ listed) (suc i) state a h s l =
    let p = and_parts (same_state x b.state) (have_states states listed) h in
    at_each states listed i state a p.1 s l

-- where one differs, not all are as listed
pub have_states-differ : (states : List State) (listed : List Assignment) (place : ℕ) → DifferAt states listed place → have_states states listed ≡ false
have_states-differ states listed place d = false_from_ne_true (have_states states listed) (λ h. both_ways (same_state d.state d.wanted.state) d.other (at_each states listed place d.state d.wanted h d.is_state d.is_listed))

-- ---- specs that are made ready one by one

pub next-asked : (asked more rest next specs : List Spec) (n a : Spec) → asked ++ rest ≡ specs → rest ≡ n ∷ next → a ≡ n → more ≡ asked ++ a ∷ [] → more ++ next ≡ specs
next-asked asked more rest next specs n a h f e m =
    ap (λ x. x ++ next) m ∙ (append_assoc asked (a ∷ []) next ∙ (ap (λ (x : Spec). asked ++ x ∷ next) e ∙ (ap (λ r. asked ++ r) (sym f) ∙ h)))

-- ---- what a reply says

-- the question that was asked is the spec's
pub reply-is : (table : Table) (s : Spec) (path : List ℕ) (is_dir found : Bool) (before after : List NamedState) → names_of before ≡ attribute_names s → reply_of found after ≡ table (question_of path Sensitive is_dir before) → reply_of found after ≡ table (question s path is_dir)
reply-is table s path is_dir found before after names reply = reply ∙ ap (λ (ns : List (List ℕ)). table (record { path = path; case = Sensitive; is_dir = is_dir; names = ns })) names

module _ (table : Table) (s : Spec) (path : List ℕ) (is_dir found : Bool) (kind : MatchKind) (after : List NamedState) (fitted : fit s path is_dir ≡ Some kind) (reply : reply_of found after ≡ table (question s path is_dir)) where
  -- no answer
  pub says-no_states : found ≡ false → is_empty s.attributes ≡ false → IsReason table s path is_dir NoStates
  says-no_states none some = (ap is_some fitted, some, sym (ap (λ (r : Reply). r.found) reply) ∙ none)

  -- another state at a place
  pub says-other_state : found ≡ true → (place : ℕ) → DifferAt (states_of after) s.attributes place → IsReason table s path is_dir (OtherState place)
  says-other_state there place d = (ap is_some fitted, sym (ap (λ (r : Reply). r.found) reply) ∙ there, subst (λ (r : Reply). DifferAt r.states s.attributes place) reply d)
