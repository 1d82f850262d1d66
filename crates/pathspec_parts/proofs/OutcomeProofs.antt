-- Outcomes that are cleared or set keep their names, one that is cleared stays as it is, and copies are put place by place.
use Rattle.std.proofs.Common.{◌≡◌, ℕ, Bool, ◌||◌, true, false, inl, inr, ◌<◌, arith, refl, ap, subst, sym, ◌∙◌, ◌+◌, List, [], ◌∷◌, ◌++◌, cond, map, get_or, set, take, drop, length, Some}
use Rattle.std.specs.Prelude.{slice_get, bytes_eq}
use Rattle.std.specs.Option.{option_map}
use Rattle.std.specs.List.{list_any}
use Rattle.std.proofs.lemmas.Bool.{cases_Bool}
use Rattle.std.proofs.lemmas.List.{length-map, length-append, get_or-map, map-set, drop_more, drop-set-lt, set-get_or}
use Rattle.std.proofs.lemmas.List.Elements.{All-pop}
use Rattle.std.proofs.lemmas.List.Folds.{list_any_at}
use Rattle.std.proofs.lemmas.List.Sums.{sum_by-cons, count_by_more_yes, count_by_more_no}
use Rattle.std.proofs.lemmas.Grind.{drop_more_same}
use Rattle.std.proofs.lemmas.List.Edits.{map_over_more}
use Rattle.std.proofs.lemmas.Option.{slice_get-map, slice_get_read}
use Rattle.pathspec_parts.specs.declared.attributes.state.Assignment.{Assignment as Whole}
use Rattle.pathspec_parts.specs.declared.attributes.state.State.{State as Owned}
use Rattle.pathspec_parts.specs.declared.attributes.state.State.TheVariants as owned
use Rattle.pathspec_parts.specs.Attributes.{State}
use Rattle.pathspec_parts.specs.Attributes.State.{Unspecified}
use Rattle.pathspec_parts.specs.AttributeNames.{name_bytes}
use Rattle.pathspec_parts.specs.AttributeStates.{AreCopies, state_view, assignment_view}
use Rattle.pathspec_parts.specs.Outcomes.{NamedState, names_of, states_of, reset_states, unspecified, has_name, name_count, set_state_at, set_state}

pub reset_states-reset_states : (places : List NamedState) → reset_states (reset_states places) ≡ reset_states places
reset_states-reset_states [] = refl
reset_states-reset_states (p ∷ ps) = let q : NamedState = record { name = p.name; state = Unspecified } in ap (λ qs. q ∷ qs) (reset_states-reset_states ps)

pub names_of-reset_states : (places : List NamedState) → names_of (reset_states places) ≡ names_of places
names_of-reset_states [] = refl
names_of-reset_states (p ∷ ps) = ap (λ ns. p.name ∷ ns) (names_of-reset_states ps)

-- so what is cleared is cleared already, and has the same names
pub is_reset : (old new : List NamedState) → new ≡ reset_states old → new ≡ reset_states new
is_reset old new e = e ∙ sym (reset_states-reset_states old) ∙ ap reset_states (sym e)

pub same_names : (old new : List NamedState) → new ≡ reset_states old → names_of new ≡ names_of old
same_names old new e = ap names_of e ∙ names_of-reset_states old

-- whether a place has a name, asked of the elements
has_name-map : (items : List Whole) (name : List ℕ) → list_any (λ p. bytes_eq (assignment_view p).name name) items ≡ has_name (map assignment_view items) name
has_name-map [] name = refl
has_name-map (x ∷ xs) name = ap (λ t. bytes_eq (assignment_view x).name name || t) (has_name-map xs name)

-- setting keeps the names
pub names_of-set_state : (places : List NamedState) (name : List ℕ) (state : State) → names_of (set_state places name state) ≡ names_of places
names_of-set_state [] name state = refl
names_of-set_state (p ∷ ps) name state = elim (cases_Bool (bytes_eq p.name name)) [
  | inl h ↦ rw h (ap (λ ns. p.name ∷ ns) (names_of-set_state ps name state))
  | inr h ↦ rw h (ap (λ ns. p.name ∷ ns) (names_of-set_state ps name state))
]

-- where a place has the name, the outcome has it
pub has_name-at : (places : List Whole) (name : List ℕ) (i : ℕ) (x : Whole) → i < length places → x ≡ get_or places i x → bytes_eq (assignment_view x).name name ≡ true → has_name (map assignment_view places) name ≡ true
has_name-at places name i x below is named =
    let test : Whole → Bool = λ p. bytes_eq (assignment_view p).name name in
    sym (has_name-map places name) ∙ list_any_at test places i x below (sym (ap test is) ∙ named)

-- one place more, with the name or without it
listed_at : (places : List Whole) (i : ℕ) (x : Whole) → i < length places → x ≡ get_or places i x → get_or (map assignment_view places) i (assignment_view x) ≡ assignment_view x
listed_at places i x below is = get_or-map assignment_view places i x (assignment_view x) below ∙ sym (ap assignment_view is)

pub name_count-named : (places : List Whole) (name : List ℕ) (i : ℕ) (x : Whole) → i < length places → x ≡ get_or places i x → bytes_eq (assignment_view x).name name ≡ true
    → name_count (take (i + 1) (map assignment_view places)) name ≡ name_count (take i (map assignment_view places)) name + 1
name_count-named places name i x below is named =
    let test : NamedState → Bool = λ p. bytes_eq p.name name in
    count_by_more_yes test (map assignment_view places) i (assignment_view x) (subst (λ n. i < n) (sym (length-map places assignment_view)) below) (ap test (listed_at places i x below is) ∙ named)

pub name_count-other : (places : List Whole) (name : List ℕ) (i : ℕ) (x : Whole) → i < length places → x ≡ get_or places i x → bytes_eq (assignment_view x).name name ≡ false
    → name_count (take (i + 1) (map assignment_view places)) name ≡ name_count (take i (map assignment_view places)) name
name_count-other places name i x below is named =
    let test : NamedState → Bool = λ p. bytes_eq p.name name in
    count_by_more_no test (map assignment_view places) i (assignment_view x) (subst (λ n. i < n) (sym (length-map places assignment_view)) below) (ap test (listed_at places i x below is) ∙ named)

-- what is left to count at a place, and after it
name_count-left : (places items : List Whole) (name : List ℕ) (i n : ℕ) (d : Whole) → i < length items → drop i items ≡ drop i places → n ≡ name_count (map assignment_view (drop i places)) name
    → n ≡ cond (bytes_eq (assignment_view (get_or items i d)).name name) 1 0 + name_count (map assignment_view (drop (i + 1) places)) name
name_count-left places items name i n d below rest count =
    let x : Whole = get_or items i d in
    count ∙ ap (λ xs. name_count (map assignment_view xs) name) (sym rest ∙ drop_more items i d below ∙ ap (λ ys. x ∷ ys) (drop_more_same items places i rest))
    ∙ sum_by-cons (λ p. cond (bytes_eq p.name name) 1 0) (assignment_view x) (map assignment_view (drop (i + 1) places))

-- a place more has been changed as the others before it
changed_more : (f : NamedState → NamedState) (places items : List Whole) (i : ℕ) (d new : Whole) → i < length places → length items ≡ length places
    → map assignment_view items ≡ map f (take i (map assignment_view places)) ++ drop i (map assignment_view places) → assignment_view new ≡ f (assignment_view (get_or items i d))
    → map assignment_view (set items i new) ≡ map f (take (i + 1) (map assignment_view places)) ++ drop (i + 1) (map assignment_view places)
changed_more f places items i d new below same so_far changed =
    let x : NamedState = assignment_view (get_or items i d) in
    let within : i < length (map assignment_view places) = subst (λ n. i < n) (sym (length-map places assignment_view)) below in
    let is : x ≡ get_or (map assignment_view items) i x = sym (get_or-map assignment_view items i d x (subst (λ n. i < n) (sym same) below)) in
    map-set assignment_view items i new ∙ ap (set (map assignment_view items) i) changed ∙ map_over_more f (map assignment_view places) (map assignment_view items) i x within so_far is

-- a place more is cleared
pub cleared_more : (places items : List Whole) (i : ℕ) (d : Whole) → i < length places → length items ≡ length places → map assignment_view items ≡ reset_states (take i (map assignment_view places)) ++ drop i (map assignment_view places)
    → map assignment_view (set items i (record { name = (get_or items i d).name; state = owned.Unspecified })) ≡ reset_states (take (i + 1) (map assignment_view places)) ++ drop (i + 1) (map assignment_view places)
cleared_more places items i d below same so_far =
    let clear_at : NamedState → NamedState = λ p. record { name = p.name; state = Unspecified } in
    changed_more clear_at places items i d _ below same so_far refl

-- a place more has the state, where it has the name
set_state-named : (places items : List Whole) (i : ℕ) (d : Whole) (copy : Owned) (name : List ℕ) (state : State) → i < length places → length items ≡ length places
    → bytes_eq (assignment_view (get_or items i d)).name name ≡ true → state_view copy ≡ state → map assignment_view items ≡ set_state (take i (map assignment_view places)) name state ++ drop i (map assignment_view places)
    → map assignment_view (set items i (record { name = (get_or items i d).name; state = copy })) ≡ set_state (take (i + 1) (map assignment_view places)) name state ++ drop (i + 1) (map assignment_view places)
set_state-named places items i d copy name state below same named copied so_far =
    let put : Whole = record { name = (get_or items i d).name; state = copy } in
    changed_more (set_state_at name state) places items i d put below same so_far (rw (copied, named) refl)

-- and elsewhere it is as it was
set_state-other : (places items : List Whole) (i : ℕ) (d : Whole) (name : List ℕ) (state : State) → i < length places → length items ≡ length places
    → bytes_eq (assignment_view (get_or items i d)).name name ≡ false → map assignment_view items ≡ set_state (take i (map assignment_view places)) name state ++ drop i (map assignment_view places)
    → map assignment_view items ≡ set_state (take (i + 1) (map assignment_view places)) name state ++ drop (i + 1) (map assignment_view places)
set_state-other places items i d name state below same named so_far =
    ap (map assignment_view) (sym (set-get_or items i d)) ∙ changed_more (set_state_at name state) places items i d (get_or items i d) below same so_far (rw named refl)

-- what holds once the places before one have their copies: the places from there on are as before, and as many copies are left as the name has places there
pub record HasPut (before places : List Whole) (name : List ℕ) (given copies : List Owned) (i : ℕ) : Type 0 where
  pub rest : drop i places ≡ drop i before
  pub count : length copies ≡ name_count (map assignment_view (drop i before)) name
  pub copies_left : (state : State) → AreCopies state given → AreCopies state copies
  pub so_far : (state : State) → AreCopies state given → map assignment_view places ≡ set_state (take i (map assignment_view before)) name state ++ drop i (map assignment_view before)

-- so it holds after a place with the name, which takes the last copy
pub put-named : (before places : List Whole) (name : List ℕ) (given copies left : List Owned) (i : ℕ) (d : Whole) (copy : Owned) → HasPut before places name given copies i → i < length before → length places ≡ length before
    → bytes_eq (assignment_view (get_or places i d)).name name ≡ true → copies ≡ left ++ copy ∷ [] → HasPut before (set places i (record { name = (get_or places i d).name; state = copy })) name given left (i + 1)
put-named before places name given copies left i d copy h below same named taken =
    let within : i < length places = subst (λ n. i < n) (sym same) below in
    let counted = rw named at (name_count-left before places name i (length copies) d within h.rest h.count) in
    let fewer : length copies ≡ length left + 1 = ap length taken ∙ length-append left (copy ∷ []) in
    let parts = λ (state : State) (all : AreCopies state given). All-pop (λ c. state_view c ≡ state) copies left (Some copy) taken (h.copies_left state all) in
    record {
      rest = drop-set-lt (i + 1) places i _ (omega arith) ∙ drop_more_same places before i h.rest;
      count = omega (arith, counted, fewer);
      copies_left = λ state all. (parts state all).0;
      so_far = λ state all. set_state-named before places i d copy name state below same named (parts state all).1 (h.so_far state all);
    }

-- and after a place without it
pub put-other : (before places : List Whole) (name : List ℕ) (given copies : List Owned) (i : ℕ) (d : Whole) → HasPut before places name given copies i → i < length before → length places ≡ length before
    → bytes_eq (assignment_view (get_or places i d)).name name ≡ false → HasPut before places name given copies (i + 1)
put-other before places name given copies i d h below same named =
    let within : i < length places = subst (λ n. i < n) (sym same) below in
    let counted = rw named at (name_count-left before places name i (length copies) d within h.rest h.count) in
    record {
      rest = drop_more_same places before i h.rest;
      count = omega (arith, counted);
      copies_left = h.copies_left;
      so_far = λ state all. set_state-other before places i d name state below same named (h.so_far state all);
    }

-- a place with the name has a copy left
pub put-left : (before places : List Whole) (name : List ℕ) (given copies : List Owned) (i : ℕ) (d : Whole) → HasPut before places name given copies i → i < length before → length places ≡ length before
    → bytes_eq (assignment_view (get_or places i d)).name name ≡ true → 0 < length copies
put-left before places name given copies i d h below same named =
    let within : i < length places = subst (λ n. i < n) (sym same) below in
    let counted = rw named at (name_count-left before places name i (length copies) d within h.rest h.count) in
    omega (arith, counted)

-- what an element reads as, and how it is listed
listed : (items : List Whole) (places : List NamedState) (i : ℕ) (x : Whole) → map assignment_view items ≡ places → i < length places → x ≡ get_or items i x → slice_get places i ≡ Some (assignment_view x)
listed items places i x seen below is =
    let within : i < length items = subst (λ n. i < n) (length-map items assignment_view) (subst (λ ps. i < length ps) (sym seen) below) in
    subst (λ ps. slice_get ps i ≡ Some (assignment_view x)) seen (slice_get-map assignment_view items i ∙ ap (option_map assignment_view) (slice_get_read items (length items) i x refl within is))

-- the name at a place is the element's
pub name_read : (items : List Whole) (places : List NamedState) (i : ℕ) (x : Whole) (bytes : List ℕ) → map assignment_view items ≡ places → i < length places → x ≡ get_or items i x → bytes ≡ name_bytes x.name → Some bytes ≡ slice_get (names_of places) i
name_read items places i x bytes seen below is name =
    let name_at : NamedState → List ℕ = λ p. p.name in
    ap Some name ∙ sym (slice_get-map name_at places i ∙ ap (option_map name_at) (listed items places i x seen below is))

-- and so is the state
pub state_read : (items : List Whole) (places : List NamedState) (i : ℕ) (x : Whole) (state : State) → map assignment_view items ≡ places → i < length places → x ≡ get_or items i x → state ≡ state_view x.state → Some state ≡ slice_get (states_of places) i
state_read items places i x state seen below is same =
    let state_at : NamedState → State = λ p. p.state in
    ap Some same ∙ sym (slice_get-map state_at places i ∙ ap (option_map state_at) (listed items places i x seen below is))

-- what is cleared is its names, of which nothing is said
unspecified-names_of : (places : List NamedState) → unspecified (names_of places) ≡ reset_states places
unspecified-names_of [] = refl
unspecified-names_of (p ∷ ps) = let q : NamedState = record { name = p.name; state = Unspecified } in ap (λ qs. q ∷ qs) (unspecified-names_of ps)

pub reset_places : (places : List NamedState) → places ≡ reset_states places → places ≡ unspecified (names_of places)
reset_places places e = e ∙ sym (unspecified-names_of places)
