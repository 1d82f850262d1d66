-- Part of what is said is decided, in the marks of names and in the outcome, and the rest is left.
use Rattle.std.proofs.Common.{◌≡◌, ℕ, suc, ◌+◌, ◌-◌, ◌<◌, ◌≤◌, Bool, true, false, ◌||◌, cond, refl, sym, ◌∙◌, ap, subst, inl, inr, List, [], ◌∷◌, ◌++◌, length, map, take, reverse, get_or, arith}
use Rattle.std.proofs.Math.ListN.{get_or-map}
use Rattle.std.proofs.lemmas.Bool.{cases_Bool}
use Rattle.std.proofs.lemmas.List.{length-map, length-reverse, map-append, reverse-append, take_more, take_min}
use Rattle.std.proofs.lemmas.Option.{same_Some, slice_get-get_or}
use Rattle.std.proofs.lemmas.List.Sums.{fold_push}
use Rattle.std.specs.List.{flat_map}
use Rattle.std.specs.Option.{option_map, option_map_or}
use Rattle.std.specs.Prelude.{bytes_eq, not, min, Option, Some, None, unwrap_or}
use Rattle.std.specs.Cmp.Lexicographic.{bytes_decides}
use Rattle.pathspec_parts.specs.Attributes.{State, Assignment}
use Rattle.pathspec_parts.specs.Attributes.State.{Set, Unset, Value, Unspecified}
use Rattle.pathspec_parts.specs.declared.attributes.state.Assignment.{Assignment as Whole}
use Rattle.pathspec_parts.specs.AttributeNames.{name_bytes}
use Rattle.pathspec_parts.specs.AttributeStates.{assignment_view}
use Rattle.pathspec_parts.specs.Outcomes.{NamedState, apply_assignments, set_state}
use Rattle.pathspec_attributes.specs.declared.deciding.Macros.{Macros}
use Rattle.pathspec_attributes.specs.declared.deciding.Pending.{Pending}
use Rattle.pathspec_attributes.specs.declared.reading.Macro.{Macro as Own}
use Rattle.pathspec_attributes.specs.Deciding.{Macro, body_of, brought_by, expansion, knows, Decides, decided_by}
use Rattle.pathspec_attributes.specs.Deciding.Decides.{ends, passes, takes}
use Rattle.pathspec_attributes.specs.Leading.{Leads, body_at, body_by, body_of_place, body_of_set, pending_of, pending_said, pending_weight, weight_of}
use Rattle.pathspec_attributes.specs.Views.{macro_view}
use Rattle.pathspec_attributes.proofs.DecidingProofs.{decides-append, decides-rest, decides_once, knows-more}

module _ (macros : List Macro) where
  -- nothing is decided yet
  pub leads-nowhere : (said : List Assignment) (marked : List ℕ → Bool) (out : List NamedState) → Leads macros said marked out said marked out
  leads-nowhere said marked out start decided shows = record { reached = decided; shows = shows; rest = λ new d. d }

  -- one step after another
  pub leads-on : {said left end : List Assignment} {marked marked' marked'' : List ℕ → Bool} {out out' out'' : List NamedState}
      → Leads macros said marked out left marked' out' → Leads macros left marked' out' end marked'' out'' → Leads macros said marked out end marked'' out''
  leads-on first second start decided shows =
      let one = first start decided shows in
      let two = second start one.reached one.shows in
      record { reached = two.reached; shows = two.shows; rest = λ new d. one.rest new (two.rest new d) }

  -- the same where more is said behind
  pub leads-before : (more : List Assignment) {said left : List Assignment} {marked marked' : List ℕ → Bool} {out out' : List NamedState}
      → Leads macros said marked out left marked' out' → Leads macros (said ++ more) marked out (left ++ more) marked' out'
  leads-before more {said = said} {left = left} first start decided shows =
      let one = first start decided shows in
      record {
        reached = one.reached;
        shows = one.shows;
        rest = λ new d. decides-append macros more (one.rest (decided_by macros left one.reached) (decides_once.some macros left one.reached)) (decides-rest macros left more one.reached new d);
      }

  -- all that is said first is decided, and then some of the rest
  pub leads-behind : (whole : List Assignment) {said more end : List Assignment} {marked marked' marked'' : List ℕ → Bool} {out out' out'' : List NamedState} → whole ≡ said ++ more
      → Leads macros said marked out [] marked' out' → Leads macros more marked' out' end marked'' out'' → Leads macros whole marked out end marked'' out''
  leads-behind whole {said = said} {more = more} {end = end} {marked = marked} {marked'' = marked''} {out = out} {out'' = out''} e first second =
      subst (λ list. Leads macros list marked out end marked'' out'') (sym e) (leads-on (leads-before more first) second)

  -- from the first question on, all is decided
  pub leads-all : (said : List Assignment) (marked marked' : List ℕ → Bool) (out out' : List NamedState) → ((name : List ℕ) → marked name ≡ false) → Leads macros said marked out [] marked' out' → out' ≡ apply_assignments out (decided_by macros said [])
  leads-all said marked marked' out out' none first =
      let one = first out [] (record { names = none; states = refl }) in
      one.shows.states ∙ ap (apply_assignments out) (decides_once.one macros said [] one.reached (one.rest one.reached ends))

  -- and just the names that are decided are marked
  pub leads-marks : (said : List Assignment) (marked marked' : List ℕ → Bool) (out out' : List NamedState) → ((name : List ℕ) → marked name ≡ false) → Leads macros said marked out [] marked' out' → (name : List ℕ) → marked' name ≡ knows (decided_by macros said []) name
  leads-marks said marked marked' out out' none first name =
      let one = first out [] (record { names = none; states = refl }) in
      one.shows.names name ∙ ap (λ (d : List Assignment). knows d name) (decides_once.one macros said [] one.reached (one.rest one.reached ends))

-- ---- one assignment

-- a name more is marked
abbrev pub MarksMore : (List ℕ → Bool) → List ℕ → (List ℕ → Bool) → Type 0
MarksMore marked name marked' = (other : List ℕ) → marked' other ≡ (bytes_eq name other || marked other)

-- one that was marked
marked-same : (marked marked' : List ℕ → Bool) (name : List ℕ) → marked name ≡ true → MarksMore marked name marked' → (other : List ℕ) → marked' other ≡ marked other
marked-same marked marked' name is more other = more other ∙ elim (cases_Bool (bytes_eq name other)) [
  | inl y ↦ let same : name ≡ other = (bytes_decides name other).0 y in rw y (sym (subst (λ n. marked n ≡ true) same is))
  | inr n ↦ rw n refl
]

pub take-known : (macros : List Macro) (a : Assignment) (left : List Assignment) (marked marked' : List ℕ → Bool) (out : List NamedState) → marked a.name ≡ true → MarksMore marked a.name marked' → Leads macros (a ∷ left) marked out left marked' out
take-known macros a left marked marked' out is more start decided shows = record {
  reached = decided;
  shows = record { names = λ name. marked-same marked marked' a.name is more name ∙ shows.names name; states = shows.states };
  rest = λ new d. passes (sym (shows.names a.name) ∙ is) d;
}

pub take-new : (macros : List Macro) (a : Assignment) (left grown : List Assignment) (marked marked' : List ℕ → Bool) (out out' : List NamedState) → marked a.name ≡ false → MarksMore marked a.name marked'
    → out' ≡ set_state out a.name a.state → grown ≡ expansion macros a ++ left → Leads macros (a ∷ left) marked out grown marked' out'
take-new macros a left grown marked marked' out out' is more set e start decided shows = record {
  reached = decided ++ a ∷ [];
  shows = record {
    names = λ name. more name ∙ (ap (λ b. bytes_eq a.name name || b) (shows.names name) ∙ sym (knows-more decided a name));
    states = set ∙ (ap (λ ps. set_state ps a.name a.state) shows.states ∙ sym (fold_push (λ ps (x : Assignment). set_state ps x.name x.state) start decided a));
  };
  rest = λ new d. takes (sym (shows.names a.name) ∙ is) (subst (λ list. Decides macros list (decided ++ a ∷ []) new) e d);
}

-- ---- what it expands to

brought-by : (macros : List Macro) (name : List ℕ) (s : State) → brought_by macros name s ≡ unwrap_or (body_by macros name s) []
brought-by macros name Set = refl
brought-by macros name Unset = refl
brought-by macros name (Value value) = refl
brought-by macros name Unspecified = refl

pub expands-none : (macros : List Macro) (a : Assignment) → body_of_set macros a ≡ None → expansion macros a ≡ []
expands-none macros a none = ap reverse (brought-by macros a.name a.state ∙ ap (λ o. unwrap_or o []) none)

pub expands-some : (macros : List Macro) (a : Assignment) (body : List Assignment) → body_of_set macros a ≡ Some body → expansion macros a ≡ reverse body
expands-some macros a body some = ap reverse (brought-by macros a.name a.state ∙ ap (λ o. unwrap_or o []) some)

-- ---- how much may still come

-- what a body weighs
abbrev pub body_weight : Option (List Assignment) → ℕ
body_weight body = option_map_or (λ list. suc (length list)) body 0

-- one macro's share
abbrev share : Bool → ℕ → ℕ
share b n = cond b 0 n

share-or : (x y : Bool) (n : ℕ) → share (x || y) n ≤ share y n
share-or true true n = omega arith
share-or true false n = omega arith
share-or false true n = omega arith
share-or false false n = omega arith

pub weight-falls : (macros : List Macro) (marked marked' : List ℕ → Bool) (name : List ℕ) → MarksMore marked name marked' → weight_of macros marked' ≤ weight_of macros marked
weight-falls [] marked marked' name more = omega arith
weight-falls (m ∷ macros) marked marked' name more =
    let first : share (bytes_eq name m.name || marked m.name) (suc (length m.body)) ≤ share (marked m.name) (suc (length m.body)) = share-or (bytes_eq name m.name) (marked m.name) (suc (length m.body)) in
    let others : weight_of macros marked' ≤ weight_of macros marked = weight-falls macros marked marked' name more in
    rw (more m.name) (omega (arith, first, others))

-- the body of a name that is marked now weighs no more than what falls
pub body-falls : (macros : List Macro) (marked marked' : List ℕ → Bool) (name : List ℕ) → marked name ≡ false → MarksMore marked name marked' → body_weight (body_of macros name) + weight_of macros marked' ≤ weight_of macros marked
body-falls [] marked marked' name new more = omega arith
body-falls (m ∷ macros) marked marked' name new more = rw (more m.name) (by (bytes_eq name m.name) refl (weight-falls macros marked marked' name more) (body-falls macros marked marked' name new more))
  where
    by : (b : Bool) → bytes_eq name m.name ≡ b → weight_of macros marked' ≤ weight_of macros marked → body_weight (body_of macros name) + weight_of macros marked' ≤ weight_of macros marked
        → body_weight (cond b (Some m.body) (body_of macros name)) + (cond (b || marked m.name) 0 (suc (length m.body)) + weight_of macros marked') ≤ cond (marked m.name) 0 (suc (length m.body)) + weight_of macros marked
    by true e falls others =
        let same : name ≡ m.name = (bytes_decides name m.name).0 e in
        let unknown : marked m.name ≡ false = subst (λ n. marked n ≡ false) same new in
        rw unknown (omega (arith, falls))
    by false e falls others =
        let first : share (marked m.name) (suc (length m.body)) ≤ share (marked m.name) (suc (length m.body)) = omega arith in
        omega (arith, others, first)

body-by-falls : (macros : List Macro) (marked marked' : List ℕ → Bool) (name : List ℕ) (s : State) → marked name ≡ false → MarksMore marked name marked' → body_weight (body_by macros name s) + weight_of macros marked' ≤ weight_of macros marked
body-by-falls macros marked marked' name Set new more = body-falls macros marked marked' name new more
body-by-falls macros marked marked' name Unset new more = let falls : weight_of macros marked' ≤ weight_of macros marked = weight-falls macros marked marked' name more in omega (arith, falls)
body-by-falls macros marked marked' name (Value value) new more = let falls : weight_of macros marked' ≤ weight_of macros marked = weight-falls macros marked marked' name more in omega (arith, falls)
body-by-falls macros marked marked' name Unspecified new more = let falls : weight_of macros marked' ≤ weight_of macros marked = weight-falls macros marked marked' name more in omega (arith, falls)

pub set-falls : (macros : List Macro) (a : Assignment) (marked marked' : List ℕ → Bool) → marked a.name ≡ false → MarksMore marked a.name marked' → body_weight (body_of_set macros a) + weight_of macros marked' ≤ weight_of macros marked
set-falls macros a marked marked' new more = body-by-falls macros marked marked' a.name a.state new more

-- ---- macros that are being expanded

-- one more of them
pub said-more : {X : Type 0} (say : X → List Assignment) (xs ys : List X) (x : X) → ys ≡ xs ++ x ∷ [] → flat_map say (reverse ys) ≡ say x ++ flat_map say (reverse xs)
said-more say xs ys x e = ap (λ list. flat_map say (reverse list)) e ∙ ap (flat_map say) (reverse-append xs (x ∷ []))

pub weighs-more : (macros : Macros) (xs ys : List Pending) (p : Pending) → ys ≡ xs ++ p ∷ [] → pending_weight macros ys ≡ pending_weight macros xs + suc (length (pending_of macros p))
weighs-more macros xs ys p e = ap (pending_weight macros) e ∙ behind xs
  where
    behind : (xs : List Pending) → pending_weight macros (xs ++ p ∷ []) ≡ pending_weight macros xs + suc (length (pending_of macros p))
    behind [] = omega arith
    behind (x ∷ xs) = let rest : pending_weight macros (xs ++ p ∷ []) ≡ pending_weight macros xs + suc (length (pending_of macros p)) = behind xs in omega (arith, rest)

-- the last of the first assignments, before the others
pub last-before : {X : Type 0} (xs : List X) (k : ℕ) (x : X) → 0 < k → k ≤ length xs → x ≡ get_or xs (k - 1) x → reverse (take k xs) ≡ x ∷ reverse (take (k - 1) xs)
last-before xs k x some within is =
    let next : k ≡ k - 1 + 1 = omega arith in
    let more : take (k - 1 + 1) xs ≡ take (k - 1) xs ++ get_or xs (k - 1) x ∷ [] = take_more xs (k - 1) x (omega arith) in
    ap (λ n. reverse (take n xs)) next ∙ (ap reverse more ∙ (reverse-append (take (k - 1) xs) (get_or xs (k - 1) x ∷ []) ∙ ap (λ y. y ∷ reverse (take (k - 1) xs)) (sym is)))

-- ---- the macro of a name, by its place

module _ (macros : List Own) (name : List ℕ) (i : ℕ) (own : Own) (within : i < length macros) (is : own ≡ get_or macros i own) where
  -- what the macro at a place stands for
  here : body_of_place macros i ≡ map assignment_view own.body.items
  here = ap (λ o. option_map_or (λ (x : Own). map assignment_view x.body.items) o []) (slice_get-get_or macros i own within) ∙ ap (λ (x : Own). map assignment_view x.body.items) (sym is)

  -- the macros up to it
  up_to : reverse (map macro_view (take (i + 1) macros)) ≡ macro_view own ∷ reverse (map macro_view (take i macros))
  up_to =
      ap (λ xs. reverse (map macro_view xs)) (take_more macros i own within)
      ∙ (ap reverse (map-append macro_view (take i macros) (get_or macros i own ∷ []))
      ∙ (reverse-append (map macro_view (take i macros)) (macro_view (get_or macros i own) ∷ [])
      ∙ ap (λ x. macro_view x ∷ reverse (map macro_view (take i macros))) (sym is)))

  pub place-found : bytes_eq name (name_bytes own.name) ≡ true → Some (body_of_place macros i) ≡ body_of (reverse (map macro_view (take (i + 1) macros))) name
  place-found h = ap Some here ∙ sym (ap (λ ms. body_of ms name) up_to ∙ rw h refl)

  pub place-passes : (found : Option (List Assignment)) → bytes_eq name (name_bytes own.name) ≡ false → found ≡ body_of (reverse (map macro_view (take i macros))) name → found ≡ body_of (reverse (map macro_view (take (i + 1) macros))) name
  place-passes found h e = e ∙ sym (ap (λ ms. body_of ms name) up_to ∙ rw h refl)

-- what is pending of the body that was found
pub found-pending : (said body : List Assignment) (all : Option (List Assignment)) → said ≡ reverse body → Some body ≡ all → Some said ≡ option_map reverse all
found-pending said body all e h = ap Some e ∙ ap (option_map reverse) h

-- an assignment by its reference
pub said-at-place : (list : List Whole) (body : List Assignment) (k : ℕ) (x : Whole) → map assignment_view list ≡ body → x ≡ get_or list k x → assignment_view x ≡ get_or body k (assignment_view x)
said-at-place list body k x e is = ap assignment_view is ∙ (sym (get_or-map assignment_view list k x) ∙ ap (λ xs. get_or xs k (assignment_view x)) e)

module _ (macros : Macros) (old after : List Pending) (next : Pending) (was : old ≡ after ++ next ∷ []) where
  abbrev whole : List Assignment
  whole = body_at macros next.source next.place

  abbrev left_of : ℕ → Pending
  left_of n = record { source = next.source; place = next.place; left = n }

  cut : (left : ℕ) → left ≡ min next.left (length whole) → pending_of macros next ≡ reverse (take left whole)
  cut left is = ap reverse (sym (take_min next.left whole) ∙ ap (λ n. take n whole) (sym is))

  -- nothing of it is left
  pub empty-lighter : pending_weight macros after + 1 ≤ pending_weight macros old
  empty-lighter = let all : pending_weight macros old ≡ pending_weight macros after + suc (length (pending_of macros next)) = weighs-more macros after old next was in omega (arith, all)

  module _ (pushed : List Pending) (left : ℕ) (a : Assignment) (is : left ≡ min next.left (length whole)) (some : 0 < left) (at : a ≡ get_or whole (left - 1) a) (more : pushed ≡ after ++ left_of (left - 1) ∷ []) where
    first : pending_of macros next ≡ a ∷ pending_of macros (left_of (left - 1))
    first = cut left is ∙ last-before whole left a some (omega (arith, is)) at

    -- the next of them
    pub pending-next : pending_said macros old ≡ a ∷ pending_said macros pushed
    pending-next =
        said-more (pending_of macros) after old next was
        ∙ (ap (λ xs. xs ++ pending_said macros after) first
        ∙ ap (λ xs. a ∷ xs) (sym (said-more (pending_of macros) after pushed (left_of (left - 1)) more)))

    pub next-lighter : pending_weight macros pushed + 1 ≤ pending_weight macros old
    next-lighter =
        let all : pending_weight macros old ≡ pending_weight macros after + suc (length (pending_of macros next)) = weighs-more macros after old next was in
        let less : pending_weight macros pushed ≡ pending_weight macros after + suc (length (pending_of macros (left_of (left - 1)))) = weighs-more macros after pushed (left_of (left - 1)) more in
        let one : length (pending_of macros next) ≡ suc (length (pending_of macros (left_of (left - 1)))) = ap length first in
        omega (arith, all, less, one)

-- ---- as the code takes an assignment

module _ (macros : List Macro) (a : Assignment) (said : List Assignment) where
  pub expands-pending : Some said ≡ option_map reverse (body_of_set macros a) → said ≡ expansion macros a
  expands-pending h = by (body_of_set macros a) refl h
    where
      by : (o : Option (List Assignment)) → body_of_set macros a ≡ o → Some said ≡ option_map reverse o → said ≡ expansion macros a
      by None e h = absurd (cc)
      by (Some body) e h = same_Some said (reverse body) h ∙ sym (expands-some macros a body e)

  pub weighs-pending : Some said ≡ option_map reverse (body_of_set macros a) → suc (length said) ≡ body_weight (body_of_set macros a)
  weighs-pending h = by (body_of_set macros a) h
    where
      by : (o : Option (List Assignment)) → Some said ≡ option_map reverse o → suc (length said) ≡ body_weight o
      by None h = absurd (cc)
      by (Some body) h = ap suc (ap length (same_Some said (reverse body) h) ∙ length-reverse body)

pub expands-nothing : (macros : List Macro) (a : Assignment) (left : List Assignment) → None ≡ option_map reverse (body_of_set macros a) → left ≡ expansion macros a ++ left
expands-nothing macros a left h = sym (ap (λ xs. xs ++ left) (expands-none macros a (by (body_of_set macros a) h)))
  where
    by : (o : Option (List Assignment)) → None ≡ option_map reverse o → o ≡ None
    by None h = refl
    by (Some body) h = absurd (cc)

of-not : (fresh m : Bool) → fresh ≡ not m → fresh ≡ false → m ≡ true
of-not fresh true e f = refl
of-not fresh false e f = cc

not-of : (fresh m : Bool) → fresh ≡ not m → fresh ≡ true → m ≡ false
not-of fresh true e f = cc
not-of fresh false e f = refl

-- what the mark says
module _ (a : Assignment) (name : List ℕ) (same : name ≡ a.name) (fresh : Bool) (marked marked' : List ℕ → Bool) where
  pub more-by-name : MarksMore marked name marked' → MarksMore marked a.name marked'
  more-by-name after = subst (λ n. MarksMore marked n marked') same after

  pub was-marked : fresh ≡ not (marked name) → fresh ≡ false → marked a.name ≡ true
  was-marked before f = subst (λ n. marked n ≡ true) same (of-not fresh (marked name) before f)

  pub was-new : fresh ≡ not (marked name) → fresh ≡ true → marked a.name ≡ false
  was-new before f = subst (λ n. marked n ≡ false) same (not-of fresh (marked name) before f)

-- sums of weights
pub heavier : (pw pw' wm wm' one body : ℕ) → pw' ≡ pw + one → one ≡ body → body + wm' ≤ wm → pw' + wm' ≤ pw + wm
heavier pw pw' wm wm' one body more same falls = omega (arith, more, same, falls)

pub lighter : (pw wm wm' : ℕ) → wm' ≤ wm → pw + wm' ≤ pw + wm
lighter pw wm wm' falls = omega (arith, falls)

pub less-after : (taken pw pw' wm : ℕ) → taken ≤ pw' + wm → pw' + 1 ≤ pw → taken < pw + wm
less-after taken pw pw' wm within less = omega (arith, within, less)

pub less-at-once : (pw pw' wm : ℕ) → pw' + 1 ≤ pw → pw' + wm < pw + wm
less-at-once pw pw' wm less = omega (arith, less)

-- how much of a list is left
pub left-of : (list : List Whole) (body : List Assignment) (asked left : ℕ) → map assignment_view list ≡ body → left ≡ min asked (length list) → left ≡ min asked (length body)
left-of list body asked left e l = l ∙ ap (min asked) (sym (length-map list assignment_view) ∙ ap length e)
