-- What a walk over directories has still to visit: the entries from its place on that it sees. To open a directory puts what lies in it before the rest.
use Rattle.std.proofs.Common.{◌≡◌, ℕ, zero, suc, ◌+◌, ◌<◌, ◌≤◌, Bool, true, false, ◌&&◌, cond, refl, sym, ◌∙◌, ap, subst, List, [], ◌∷◌, ◌++◌, drop, arith, inl, inr, Some}
use Rattle.std.proofs.lemmas.Bool.{and_parts, and_from, cases_Bool, both_ways, false_from_ne_true}
use Rattle.std.proofs.lemmas.List.Elements.{Contains-append_left, Contains-push, Contains-push_cases}
use Rattle.std.proofs.lemmas.Option.{same_Some}
use Rattle.std.specs.Prelude.{slice_get, Contains, filter}
use Rattle.pathspec_glob.specs.Bytes.{is_one_of}
use Rattle.pathspec_parts.specs.Entries.{Entry, is_seen}
use Rattle.pathspec_parts.specs.Trees.{IsNested}
use Rattle.pathspec_parts.proofs.SeenProofs.{one_of-from, from-one_of, seen_from, from_seen}
use Rattle.pathspec_parts.proofs.TreeProofs.{entries_run}
use Rattle.pathspec_list.specs.Directories.{paths_of, entries_in}

-- ---- filters

bool_same : (a b : Bool) → (a ≡ true → b ≡ true) → (b ≡ true → a ≡ true) → a ≡ b
bool_same true b f g = sym (f refl)
bool_same false true f g = g refl
bool_same false false f g = refl

filter-yes : {X : Type 0} (p : X → Bool) (x : X) (xs : List X) → p x ≡ true → filter p (x ∷ xs) ≡ x ∷ filter p xs
filter-yes p x xs y = ap (λ b. cond b (x ∷ filter p xs) (filter p xs)) y

filter-no : {X : Type 0} (p : X → Bool) (x : X) (xs : List X) → p x ≡ false → filter p (x ∷ xs) ≡ filter p xs
filter-no p x xs n = ap (λ b. cond b (x ∷ filter p xs) (filter p xs)) n

filter-none : {X : Type 0} (p : X → Bool) (xs : List X) → ((j : ℕ) (x : X) → slice_get xs j ≡ Some x → p x ≡ false) → filter p xs ≡ []
filter-none p [] h = refl
filter-none p (x ∷ xs) h = filter-no p x xs (h 0 x refl) ∙ filter-none p xs (λ j y s. h (suc j) y s)

filter-same : {X : Type 0} (p q : X → Bool) (xs : List X) → ((j : ℕ) (x : X) → slice_get xs j ≡ Some x → p x ≡ q x) → filter p xs ≡ filter q xs
filter-same p q [] h = refl
filter-same p q (x ∷ xs) h =
    let rest = filter-same p q xs (λ j y s. h (suc j) y s) in
    ap (λ b. cond b (x ∷ filter p xs) (filter p xs)) (h 0 x refl) ∙ ap (λ ys. cond (q x) (x ∷ ys) ys) rest

-- what does not pass before a place may be dropped
filter-drop : {X : Type 0} (p : X → Bool) (a : ℕ) (xs : List X) → ((j : ℕ) (x : X) → j < a → slice_get xs j ≡ Some x → p x ≡ false) → filter p xs ≡ filter p (drop a xs)
filter-drop p zero xs h = refl
filter-drop p (suc a) [] h = refl
filter-drop p (suc a) (x ∷ xs) h = filter-no p x xs (h 0 x (omega arith) refl) ∙ filter-drop p a xs (λ j y l s. h (suc j) y (omega (arith, l)) s)

-- What passes p is what passes c and then what passes q, where r holds of a front, on which p is c and q is off, and elsewhere p is q and c is off.
pub record IsFront {X : Type 0} (p c q r : X → Bool) (xs : List X) : Type 0 where
  pub on : (j : ℕ) (x : X) → slice_get xs j ≡ Some x → r x ≡ true → (p x ≡ c x) × (q x ≡ false)
  pub off : (j : ℕ) (x : X) → slice_get xs j ≡ Some x → r x ≡ false → (p x ≡ q x) × (c x ≡ false)
  pub closed : (i j : ℕ) (x y : X) → i < j → slice_get xs i ≡ Some x → slice_get xs j ≡ Some y → r y ≡ true → r x ≡ true

front-tail : {X : Type 0} (p c q r : X → Bool) (x : X) (xs : List X) → IsFront p c q r (x ∷ xs) → IsFront p c q r xs
front-tail p c q r x xs h = record {
  on = λ j y s. h.on (suc j) y s;
  off = λ j y s. h.off (suc j) y s;
  closed = λ i j y z l s t. h.closed (suc i) (suc j) y z (omega (arith, l)) s t;
}

filter-front : {X : Type 0} (p c q r : X → Bool) (xs : List X) → IsFront p c q r xs → filter p xs ≡ filter c xs ++ filter q xs
filter-front {X} p c q r [] h = refl
filter-front {X} p c q r (x ∷ xs) h = elim (cases_Bool (r x)) [
  | inl y ↦
      let on = h.on 0 x refl y in
      let rest = filter-front p c q r xs (front-tail p c q r x xs h) in
      let without : filter q (x ∷ xs) ≡ filter q xs = filter-no q x xs on.1 in
      elim (cases_Bool (c x)) [
        | inl t ↦
            filter-yes p x xs (on.0 ∙ t) ∙ (ap (λ ys. x ∷ ys) rest ∙ (ap (λ ys. ys ++ filter q xs) (sym (filter-yes c x xs t)) ∙ ap (λ ys. filter c (x ∷ xs) ++ ys) (sym without)))
        | inr f ↦
            filter-no p x xs (on.0 ∙ f) ∙ (rest ∙ (ap (λ ys. ys ++ filter q xs) (sym (filter-no c x xs f)) ∙ ap (λ ys. filter c (x ∷ xs) ++ ys) (sym without)))
      ]
  | inr n ↦
      let off_at = λ (j : ℕ) (y : X) (s : slice_get (x ∷ xs) j ≡ Some y). false_from_ne_true (r y) (λ t. later j y s t n) in
      let nothing : filter c (x ∷ xs) ≡ [] = filter-none c (x ∷ xs) (λ j y s. (h.off j y s (off_at j y s)).1) in
      filter-same p q (x ∷ xs) (λ j y s. (h.off j y s (off_at j y s)).0) ∙ ap (λ ys. ys ++ filter q (x ∷ xs)) (sym nothing)
]
  where
    later : (j : ℕ) (y : X) → slice_get (x ∷ xs) j ≡ Some y → r y ≡ true → r x ≡ false → ⊥
    later zero y s t n = both_ways (r x) n (subst (λ z. r z ≡ true) (sym (same_Some x y s)) t)
    later (suc j) y s t n = both_ways (r x) n (h.closed 0 (suc j) x y (omega arith) refl s t)

-- ---- the first that passes, from a place on

-- The first element from end on that passes is x, at n, and these pass after it.
pub record IsFirstFrom {X : Type 0} (p : X → Bool) (xs : List X) (end : ℕ) (x : X) (rest : List X) (n : ℕ) : Type 0 where
  pub from : end ≤ n
  pub stands : slice_get xs n ≡ Some x
  pub passes : p x ≡ true
  pub before : (j : ℕ) (y : X) → end ≤ j → j < n → slice_get xs j ≡ Some y → p y ≡ false
  pub rest_is : filter p (drop (n + 1) xs) ≡ rest

heads : {X : Type 0} (x y : X) (xs ys : List X) → x ∷ xs ≡ y ∷ ys → (x ≡ y) × (xs ≡ ys)
heads {X} x y xs ys e = (ap (λ zs. head_or zs) e, ap (λ zs. tail_of zs) e)
  where
    head_or : List X → X
    head_or [] = x
    head_or (z ∷ zs) = z

    tail_of : List X → List X
    tail_of [] = xs
    tail_of (z ∷ zs) = zs

first-later : {X : Type 0} (p : X → Bool) (z : X) (xs : List X) (end end' : ℕ) (x : X) (rest : List X) (n : ℕ) → IsFirstFrom p xs end x rest n → ((j : ℕ) → end' ≤ suc j → end ≤ j) → (end' ≤ 0 → p z ≡ false) → end' ≤ suc end
    → IsFirstFrom p (z ∷ xs) end' x rest (suc n)
first-later {X} p z xs end end' x rest n h up here le = record {
  from = let f = h.from in omega (arith, f, le);
  stands = h.stands;
  passes = h.passes;
  before = earlier;
  rest_is = let one : suc n + 1 ≡ suc (n + 1) = omega arith in rw one h.rest_is;
}
  where
    earlier : (j : ℕ) (y : X) → end' ≤ j → j < suc n → slice_get (z ∷ xs) j ≡ Some y → p y ≡ false
    earlier zero y g l s = subst (λ w. p w ≡ false) (same_Some z y s) (here g)
    earlier (suc j) y g l s = h.before j y (up j g) (omega (arith, l)) s

pub first_from : {X : Type 0} (p : X → Bool) (xs : List X) (end : ℕ) (x : X) (rest : List X) → filter p (drop end xs) ≡ x ∷ rest → (n : ℕ) × IsFirstFrom p xs end x rest n
first_from p [] zero x rest e = cc
first_from p [] (suc end) x rest e = cc
first_from p (z ∷ xs) (suc end) x rest e =
    let r = first_from p xs end x rest e in
    (suc r.0, first-later p z xs end (suc end) x rest r.0 r.1 (λ j g. omega (arith, g)) (λ g. absurd (omega (arith, g))) (omega arith))
first_from p (z ∷ xs) zero x rest e = elim (cases_Bool (p z)) [
  | inl y ↦
      let both = heads z x (filter p xs) rest (sym (filter-yes p z xs y) ∙ e) in (
        0,
        record {
          from = omega arith;
          stands = ap Some both.0;
          passes = subst (λ w. p w ≡ true) both.0 y;
          before = λ j w g l s. absurd (omega (arith, l));
          rest_is = both.1;
        },
      )
  | inr f ↦
      let r = first_from p xs zero x rest (sym (filter-no p z xs f) ∙ e) in
      (suc r.0, first-later p z xs zero zero x rest r.0 r.1 (λ j g. omega arith) (λ g. f) (omega arith))
]

-- the first of these paths is that of the first of these entries
pub first_path : (es : List Entry) (path : List ℕ) (rest : List (List ℕ)) → paths_of es ≡ path ∷ rest → (e : Entry) × (fs : List Entry) × (es ≡ e ∷ fs) × (e.path ≡ path) × (paths_of fs ≡ rest)
first_path [] path rest h = cc
first_path (e ∷ fs) path rest h = let both = heads e.path path (paths_of fs) rest h in (e, fs, refl, both.0, both.1)

-- none of them
pub no_path : (es : List Entry) → paths_of es ≡ [] → es ≡ []
no_path [] h = refl
no_path (e ∷ fs) h = cc

none-later : {X : Type 0} (p : X → Bool) (z : X) (xs : List X) → p z ≡ false → ((j : ℕ) (x : X) → slice_get xs j ≡ Some x → p x ≡ false) → (j : ℕ) (x : X) → slice_get (z ∷ xs) j ≡ Some x → p x ≡ false
none-later p z xs f h zero x s = subst (λ w. p w ≡ false) (same_Some z x s) f
none-later p z xs f h (suc j) x s = h j x s

pub none_from : {X : Type 0} (p : X → Bool) (xs : List X) (end : ℕ) → filter p (drop end xs) ≡ [] → (j : ℕ) (x : X) → end ≤ j → slice_get xs j ≡ Some x → p x ≡ false
none_from p [] end h j x le s = cc
none_from p (z ∷ xs) (suc end) h zero x le s = absurd (omega (arith, le))
none_from p (z ∷ xs) (suc end) h (suc j) x le s = none_from p xs end h j x (omega (arith, le)) s
none_from p (z ∷ xs) zero h j x le s = elim (cases_Bool (p z)) [
  | inl y ↦ let off : z ∷ filter p xs ≡ [] = sym (filter-yes p z xs y) ∙ h in cc
  | inr f ↦ none-later p z xs f (λ k y t. none_from p xs zero (sym (filter-no p z xs f) ∙ h) k y (omega arith) t) j x s
]

-- ---- a directory is opened

get-drop : {X : Type 0} (a : ℕ) (xs : List X) (k : ℕ) → slice_get (drop a xs) k ≡ slice_get xs (a + k)
get-drop zero xs k = let e : k ≡ 0 + k = omega arith in ap (slice_get xs) e
get-drop (suc a) [] k = refl
get-drop (suc a) (x ∷ xs) k = let e : suc (a + k) ≡ suc a + k = omega arith in get-drop a xs k ∙ ap (slice_get (x ∷ xs)) e

module _ (es : List Entry) (nested : IsNested es) (n : ℕ) (e : Entry) (stands : slice_get es n ≡ Some e) (entered : List ℕ) (seen : is_seen entered e ≡ true) (before : (m : ℕ) → Contains entered m → m < n) where
  -- whether an entry lies below it, and right in it
  abbrev below : Entry → Bool
  below f = is_one_of f.above n

  abbrev right_in : Entry → Bool
  right_in f = is_one_of f.above n && is_seen (e.above ++ n ∷ []) f

  -- what is seen after it is opened, of an entry below it
  seen-below : (j : ℕ) (f : Entry) → n < j → slice_get es j ≡ Some f → is_one_of f.above n ≡ true → is_seen (entered ++ n ∷ []) f ≡ true → is_seen (e.above ++ n ∷ []) f ≡ true
  seen-below j f lt s b v = seen_from (e.above ++ n ∷ []) f (λ k c. elim (Contains-push_cases entered n k (from_seen (entered ++ n ∷ []) f k v c)) [
    | inl d ↦ Contains-append_left e.above (n ∷ []) k (entries_run es nested k n j e f (before k d) (omega (arith, lt)) stands s c)
    | inr d ↦ subst (Contains (e.above ++ n ∷ [])) d (Contains-push e.above n)
  ])

  below-seen : (f : Entry) → is_seen (e.above ++ n ∷ []) f ≡ true → is_seen (entered ++ n ∷ []) f ≡ true
  below-seen f v = seen_from (entered ++ n ∷ []) f (λ k c. elim (Contains-push_cases e.above n k (from_seen (e.above ++ n ∷ []) f k v c)) [
    | inl d ↦ Contains-append_left entered (n ∷ []) k (from_seen entered e k seen d)
    | inr d ↦ subst (Contains (entered ++ n ∷ [])) d (Contains-push entered n)
  ])

  on-front : (j : ℕ) (f : Entry) → n < j → slice_get es j ≡ Some f → below f ≡ true → (is_seen (entered ++ n ∷ []) f ≡ right_in f) × (is_seen entered f ≡ false)
  on-front j f lt s b = (
    bool_same (is_seen (entered ++ n ∷ []) f) (right_in f) (λ v. and_from (below f) (is_seen (e.above ++ n ∷ []) f) b (seen-below j f lt s b v)) (λ v. below-seen f (and_parts (below f) (is_seen (e.above ++ n ∷ []) f) v).1),
    false_from_ne_true (is_seen entered f) (λ v. let l = before n (from_seen entered f n v (from-one_of f.above n b)) in omega (arith, l)),
  )

  off-front : (f : Entry) → below f ≡ false → (is_seen (entered ++ n ∷ []) f ≡ is_seen entered f) × (right_in f ≡ false)
  off-front f b = (
    bool_same (is_seen (entered ++ n ∷ []) f) (is_seen entered f)
        (λ v. seen_from entered f (λ k c. elim (Contains-push_cases entered n k (from_seen (entered ++ n ∷ []) f k v c)) [
          | inl d ↦ d
          | inr d ↦ absurd (both_ways (below f) b (one_of-from f.above n (subst (Contains f.above) (sym d) c)))
        ]))
        (λ v. seen_from (entered ++ n ∷ []) f (λ k c. Contains-append_left entered (n ∷ []) k (from_seen entered f k v c))),
    ap (λ x. x && is_seen (e.above ++ n ∷ []) f) b,
  )

  is_front : IsFront (is_seen (entered ++ n ∷ [])) right_in (is_seen entered) below (drop (n + 1) es)
  is_front = record {
    on = λ j f s b. on-front (n + 1 + j) f (omega arith) (sym (get-drop (n + 1) es j) ∙ s) b;
    off = λ j f s b. off-front f b;
    closed = λ i j f g l s t b. one_of-from f.above n (entries_run es nested n (n + 1 + i) (n + 1 + j) f g (omega arith) (omega (arith, l)) (sym (get-drop (n + 1) es i) ∙ s) (sym (get-drop (n + 1) es j) ∙ t) (from-one_of g.above n b));
  }

  -- what lies in it comes after it
  in_after : entries_in es n e ≡ filter right_in (drop (n + 1) es)
  in_after = filter-drop right_in (n + 1) es (λ j f l s. ap (λ x. x && is_seen (e.above ++ n ∷ []) f) (false_from_ne_true (below f) (λ b. let q = (nested.above j n f s (from-one_of f.above n b)).before in omega (arith, q, l))))

  -- What is seen from there on, once it is opened: what lies right in it, and then what was seen before.
  pub opened_sees : filter (is_seen (entered ++ n ∷ [])) (drop (n + 1) es) ≡ entries_in es n e ++ filter (is_seen entered) (drop (n + 1) es)
  opened_sees = filter-front (is_seen (entered ++ n ∷ [])) right_in (is_seen entered) below (drop (n + 1) es) is_front ∙ ap (λ fs. fs ++ filter (is_seen entered) (drop (n + 1) es)) (sym in_after)
