-- Brackets, read from left to right.
use Rattle.std.proofs.Common.{◌≡◌, ◌≤◌, ◌<◌, ◌+◌, ◌-◌, ℕ, zero, suc, Bool, true, false, inl, inr, refl, ◌∙◌, sym, ap, List, [], ◌∷◌, ◌++◌, length, drop, Option, Some, None, arith, length-drop, length-take, take, nat_lt, not, if◌then◌else◌, ◌==◌, is_some, ◌&&◌}
use Rattle.std.proofs.lemmas.Bool.{cases_Bool, lt-ltb, le-ltb, ltb-true}
use Rattle.std.proofs.lemmas.Bool.Decides.{nat_tests}
use Rattle.std.specs.List.{list_any, position, position_or_len}
use Rattle.pathspec_glob.specs.declared.brackets.Item.{Item as Kept}
use Rattle.pathspec_glob.proofs.Words.{dash, colon, open_bracket, close_bracket, backslash, first_is, is_empty, Item, Items, Front, item_before, items_from, front_of, single_of, class_of, class_item, escaped_item, range_item, range_from, makes_range, Literal, Class, Listed, Closed, Broken, item_view, items_view}

-- the first place that passes, after elements that stand before it
pub first-drop : {X : Type 0} (p : X → Bool) (xs : List X) (size : ℕ) → size ≤ position_or_len p xs → position_or_len p (drop size xs) ≡ position_or_len p xs - size
first-drop p xs zero h = omega arith
first-drop p [] (suc s) h = absurd (omega arith)
first-drop p (x ∷ xs) (suc s) h = elim (cases_Bool (p x)) [
  | inl t ↦ absurd (omega (arith, rw t at h))
  | inr f ↦ let k : suc s ≤ 1 + position_or_len p xs = rw f at h in
      let le : s ≤ position_or_len p xs = omega arith in
      rw f (omega (arith, first-drop p xs s le))
]

pub first-Some : {X : Type 0} (p : X → Bool) (xs : List X) (place : ℕ) → position p xs ≡ Some place → (position_or_len p xs < length xs) × (position_or_len p xs ≡ place)
first-Some p xs place e = grind (arith, nat_tests)

first-None : {X : Type 0} (p : X → Bool) (xs : List X) → position p xs ≡ None → length xs ≤ position_or_len p xs
first-None p xs e = grind (arith, nat_tests)

pub position-after : {X : Type 0} (p : X → Bool) (xs : List X) (size place : ℕ) → position p xs ≡ Some place → size ≤ place → Some (place - size) ≡ position p (drop size xs)
position-after p xs size place e h =
    let f : (position_or_len p xs < length xs) × (position_or_len p xs ≡ place) = first-Some p xs place e in
    let d : position_or_len p (drop size xs) ≡ position_or_len p xs - size = first-drop p xs size (omega arith) in
    let l : length (drop size xs) ≡ length xs - size = length-drop size xs in
    grind (arith, nat_tests)

pub position-after_none : {X : Type 0} (p : X → Bool) (xs : List X) (size : ℕ) → size ≤ length xs → position p xs ≡ None → None ≡ position p (drop size xs)
position-after_none p xs size h e =
    let f : length xs ≤ position_or_len p xs = first-None p xs e in
    let d : position_or_len p (drop size xs) ≡ position_or_len p xs - size = first-drop p xs size (omega arith) in
    let l : length (drop size xs) ≡ length xs - size = length-drop size xs in
    grind (arith, nat_tests)

-- whether there is such a place
first-any : {X : Type 0} (p : X → Bool) (xs : List X) → list_any p xs ≡ nat_lt (position_or_len p xs) (length xs)
first-any p [] = refl
first-any p (x ∷ xs) = elim (cases_Bool (p x)) [
  | inl t ↦ rw t (grind (arith, nat_tests))
  | inr f ↦ rw (f, first-any p xs) (grind (arith, nat_tests))
]

pub position_any : {X : Type 0} (p : X → Bool) (xs : List X) → is_some (position p xs) ≡ list_any p xs
position_any p xs = rw (first-any p xs) (elim (cases_Bool (nat_lt (position_or_len p xs) (length xs))) [
  | inl t ↦ rw t refl
  | inr f ↦ rw f refl
])

-- without a `]`
pub class_item-none : (bytes : List ℕ) → position (λ b. b == close_bracket) bytes ≡ None → Broken ≡ class_item bytes
class_item-none bytes e =
    let f : length bytes ≤ position_or_len (λ b. b == close_bracket) bytes = first-None _ bytes e in
    let g : list_any (λ b. b == close_bracket) bytes ≡ false = first-any (λ b. b == close_bracket) bytes ∙ le-ltb _ _ f in
    rw g refl

-- with one, and with these bytes before it
abbrev inside_item : List ℕ → Front
inside_item inside =
    if not (first_is (λ b. b == colon) (drop (length inside - 1) inside)) then Listed (Literal open_bracket) 1
    else if is_some (class_of (take (length inside - 1) inside)) then Listed (Class (take (length inside - 1) inside)) (length inside + 3)
    else Broken

class_item-inside : (bytes : List ℕ) (end : ℕ) → position (λ b. b == close_bracket) bytes ≡ Some end → class_item bytes ≡ inside_item (take end bytes)
class_item-inside bytes end e =
    let f : (position_or_len (λ b. b == close_bracket) bytes < length bytes) × (position_or_len (λ b. b == close_bracket) bytes ≡ end) = first-Some _ bytes end e in
    let g : list_any (λ b. b == close_bracket) bytes ≡ true = first-any (λ b. b == close_bracket) bytes ∙ lt-ltb _ _ f.0 in
    rw (g, f.1) refl

-- where `:` is the last of them
name-length : (inside name : List ℕ) → first_is (λ b. b == colon) (drop (length inside - 1) inside) ≡ true → name ≡ take (length inside - 1) inside → length inside + 3 ≡ length name + 4
name-length [] name t n = absurd (cc)
name-length (x ∷ xs) name t n = rw (n, length-take) (omega arith)

inside_item-named : (inside name : List ℕ) → Some name ≡ (if first_is (λ b. b == colon) (drop (length inside - 1) inside) then Some (take (length inside - 1) inside) else None) → inside_item inside ≡ (if is_some (class_of name) then Listed (Class name) (length name + 4) else Broken)
inside_item-named inside name e = elim (cases_Bool (first_is (λ b. b == colon) (drop (length inside - 1) inside))) [
  | inl t ↦ let n : name ≡ take (length inside - 1) inside = let e2 : Some name ≡ Some (take (length inside - 1) inside) = rw t at e in cc in
      rw (t, name-length inside name t n, ← n) refl
  | inr f ↦ let e2 : Some name ≡ None = rw f at e in absurd (cc)
]

pub class_item-named : (bytes : List ℕ) (end : ℕ) (name : List ℕ) → position (λ b. b == close_bracket) bytes ≡ Some end → Some name ≡ (if first_is (λ b. b == colon) (drop (length (take end bytes) - 1) (take end bytes)) then Some (take (length (take end bytes) - 1) (take end bytes)) else None) → (if is_some (class_of name) then Listed (Class name) (length name + 4) else Broken) ≡ class_item bytes
class_item-named bytes end name e n = sym (class_item-inside bytes end e ∙ inside_item-named (take end bytes) name n)

-- where it is not
pub class_item-lone : (bytes : List ℕ) (end : ℕ) → position (λ b. b == close_bracket) bytes ≡ Some end → None ≡ (if first_is (λ b. b == colon) (drop (length (take end bytes) - 1) (take end bytes)) then Some (take (length (take end bytes) - 1) (take end bytes)) else None) → Listed (Literal open_bracket) 1 ≡ class_item bytes
class_item-lone bytes end e n = elim (cases_Bool (first_is (λ b. b == colon) (drop (length (take end bytes) - 1) (take end bytes)))) [
  | inl t ↦ let e2 : None ≡ Some (take (length (take end bytes) - 1) (take end bytes)) = rw t at n in absurd (cc)
  | inr f ↦ sym (class_item-inside bytes end e ∙ (rw f refl))
]

both-second : (a b : Bool) → (a && b) ≡ true → b ≡ true
both-second true b h = h
both-second false b h = absurd (cc)

-- an item takes a byte at least, and no more than there are
abbrev Sized : ℕ → Front → Type 0
Sized n (Listed item size) = (0 < size) × (size ≤ n)
Sized n Closed = Unit {0}
Sized n Broken = Unit {0}

sized-if : (n : ℕ) (test : Bool) (a b : Front) → (test ≡ true → Sized n a) → (test ≡ false → Sized n b) → Sized n (if test then a else b)
sized-if n true a b h k = h refl
sized-if n false a b h k = k refl

escaped-sized : (rest : List ℕ) → Sized (suc (length rest)) (escaped_item rest)
escaped-sized [] = tt
escaped-sized (x ∷ rest) = (omega arith, omega arith)

range_item-sized : (low : ℕ) (rest : List ℕ) → Sized (suc (length rest)) (range_item low rest)
range_item-sized low [] = tt
range_item-sized low (c ∷ []) = sized-if _ (c == backslash) _ _ (λ h. tt) (λ h. (omega arith, omega arith))
range_item-sized low (c ∷ x ∷ rest) = sized-if _ (c == backslash) _ _ (λ h. (omega arith, omega arith)) (λ h. (omega arith, omega arith))

range_from-sized : (last : Option ℕ) (rest : List ℕ) → Sized (suc (length rest)) (range_from last rest)
range_from-sized None rest = tt
range_from-sized (Some low) rest = range_item-sized low rest

inside-shorter : (p : ℕ → Bool) (xs : List ℕ) → list_any p xs ≡ true → length (take (position_or_len p xs) xs) < length xs
inside-shorter p xs h =
    let lt : position_or_len p xs < length xs = ltb-true _ _ (sym (first-any p xs) ∙ h) in
    rw length-take (omega arith)

any-from_not : (b : Bool) → not b ≡ false → b ≡ true
any-from_not true h = refl
any-from_not false h = absurd (cc)

named-sized : (n : ℕ) (inside : List ℕ) → length inside + 3 ≤ n → 1 ≤ n → Sized n (inside_item inside)
named-sized n inside h k =
    let named : (0 < length inside + 3) × (length inside + 3 ≤ n) = (omega arith, omega arith) in
    let lone : (0 < 1) × (1 ≤ n) = (omega arith, omega arith) in
    sized-if n (not (first_is (λ b. b == colon) (drop (length inside - 1) inside))) (Listed (Literal open_bracket) 1) (if is_some (class_of (take (length inside - 1) inside)) then Listed (Class (take (length inside - 1) inside)) (length inside + 3) else Broken) (λ h. lone)
    (λ h. sized-if n (is_some (class_of (take (length inside - 1) inside))) (Listed (Class (take (length inside - 1) inside)) (length inside + 3)) Broken (λ m. named) (λ m. tt))

class_item-sized : (rest : List ℕ) → Sized (2 + length rest) (class_item rest)
class_item-sized rest =
    sized-if (2 + length rest) (not (list_any (λ b. b == close_bracket) rest)) Broken (inside_item (take (position_or_len (λ b. b == close_bracket) rest) rest)) (λ h. tt) (λ h.
    let shorter : length (take (position_or_len (λ b. b == close_bracket) rest) rest) < length rest = inside-shorter _ rest (any-from_not _ h) in
    named-sized (2 + length rest) (take (position_or_len (λ b. b == close_bracket) rest) rest) (omega arith) (omega arith))

class_at-sized : (rest : List ℕ) → first_is (λ c. c == colon) rest ≡ true → Sized (suc (length rest)) (class_item (drop 1 rest))
class_at-sized [] h = absurd (cc)
class_at-sized (c ∷ rest) h = let n : 2 + length rest ≡ suc (suc (length rest)) = omega arith in rw n at (class_item-sized rest)

other-sized : (last : Option ℕ) (b : ℕ) (rest : List ℕ) → Sized (suc (length rest)) (if b == open_bracket && first_is (λ c. c == colon) rest then class_item (drop 1 rest) else Listed (Literal b) 1)
other-sized last b rest =
    let lone : (0 < 1) × (1 ≤ suc (length rest)) = (omega arith, omega arith) in
    sized-if _ (b == open_bracket && first_is (λ c. c == colon) rest) (class_item (drop 1 rest)) (Listed (Literal b) 1) (λ n. class_at-sized rest (both-second _ _ n)) (λ n. lone)

dashed-sized : (last : Option ℕ) (b : ℕ) (rest : List ℕ) → Sized (suc (length rest)) (if b == dash && makes_range last rest then range_from last rest else if b == open_bracket && first_is (λ c. c == colon) rest then class_item (drop 1 rest) else Listed (Literal b) 1)
dashed-sized last b rest = sized-if _ (b == dash && makes_range last rest) (range_from last rest) _ (λ n. range_from-sized last rest) (λ n. other-sized last b rest)

front-sized : (first : Bool) (last : Option ℕ) (bytes : List ℕ) → Sized (length bytes) (front_of first last bytes)
front-sized first last [] = tt
front-sized first last (b ∷ rest) =
    sized-if _ (b == close_bracket && not first) Closed _ (λ h. tt) (λ h. sized-if _ (b == backslash) (escaped_item rest) _ (λ k. escaped-sized rest) (λ k. dashed-sized last b rest))

pub Listed-sized : (first : Bool) (last : Option ℕ) (bytes : List ℕ) (item : Item) (size : ℕ) → front_of first last bytes ≡ Listed item size → (0 < size) × (size ≤ length bytes)
Listed-sized first last bytes item size e = rw e at (front-sized first last bytes)

-- skipped bytes are dropped
skipped : (skip : ℕ) (first : Bool) (last : Option ℕ) (bytes : List ℕ) → items_from skip first last bytes ≡ items_from 0 first last (drop skip bytes)
skipped zero first last bytes = refl
skipped (suc skip) first last [] = refl
skipped (suc skip) first last (b ∷ bs) = skipped skip first last bs

-- items in front of others
abbrev pub items_before : List Item → Option Items → Option Items
items_before [] others = others
items_before (item ∷ items) others = item_before item (items_before items others)

items_before-push : (items : List Item) (item : Item) (others : Option Items) → items_before (items ++ (item ∷ [])) others ≡ items_before items (item_before item others)
items_before-push [] item others = refl
items_before-push (i ∷ is) item others = ap (item_before i) (items_before-push is item others)

items_before-None : (items : List Item) → items_before items None ≡ None
items_before-None [] = refl
items_before-None (i ∷ is) = rw (items_before-None is) refl

items_before-Some : (items : List Item) (rest : List ℕ) → items_before items (Some (record { items = []; rest = rest })) ≡ Some (record { items = items; rest = rest })
items_before-Some [] rest = refl
items_before-Some (i ∷ is) rest = rw (items_before-Some is rest) refl

-- the items, where the front is one
items_from-Listed : (first : Bool) (last : Option ℕ) (bytes : List ℕ) (item : Item) (size : ℕ) → front_of first last bytes ≡ Listed item size → 0 < size → items_from 0 first last bytes ≡ item_before item (items_from 0 false (single_of (Listed item size)) (drop size bytes))
items_from-Listed first last [] item size e pos = absurd (cc)
items_from-Listed first last (b ∷ bs) item zero e pos = absurd (omega arith)
items_from-Listed first last (b ∷ bs) item (suc size) e pos =
    let n : suc size - 1 ≡ size = omega arith in
    rw e (rw n (ap (item_before item) (skipped size false (single_of (Listed item (suc size))) bs)))

items_from-Closed : (first : Bool) (last : Option ℕ) (bytes : List ℕ) → front_of first last bytes ≡ Closed → items_from 0 first last bytes ≡ Some (record { items = []; rest = drop 1 bytes })
items_from-Closed first last [] e = absurd (cc)
items_from-Closed first last (b ∷ bs) e = rw e refl

items_from-Broken : (first : Bool) (last : Option ℕ) (bytes : List ℕ) → front_of first last bytes ≡ Broken → items_from 0 first last bytes ≡ None
items_from-Broken first last [] e = refl
items_from-Broken first last (b ∷ bs) e = rw e refl

empty-none : {X : Type 0} (xs : List X) → (length xs == 0) ≡ is_empty xs
empty-none [] = refl
empty-none (x ∷ xs) = grind (arith, nat_tests)

empty-push : {X : Type 0} (xs : List X) (x : X) → is_empty (xs ++ (x ∷ [])) ≡ false
empty-push [] x = refl
empty-push (y ∷ ys) x = refl

items_view-push : (items : List Kept) (item : Kept) → items_view (items ++ (item ∷ [])) ≡ items_view items ++ (item_view item ∷ [])
items_view-push [] item = refl
items_view-push (x ∷ xs) item = ap (λ is. item_view x ∷ is) (items_view-push xs item)

-- one more item
pub so_far-Listed : (items more : List Kept) (item : Kept) (size count : ℕ) (first : Bool) (last next : Option ℕ) (rest after : List ℕ) (whole : Option Items) → items_before (items_view items) (items_from 0 (is_empty items) last rest) ≡ whole → count ≡ length items → first ≡ (count == 0) → Listed (item_view item) size ≡ front_of first last rest → more ≡ items ++ (item ∷ []) → next ≡ single_of (Listed (item_view item) size) → after ≡ drop size rest → items_before (items_view more) (items_from 0 (is_empty more) next after) ≡ whole
so_far-Listed items more item size count first last next rest after whole h k f e m n b =
    let front : front_of (is_empty items) last rest ≡ Listed (item_view item) size = rw (f, k, empty-none items) at (sym e) in
    let one : items_from 0 (is_empty items) last rest ≡ item_before (item_view item) (items_from 0 false (single_of (Listed (item_view item) size)) (drop size rest)) = items_from-Listed (is_empty items) last rest (item_view item) size front (Listed-sized (is_empty items) last rest (item_view item) size front).0 in
    rw (m, n, b, empty-push items item, items_view-push items item) (items_before-push (items_view items) (item_view item) _ ∙ (ap (items_before (items_view items)) (sym one) ∙ h))

pub so_far-Closed : (items : List Kept) (count : ℕ) (first : Bool) (last : Option ℕ) (rest after : List ℕ) (whole : Option Items) → items_before (items_view items) (items_from 0 (is_empty items) last rest) ≡ whole → count ≡ length items → first ≡ (count == 0) → Closed ≡ front_of first last rest → after ≡ drop 1 rest → Some (record { items = items_view items; rest = after }) ≡ whole
so_far-Closed items count first last rest after whole h k f e b =
    let front : front_of (is_empty items) last rest ≡ Closed = rw (f, k, empty-none items) at (sym e) in
    rw b (sym (items_before-Some (items_view items) (drop 1 rest)) ∙ (ap (items_before (items_view items)) (sym (items_from-Closed (is_empty items) last rest front)) ∙ h))

pub so_far-Broken : (items : List Kept) (count : ℕ) (first : Bool) (last : Option ℕ) (rest : List ℕ) (whole : Option Items) → items_before (items_view items) (items_from 0 (is_empty items) last rest) ≡ whole → count ≡ length items → first ≡ (count == 0) → Broken ≡ front_of first last rest → None ≡ whole
so_far-Broken items count first last rest whole h k f e =
    let front : front_of (is_empty items) last rest ≡ Broken = rw (f, k, empty-none items) at (sym e) in
    sym (items_before-None (items_view items)) ∙ (ap (items_before (items_view items)) (sym (items_from-Broken (is_empty items) last rest front)) ∙ h)
