-- Assignments decide attributes in one way alone.
use Rattle.std.proofs.Common.{◌≡◌, ℕ, zero, suc, ◌+◌, ◌≤◌, Bool, true, false, ◌||◌, cond, refl, sym, ◌∙◌, ap, subst, List, [], ◌∷◌, ◌++◌, length, arith, append_assoc}
use Rattle.std.proofs.lemmas.List.{length-append, length-reverse}
use Rattle.std.specs.Prelude.{bytes_eq, Option, Some, None, unwrap_or}
use Rattle.std.specs.Cmp.Lexicographic.{bytes_decides}
use Rattle.pathspec_parts.specs.Attributes.{State, Assignment}
use Rattle.pathspec_parts.specs.Attributes.State.{Set, Unset, Value, Unspecified}
use Rattle.pathspec_attributes.specs.Deciding.{Macro, knows, body_of, body_in, brought_by, brought, expansion, Decides, room, decided_after, decided_by, DecidesOnce}
use Rattle.pathspec_attributes.specs.Deciding.Decides.{ends, passes, takes}

-- ---- the room left falls with each name that is decided

-- one macro's share
abbrev share : Bool → ℕ → ℕ
share b n = cond b 0 n

share-or : (x y : Bool) (n : ℕ) → share (x || y) n ≤ share y n
share-or true true n = omega arith
share-or true false n = omega arith
share-or false true n = omega arith
share-or false false n = omega arith

pub knows-more : (decided : List Assignment) (a : Assignment) (name : List ℕ) → knows (decided ++ a ∷ []) name ≡ (bytes_eq a.name name || knows decided name)
knows-more [] a name = refl
knows-more (d ∷ decided) a name = ap (λ b. bytes_eq d.name name || b) (knows-more decided a name) ∙ swapped (bytes_eq d.name name) (bytes_eq a.name name) (knows decided name)
  where
    swapped : (x y z : Bool) → (x || (y || z)) ≡ (y || (x || z))
    swapped true true z = refl
    swapped true false z = refl
    swapped false y z = refl

-- one more is decided
abbrev more : List Assignment → Assignment → List Assignment
more decided a = decided ++ a ∷ []

room-falls : (macros : List Macro) (a : Assignment) (decided : List Assignment) → room macros (more decided a) ≤ room macros decided
room-falls [] a decided = omega arith
room-falls (m ∷ macros) a decided =
    let first : share (bytes_eq a.name m.name || knows decided m.name) (length m.body) ≤ share (knows decided m.name) (length m.body) = share-or (bytes_eq a.name m.name) (knows decided m.name) (length m.body) in
    let others : room macros (more decided a) ≤ room macros decided = room-falls macros a decided in
    rw (knows-more decided a m.name) (omega (arith, first, others))

-- what a name stands for is in the room that its decision takes away
body-room : (macros : List Macro) (a : Assignment) (decided : List Assignment) → knows decided a.name ≡ false → length (body_in macros a.name) + room macros (more decided a) ≤ room macros decided
body-room [] a decided new = omega arith
body-room (m ∷ macros) a decided new = rw (knows-more decided a m.name) (by (bytes_eq a.name m.name) refl (room-falls macros a decided) (body-room macros a decided new))
  where
    by : (b : Bool) → bytes_eq a.name m.name ≡ b → room macros (more decided a) ≤ room macros decided → length (body_in macros a.name) + room macros (more decided a) ≤ room macros decided
        → length (unwrap_or (cond b (Some m.body) (body_of macros a.name)) []) + (cond (b || knows decided m.name) 0 (length m.body) + room macros (more decided a)) ≤ cond (knows decided m.name) 0 (length m.body) + room macros decided
    by true e falls others =
        let same : a.name ≡ m.name = (bytes_decides a.name m.name).0 e in
        let unknown : knows decided m.name ≡ false = subst (λ name. knows decided name ≡ false) same new in
        rw unknown (omega (arith, falls))
    by false e falls others = omega (arith, others)

-- and so is what an assignment brings along
brought-room : (macros : List Macro) (a : Assignment) (decided : List Assignment) → knows decided a.name ≡ false → (s : State) → length (brought_by macros a.name s) + room macros (more decided a) ≤ room macros decided
brought-room macros a decided new Set = body-room macros a decided new
brought-room macros a decided new Unset = let falls : room macros (more decided a) ≤ room macros decided = room-falls macros a decided in omega (arith, falls)
brought-room macros a decided new (Value value) = let falls : room macros (more decided a) ≤ room macros decided = room-falls macros a decided in omega (arith, falls)
brought-room macros a decided new Unspecified = let falls : room macros (more decided a) ≤ room macros decided = room-falls macros a decided in omega (arith, falls)

expansion-room : (macros : List Macro) (a : Assignment) (decided : List Assignment) → knows decided a.name ≡ false → length (expansion macros a) + room macros (more decided a) ≤ room macros decided
expansion-room macros a decided new = rw (length-reverse (brought macros a)) (brought-room macros a decided new a.state)

-- so the next assignments fit, too
taken-fits : (macros : List Macro) (a : Assignment) (said decided : List Assignment) (n : ℕ) → knows decided a.name ≡ false → length (a ∷ said) + room macros decided ≤ suc n → length (expansion macros a ++ said) + room macros (more decided a) ≤ n
taken-fits macros a said decided n new fits =
    let share : length (expansion macros a) + room macros (more decided a) ≤ room macros decided = expansion-room macros a decided new in
    let whole : length (expansion macros a ++ said) ≡ length (expansion macros a) + length said = length-append (expansion macros a) said in
    omega (arith, share, whole, fits)

passed-fits : (macros : List Macro) (a : Assignment) (said decided : List Assignment) (n : ℕ) → length (a ∷ said) + room macros decided ≤ suc n → length said + room macros decided ≤ n
passed-fits macros a said decided n fits = omega (arith, fits)

-- ---- the function gives what the relation says

decides : (macros : List Macro) (n : ℕ) (said decided : List Assignment) → length said + room macros decided ≤ n → Decides macros said decided (decided_after macros n said decided)
decides macros zero [] decided fits = ends
decides macros zero (a ∷ said) decided fits = absurd (omega (arith, fits))
decides macros (suc n) [] decided fits = ends
decides macros (suc n) (a ∷ said) decided fits =
    by (knows decided a.name) refl
    (decides macros n said decided (passed-fits macros a said decided n fits))
    (λ e. decides macros n (expansion macros a ++ said) (more decided a) (taken-fits macros a said decided n e fits))
  where
    by : (b : Bool) → knows decided a.name ≡ b
        → Decides macros said decided (decided_after macros n said decided)
        → (knows decided a.name ≡ false → Decides macros (expansion macros a ++ said) (more decided a) (decided_after macros n (expansion macros a ++ said) (more decided a)))
        → Decides macros (a ∷ said) decided (cond b (decided_after macros n said decided) (decided_after macros n (expansion macros a ++ said) (more decided a)))
    by true e passed taken = passes e passed
    by false e passed taken = takes e (taken e)

same : (macros : List Macro) {said decided new : List Assignment} → Decides macros said decided new → (n : ℕ) → length said + room macros decided ≤ n → decided_after macros n said decided ≡ new
same macros ends zero fits = refl
same macros ends (suc n) fits = refl
same macros (passes {a = a} {said = said} {decided = decided} h next) zero fits = absurd (omega (arith, fits))
same macros (passes {a = a} {said = said} {decided = decided} h next) (suc n) fits = rw h (same macros next n (passed-fits macros a said decided n fits))
same macros (takes {a = a} {said = said} {decided = decided} h next) zero fits = absurd (omega (arith, fits))
same macros (takes {a = a} {said = said} {decided = decided} h next) (suc n) fits = rw h (same macros next n (taken-fits macros a said decided n h fits))

pub decides_once : DecidesOnce
decides_once = record {
  some = λ macros said decided. decides macros (length said + room macros decided) said decided (omega arith);
  one = λ macros said decided new h. sym (same macros h (length said + room macros decided) (omega arith));
}

-- ---- one list after another

pub decides-append : (macros : List Macro) (others : List Assignment) {said decided middle new : List Assignment} → Decides macros said decided middle → Decides macros others middle new → Decides macros (said ++ others) decided new
decides-append macros others ends after = after
decides-append macros others (passes h first) after = passes h (decides-append macros others first after)
decides-append macros others {new = new} (takes {a = a} {said = said} {decided = decided} h first) after =
    takes h (subst (λ list. Decides macros list (more decided a) new) (append_assoc (expansion macros a) said others) (decides-append macros others first after))

-- what is decided after the first of two lists decides the rest
pub decides-rest : (macros : List Macro) (first rest decided new : List Assignment) → Decides macros (first ++ rest) decided new → Decides macros rest (decided_by macros first decided) new
decides-rest macros first rest decided new d =
    let middle : List Assignment = decided_by macros first decided in
    let here : Decides macros first decided middle = decides_once.some macros first decided in
    let behind : Decides macros rest middle (decided_by macros rest middle) = decides_once.some macros rest middle in
    let whole : Decides macros (first ++ rest) decided (decided_by macros rest middle) = decides-append macros rest here behind in
    let same : decided_by macros rest middle ≡ new = decides_once.one macros (first ++ rest) decided (decided_by macros rest middle) whole ∙ sym (decides_once.one macros (first ++ rest) decided new d) in
    subst (λ list. Decides macros rest middle list) same behind

-- ---- the macro of a name, in one list after another

pub body-first : (xs ys : List Macro) (name : List ℕ) (body : List Assignment) → body_of xs name ≡ Some body → body_of (xs ++ ys) name ≡ Some body
body-first [] ys name body h = cc
body-first (m ∷ xs) ys name body h = by (bytes_eq name m.name) h (body-first xs ys name body)
  where
    by : (b : Bool) → cond b (Some m.body) (body_of xs name) ≡ Some body → (body_of xs name ≡ Some body → body_of (xs ++ ys) name ≡ Some body) → cond b (Some m.body) (body_of (xs ++ ys) name) ≡ Some body
    by true e rest = e
    by false e rest = rest e

pub body-second : (xs ys : List Macro) (name : List ℕ) → body_of xs name ≡ None → body_of (xs ++ ys) name ≡ body_of ys name
body-second [] ys name h = refl
body-second (m ∷ xs) ys name h = by (bytes_eq name m.name) h (body-second xs ys name)
  where
    by : (b : Bool) → cond b (Some m.body) (body_of xs name) ≡ None → (body_of xs name ≡ None → body_of (xs ++ ys) name ≡ body_of ys name) → cond b (Some m.body) (body_of (xs ++ ys) name) ≡ body_of ys name
    by true e rest = absurd (cc)
    by false e rest = rest e

-- in the four lists of macros, as the code asks them one after another
module _ (info top global built_in : List Macro) (name : List ℕ) where
  -- what all of them say
  abbrev pub said_by_all : Option (List Assignment)
  said_by_all = body_of (info ++ (top ++ (global ++ built_in))) name

  pub in-first : (body : List Assignment) → Some body ≡ body_of info name → Some body ≡ said_by_all
  in-first body h = sym (body-first info (top ++ (global ++ built_in)) name body (sym h))

  -- behind the first
  second : None ≡ body_of info name → said_by_all ≡ body_of (top ++ (global ++ built_in)) name
  second n = body-second info (top ++ (global ++ built_in)) name (sym n)

  third : None ≡ body_of info name → None ≡ body_of top name → said_by_all ≡ body_of (global ++ built_in) name
  third n m = second n ∙ body-second top (global ++ built_in) name (sym m)

  pub fourth : None ≡ body_of info name → None ≡ body_of top name → None ≡ body_of global name → said_by_all ≡ body_of built_in name
  fourth n m k = third n m ∙ body-second global built_in name (sym k)

  pub in-second : (body : List Assignment) → None ≡ body_of info name → Some body ≡ body_of top name → Some body ≡ said_by_all
  in-second body n h = sym (second n ∙ body-first top (global ++ built_in) name body (sym h))

  pub in-third : (body : List Assignment) → None ≡ body_of info name → None ≡ body_of top name → Some body ≡ body_of global name → Some body ≡ said_by_all
  in-third body n m h = sym (third n m ∙ body-first global built_in name body (sym h))
