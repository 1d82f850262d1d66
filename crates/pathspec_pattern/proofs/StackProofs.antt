-- What stands on a stack and what is still to come lead to the same survivors, step by step.
use Rattle.std.proofs.Common.{◌≡◌, ℕ, zero, suc, ◌+◌, ◌-◌, ◌≤◌, ◌<◌, min, Bool, true, false, not, ◌&&◌, cond, refl, sym, ◌∙◌, ap, subst, List, [], ◌∷◌, ◌++◌, length, take, arith, ◌==◌, inl, inr, append_assoc, length-append}
use Rattle.std.specs.Prelude.{◌↔◌}
use Rattle.std.proofs.lemmas.Bool.{cases_Bool, both_ways, eq-eqb, ne_eqb}
use Rattle.std.proofs.lemmas.List.{append-nil, length-take}
use Rattle.std.proofs.Math.Numerals.{sub-one}
use Rattle.pathspec_parts.specs.Bytes.{is_empty}
use Rattle.pathspec_parts.specs.Paths.{is_parent_dir}
use Rattle.pathspec_parts.specs.Stacks.{StackContents}
use Rattle.pathspec_pattern.specs.NormalForm.{parent_dir_count, climb, survivors}
use Rattle.pathspec_pattern.specs.Resolving.{IsPushed}
use Rattle.pathspec_pattern.proofs.NormalFormProofs.{climb-name, climb-up, climb-nil}
use Rattle.pathspec_pattern.proofs.HeightProofs.{parent_dir_count-append, no_up-parts}

-- without the last
abbrev without_last : List (List ℕ) → List (List ℕ)
without_last xs = take (length xs - 1) xs

without_last-cons : (x y : List ℕ) (xs : List (List ℕ)) → without_last (x ∷ y ∷ xs) ≡ x ∷ without_last (y ∷ xs)
without_last-cons x y xs = rw (sub-one, sub-one) refl

-- names in front of two lists that climb alike
climb-under_name : (c : List ℕ) (a b : List (List ℕ)) → is_parent_dir c ≡ false → climb a ≡ climb b → climb (c ∷ a) ≡ climb (c ∷ b)
climb-under_name c a b n e = climb-name c a n ∙ (ap (λ k. k - 1) e ∙ sym (climb-name c b n))

-- `..` takes the last name off
climb-popped : (names rest : List (List ℕ)) (c : List ℕ) → parent_dir_count names ≡ 0 → is_parent_dir c ≡ true → is_empty names ≡ false → climb (without_last names ++ rest) ≡ climb (names ++ c ∷ rest)
climb-popped [] rest c n u f = cc
climb-popped (x ∷ []) rest c n u f =
    let q = no_up-parts x [] n in
    sym (climb-name x (c ∷ rest) q.0 ∙ (ap (λ k. k - 1) (climb-up c rest u) ∙ omega arith))
climb-popped (x ∷ y ∷ names) rest c n u f =
    let q = no_up-parts x (y ∷ names) n in
    rw (without_last-cons x y names) (climb-under_name x (without_last (y ∷ names) ++ rest) ((y ∷ names) ++ c ∷ rest) q.0 (climb-popped (y ∷ names) rest c q.1 u refl))

survivors-popped : (names rest : List (List ℕ)) (c : List ℕ) → parent_dir_count names ≡ 0 → is_parent_dir c ≡ true → is_empty names ≡ false → survivors (without_last names ++ rest) ≡ survivors (names ++ c ∷ rest)
survivors-popped [] rest c n u f = cc
survivors-popped (x ∷ []) rest c n u f =
    let q = no_up-parts x [] n in
    let falls : (climb (c ∷ rest) == 0) ≡ false = ne_eqb (climb (c ∷ rest)) 0 (λ e. let k = climb-up c rest u in omega (arith, e, k)) in
    rw (q.0, falls, u) refl
survivors-popped (x ∷ y ∷ names) rest c n u f =
    let q = no_up-parts x (y ∷ names) n in
    rw (without_last-cons x y names, q.0, climb-popped (y ∷ names) rest c q.1 u refl, survivors-popped (y ∷ names) rest c q.1 u refl) refl

-- names by themselves don't climb, and all survive
climb-names : (names : List (List ℕ)) → parent_dir_count names ≡ 0 → climb names ≡ 0
climb-names [] n = climb-nil
climb-names (c ∷ cs) n = let q = no_up-parts c cs n in let ih = climb-names cs q.1 in climb-name c cs q.0 ∙ omega (arith, ih)

survivors-names : (names : List (List ℕ)) → parent_dir_count names ≡ 0 → survivors names ≡ names
survivors-names [] n = refl
survivors-names (c ∷ cs) n = let q = no_up-parts c cs n in rw (q.0, climb-names cs q.1, survivors-names cs q.1) refl

parent_dir_count-take : (k : ℕ) (names : List (List ℕ)) → parent_dir_count names ≡ 0 → parent_dir_count (take k names) ≡ 0
parent_dir_count-take zero names n = refl
parent_dir_count-take (suc k) [] n = refl
parent_dir_count-take (suc k) (c ∷ cs) n = let q = no_up-parts c cs n in rw q.0 (parent_dir_count-take k cs q.1)

-- ---- one component

-- `..` can be put on a stack where there is a name to take off
abbrev can_put : StackContents → List ℕ → Bool
can_put stack c = not (is_parent_dir c && is_empty stack.names)

-- a stack with a name put on it, or taken off by `..`
abbrev put_on : StackContents → List ℕ → StackContents
put_on stack c =
    cond (is_parent_dir c) (record { names = without_last stack.names; least = min stack.least (length stack.names - 1) })
    (record { names = stack.names ++ c ∷ []; least = stack.least })

-- ---- from a stack and components to come to another

-- Both lead to the same end: a stack with components still to come, and a later one with the rest of them.
pub record AcceptsAfterByte (old : StackContents) (cs : List (List ℕ)) (now : StackContents) (rest : List (List ℕ)) : Type 0 where
  pub names : parent_dir_count now.names ≡ 0
  pub within : now.least ≤ length now.names
  pub climbs : climb (now.names ++ rest) ≡ climb (old.names ++ cs)
  pub left : survivors (now.names ++ rest) ≡ survivors (old.names ++ cs)
  pub least : min now.least (length now.names - climb rest) ≡ min old.least (length old.names - climb cs)

pub leads-itself : (old : StackContents) (cs : List (List ℕ)) → parent_dir_count old.names ≡ 0 → old.least ≤ length old.names → AcceptsAfterByte old cs old cs
leads-itself old cs n w = record { names = n; within = w; climbs = refl; left = refl; least = refl }

last-length : (names : List (List ℕ)) → is_empty names ≡ false → 1 ≤ length names
last-length [] f = cc
last-length (x ∷ xs) f = omega arith

module _ (old : StackContents) (cs : List (List ℕ)) (now : StackContents) (c : List ℕ) (rest : List (List ℕ)) (l : AcceptsAfterByte old cs now (c ∷ rest)) where
  put-name : is_parent_dir c ≡ false → AcceptsAfterByte old cs (record { names = now.names ++ c ∷ []; least = now.least }) rest
  put-name n =
      let size : length (now.names ++ c ∷ []) ≡ length now.names + 1 = length-append now.names (c ∷ []) in
      let regrouped : (now.names ++ c ∷ []) ++ rest ≡ now.names ++ c ∷ rest = append_assoc now.names (c ∷ []) rest in
      let lower = climb-name c rest n in
      let w = l.within in
      let e = l.least in
      record {
        names = parent_dir_count-append now.names (c ∷ []) ∙ (rw (l.names, n) refl);
        within = omega (arith, size, w);
        climbs = ap climb regrouped ∙ l.climbs;
        left = ap survivors regrouped ∙ l.left;
        least = omega (arith, size, w, lower, e);
      }

  put-up : is_parent_dir c ≡ true → is_empty now.names ≡ false → AcceptsAfterByte old cs (record { names = without_last now.names; least = min now.least (length now.names - 1) }) rest
  put-up u f =
      let size = length-take (length now.names - 1) now.names in
      let higher = climb-up c rest u in
      let w = l.within in
      let e = l.least in
      let some = last-length now.names f in
      record {
        names = parent_dir_count-take (length now.names - 1) now.names l.names;
        within = omega (arith, size, w);
        climbs = climb-popped now.names rest c l.names u f ∙ l.climbs;
        left = survivors-popped now.names rest c l.names u f ∙ l.left;
        least = omega (arith, size, w, higher, e, some);
      }

  -- the next component can be put
  leads-on : can_put now c ≡ true → AcceptsAfterByte old cs (put_on now c) rest
  leads-on can = elim (cases_Bool (is_parent_dir c)) [
    | inl u ↦
        let f : is_empty now.names ≡ false = elim (cases_Bool (is_empty now.names)) [
          | inl e ↦ let clash = rw (u, e) at can in cc
          | inr f ↦ f
        ] in
        rw u (put-up u f)
    | inr n ↦ rw n (put-name n)
  ]

  -- it can't
  leads-out : can_put now c ≡ false → false ≡ (climb (old.names ++ cs) == 0)
  leads-out cannot = elim (cases_Bool (is_parent_dir c)) [
    | inl u ↦ elim (cases_Bool (is_empty now.names)) [
      | inl e ↦ sym (ne_eqb (climb (old.names ++ cs)) 0 (λ z. let none = from_empty now.names e in let k = sym (ap (λ ns. climb (ns ++ c ∷ rest)) none) ∙ (l.climbs ∙ z) in let higher = climb-up c rest u in omega (arith, k, higher)))
      | inr f ↦ let clash = rw (u, f) at cannot in cc
    ]
    | inr n ↦ let clash = rw n at cannot in cc
  ]
    where
      from_empty : (xs : List (List ℕ)) → is_empty xs ≡ true → xs ≡ []
      from_empty [] h = refl
      from_empty (x ∷ xs) h = cc

module _ (old : StackContents) (cs : List (List ℕ)) (now : StackContents) (l : AcceptsAfterByte old cs now []) where
  -- nothing is left to come
  pub end-inside : true ≡ (climb (old.names ++ cs) == 0)
  end-inside = sym (eq-eqb (climb (old.names ++ cs)) 0 (sym l.climbs ∙ (ap climb (append-nil now.names) ∙ climb-names now.names l.names)))

  pub end-left : now.names ≡ survivors (old.names ++ cs)
  end-left = sym (survivors-names now.names l.names) ∙ (ap survivors (sym (append-nil now.names)) ∙ l.left)

  pub end-least : now.least ≡ min old.least (length old.names - climb cs)
  end-least = let w = l.within in let e = l.least in let z = climb-nil in omega (arith, w, e, z)

-- ---- what is pushed

-- stacks with equal parts are equal
stack-same : (a b : StackContents) → a.names ≡ b.names → a.least ≡ b.least → a ≡ b
stack-same a b n l = ap (λ names. record { names = names; least = a.least }) n ∙ ap (λ least. record { names = b.names; least = least }) l

-- one component that is put on a stack is pushed
put-pushed : (old : StackContents) (c : List ℕ) → parent_dir_count old.names ≡ 0 → old.least ≤ length old.names → IsPushed old (c ∷ []) (put_on old c) (can_put old c)
put-pushed old c n w =
    let start = leads-itself old (c ∷ []) n w in
    elim (cases_Bool (can_put old c)) [
      | inl can ↦
          let next = leads-on old (c ∷ []) old c [] start can in
          record {
            inside = can ∙ end-inside old (c ∷ []) (put_on old c) next;
            left = λ t. end-left old (c ∷ []) (put_on old c) next;
            least = λ t. end-least old (c ∷ []) (put_on old c) next;
          }
      | inr cannot ↦ record {
        inside = cannot ∙ leads-out old (c ∷ []) old c [] start cannot;
        left = λ t. absurd (both_ways (can_put old c) cannot t);
        least = λ t. absurd (both_ways (can_put old c) cannot t);
      }
    ]

-- and what one component is pushed on is that stack
pushed-is : (old new : StackContents) (c : List ℕ) (inside : Bool) → parent_dir_count old.names ≡ 0 → old.least ≤ length old.names → IsPushed old (c ∷ []) new inside → (inside ≡ can_put old c) × (inside ≡ true → new ≡ put_on old c)
pushed-is old new c inside n w p =
    let q = put-pushed old c n w in
    let same = p.inside ∙ sym q.inside in
    (same, λ t. let can = sym same ∙ t in stack-same new (put_on old c) (p.left t ∙ sym (q.left can)) (p.least t ∙ sym (q.least can)))

module _ (old : StackContents) (cs : List (List ℕ)) (now : StackContents) (c : List ℕ) (rest : List (List ℕ)) (l : AcceptsAfterByte old cs now (c ∷ rest)) (next : StackContents) (inside : Bool) (p : IsPushed now (c ∷ []) next inside) where
  -- the next component stays inside
  pub pushed-on : inside ≡ true → AcceptsAfterByte old cs next rest
  pushed-on t = let q = pushed-is now next c inside l.names l.within p in subst (λ stack. AcceptsAfterByte old cs stack rest) (sym (q.1 t)) (leads-on old cs now c rest l (sym q.0 ∙ t))

  -- it climbs out
  pub pushed-out : inside ≡ false → false ≡ (climb (old.names ++ cs) == 0)
  pushed-out f = let q = pushed-is now next c inside l.names l.within p in leads-out old cs now c rest l (sym q.0 ∙ f)

module _ (old new : StackContents) (c : List ℕ) (n : parent_dir_count old.names ≡ 0) (w : old.least ≤ length old.names) where
  as_put : (inside : Bool) → inside ≡ can_put old c → new ≡ put_on old c → IsPushed old (c ∷ []) new inside
  as_put inside i e = subst (λ b. IsPushed old (c ∷ []) new b) (sym i) (subst (λ stack. IsPushed old (c ∷ []) stack (can_put old c)) (sym e) (put-pushed old c n w))

  -- a name goes on top
  pub push-pushed : is_parent_dir c ≡ false → new ≡ record { names = old.names ++ c ∷ []; least = old.least } → IsPushed old (c ∷ []) new true
  push-pushed u e = as_put true (rw u refl) (e ∙ (rw u refl))

  popped-can : (popped : Bool) → is_parent_dir c ≡ true → (popped ≡ true) ↔ (0 < length old.names) → popped ≡ can_put old c
  popped-can popped u p = elim (cases_Bool (is_empty old.names)) [
    | inl e ↦ elim (cases_Bool popped) [
      | inl t ↦ let some = p.0 t in let none = empty-length old.names e in absurd (omega (arith, some, none))
      | inr f ↦ rw (u, e) f
    ]
    | inr f ↦ let some = last-length old.names f in rw (u, f) (p.1 (omega (arith, some)))
  ]
    where
      empty-length : (xs : List (List ℕ)) → is_empty xs ≡ true → length xs ≡ 0
      empty-length [] h = refl
      empty-length (x ∷ xs) h = cc

  -- `..` takes the top off
  pub pop-pushed : (popped : Bool) → is_parent_dir c ≡ true → (popped ≡ true) ↔ (0 < length old.names) → new.names ≡ without_last old.names → new.least ≡ min old.least (length new.names) → IsPushed old (c ∷ []) new popped
  pop-pushed popped u p names least =
      let size = ap length names ∙ length-take (length old.names - 1) old.names in
      let lower : new.least ≡ min old.least (length old.names - 1) = omega (arith, least, size) in
      as_put popped (popped-can popped u p) (stack-same new (record { names = without_last old.names; least = min old.least (length old.names - 1) }) names lower ∙ (rw u refl))

-- ---- a prefix on an empty stack

module _ (prefix : List (List ℕ)) (new : StackContents) (flat : parent_dir_count prefix ≡ 0) (is_new : new ≡ record { names = []; least = 0 }) where
  pub prefix-inside : (climb (new.names ++ prefix) == 0) ≡ true
  prefix-inside = rw is_new (eq-eqb (climb prefix) 0 (climb-names prefix flat))

  -- it is marked after the prefix
  pub prefix-marked : (first marked : StackContents) → first.names ≡ survivors (new.names ++ prefix) → marked ≡ record { names = first.names; least = length first.names } → marked ≡ record { names = prefix; least = length prefix }
  prefix-marked first marked f m =
      let stands : first.names ≡ prefix = f ∙ (rw is_new (survivors-names prefix flat)) in
      m ∙ (rw stands refl)
