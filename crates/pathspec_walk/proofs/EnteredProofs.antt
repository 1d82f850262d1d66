-- What a walk enters is one list, and so is what it gives: the test and what it saw decide each directory, the outermost first.
use Rattle.std.proofs.Common.{◌≡◌, ℕ, zero, suc, ◌+◌, ◌<◌, ◌≤◌, Bool, refl, ◌∙◌, ap, subst, List, [], ◌∷◌, get_or, arith, inl, inr}
use Rattle.std.specs.Prelude.{Contains}
use Rattle.std.specs.List.Sorted.{IsStrictlyIncreasing}
use Rattle.pathspec_parts.specs.Attributes.{Table}
use Rattle.pathspec_parts.specs.Entries.{Entry}
use Rattle.pathspec_parts.specs.Trees.{IsNested}
use Rattle.pathspec_parts.proofs.EntryProofs.{Contains-here, Contains-later, Contains-cases, Contains-entries_where, entries_where-rising}
use Rattle.pathspec_parts.proofs.SeenProofs.{seen_from, from_seen}
use Rattle.gix_pathspec.specs.Specs.{Spec}
use Rattle.gix_pathspec.specs.Matching.{is_chosen}
use Rattle.gix_pathspec.proofs.ChosenProofs.{chosen_is_test}
use Rattle.pathspec_walk.specs.Walks.{Enters, EnteredIsOne, chosen_entries, GivenIsOne}

-- ---- rising lists

pub rising_tail : (x : ℕ) (xs : List ℕ) → IsStrictlyIncreasing (x ∷ xs) → IsStrictlyIncreasing xs
rising_tail x xs h k l =
    let e : suc k + 1 ≡ suc (k + 1) = omega arith in
    subst (λ j. get_or (x ∷ xs) (suc k) 0 < get_or (x ∷ xs) j 0) e (h (suc k) (omega (arith, l)))

pub rising_first : (x : ℕ) (xs : List ℕ) → IsStrictlyIncreasing (x ∷ xs) → (m : ℕ) → Contains xs m → x < m
rising_first x [] h m c = absurd (omega (arith, c.1))
rising_first x (y ∷ xs) h m c =
    let one : 0 + 1 ≡ 1 = refl in
    let first : x < y = h 0 (omega arith) in
    elim (Contains-cases y m xs c) [
      | inl e ↦ omega (arith, first, e)
      | inr d ↦ let later = rising_first y xs (rising_tail x (y ∷ xs) h) m d in omega (arith, first, later)
    ]

rising_same : (xs ys : List ℕ) → IsStrictlyIncreasing xs → IsStrictlyIncreasing ys → ((m : ℕ) → Contains xs m → Contains ys m) → ((m : ℕ) → Contains ys m → Contains xs m) → xs ≡ ys
rising_same [] [] p q f g = refl
rising_same [] (y ∷ ys) p q f g = let c = g y (Contains-here y ys) in absurd (omega (arith, c.1))
rising_same (x ∷ xs) [] p q f g = let c = f x (Contains-here x xs) in absurd (omega (arith, c.1))
rising_same (x ∷ xs) (y ∷ ys) p q f g =
    let le : y ≤ x = elim (Contains-cases y x ys (f x (Contains-here x xs))) [
      | inl e ↦ omega (arith, e)
      | inr c ↦ let l = rising_first y ys q x c in omega (arith, l)
    ] in
    let ge : x ≤ y = elim (Contains-cases x y xs (g y (Contains-here y ys))) [
      | inl e ↦ omega (arith, e)
      | inr c ↦ let l = rising_first x xs p y c in omega (arith, l)
    ] in
    let same : x ≡ y = omega (arith, le, ge) in
    let rest : xs ≡ ys = rising_same xs ys (rising_tail x xs p) (rising_tail y ys q)
    (λ m c. elim (Contains-cases y m ys (f m (Contains-later x m xs c))) [
      | inl e ↦ let l = rising_first x xs p m c in absurd (omega (arith, l, e, same))
      | inr d ↦ d
    ])
    (λ m c. elim (Contains-cases x m xs (g m (Contains-later y m ys c))) [
      | inl e ↦ let l = rising_first y ys q m c in absurd (omega (arith, l, e, same))
      | inr d ↦ d
    ]) in
    ap (λ t. x ∷ t) rest ∙ ap (λ k. k ∷ ys) same

-- ---- what is entered

entered_too : (can_enter : List ℕ → Bool) (es : List Entry) (end : ℕ) (a b : List ℕ) → IsNested es → Enters can_enter es end a → Enters can_enter es end b → (k m : ℕ) → m < k → Contains a m → Contains b m
entered_too can_enter es end a b nested p q zero m l c = absurd (omega (arith, l))
entered_too can_enter es end a b nested p q (suc k) m l c =
    let r = p.are m c in
    q.all m (record {
      entry = r.entry;
      stands = r.stands;
      before = r.before;
      is_dir = r.is_dir;
      can_be_entered = r.can_be_entered;
      seen = seen_from b r.entry (λ j d. let v = (nested.above m j r.entry r.stands d).before in entered_too can_enter es end a b nested p q k j (omega (arith, v, l)) (from_seen a r.entry j r.seen d));
    })

pub entered_is_one : EnteredIsOne
entered_is_one can_enter es end a b nested p q =
    rising_same a b p.rising q.rising (λ m c. entered_too can_enter es end a b nested p q (suc m) m (omega arith) c) (λ m c. entered_too can_enter es end b a nested q p (suc m) m (omega arith) c)

-- ---- what is given

pub given_is_one : (table : Table) (specs : List Spec) → GivenIsOne table specs
given_is_one table specs es given entered walk =
    rising_same given (chosen_entries table specs es) walk.given_rising (entries_where-rising (is_chosen table specs) es)
    (λ n c. let h = (walk.given_chosen n).0 c in (Contains-entries_where (is_chosen table specs) es n).1 (h.0, h.1, (chosen_is_test table specs h.0.path h.0.is_dir).1 h.2))
    (λ n c. let r = (Contains-entries_where (is_chosen table specs) es n).0 c in (walk.given_chosen n).1 (r.0, r.1, (chosen_is_test table specs r.0.path r.0.is_dir).0 r.2))
