-- A walk in its course: from an entry that it sees to the next one, over those that it does not see.
use Rattle.std.proofs.Common.{◌≡◌, ℕ, zero, suc, ◌+◌, ◌-◌, ◌<◌, ◌≤◌, Bool, true, false, ◌&&◌, cond, refl, sym, ◌∙◌, ap, subst, List, [], ◌∷◌, ◌++◌, length, take, max, arith, inl, inr, Some}
use Rattle.std.proofs.lemmas.Bool.{and_parts, and_from, cases_Bool, both_ways, cases_lt, false_from_ne_true}
use Rattle.std.proofs.lemmas.List.{append-nil, take_all}
use Rattle.std.proofs.lemmas.List.Elements.{Contains-append_left, Contains-push, Contains-push_cases}
use Rattle.std.proofs.lemmas.Option.{slice_get_within, same_Some, slice_get_cases}
use Rattle.std.specs.Prelude.{slice_get, Contains}
use Rattle.pathspec_parts.specs.Entries.{Entry, is_seen, entries_where}
use Rattle.pathspec_parts.specs.Trees.{IsNested}
use Rattle.pathspec_parts.specs.Cursors.{append_if}
use Rattle.pathspec_parts.proofs.EntryProofs.{entries_where-push}
use Rattle.pathspec_parts.proofs.SeenProofs.{seen_from, from_seen, next_seen-some, next_seen-none, rising-push}
use Rattle.pathspec_walk.specs.Walks.{Enters, IsSafePruning, WalkStarts, WalkGoesOn, WalkEnds}
use Rattle.pathspec_walk.proofs.WalkProofs.{taken_is_seen}

-- ---- what is taken

-- one more entry
take-get : {X : Type 0} (xs : List X) (n : ℕ) (x : X) → slice_get xs n ≡ Some x → take (n + 1) xs ≡ take n xs ++ x ∷ []
take-get [] n x e = cc
take-get (y ∷ xs) zero x e = ap (λ z. z ∷ []) (same_Some y x e)
take-get (y ∷ xs) (suc n) x e = let one : suc n + 1 ≡ suc (n + 1) = omega arith in rw one (ap (λ t. y ∷ t) (take-get xs n x e))

-- no more entry
take-past : {X : Type 0} (xs : List X) (n : ℕ) → length xs ≤ n → take (n + 1) xs ≡ take n xs
take-past [] zero l = refl
take-past [] (suc n) l = let one : suc n + 1 ≡ suc (n + 1) = omega arith in rw one refl
take-past (y ∷ xs) zero l = absurd (omega (arith, l))
take-past (y ∷ xs) (suc n) l = let one : suc n + 1 ≡ suc (n + 1) = omega arith in rw one (ap (λ t. y ∷ t) (take-past xs n (omega (arith, l))))

length-take-get : {X : Type 0} (xs : List X) (n : ℕ) (x : X) → slice_get xs n ≡ Some x → length (take n xs) ≡ n
length-take-get [] n x e = cc
length-take-get (y ∷ xs) zero x e = refl
length-take-get (y ∷ xs) (suc n) x e = ap suc (length-take-get xs n x e)

-- an entry adds its number where it passes
taken-one : (takes : List ℕ → Bool → Bool) (es : List Entry) (n : ℕ) (e : Entry) → slice_get es n ≡ Some e
    → entries_where takes (take (n + 1) es) ≡ append_if (takes e.path e.is_dir) n (entries_where takes (take n es))
taken-one takes es n e s =
    let given = entries_where takes (take n es) in
    let more : entries_where takes (take (n + 1) es) ≡ given ++ cond (takes e.path e.is_dir) (n ∷ []) [] =
    ap (entries_where takes) (take-get es n e s) ∙ (entries_where-push takes (take n es) e ∙ ap (λ (k : ℕ). given ++ cond (takes e.path e.is_dir) (k ∷ []) []) (length-take-get es n e s)) in
    more ∙ note (takes e.path e.is_dir) given
  where
    note : (b : Bool) (given : List ℕ) → given ++ cond b (n ∷ []) [] ≡ append_if b n given
    note true given = refl
    note false given = append-nil given

-- entries that do not pass add nothing
taken-over : (takes : List ℕ → Bool → Bool) (es : List Entry) (k c : ℕ) → ((j : ℕ) (e : Entry) → k ≤ j → j < k + c → slice_get es j ≡ Some e → takes e.path e.is_dir ≡ false)
    → entries_where takes (take (k + c) es) ≡ entries_where takes (take k es)
taken-over takes es k zero h = let e : k + 0 ≡ k = omega arith in ap (λ n. entries_where takes (take n es)) e
taken-over takes es k (suc c) h =
    let before = taken-over takes es k c (λ j e a b s. h j e a (omega (arith, b)) s) in
    let one : k + suc c ≡ (k + c) + 1 = omega arith in
    ap (λ n. entries_where takes (take n es)) one ∙ elim (slice_get_cases es (k + c)).1 [
      | inl q ↦ let off : takes q.0.path q.0.is_dir ≡ false = h (k + c) q.0 (omega arith) (omega arith) q.2 in
          taken-one takes es (k + c) q.0 q.2 ∙ (ap (λ b. append_if b (k + c) (entries_where takes (take (k + c) es))) off ∙ before)
      | inr q ↦ ap (entries_where takes) (take-past es (k + c) q.0) ∙ before
    ]

taken-between : (takes : List ℕ → Bool → Bool) (es : List Entry) (k n : ℕ) → k ≤ n → ((j : ℕ) (e : Entry) → k ≤ j → j < n → slice_get es j ≡ Some e → takes e.path e.is_dir ≡ false)
    → entries_where takes (take n es) ≡ entries_where takes (take k es)
taken-between takes es k n l h = let e : k + (n - k) ≡ n = omega (arith, l) in ap (λ m. entries_where takes (take m es)) (sym e) ∙ taken-over takes es k (n - k) (λ j x a b s. h j x a (omega (arith, b, e)) s)

-- ---- what is entered

-- over entries that are not seen
enters-over : (can_enter : List ℕ → Bool) (es : List Entry) (k n : ℕ) (entered : List ℕ) → k ≤ n → ((j : ℕ) (e : Entry) → k ≤ j → j < n → slice_get es j ≡ Some e → is_seen entered e ≡ false) → Enters can_enter es k entered → Enters can_enter es n entered
enters-over can_enter es k n entered l h w = record {
  rising = w.rising;
  are = λ m c. let r = w.are m c in record { entry = r.entry; stands = r.stands; before = omega (arith, r.before, l); is_dir = r.is_dir; can_be_entered = r.can_be_entered; seen = r.seen };
  all = λ m r. elim (cases_lt m k) [
    | inl lt ↦ w.all m (record { entry = r.entry; stands = r.stands; before = lt; is_dir = r.is_dir; can_be_entered = r.can_be_entered; seen = r.seen })
    | inr ge ↦ absurd (both_ways (is_seen entered r.entry) (h m r.entry ge r.before r.stands) r.seen)
  ];
}

-- an entry that is none to enter
enters-no : (can_enter : List ℕ → Bool) (es : List Entry) (n : ℕ) (e : Entry) (entered : List ℕ) → slice_get es n ≡ Some e → (e.is_dir && can_enter e.path) ≡ false → Enters can_enter es n entered → Enters can_enter es (n + 1) entered
enters-no can_enter es n e entered s off w = record {
  rising = w.rising;
  are = λ m c. let r = w.are m c in record { entry = r.entry; stands = r.stands; before = omega (arith, r.before); is_dir = r.is_dir; can_be_entered = r.can_be_entered; seen = r.seen };
  all = λ m r. elim (cases_lt m n) [
    | inl lt ↦ w.all m (record { entry = r.entry; stands = r.stands; before = lt; is_dir = r.is_dir; can_be_entered = r.can_be_entered; seen = r.seen })
    | inr ge ↦
        let at : m ≡ n = omega (arith, r.before, ge) in
        let same : r.entry ≡ e = same_Some r.entry e (sym r.stands ∙ (ap (slice_get es) at ∙ s)) in
        let yes_it : (e.is_dir && can_enter e.path) ≡ true = subst (λ (x : Entry). (x.is_dir && can_enter x.path) ≡ true) same (and_from r.entry.is_dir (can_enter r.entry.path) r.is_dir r.can_be_entered) in
        absurd (both_ways (e.is_dir && can_enter e.path) off yes_it)
  ];
}

-- an entry to enter
enters-yes : (can_enter : List ℕ → Bool) (es : List Entry) (n : ℕ) (e : Entry) (entered : List ℕ) → IsNested es → slice_get es n ≡ Some e → is_seen entered e ≡ true → (e.is_dir && can_enter e.path) ≡ true
    → Enters can_enter es n entered → Enters can_enter es (n + 1) (entered ++ n ∷ [])
enters-yes can_enter es n e entered nested s seen yes_it w =
    let wider : (f : Entry) → is_seen entered f ≡ true → is_seen (entered ++ n ∷ []) f ≡ true = λ f v. seen_from (entered ++ n ∷ []) f (λ j b. Contains-append_left entered (n ∷ []) j (from_seen entered f j v b)) in
    record {
      rising = rising-push entered n w.rising (λ m c. (w.are m c).before);
      are = λ m c. elim (Contains-push_cases entered n m c) [
        | inl q ↦ let r = w.are m q in record { entry = r.entry; stands = r.stands; before = omega (arith, r.before); is_dir = r.is_dir; can_be_entered = r.can_be_entered; seen = wider r.entry r.seen }
        | inr q ↦ let p = and_parts e.is_dir (can_enter e.path) yes_it in record { entry = e; stands = ap (slice_get es) (sym q) ∙ s; before = omega (arith, q); is_dir = p.0; can_be_entered = p.1; seen = wider e seen }
      ];
      all = λ m r. elim (cases_lt m n) [
        | inl lt ↦ Contains-append_left entered (n ∷ []) m (w.all m (record {
          entry = r.entry;
          stands = r.stands;
          before = lt;
          is_dir = r.is_dir;
          can_be_entered = r.can_be_entered;
          seen = seen_from entered r.entry (λ j b. elim (Contains-push_cases entered n j (from_seen (entered ++ n ∷ []) r.entry j r.seen b)) [
            | inl q ↦ q
            | inr q ↦ let v = (nested.above m j r.entry r.stands b).before in absurd (omega (arith, v, q, lt))
          ]);
        }))
        | inr ge ↦ let at : n ≡ m = omega (arith, r.before, ge) in subst (Contains (entered ++ n ∷ [])) at (Contains-push entered n)
      ];
    }

-- ---- the walk

pub walk_starts : (can_enter : List ℕ → Bool) (takes : List ℕ → Bool → Bool) → WalkStarts can_enter takes
unfolding entries_where
walk_starts can_enter takes es = record {
  given_is = refl;
  enters = record { rising = λ k l. absurd (omega (arith, l)); are = λ m c. absurd (omega (arith, c.1)); all = λ m r. let b = r.before in absurd (omega (arith, b)) };
}

unseen_not_taken : (can_enter : List ℕ → Bool) (takes : List ℕ → Bool → Bool) → IsSafePruning can_enter takes → (es : List Entry) (end : ℕ) (entered : List ℕ) → IsNested es → Enters can_enter es end entered
    → (j : ℕ) (e : Entry) → j ≤ end → slice_get es j ≡ Some e → is_seen entered e ≡ false → takes e.path e.is_dir ≡ false
unseen_not_taken can_enter takes safe es end entered nested w j e l s v =
    false_from_ne_true (takes e.path e.is_dir) (λ t. both_ways (is_seen entered e) v (taken_is_seen can_enter takes safe es end entered nested w j e l s t))

pub walk_goes_on : (can_enter : List ℕ → Bool) (takes : List ℕ → Bool → Bool) → WalkGoesOn can_enter takes
walk_goes_on can_enter takes safe es end given entered nested h n e next s =
    let r = next_seen-some entered end es n e next s in
    let w : Enters can_enter es n entered = enters-over can_enter es end n entered r.from r.unseen h.enters in
    let same : given ≡ entries_where takes (take n es) = h.given_is ∙ sym (taken-between takes es end n r.from (λ j f a b g. unseen_not_taken can_enter takes safe es n entered nested w j f (omega (arith, b)) g (r.unseen j f a b g))) in
    record {
      given_is = ap (append_if (takes e.path e.is_dir) n) same ∙ sym (taken-one takes es n e s);
      enters = elim (cases_Bool (e.is_dir && can_enter e.path)) [
        | inl y ↦ subst (λ b. Enters can_enter es (n + 1) (append_if b n entered)) (sym y) (enters-yes can_enter es n e entered nested s r.seen y w)
        | inr f ↦ subst (λ b. Enters can_enter es (n + 1) (append_if b n entered)) (sym f) (enters-no can_enter es n e entered s f w)
      ];
    }

pub walk_ends : (can_enter : List ℕ → Bool) (takes : List ℕ → Bool → Bool) → WalkEnds can_enter takes
walk_ends can_enter takes safe es end given entered nested h none =
    let unseen = next_seen-none entered end es none in
    let far = max end (length es) in
    let w : Enters can_enter es far entered = enters-over can_enter es end far entered (omega arith) (λ j f a b g. unseen j f a g) h.enters in
    let same : given ≡ entries_where takes (take far es) = h.given_is ∙ sym (taken-between takes es end far (omega arith) (λ j f a b g. unseen_not_taken can_enter takes safe es far entered nested w j f (omega (arith, b)) g (unseen j f a g))) in
    record {
      given_is = same ∙ ap (entries_where takes) (take_all far es (omega arith) ∙ sym (take_all (length es) es (omega arith)));
      enters = record {
        rising = w.rising;
        are = λ m c. let q = w.are m c in let i = slice_get_within es m q.entry q.stands in record { entry = q.entry; stands = q.stands; before = i; is_dir = q.is_dir; can_be_entered = q.can_be_entered; seen = q.seen };
        all = λ m q. let b = q.before in w.all m (record { entry = q.entry; stands = q.stands; before = omega (arith, b); is_dir = q.is_dir; can_be_entered = q.can_be_entered; seen = q.seen });
      };
    }
