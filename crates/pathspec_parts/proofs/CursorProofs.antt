-- A cursor knows its place: at the start, when it goes on, at the end, and when it enters a directory.
use Rattle.std.proofs.Common.{◌≡◌, ℕ, zero, suc, ◌+◌, ◌-◌, ◌<◌, ◌≤◌, Bool, true, false, cond, not, refl, sym, ◌∙◌, ap, subst, List, [], ◌∷◌, ◌++◌, length, get_or, ◌==◌, arith, inl, inr, Option, Some, None}
use Rattle.std.proofs.lemmas.Bool.{cases_lt, cases_Bool, both_ways, false_from_ne_true, ne_eqb, eq-eqb}
use Rattle.std.proofs.lemmas.List.{get_or_default, length_push}
use Rattle.std.proofs.lemmas.List.Sums.{sum_by-append}
use Rattle.std.proofs.lemmas.List.Kept.{AllPairs-from_increasing}
use Rattle.std.proofs.lemmas.List.Elements.{Contains-append_left, Contains-push, Contains-push_cases, Contains-get_or}
use Rattle.std.proofs.lemmas.Option.{slice_get_cases, slice_get_within, same_Some, get_or_from_slice_get, slice_get-get_or, none-some}
use Rattle.std.specs.Prelude.{◌⊎◌, ◌↔◌, slice_get, option_map, unwrap_or, Contains}
use Rattle.std.specs.List.Sorted.{IsStrictlyIncreasing}
use Rattle.pathspec_glob.specs.Bytes.{is_one_of}
use Rattle.pathspec_parts.specs.Paths.{IsBelow}
use Rattle.pathspec_parts.specs.Entries.{Entry, is_seen}
use Rattle.pathspec_parts.specs.Trees.{IsNested, HasBytePaths}
use Rattle.pathspec_parts.proofs.EntryProofs.{Contains-here, Contains-later}
use Rattle.pathspec_parts.proofs.SeenProofs.{one_of-from, from-one_of, seen_from, from_seen, next_seen-is, none-next_seen, rising-push}
use Rattle.pathspec_parts.proofs.TreeProofs.{entries_run}
use Rattle.pathspec_parts.specs.Cursors.{CursorContents, IsNew, number_after_place, next_seen, append_if, append_once, directory_count, path_at, cursor_at, IsDirectoryIn, IsEndOf, IsNearPath, IsCursor}

-- ---- the start

pub starts : (es : List Entry) (entered_room : ℕ) → IsNested es → HasBytePaths es → directory_count es ≤ entered_room → IsCursor es None 0 [] true entered_room
starts es entered_room nest bytes long = record {
  nested = nest;
  bytes = bytes;
  here = λ n e. cc;
  fresh = λ e. (refl, refl);
  onward = omega arith;
  unseen = λ j f a b s. absurd (omega (arith, b));
  seen = λ f s. seen_from [] f (λ m c. let b = (nest.above 0 m f s c).before in absurd (omega (arith, b)));
  near = λ f m s c. let b = (nest.above 0 m f s c).before in absurd (omega (arith, b));
  rising = λ k l. absurd (omega (arith, l));
  directories = λ m c. absurd (omega (arith, c.1));
  entered_before = λ m c. absurd (omega (arith, c.1));
  holds_entered = long;
}

-- ---- where it stands

-- an entry stands where the number is below the count
pub entry_there : (es : List Entry) (n : ℕ) → n < length es → (e : Entry) × (slice_get es n ≡ Some e)
entry_there es n l = elim (slice_get_cases es n).1 [
  | inl q ↦ (q.0, q.2)
  | inr q ↦ absurd (omega (arith, q.0, l))
]

-- the path of the entry to which it goes
pub path_after : (c : CursorContents) (n : ℕ) (e : Entry) → slice_get c.entries n ≡ Some e → path_at (cursor_at c (Some n)) ≡ e.path
path_after c n e s = ap (λ (o : Option Entry). unwrap_or (option_map (λ x. x.path) o) []) s

-- the path of the entry there
pub path_there : (es : List Entry) (at : Option ℕ) (n : ℕ) (e : Entry) (entered : List ℕ) (is_new : Bool) → at ≡ Some n → slice_get es n ≡ Some e → path_at (record { entries = es; at = at; entered = entered; is_new = is_new }) ≡ e.path
path_there es at n e entered is_new a s =
    ap (λ (o : Option ℕ). path_at (record { entries = es; at = o; entered = entered; is_new = is_new })) a ∙ ap (λ (o : Option Entry). unwrap_or (option_map (λ x. x.path) o) []) s

module _ (es : List Entry) (at : Option ℕ) (next : ℕ) (entered : List ℕ) (is_new : Bool) (entered_room : ℕ) (h : IsCursor es at next entered is_new entered_room) where
  after_le : number_after_place es at is_new ≤ length es
  after_le = go at is_new h.here
    where
      go : (o : Option ℕ) (b : Bool) → ((n : ℕ) → o ≡ Some n → (e : Entry) × (slice_get es n ≡ Some e) × (is_seen entered e ≡ true)) → number_after_place es o b ≤ length es
      go (Some n) b f = let r = f n refl in let w = slice_get_within es n r.0 r.1 in omega (arith, w)
      go None true f = omega arith
      go None false f = omega arith

  -- the path of the entry is near the next one
  pub is_near : IsNearPath es next (path_at (record { entries = es; at = at; entered = entered; is_new = is_new }))
  is_near e d m s c t =
      let r = h.near e m s c in
      let q = h.here r.0 r.2 in
      let same : q.0 ≡ r.1 = same_Some q.0 r.1 (sym q.1 ∙ r.3) in
      let path_is = path_there es at r.0 q.0 entered is_new r.2 q.1 in
      elim r.4 [
        | inl k ↦
            let d_is : r.1 ≡ d = same_Some r.1 d (sym r.3 ∙ (ap (slice_get es) (sym k) ∙ t)) in
            inl (path_is ∙ ap (λ (x : Entry). x.path) (same ∙ d_is))
        | inr k ↦
            let a = h.nested.above r.0 m r.1 r.3 k in
            let d_is : a.directory ≡ d = same_Some a.directory d (sym a.stands ∙ t) in
            inr (subst (λ (x : List ℕ). IsBelow x d.path) (sym (path_is ∙ ap (λ (x : Entry). x.path) same)) (subst (λ (x : Entry). IsBelow r.1.path x.path) d_is a.below))
      ]

  -- the end

  pub ends : length es ≤ next → IsCursor es None next entered false entered_room
  ends le = record {
    nested = h.nested;
    bytes = h.bytes;
    here = λ n e. cc;
    fresh = λ e. cc;
    onward = le;
    unseen = λ j f a b s. let w = slice_get_within es j f s in absurd (omega (arith, w, a));
    seen = λ f s. let w = slice_get_within es next f s in absurd (omega (arith, w, le));
    near = λ f m s c. let w = slice_get_within es next f s in absurd (omega (arith, w, le));
    rising = h.rising;
    directories = h.directories;
    entered_before = λ m c. let b = h.entered_before m c in omega (arith, b, after_le);
    holds_entered = h.holds_entered;
  }

  pub ends_none : length es ≤ next → next_seen entered (number_after_place es at is_new) es ≡ None
  ends_none le = none-next_seen entered (number_after_place es at is_new) es (λ j f a s. let w = slice_get_within es j f s in h.unseen j f a (omega (arith, w, le)) s)

  -- the next entry

  not_entered : Contains entered next → ⊥
  not_entered c = let b = h.entered_before next c in omega (arith, b, h.onward)

  -- what lies above the entry after one lies above that one
  above_end : (e : Entry) → slice_get es next ≡ Some e → (end : ℕ) → IsEndOf es next end → (f : Entry) → slice_get es end ≡ Some f → (m : ℕ) → Contains f.above m → Contains e.above m
  above_end e s end is f t m c =
      let a = h.nested.above end m f t c in
      let b = a.before in
      let not_next : Contains f.above next → ⊥ = λ x. let l = (is.1 end f is.0 t).0 x in omega (arith, l) in
      elim (cases_lt m next) [
        | inl lt ↦ let first = is.0 in entries_run es h.nested m next end e f lt (omega (arith, first)) s t c
        | inr ge ↦ elim (cases_lt next m) [
          | inl lt ↦ absurd (not_next (a.through next ((is.1 m a.directory lt a.stands).1 b)))
          | inr le ↦ let eq : m ≡ next = omega (arith, ge, le) in absurd (not_next (subst (Contains f.above) eq c))
        ]
      ]

  pub goes : (e : Entry) → slice_get es next ≡ Some e → (end : ℕ) → IsEndOf es next end → IsCursor es (Some next) end entered false entered_room
  goes e s end is = record {
    nested = h.nested;
    bytes = h.bytes;
    here = λ n q. let k : next ≡ n = same_Some next n q in (e, ap (slice_get es) (sym k) ∙ s, h.seen e s);
    fresh = λ q. cc;
    onward = let first = is.0 in omega (arith, first);
    unseen = λ j f a b t. false_from_ne_true (is_seen entered f) (λ v. not_entered (from_seen entered f next v ((is.1 j f (omega (arith, a)) t).1 b)));
    seen = λ f t. seen_from entered f (λ m c. from_seen entered e m (h.seen e s) (above_end e s end is f t m c));
    near = λ f m t c. (next, e, refl, s, inr (above_end e s end is f t m c));
    rising = h.rising;
    directories = h.directories;
    entered_before = λ m c. let b = h.entered_before m c in omega (arith, b, h.onward);
    holds_entered = h.holds_entered;
  }

  pub goes_next : (e : Entry) → slice_get es next ≡ Some e → next_seen entered (number_after_place es at is_new) es ≡ Some next
  goes_next e s = next_seen-is entered (number_after_place es at is_new) es next e (record { from = h.onward; stands = s; seen = h.seen e s; unseen = h.unseen })

-- ---- a directory is entered

append_once-contains : (entered : List ℕ) (n : ℕ) → Contains (append_once entered (Some n)) n
append_once-contains entered n = elim (cases_Bool (is_one_of entered n)) [
  | inl y ↦ subst (λ b. Contains (append_if (not b) n entered) n) (sym y) (from-one_of entered n y)
  | inr f ↦ subst (λ b. Contains (append_if (not b) n entered) n) (sym f) (Contains-push entered n)
]

append_once-keeps : (entered : List ℕ) (n m : ℕ) → Contains entered m → Contains (append_once entered (Some n)) m
append_once-keeps entered n m c = elim (cases_Bool (is_one_of entered n)) [
  | inl y ↦ subst (λ b. Contains (append_if (not b) n entered) m) (sym y) c
  | inr f ↦ subst (λ b. Contains (append_if (not b) n entered) m) (sym f) (Contains-append_left entered (n ∷ []) m c)
]

append_once-cases : (entered : List ℕ) (n m : ℕ) → Contains (append_once entered (Some n)) m → Contains entered m ⊎ (n ≡ m)
append_once-cases entered n m c = elim (cases_Bool (is_one_of entered n)) [
  | inl y ↦ inl (subst (λ b. Contains (append_if (not b) n entered) m) y c)
  | inr f ↦ Contains-push_cases entered n m (subst (λ b. Contains (append_if (not b) n entered) m) f c)
]

append_once-rising : (entered : List ℕ) (n : ℕ) → IsStrictlyIncreasing entered → ((m : ℕ) → Contains entered m → m < n + 1) → IsStrictlyIncreasing (append_once entered (Some n))
append_once-rising entered n r below = elim (cases_Bool (is_one_of entered n)) [
  | inl y ↦ subst (λ b. IsStrictlyIncreasing (append_if (not b) n entered)) (sym y) r
  | inr f ↦ subst (λ b. IsStrictlyIncreasing (append_if (not b) n entered)) (sym f) (rising-push entered n r (λ m c. elim (cases_lt m n) [
    | inl lt ↦ lt
    | inr ge ↦
        let b = below m c in
        let eq : m ≡ n = omega (arith, b, ge) in
        absurd (both_ways (is_one_of entered n) f (one_of-from entered n (subst (Contains entered) eq c)))
  ]))
]

pub enters : (es : List Entry) (n next : ℕ) (entered : List ℕ) (is_new : Bool) (entered_room : ℕ) → IsCursor es (Some n) next entered is_new entered_room → IsDirectoryIn es n → (more_room : ℕ) → entered_room ≤ more_room
    → IsCursor es (Some n) (n + 1) (append_once entered (Some n)) is_new more_room
enters es n next entered is_new entered_room h dir more_room wide =
    let q = h.here n refl in
    let e = q.0 in
    record {
      nested = h.nested;
      bytes = h.bytes;
      here = λ k r. let same : n ≡ k = same_Some n k r in (e, ap (slice_get es) (sym same) ∙ q.1, seen_from (append_once entered (Some n)) e (λ m c. append_once-keeps entered n m (from_seen entered e m q.2 c)));
      fresh = λ r. let f = (h.fresh r).0 in cc;
      onward = omega arith;
      unseen = λ j f a b s. absurd (omega (arith, a, b));
      seen = λ f s. seen_from (append_once entered (Some n)) f (λ m c. elim (h.nested.follows n m e f q.1 s c) [
        | inl d ↦ append_once-keeps entered n m (from_seen entered e m q.2 d)
        | inr d ↦ subst (Contains (append_once entered (Some n))) (sym d.0) (append_once-contains entered n)
      ]);
      near = λ f m s c. (
        n,
        e,
        refl,
        q.1,
        elim (h.nested.follows n m e f q.1 s c) [
          | inl d ↦ inr d
          | inr d ↦ inl d.0
        ],
      );
      rising = append_once-rising entered n h.rising h.entered_before;
      directories = λ m c. elim (append_once-cases entered n m c) [
        | inl d ↦ h.directories m d
        | inr d ↦ subst (IsDirectoryIn es) d dir
      ];
      entered_before = λ m c. elim (append_once-cases entered n m c) [
        | inl d ↦ h.entered_before m d
        | inr d ↦ omega (arith, d)
      ];
      holds_entered = let l = h.holds_entered in omega (arith, l, wide);
    }

-- ---- room for one more number

-- one more directory is one more number, and there are no more than there are directories
rising_head : (x : ℕ) (xs : List ℕ) → IsStrictlyIncreasing (x ∷ xs) → (m : ℕ) → Contains xs m → x < m
rising_head x xs r m (k, l, e) =
    let up : get_or (x ∷ xs) 0 0 < get_or (x ∷ xs) (suc k) 0 = AllPairs-from_increasing (x ∷ xs) r 0 (suc k) 0 (omega arith) (omega (arith, l)) in
    let at : get_or xs k 0 ≡ m = get_or_default xs k 0 m l ∙ e in
    omega (arith, up, at)

rising_tail : (x : ℕ) (xs : List ℕ) → IsStrictlyIncreasing (x ∷ xs) → IsStrictlyIncreasing xs
rising_tail x xs r k l =
    let one : suc k + 1 ≡ suc (k + 1) = omega arith in
    subst (λ i. get_or (x ∷ xs) (suc k) 0 < get_or (x ∷ xs) i 0) one (r (suc k) (omega (arith, l)))

-- from number n on
rising_count : (n : ℕ) (es : List Entry) (xs : List ℕ) → IsStrictlyIncreasing xs → ((m : ℕ) → Contains xs m → (i : ℕ) × (m ≡ n + i) × IsDirectoryIn es i) → length xs ≤ directory_count es
rising_count n es [] r d = omega arith
rising_count n [] (x ∷ xs) r d = let q = d x (Contains-here x xs) in let no_entry = q.2.1 in cc
rising_count n (e ∷ es) (x ∷ xs) r d = elim (cases_lt n x) [
  | inl lt ↦ let h = rising_count (n + 1) es (x ∷ xs) r (λ m c. later m (d m c) (below m c lt)) in omega (arith, h, split)
  | inr le ↦
      let q = d x (Contains-here x xs) in
      let first : q.0 ≡ 0 = omega (arith, le, q.1) in
      let here : slice_get (e ∷ es) 0 ≡ Some q.2.0 = subst (λ i. slice_get (e ∷ es) i ≡ Some q.2.0) first q.2.1 in
      let dir : e.is_dir ≡ true = ap (λ (y : Entry). y.is_dir) (same_Some e q.2.0 here) ∙ q.2.2 in
      let h = rising_count (n + 1) es xs (rising_tail x xs r) (λ m c. let up = rising_head x xs r m c in later m (d m (Contains-later x m xs c)) (omega (arith, up, q.1, first))) in
      omega (arith, h, is_counted e.is_dir dir, split)
]
  where
    split : directory_count (e ∷ es) ≡ cond e.is_dir 1 0 + directory_count es
    split = let z : 0 + cond e.is_dir 1 0 ≡ cond e.is_dir 1 0 = omega arith in sum_by-append (λ (x : Entry). cond x.is_dir 1 0) (e ∷ []) es ∙ ap (λ k. k + directory_count es) z

    is_counted : (b : Bool) → b ≡ true → 1 ≤ cond b 1 0
    is_counted true t = omega arith
    is_counted false t = cc

    later : (m : ℕ) → (i : ℕ) × (m ≡ n + i) × IsDirectoryIn (e ∷ es) i → n < m → (i : ℕ) × (m ≡ (n + 1) + i) × IsDirectoryIn es i
    later m (zero, p, q) lt = absurd (omega (arith, p, lt))
    later m (suc i, p, q) lt = (i, omega (arith, p), q)

    below : (m : ℕ) → Contains (x ∷ xs) m → n < x → n < m
    below m (zero, l, p) lt = omega (arith, p, lt)
    below m (suc k, l, p) lt = let up = rising_head x xs r m (k, omega (arith, l), p) in omega (arith, up, lt)

-- what was entered stands at the place or before it
pub entered_below : (es : List Entry) (at : Option ℕ) (n next : ℕ) (entered : List ℕ) (is_new : Bool) (entered_room : ℕ) → IsCursor es at next entered is_new entered_room → at ≡ Some n → (m : ℕ) → Contains entered m → m < n + 1
entered_below es at n next entered is_new entered_room h e m c = subst (λ (o : Option ℕ). m < number_after_place es o is_new) e (h.entered_before m c)

-- a directory that has not been entered finds room
pub room_for : (es : List Entry) (at : Option ℕ) (n next : ℕ) (entered : List ℕ) (is_new : Bool) (entered_room : ℕ) → IsCursor es at next entered is_new entered_room → at ≡ Some n → IsDirectoryIn es n
    → is_one_of entered n ≡ false → length entered < entered_room
room_for es at n next entered is_new entered_room h e dir f =
    let below : (m : ℕ) → Contains entered m → m < n = λ m c. elim (cases_lt m n) [
      | inl lt ↦ lt
      | inr ge ↦
          let b = entered_below es at n next entered is_new entered_room h e m c in
          let same : m ≡ n = omega (arith, b, ge) in
          absurd (both_ways (is_one_of entered n) f (one_of-from entered n (subst (Contains entered) same c)))
    ] in
    let all = rising_count 0 es (entered ++ n ∷ []) (rising-push entered n h.rising below) (λ m c. (
      m,
      omega arith,
      elim (Contains-push_cases entered n m c) [
        | inl d ↦ h.directories m d
        | inr d ↦ subst (IsDirectoryIn es) d dir
      ],
    )) in
    let k = h.holds_entered in
    omega (arith, all, k, length_push entered n)

-- the last of rising numbers tells whether one is there that none is greater than
pub last_tells : (xs : List ℕ) (n l : ℕ) → IsStrictlyIncreasing xs → ((m : ℕ) → Contains xs m → m < n + 1) → slice_get xs (length xs - 1) ≡ Some l → (l == n) ≡ is_one_of xs n
last_tells xs n l r below s =
    let w = slice_get_within xs (length xs - 1) l s in
    let at : get_or xs (length xs - 1) 0 ≡ l = get_or_from_slice_get xs (length xs - 1) l 0 s in
    let in_it : Contains xs l = subst (Contains xs) at (Contains-get_or xs (length xs - 1) 0 w) in
    elim (cases_Bool (is_one_of xs n)) [
      | inl y ↦
          let c = from-one_of xs n y in
          let there : get_or xs c.0 0 ≡ n = get_or_default xs c.0 0 n c.1 ∙ c.2 in
          let same : l ≡ n = elim (cases_lt c.0 (length xs - 1)) [
            | inl lt ↦
                let up : get_or xs c.0 0 < get_or xs (length xs - 1) 0 = AllPairs-from_increasing xs r c.0 (length xs - 1) 0 lt w in
                let b = below l in_it in
                absurd (omega (arith, up, there, at, b))
            | inr ge ↦
                let i : c.0 ≡ length xs - 1 = let lt = c.1 in omega (arith, lt, ge) in
                sym at ∙ (ap (λ k. get_or xs k 0) (sym i) ∙ there)
          ] in
          eq-eqb l n same ∙ sym y
      | inr f ↦ ne_eqb l n (λ e. both_ways (is_one_of xs n) f (one_of-from xs n (subst (Contains xs) e in_it))) ∙ sym f
    ]

pub none_tells : (xs : List ℕ) (n : ℕ) → slice_get xs (length xs - 1) ≡ None → false ≡ is_one_of xs n
none_tells [] n s = refl
none_tells (x ∷ xs) n s =
    let some = slice_get-get_or (x ∷ xs) (length (x ∷ xs) - 1) 0 (omega arith) in
    absurd (none-some (get_or (x ∷ xs) (length (x ∷ xs) - 1) 0) (sym s ∙ some))

-- ---- the same, by other names

pub enters_as : (es : List Entry) (at : Option ℕ) (n next : ℕ) (entered : List ℕ) (is_new : Bool) (entered_room : ℕ) → IsCursor es at next entered is_new entered_room → at ≡ Some n → IsDirectoryIn es n → (more_room : ℕ) → entered_room ≤ more_room
    → (more : List ℕ) → more ≡ append_once entered (Some n) → IsCursor es at (n + 1) more is_new more_room
enters_as es at n next entered is_new entered_room h e dir more_room wide more m =
    subst (λ (o : Option ℕ). IsCursor es o (n + 1) more is_new more_room) (sym e)
    (subst (λ (xs : List ℕ). IsCursor es (Some n) (n + 1) xs is_new more_room) (sym m)
    (enters es n next entered is_new entered_room (subst (λ (o : Option ℕ). IsCursor es o next entered is_new entered_room) e h) dir more_room wide))

-- a cursor that is new is a new one
pub new_is : (es : List Entry) (at : Option ℕ) (next : ℕ) (entered : List ℕ) (is_new : Bool) (entered_room : ℕ) → IsCursor es at next entered is_new entered_room
    → (is_new ≡ true) ↔ IsNew (record { entries = es; at = at; entered = entered; is_new = is_new })
new_is es at next entered is_new entered_room h = (
  λ t. let f = h.fresh t in ap (λ a. record { entries = es; at = a; entered = entered; is_new = is_new }) f.0 ∙ (ap (λ x. record { entries = es; at = None; entered = x; is_new = is_new }) f.1 ∙ ap (λ b. record { entries = es; at = None; entered = []; is_new = b }) t),
  λ e. ap (λ (s : CursorContents). s.is_new) e,
)
