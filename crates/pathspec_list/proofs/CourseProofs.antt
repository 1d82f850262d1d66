-- A walk over directories goes on as a walk over the entries of their tree does.
use Rattle.std.proofs.Common.{◌≡◌, ℕ, ◌+◌, ◌<◌, ◌≤◌, Bool, true, false, ◌&&◌, ◌||◌, not, cond, refl, sym, ◌∙◌, ap, subst, List, [], ◌∷◌, ◌++◌, length, drop, arith, inl, inr, Option, Some, None, append_assoc}
use Rattle.std.proofs.lemmas.Bool.{and_parts}
use Rattle.std.proofs.lemmas.List.{append-nil, map-append, append_cancel_left, take_all}
use Rattle.std.proofs.lemmas.List.Elements.{Contains-push_cases}
use Rattle.std.proofs.lemmas.Option.{same_Some}
use Rattle.std.specs.Prelude.{slice_get, unwrap_or, option_map, Contains, IsTrue, filter}
use Rattle.std.specs.List.Sorted.{IsStrictlyIncreasing}
use Rattle.pathspec_parts.specs.Attributes.{Table}
use Rattle.pathspec_parts.specs.Entries.{Entry, is_seen, entries_where}
use Rattle.pathspec_parts.specs.Trees.{IsNested}
use Rattle.pathspec_parts.specs.Cursors.{next_seen, append_if}
use Rattle.pathspec_parts.proofs.SeenProofs.{next_seen-is, none-next_seen, rising-push}
use Rattle.gix_pathspec.specs.Specs.{Spec}
use Rattle.gix_pathspec.specs.Matching.{is_chosen}
use Rattle.gix_pathspec.specs.SelectionLaws.{NoNilPrefix}
use Rattle.pathspec_walk.specs.Walks.{IsSafePruning, IsWalkUpTo, IsEntryWith, can_hold}
use Rattle.pathspec_walk.proofs.WalkProofs.{can_hold_is_safe}
use Rattle.pathspec_walk.proofs.GoingProofs.{walk_starts, walk_goes_on, walk_ends}
use Rattle.pathspec_list.specs.Directories.{paths_of, entries_at_top, entries_in, append_known}
use Rattle.pathspec_list.specs.Listings.{is_listed, Given, given_at, given_if, paths_at, path_if, GivesPart, GivesAll, IsMore, NothingTold}
use Rattle.pathspec_list.specs.Courses.{Course, after_fault, after_entry, IsVisit, IsTopVisit, GivesAtMost}
use Rattle.pathspec_list.proofs.PendingProofs.{first_from, first_path, no_path, none_from, opened_sees}

-- What is listed is chosen, so that pruning is safe for it too.
pub listing_is_safe : (with_directories : Bool) (table : Table) (specs : List Spec) → NoNilPrefix specs → IsSafePruning (can_hold specs) (is_listed with_directories table specs)
listing_is_safe with_directories table specs none path d is_dir taken below =
    can_hold_is_safe table specs none path d is_dir (and_parts (with_directories || not is_dir) (is_chosen table specs path is_dir) taken).1 below

-- ---- paths by their numbers

path_there : (es : List Entry) (n : ℕ) (e : Entry) → slice_get es n ≡ Some e → paths_at es (n ∷ []) ≡ e.path ∷ []
path_there es n e s = ap (λ o. unwrap_or (option_map (λ (x : Entry). x.path) o) [] ∷ []) s

more_paths : (es : List Entry) (n : ℕ) (e : Entry) → slice_get es n ≡ Some e → (ns : List ℕ) → paths_at es (ns ++ n ∷ []) ≡ paths_at es ns ++ e.path ∷ []
more_paths es n e s ns = map-append (λ k. unwrap_or (option_map (λ (x : Entry). x.path) (slice_get es k)) []) ns (n ∷ []) ∙ ap (λ ps. paths_at es ns ++ ps) (path_there es n e s)

pub more_append : {X : Type 0} (start : Option (List X)) (xs ys : List X) → append_known (append_known start xs) ys ≡ append_known start (xs ++ ys)
more_append None xs ys = refl
more_append (Some s) xs ys = ap Some (append_assoc s xs ys)

pub no_more : {X : Type 0} (start : Option (List X)) → append_known start [] ≡ start
no_more None = refl
no_more (Some s) = ap Some (append-nil s)

paths_if : (es : List Entry) (n : ℕ) (e : Entry) → slice_get es n ≡ Some e → (b : Bool) (start paths : Option (List (List ℕ))) (ns : List ℕ) → paths ≡ append_known start (paths_at es ns) → path_if b e.path paths ≡ append_known start (paths_at es (append_if b n ns))
paths_if es n e s true start paths ns h = ap (λ ps. append_known ps (e.path ∷ [])) h ∙ (more_append start (paths_at es ns) (e.path ∷ []) ∙ ap (append_known start) (sym (more_paths es n e s ns)))
paths_if es n e s false start paths ns h = h

more_given : (es : List Entry) (n : ℕ) (e : Entry) → slice_get es n ≡ Some e → (ns : List ℕ) → given_at es (ns ++ n ∷ []) ≡ given_at es ns ++ (e.path, e.is_dir) ∷ []
more_given es n e s ns =
    let at : ℕ → Given = λ k. unwrap_or (option_map (λ (x : Entry). (x.path, x.is_dir)) (slice_get es k)) ([], false) in
    let there : at n ≡ (e.path, e.is_dir) = ap (λ o. unwrap_or (option_map (λ (x : Entry). (x.path, x.is_dir)) o) ([], false)) s in
    map-append at ns (n ∷ []) ∙ ap (λ g. given_at es ns ++ g ∷ []) there

gives_if : (es : List Entry) (n : ℕ) (e : Entry) → slice_get es n ≡ Some e → (b : Bool) (start given : Option (List Given)) (ns : List ℕ) → given ≡ append_known start (given_at es ns) → given_if b e.path e.is_dir given ≡ append_known start (given_at es (append_if b n ns))
gives_if es n e s true start given ns h = ap (λ gs. append_known gs ((e.path, e.is_dir) ∷ [])) h ∙ (more_append start (given_at es ns) ((e.path, e.is_dir) ∷ []) ∙ ap (append_known start) (sym (more_given es n e s ns)))
gives_if es n e s false start given ns h = h

nothing_more : (xs ys : List (List ℕ)) → xs ++ ys ≡ xs → ys ≡ []
nothing_more xs ys h = append_cancel_left xs ys [] (h ∙ sym (append-nil xs))

not_none : (xs : List (List ℕ)) (x : List ℕ) → xs ++ x ∷ [] ≡ [] → ⊥
not_none [] x h = cc
not_none (y ∷ ys) x h = cc

-- ---- the course

-- what has been walked of the tree, since the start
pub record IsWhole (takes : List ℕ → Bool → Bool) (can_enter : List ℕ → Bool) (es : List Entry) (start c : Course) (end : ℕ) (numbers entered : List ℕ) : Type 0 where
  pub opened_are : c.opened ≡ append_known (append_known start.opened ([] ∷ [])) (paths_at es entered)
  pub walked : IsWalkUpTo can_enter takes es end numbers entered

-- what was given, told and opened since the start, and what is to be visited
pub record IsCourse (takes : List ℕ → Bool → Bool) (can_enter : List ℕ → Bool) (es : List Entry) (start c : Course) : Type 0 where
  pub end : ℕ
  pub numbers : List ℕ
  pub entered : List ℕ
  pub told : List (List ℕ)
  pub given_are : c.given ≡ append_known start.given (given_at es numbers)
  pub told_are : c.told ≡ append_known start.told told
  pub pending_are : paths_of (filter (is_seen entered) (drop end es)) ≡ c.pending
  pub before : (m : ℕ) → Contains entered m → m < end
  pub rising : IsStrictlyIncreasing numbers
  pub within : (n : ℕ) → Contains numbers n → n < end
  pub pass : (n : ℕ) → Contains numbers n → IsEntryWith es (λ e. IsTrue (takes e.path e.is_dir)) n
  pub whole : told ≡ [] → IsWhole takes can_enter es start c end numbers entered

-- the top was opened
pub course_starts : (takes : List ℕ → Bool → Bool) (can_enter : List ℕ → Bool) (es : List Entry) (start c : Course) → c.given ≡ start.given → c.told ≡ start.told → c.opened ≡ append_known start.opened ([] ∷ []) → c.pending ≡ paths_of (entries_at_top es)
    → IsCourse takes can_enter es start c
course_starts takes can_enter es start c given told opened pending = record {
  end = 0;
  numbers = [];
  entered = [];
  told = [];
  given_are = given ∙ sym (no_more start.given);
  told_are = told ∙ sym (no_more start.told);
  pending_are = sym pending;
  before = λ m h. absurd (omega (arith, h.1));
  rising = λ k l. absurd (omega (arith, l));
  within = λ n h. absurd (omega (arith, h.1));
  pass = λ n h. absurd (omega (arith, h.1));
  whole = λ none. record { opened_are = opened ∙ sym (no_more (append_known start.opened ([] ∷ []))); walked = walk_starts can_enter takes es };
}

drop_all : {X : Type 0} (xs : List X) → drop (length xs) xs ≡ []
drop_all [] = refl
drop_all (x ∷ xs) = drop_all xs

-- the top could not be
pub course_fails : (takes : List ℕ → Bool → Bool) (can_enter : List ℕ → Bool) (es : List Entry) (start c : Course) → c.given ≡ start.given → c.told ≡ append_known start.told ([] ∷ []) → c.pending ≡ [] → IsCourse takes can_enter es start c
course_fails takes can_enter es start c given told pending = record {
  end = length es;
  numbers = [];
  entered = [];
  told = [] ∷ [];
  given_are = given ∙ sym (no_more start.given);
  told_are = told;
  pending_are = ap (λ fs. paths_of (filter (is_seen []) fs)) (drop_all es) ∙ sym pending;
  before = λ m h. absurd (omega (arith, h.1));
  rising = λ k l. absurd (omega (arith, l));
  within = λ n h. absurd (omega (arith, h.1));
  pass = λ n h. absurd (omega (arith, h.1));
  whole = λ none. absurd (not_none [] [] none);
}

pub course_begins : (takes : List ℕ → Bool → Bool) (can_enter : List ℕ → Bool) (es : List Entry) (start c : Course) → start.pending ≡ [] → IsTopVisit es start c → IsCourse takes can_enter es start c
course_begins takes can_enter es start c none v = elim v [
  | inl e ↦ course_fails takes can_enter es start c (ap (λ (x : Course). x.given) e) (ap (λ (x : Course). x.told) e) (ap (λ (x : Course). x.pending) e ∙ none)
  | inr e ↦ course_starts takes can_enter es start c (ap (λ (x : Course). x.given) e) (ap (λ (x : Course). x.told) e) (ap (λ (x : Course). x.opened) e)
      (ap (λ (x : Course). x.pending) e ∙ (ap (λ ps. paths_of (entries_at_top es) ++ ps) none ∙ append-nil (paths_of (entries_at_top es))))
]

-- ---- the next path

-- The next path is that of the next entry that the walk sees.
record IsNext (es : List Entry) (entered : List ℕ) (end : ℕ) (path : List ℕ) (rest : List (List ℕ)) : Type 0 where
  number : ℕ
  entry : Entry
  from : end ≤ number
  stands : slice_get es number ≡ Some entry
  seen : is_seen entered entry ≡ true
  unseen : (j : ℕ) (f : Entry) → end ≤ j → j < number → slice_get es j ≡ Some f → is_seen entered f ≡ false
  path_is : entry.path ≡ path
  rest_is : paths_of (filter (is_seen entered) (drop (number + 1) es)) ≡ rest

next_is : (es : List Entry) (entered : List ℕ) (end : ℕ) (path : List ℕ) (rest : List (List ℕ)) → paths_of (filter (is_seen entered) (drop end es)) ≡ path ∷ rest → IsNext es entered end path rest
next_is es entered end path rest h =
    let r = first_path (filter (is_seen entered) (drop end es)) path rest h in
    let q = first_from (is_seen entered) es end r.0 r.1 r.2 in
    let f = q.1 in
    record {
      number = q.0;
      entry = r.0;
      from = f.from;
      stands = f.stands;
      seen = f.passes;
      unseen = f.before;
      path_is = r.3;
      rest_is = ap paths_of f.rest_is ∙ r.4;
    }

numbers_within : (b : Bool) (ns : List ℕ) (n end : ℕ) → ((m : ℕ) → Contains ns m → m < end) → end ≤ n → (m : ℕ) → Contains (append_if b n ns) m → m < n + 1
numbers_within true ns n end h le m c = elim (Contains-push_cases ns n m c) [
  | inl d ↦ let l = h m d in omega (arith, l, le)
  | inr d ↦ omega (arith, d)
]
numbers_within false ns n end h le m c = let l = h m c in omega (arith, l, le)

numbers_rising : (b : Bool) (ns : List ℕ) (n end : ℕ) → ((m : ℕ) → Contains ns m → m < end) → end ≤ n → IsStrictlyIncreasing ns → IsStrictlyIncreasing (append_if b n ns)
numbers_rising true ns n end h le rising = rising-push ns n rising (λ m c. let l = h m c in omega (arith, l, le))
numbers_rising false ns n end h le rising = rising

numbers_pass : (P : Entry → Type 0) (es : List Entry) (b : Bool) (ns : List ℕ) (n : ℕ) (e : Entry) → slice_get es n ≡ Some e → (b ≡ true → P e) → ((m : ℕ) → Contains ns m → IsEntryWith es P m) → (m : ℕ) → Contains (append_if b n ns) m → IsEntryWith es P m
numbers_pass P es true ns n e s p h m c = elim (Contains-push_cases ns n m c) [
  | inl d ↦ h m d
  | inr d ↦ subst (IsEntryWith es P) d (e, s, p refl)
]
numbers_pass P es false ns n e s p h m c = h m c

-- what is to be visited after the entry
pending_after : (es : List Entry) → IsNested es → (entered : List ℕ) (n : ℕ) (e : Entry) → slice_get es n ≡ Some e → is_seen entered e ≡ true → ((m : ℕ) → Contains entered m → m < n) → (rest : List (List ℕ)) → paths_of (filter (is_seen entered) (drop (n + 1) es)) ≡ rest
    → (b : Bool) → paths_of (filter (is_seen (append_if b n entered)) (drop (n + 1) es)) ≡ cond b (paths_of (entries_in es n e) ++ rest) rest
pending_after es nested entered n e s seen before rest h true =
    ap paths_of (opened_sees es nested n e s entered seen before) ∙ (map-append (λ (x : Entry). x.path) (entries_in es n e) (filter (is_seen entered) (drop (n + 1) es)) ∙ ap (λ ps. paths_of (entries_in es n e) ++ ps) h)
pending_after es nested entered n e s seen before rest h false = h

module _ (takes : List ℕ → Bool → Bool) (can_enter : List ℕ → Bool) (safe : IsSafePruning can_enter takes) (es : List Entry) (nested : IsNested es) (start c : Course) (path : List ℕ) (rest : List (List ℕ)) (pending : c.pending ≡ path ∷ rest) (h : IsCourse takes can_enter es start c) where
  next : IsNext es h.entered h.end path rest
  next = next_is es h.entered h.end path rest (h.pending_are ∙ pending)

  by_fault : IsCourse takes can_enter es start (after_fault (record c { pending = rest }) path)
  by_fault =
      let q = next in
      let from = q.from in
      record {
        end = q.number + 1;
        numbers = h.numbers;
        entered = h.entered;
        told = h.told ++ path ∷ [];
        given_are = h.given_are;
        told_are = ap (λ ps. append_known ps (path ∷ [])) h.told_are ∙ more_append start.told h.told (path ∷ []);
        pending_are = q.rest_is;
        before = λ m d. let l = h.before m d in omega (arith, l, from);
        rising = h.rising;
        within = λ m d. let l = h.within m d in omega (arith, l, from);
        pass = h.pass;
        whole = λ none. absurd (not_none h.told path none);
      }

  by_entry : (q : IsNext es h.entered h.end path rest) → IsCourse takes can_enter es start (after_entry takes can_enter es q.number q.entry (record c { pending = rest }))
  by_entry q =
      let n = q.number in
      let e = q.entry in
      let from = q.from in
      let given = takes e.path e.is_dir in
      let opened = e.is_dir && can_enter e.path in
      record {
        end = n + 1;
        numbers = append_if given n h.numbers;
        entered = append_if opened n h.entered;
        told = h.told;
        given_are = gives_if es n e q.stands given start.given c.given h.numbers h.given_are;
        told_are = h.told_are;
        pending_are = pending_after es nested h.entered n e q.stands q.seen (λ m d. let l = h.before m d in omega (arith, l, from)) rest q.rest_is opened;
        before = numbers_within opened h.entered n h.end h.before q.from;
        rising = numbers_rising given h.numbers n h.end h.within q.from h.rising;
        within = numbers_within given h.numbers n h.end h.within q.from;
        pass = numbers_pass (λ x. IsTrue (takes x.path x.is_dir)) es given h.numbers n e q.stands (λ t. t) h.pass;
        whole = λ none.
            let w = h.whole none in
            record {
              opened_are = paths_if es n e q.stands opened (append_known start.opened ([] ∷ [])) c.opened h.entered w.opened_are;
              walked = walk_goes_on can_enter takes safe es h.end h.numbers h.entered nested w.walked n e
                  (next_seen-is h.entered h.end es n e (record { from = q.from; stands = q.stands; seen = q.seen; unseen = q.unseen })) q.stands;
            };
      }

  -- A visit to the next path goes on with the course.
  pub course_goes_on : (c' : Course) → IsVisit takes can_enter es path (record c { pending = rest }) c' → IsCourse takes can_enter es start c'
  course_goes_on c' v =
      let q = next in
      elim (v (λ e. nested.paths q.number q.entry q.stands (q.path_is ∙ e)) q.number q.entry q.stands q.path_is) [
        | inl e ↦ subst (IsCourse takes can_enter es start) (sym e) by_fault
        | inr e ↦ subst (IsCourse takes can_enter es start) (sym e) (by_entry q)
      ]

  -- Where a visit ends the walk, what was given is a part, in order.
  pub course_ends : (given : Option (List Given)) → GivesAtMost takes es path c.given given → IsMore start.given given (GivesPart takes es)
  course_ends given v =
      let q = next in
      let from = q.from in
      elim (v (λ e. nested.paths q.number q.entry q.stands (q.path_is ∙ e)) q.number q.entry q.stands q.path_is) [
        | inl e ↦ (given_at es h.numbers, e ∙ h.given_are, record { numbers = h.numbers; are = refl; rising = h.rising; pass = h.pass })
        | inr e ↦
            let ns = h.numbers ++ q.number ∷ [] in
            let given_is : given ≡ append_known start.given (given_at es ns) = e.0 ∙ (ap (λ p. append_known c.given ((p, q.entry.is_dir) ∷ [])) (sym q.path_is) ∙ gives_if es q.number q.entry q.stands true start.given c.given h.numbers h.given_are) in (
              given_at es ns,
              given_is,
              record {
                numbers = ns;
                are = refl;
                rising = numbers_rising true h.numbers q.number h.end h.within from h.rising;
                pass = numbers_pass (λ x. IsTrue (takes x.path x.is_dir)) es true h.numbers q.number q.entry q.stands (λ t. e.1) h.pass;
              },
            )
      ]

-- So is what was given so far.
pub course_part : (takes : List ℕ → Bool → Bool) (can_enter : List ℕ → Bool) (es : List Entry) (start c : Course) → IsCourse takes can_enter es start c → IsMore start.given c.given (GivesPart takes es)
course_part takes can_enter es start c h = (given_at es h.numbers, h.given_are, record { numbers = h.numbers; are = refl; rising = h.rising; pass = h.pass })

-- Where nothing is left to visit, and nothing was told, all is given.
pub course_all : (takes : List ℕ → Bool → Bool) (specs : List Spec) → IsSafePruning (can_hold specs) takes → (es : List Entry) → IsNested es → (start c : Course) → c.pending ≡ [] → NothingTold start.told c.told → IsCourse takes (can_hold specs) es start c
    → IsMore start.given c.given (λ given. IsMore start.opened c.opened (GivesAll takes specs es given))
course_all takes specs safe es nested start c pending told h =
    let none : h.told ≡ [] = nothing_more told.0 h.told (same_Some (told.0 ++ h.told) told.0 (ap (λ t. append_known t h.told) (sym told.1) ∙ (sym h.told_are ∙ told.2))) in
    let w = h.whole none in
    let left : filter (is_seen h.entered) (drop h.end es) ≡ [] = no_path (filter (is_seen h.entered) (drop h.end es)) (h.pending_are ∙ pending) in
    let over : next_seen h.entered h.end es ≡ None = none-next_seen h.entered h.end es (λ j f le s. none_from (is_seen h.entered) es h.end left j f le s) in
    let all = walk_ends (can_hold specs) takes safe es h.end h.numbers h.entered nested w.walked over in
    let same : h.numbers ≡ entries_where takes es = all.given_is ∙ ap (entries_where takes) (take_all (length es) es (omega arith)) in (
      given_at es h.numbers,
      h.given_are,
      (
        [] ∷ paths_at es h.entered,
        w.opened_are ∙ more_append start.opened ([] ∷ []) (paths_at es h.entered),
        record { given_are = ap (given_at es) same; entered = h.entered; opened_are = refl; walked = all.enters },
      ),
    )
