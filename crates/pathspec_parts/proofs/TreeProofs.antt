-- The entries of a tree: each number above an entry is that of a directory whose path the entry's path lies below.
use Rattle.std.proofs.Common.{◌≡◌, ℕ, zero, suc, ◌+◌, ◌-◌, ◌<◌, Bool, true, false, refl, sym, ◌∙◌, ap, subst, List, [], ◌∷◌, ◌++◌, length, take, map, fold, arith, inl, inr, Some, append_assoc}
use Rattle.std.proofs.lemmas.List.{append-nil, map-append, length_push}
use Rattle.std.proofs.lemmas.List.Elements.{Contains-append_left, Contains-push_cases, All-append, All-cons}
use Rattle.std.proofs.lemmas.Option.{slice_get_within, same_Some, slice_get_cases}
use Rattle.std.specs.Prelude.{◌⊎◌, ◌≢◌, slice_get, Contains, IsTrue}
use Rattle.std.specs.List.{AllByRecursion}
use Rattle.pathspec_glob.specs.Bytes.{slash}
use Rattle.pathspec_parts.specs.Paths.{IsBytes, join_names, IsBelow}
use Rattle.pathspec_parts.specs.Entries.{Call, OpenDirectory, Entry, names_of, numbers_of, entry_in, entries_from}
use Rattle.pathspec_parts.specs.Entries.Call.{Open, File, Close}
use Rattle.pathspec_parts.specs.Trees.{TreeContents, empty_tree, tree_after, tree_of_calls, IsTreeName, AreNamed, IsAbove, IsNested, HasBytePaths, TreeHasEntries, EntriesRun}

-- ---- lists

-- one more element at the end leaves the others
pub get-append : {X : Type 0} (xs ys : List X) (n : ℕ) (x : X) → slice_get xs n ≡ Some x → slice_get (xs ++ ys) n ≡ Some x
get-append [] ys n x e = cc
get-append (y ∷ xs) ys zero x e = e
get-append (y ∷ xs) ys (suc n) x e = get-append xs ys n x e

-- and it stands at the length
pub get-last : {X : Type 0} (xs : List X) (y : X) → slice_get (xs ++ y ∷ []) (length xs) ≡ Some y
get-last [] y = refl
get-last (x ∷ xs) y = get-last xs y

-- so an element is one of the others, or the last
pub get-cases : {X : Type 0} (xs : List X) (y : X) (n : ℕ) (x : X) → slice_get (xs ++ y ∷ []) n ≡ Some x → (slice_get xs n ≡ Some x) ⊎ ((n ≡ length xs) × (y ≡ x))
get-cases [] y zero x e = inr (refl, same_Some y x e)
get-cases [] y (suc n) x e = cc
get-cases (z ∷ xs) y zero x e = inl e
get-cases (z ∷ xs) y (suc n) x e = elim (get-cases xs y n x e) [
  | inl f ↦ inl f
  | inr f ↦ inr (ap suc f.0, f.1)
]

-- what the images of a front hold, the images of all hold
pub Contains-map_take : {X : Type 0} (f : X → ℕ) (k : ℕ) (xs : List X) (m : ℕ) → Contains (map f (take k xs)) m → Contains (map f xs) m
Contains-map_take f zero xs m c = absurd (omega (arith, c.1))
Contains-map_take f (suc k) [] m c = c
Contains-map_take f (suc k) (x ∷ xs) m (zero, l, e) = (0, omega arith, e)
Contains-map_take f (suc k) (x ∷ xs) m (suc i, l, e) = let r = Contains-map_take f k xs m (i, omega (arith, l), e) in (suc r.0, omega (arith, r.1), r.2)

-- ---- join_names names

-- names after others lie below them
pub join_names-below : (front : List (List ℕ)) (x y : List ℕ) (rest : List (List ℕ)) → IsBelow (join_names (front ++ x ∷ y ∷ rest)) (join_names (front ++ x ∷ []))
join_names-below [] x y rest = (join_names (y ∷ rest), refl)
join_names-below (a ∷ []) x y rest = (join_names (y ∷ rest), sym (append_assoc a (slash ∷ x) (slash ∷ join_names (y ∷ rest))))
join_names-below (a ∷ b ∷ front) x y rest =
    let r = join_names-below (b ∷ front) x y rest in
    (r.0, ap (λ t. a ++ slash ∷ t) r.1 ∙ sym (append_assoc a (slash ∷ join_names (b ∷ front ++ x ∷ [])) (slash ∷ r.0)))

-- a name in front of others, and a name after it
join_names-in : (front : List (List ℕ)) (x : List ℕ) (rest : List (List ℕ)) (name : List ℕ) → IsBelow (join_names ((front ++ x ∷ rest) ++ name ∷ [])) (join_names (front ++ x ∷ []))
join_names-in front x [] name = subst (λ t. IsBelow (join_names t) (join_names (front ++ x ∷ []))) (sym (append_assoc front (x ∷ []) (name ∷ []))) (join_names-below front x name [])
join_names-in front x (y ∷ rest) name = subst (λ t. IsBelow (join_names t) (join_names (front ++ x ∷ []))) (sym (append_assoc front (x ∷ y ∷ rest) (name ∷ []))) (join_names-below front x y (rest ++ name ∷ []))

-- a path that ends with a name has bytes, at least one
pub join_names-named : (names : List (List ℕ)) (name : List ℕ) → IsTreeName name → join_names (names ++ name ∷ []) ≢ []
join_names-named [] name h e = h.0 e
join_names-named ([] ∷ []) name h e = cc
join_names-named ((b ∷ x) ∷ []) name h e = cc
join_names-named ([] ∷ y ∷ names) name h e = cc
join_names-named ((b ∷ x) ∷ y ∷ names) name h e = cc

-- ---- open directories

module _ (P : List ℕ → Type 0) where
  -- each open directory is the entry with its number, where those in front are open around it
  abbrev pub AreOpen : List Entry → List OpenDirectory → List OpenDirectory → Type 0
  AreOpen es front [] = Unit {0}
  AreOpen es front (d ∷ rest) = (slice_get es d.number ≡ Some (entry_in front d.name true)) × P d.name × AreOpen es (front ++ d ∷ []) rest

  pub AreOpen-append : (es more : List Entry) (front directories : List OpenDirectory) → AreOpen es front directories → AreOpen (es ++ more) front directories
  AreOpen-append es more front [] h = tt
  AreOpen-append es more front (d ∷ rest) h = (get-append es more d.number (entry_in front d.name true) h.0, h.1, AreOpen-append es more (front ++ d ∷ []) rest h.2)

  pub AreOpen-push : (es : List Entry) (front directories : List OpenDirectory) (o : OpenDirectory) → AreOpen es front directories → slice_get es o.number ≡ Some (entry_in (front ++ directories) o.name true) → P o.name → AreOpen es front (directories ++ o ∷ [])
  AreOpen-push es front [] o h e n = (subst (λ (t : List OpenDirectory). slice_get es o.number ≡ Some (entry_in t o.name true)) (append-nil front) e, n, tt)
  AreOpen-push es front (d ∷ rest) o h e n =
      (h.0, h.1, AreOpen-push es (front ++ d ∷ []) rest o h.2 (subst (λ (t : List OpenDirectory). slice_get es o.number ≡ Some (entry_in t o.name true)) (sym (append_assoc front (d ∷ []) rest)) e) n)

  pub AreOpen-take : (es : List Entry) (front : List OpenDirectory) (k : ℕ) (directories : List OpenDirectory) → AreOpen es front directories → AreOpen es front (take k directories)
  AreOpen-take es front zero directories h = tt
  AreOpen-take es front (suc k) [] h = tt
  AreOpen-take es front (suc k) (d ∷ rest) h = (h.0, h.1, AreOpen-take es (front ++ d ∷ []) k rest h.2)

  -- ---- an entry among open directories

  -- the entry, its name, and the directories that it lies in
  pub record LiesIn (before : List Entry) (e : Entry) : Type 0 where
    pub directories : List OpenDirectory
    pub name : List ℕ
    pub is : e ≡ entry_in directories name e.is_dir
    pub named : P name
    pub open_there : AreOpen before [] directories

  -- every entry lies among those before it
  abbrev pub EachLies : List Entry → Type 0
  EachLies es = (n : ℕ) (e : Entry) → slice_get es n ≡ Some e → (before : List Entry) × (rest : List Entry) × (es ≡ before ++ rest) × (n ≡ length before) × LiesIn before e

  EachLies-push : (es : List Entry) (y : Entry) → EachLies es → LiesIn es y → EachLies (es ++ y ∷ [])
  EachLies-push es y h l n e g = elim (get-cases es y n e g) [
    | inl f ↦ let r = h n e f in (r.0, r.1 ++ y ∷ [], ap (λ t. t ++ y ∷ []) r.2 ∙ append_assoc r.0 r.1 (y ∷ []), r.3, r.4)
    | inr f ↦ (es, y ∷ [], refl, f.0, subst (LiesIn es) f.1 l)
  ]

  pub record IsBuilt (g : TreeContents) : Type 0 where
    pub each : EachLies g.entries
    pub open_now : AreOpen g.entries [] g.open_directories
    pub follows : (n m : ℕ) (e f : Entry) → slice_get g.entries n ≡ Some e → slice_get g.entries (n + 1) ≡ Some f → Contains f.above m → Contains e.above m ⊎ ((m ≡ n) × IsTrue e.is_dir)
    pub last : (n m : ℕ) (e : Entry) → n + 1 ≡ length g.entries → slice_get g.entries n ≡ Some e → Contains (numbers_of g.open_directories) m → Contains e.above m ⊎ ((m ≡ n) × IsTrue e.is_dir)

  pub empty-built : IsBuilt empty_tree
  empty-built = record { each = λ n e g. cc; open_now = tt; follows = λ n m e f a b c. cc; last = λ n m e l a c. cc }

  entry_lies : (g : TreeContents) (name : List ℕ) (is_dir : Bool) → IsBuilt g → P name → LiesIn g.entries (entry_in g.open_directories name is_dir)
  entry_lies g name is_dir h n = record { directories = g.open_directories; name = name; is = refl; named = n; open_there = h.open_now }

  -- the entry behind another
  push_follows : (g : TreeContents) (name : List ℕ) (is_dir : Bool) → IsBuilt g → (n m : ℕ) (e f : Entry) → slice_get (g.entries ++ entry_in g.open_directories name is_dir ∷ []) n ≡ Some e
      → slice_get (g.entries ++ entry_in g.open_directories name is_dir ∷ []) (n + 1) ≡ Some f → Contains f.above m → Contains e.above m ⊎ ((m ≡ n) × IsTrue e.is_dir)
  push_follows g name is_dir h n m e f a b c =
      let y = entry_in g.open_directories name is_dir in
      elim (get-cases g.entries y (n + 1) f b) [
        | inl q ↦ elim (get-cases g.entries y n e a) [
          | inl p ↦ h.follows n m e f p q c
          | inr p ↦ let w = slice_get_within g.entries (n + 1) f q in absurd (omega (arith, w, p.0))
        ]
        | inr q ↦ elim (get-cases g.entries y n e a) [
          | inl p ↦ h.last n m e q.0 p (subst (λ (x : Entry). Contains x.above m) (sym q.1) c)
          | inr p ↦ absurd (omega (arith, q.0, p.0))
        ]
      ]

  pub open-built : (g : TreeContents) (name : List ℕ) → IsBuilt g → P name → IsBuilt (tree_after g (Open name))
  open-built g name h n = record {
    each = EachLies-push g.entries (entry_in g.open_directories name true) h.each (entry_lies g name true h n);
    open_now =
        AreOpen-push (g.entries ++ entry_in g.open_directories name true ∷ []) [] g.open_directories (record { number = length g.entries; name = name })
        (AreOpen-append g.entries (entry_in g.open_directories name true ∷ []) [] g.open_directories h.open_now) (get-last g.entries (entry_in g.open_directories name true)) n;
    follows = push_follows g name true h;
    last = λ k m e l s c.
        elim (get-cases g.entries (entry_in g.open_directories name true) k e s) [
          | inl p ↦ let w = slice_get_within g.entries k e p in absurd (omega (arith, w, l, length_push g.entries (entry_in g.open_directories name true)))
          | inr p ↦ elim (Contains-push_cases (numbers_of g.open_directories) (length g.entries) m (subst (λ (t : List ℕ). Contains t m) (map-append (λ d. d.number) g.open_directories (record { number = length g.entries; name = name } ∷ [])) c)) [
            | inl q ↦ inl (subst (λ (x : Entry). Contains x.above m) p.1 q)
            | inr q ↦ inr (sym q ∙ sym p.0, subst (λ (x : Entry). IsTrue x.is_dir) p.1 refl)
          ]
        ];
  }

  pub file-built : (g : TreeContents) (name : List ℕ) → IsBuilt g → P name → IsBuilt (tree_after g (File name))
  file-built g name h n = record {
    each = EachLies-push g.entries (entry_in g.open_directories name false) h.each (entry_lies g name false h n);
    open_now = AreOpen-append g.entries (entry_in g.open_directories name false ∷ []) [] g.open_directories h.open_now;
    follows = push_follows g name false h;
    last = λ k m e l s c.
        elim (get-cases g.entries (entry_in g.open_directories name false) k e s) [
          | inl p ↦ let w = slice_get_within g.entries k e p in absurd (omega (arith, w, l, length_push g.entries (entry_in g.open_directories name false)))
          | inr p ↦ inl (subst (λ (x : Entry). Contains x.above m) p.1 c)
        ];
  }

  pub close-built : (g : TreeContents) → IsBuilt g → IsBuilt (tree_after g Close)
  close-built g h = record {
    each = h.each;
    open_now = AreOpen-take g.entries [] (length g.open_directories - 1) g.open_directories h.open_now;
    follows = h.follows;
    last = λ n m e l s c. h.last n m e l s (Contains-map_take (λ d. d.number) (length g.open_directories - 1) g.open_directories m c);
  }

  pub calls-built : (g : TreeContents) (calls : List Call) → AreNamed P calls → IsBuilt g → IsBuilt (fold tree_after g calls)
  calls-built g [] n h = h
  calls-built g (Open name ∷ calls) n h = calls-built (tree_after g (Open name)) calls n.1 (open-built g name h n.0)
  calls-built g (File name ∷ calls) n h = calls-built (tree_after g (File name)) calls n.1 (file-built g name h n.0)
  calls-built g (Close ∷ calls) n h = calls-built (tree_after g Close) calls n (close-built g h)

  -- ---- what lies above

  -- a number among those of open directories is that of one of them
  pub open_above : (es : List Entry) (front directories : List OpenDirectory) (name : List ℕ) (m : ℕ) → AreOpen es front directories → Contains (numbers_of directories) m
      → (d : Entry) × (slice_get es m ≡ Some d) × IsTrue d.is_dir × IsBelow (join_names (names_of (front ++ directories) ++ name ∷ [])) d.path × ((k : ℕ) → Contains d.above k → Contains (numbers_of (front ++ directories)) k)
  open_above es front [] name m h c = absurd (omega (arith, c.1))
  open_above es front (d ∷ rest) name m h (zero, l, e) =
      let d_names : names_of (front ++ d ∷ []) ≡ names_of front ++ d.name ∷ [] = map-append _ front (d ∷ []) in
      let names : names_of (front ++ d ∷ rest) ≡ names_of front ++ d.name ∷ names_of rest = map-append _ front (d ∷ rest) in
      let numbers : numbers_of (front ++ d ∷ rest) ≡ numbers_of front ++ d.number ∷ numbers_of rest = map-append _ front (d ∷ rest) in (
        entry_in front d.name true,
        subst (λ k. slice_get es k ≡ Some (entry_in front d.name true)) e h.0,
        refl,
        subst (λ (t : List (List ℕ)). IsBelow (join_names (t ++ name ∷ [])) (join_names (names_of front ++ d.name ∷ []))) (sym names) (join_names-in (names_of front) d.name (names_of rest) name),
        λ k c. subst (λ (t : List ℕ). Contains t k) (sym numbers) (Contains-append_left (numbers_of front) (d.number ∷ numbers_of rest) k c),
      )
  open_above es front (d ∷ rest) name m h (suc i, l, e) =
      let r = open_above es (front ++ d ∷ []) rest name m h.2 (i, omega (arith, l), e) in
      let same : (front ++ d ∷ []) ++ rest ≡ front ++ d ∷ rest = append_assoc front (d ∷ []) rest in (
        r.0,
        r.1,
        r.2,
        subst (λ (t : List OpenDirectory). IsBelow (join_names (names_of t ++ name ∷ [])) r.0.path) same r.3,
        λ k c. subst (λ (t : List OpenDirectory). Contains (numbers_of t) k) same (r.4 k c),
      )

-- ---- the entries of the calls

-- what further calls add
entries_after : (g : TreeContents) (calls : List Call) → (fold tree_after g calls).entries ≡ g.entries ++ entries_from (length g.entries) g.open_directories calls
entries_after g [] = sym (append-nil g.entries)
entries_after g (Open name ∷ calls) =
    let o : OpenDirectory = record { number = length g.entries; name = name } in
    entries_after (tree_after g (Open name)) calls
    ∙ (ap (λ k. (g.entries ++ entry_in g.open_directories name true ∷ []) ++ entries_from k (g.open_directories ++ o ∷ []) calls) (length_push g.entries (entry_in g.open_directories name true))
    ∙ append_assoc g.entries (entry_in g.open_directories name true ∷ []) (entries_from (length g.entries + 1) (g.open_directories ++ o ∷ []) calls))
entries_after g (File name ∷ calls) =
    entries_after (tree_after g (File name)) calls
    ∙ (ap (λ k. (g.entries ++ entry_in g.open_directories name false ∷ []) ++ entries_from k g.open_directories calls) (length_push g.entries (entry_in g.open_directories name false))
    ∙ append_assoc g.entries (entry_in g.open_directories name false ∷ []) (entries_from (length g.entries + 1) g.open_directories calls))
entries_after g (Close ∷ calls) = entries_after (tree_after g Close) calls

-- The tree that the calls make has their entries.
pub tree_has_entries : TreeHasEntries
tree_has_entries calls = entries_after empty_tree calls

-- ---- nested

above-built : (P : List ℕ → Type 0) (g : TreeContents) → IsBuilt P g → (n m : ℕ) (e : Entry) → slice_get g.entries n ≡ Some e → Contains e.above m → IsAbove g.entries n e m
above-built P g h n m e s c =
    let r = h.each n e s in
    let l = r.4 in
    let o = open_above P r.0 [] l.directories l.name m l.open_there (subst (λ (x : Entry). Contains x.above m) l.is c) in
    let inside : m < length r.0 = slice_get_within r.0 m o.0 o.1 in
    record {
      directory = o.0;
      stands = subst (λ (t : List Entry). slice_get t m ≡ Some o.0) (sym r.2) (get-append r.0 r.1 m o.0 o.1);
      before = omega (arith, inside, r.3);
      is_dir = o.2;
      below = subst (λ (x : Entry). IsBelow x.path o.0.path) (sym l.is) o.3;
      through = λ k a. subst (λ (x : Entry). Contains x.above k) (sym l.is) (o.4 k a);
    }

pub nested-built : (g : TreeContents) → IsBuilt IsTreeName g → IsNested g.entries
nested-built g h = record {
  above = above-built IsTreeName g h;
  paths = λ n e s.
      let l = (h.each n e s).4 in
      subst (λ (x : Entry). x.path ≢ []) (sym l.is) (join_names-named (names_of l.directories) l.name l.named);
  follows = h.follows;
}

-- What the calls of a tree make is nested.
pub tree_of_calls-nested : (calls : List Call) → AreNamed IsTreeName calls → IsNested (tree_of_calls calls).entries
tree_of_calls-nested calls n = nested-built (tree_of_calls calls) (calls-built IsTreeName empty_tree calls n (empty-built IsTreeName))

-- ---- bytes

-- names of bytes make a path of bytes
join_names-bytes : (names : List (List ℕ)) (name : List ℕ) → AllByRecursion IsBytes names → IsBytes name → IsBytes (join_names (names ++ name ∷ []))
join_names-bytes [] name h n = n
join_names-bytes (x ∷ []) name h n = All-append (λ b. b < 256) x (slash ∷ name) h.0 (All-cons (λ b. b < 256) slash name (omega arith) n)
join_names-bytes (x ∷ y ∷ names) name h n =
    let rest = join_names (y ∷ names ++ name ∷ []) in
    All-append (λ b. b < 256) x (slash ∷ rest) h.0 (All-cons (λ b. b < 256) slash rest (omega arith) (join_names-bytes (y ∷ names) name h.1 n))

-- the names of open directories are bytes
open_names : (es : List Entry) (front directories : List OpenDirectory) → AreOpen IsTreeName es front directories → AllByRecursion IsBytes (names_of directories)
open_names es front [] h = tt
open_names es front (d ∷ rest) h = (h.1.1, open_names es (front ++ d ∷ []) rest h.2)

bytes-built : (g : TreeContents) → IsBuilt IsTreeName g → HasBytePaths g.entries
bytes-built g h n e s =
    let r = h.each n e s in
    let l = r.4 in
    subst (λ (x : Entry). IsBytes x.path) (sym l.is) (join_names-bytes (names_of l.directories) l.name (open_names r.0 [] l.directories l.open_there) l.named.1)

-- What the calls of a tree make has paths of bytes.
pub tree_of_calls-bytes : (calls : List Call) → AreNamed IsTreeName calls → HasBytePaths (tree_of_calls calls).entries
tree_of_calls-bytes calls n = bytes-built (tree_of_calls calls) (calls-built IsTreeName empty_tree calls n (empty-built IsTreeName))

-- ---- one run

-- what lies above an entry lies above all between
run : (es : List Entry) → IsNested es → (i j c : ℕ) (e f : Entry) → i < j → slice_get es j ≡ Some e → slice_get es (j + c) ≡ Some f → Contains f.above i → Contains e.above i
run es nest i j zero e f lt s t c =
    let at : j + 0 ≡ j = omega arith in
    let same : f ≡ e = same_Some f e (sym t ∙ (ap (slice_get es) at ∙ s)) in
    subst (λ (x : Entry). Contains x.above i) same c
run es nest i j (suc k) e f lt s t c =
    let w = slice_get_within es (j + suc k) f t in
    elim (slice_get_cases es (j + k)).1 [
      | inr q ↦ absurd (omega (arith, w, q.0))
      | inl q ↦
          let one : j + suc k ≡ (j + k) + 1 = omega arith in
          elim (nest.follows (j + k) i q.0 f q.2 (sym (ap (slice_get es) one) ∙ t) c) [
            | inl d ↦ run es nest i j k e q.0 lt s q.2 d
            | inr d ↦ absurd (omega (arith, d.0, lt))
          ]
    ]

pub entries_run : EntriesRun
entries_run es nest i j k e f lt le s t c = let at : j + (k - j) ≡ k = omega (arith, le) in run es nest i j (k - j) e f lt s (ap (slice_get es) at ∙ t) c
