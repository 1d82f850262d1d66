-- What the rules that fit say is all that is said, and the one that decides a name says the answer.
use Rattle.std.proofs.Common.{◌≡◌, ◌∙◌, refl, sym, ap, subst, cond, ℕ, Bool, true, false, ◌||◌, List, [], ◌∷◌, ◌++◌, map, reverse, inl, inr, append_assoc}
use Rattle.std.proofs.lemmas.Bool.{cases_Bool}
use Rattle.std.proofs.lemmas.Grind.{flat_map-append}
use Rattle.std.proofs.lemmas.List.{append-nil, map-append, reverse-append}
use Rattle.std.proofs.lemmas.List.Elements.{Contains-append_left, Contains-append_right, Contains-push}
use Rattle.std.proofs.lemmas.List.Sums.{fold_push}
use Rattle.std.specs.Cmp.Lexicographic.{bytes_decides}
use Rattle.std.specs.List.{flat_map}
use Rattle.std.specs.Prelude.{bytes_eq, fold, Contains}
use Rattle.pathspec_glob.specs.declared.Case.{Case}
use Rattle.pathspec_parts.specs.Attributes.{State, Assignment}
use Rattle.pathspec_parts.specs.Attributes.State.{Unspecified}
use Rattle.pathspec_parts.specs.Outcomes.{NamedState, apply_assignments, set_state, states_of}
use Rattle.pathspec_attributes.specs.Deciding.{Macro, Decides, decided_by, knows}
use Rattle.pathspec_attributes.specs.Deciding.Decides.{ends, passes, takes}
use Rattle.pathspec_attributes.specs.Files.{AttributeFile, Files, decided, directories_of, file_at, macros_of, said, said_by_file, said_by_rule}
use Rattle.pathspec_attributes.specs.Rules.{Rule, fits}
use Rattle.pathspec_attributes.specs.Sayings.{Answers, FilePlace, FirstDecides, LawsOfDeciders, RuleAt, Saying, Says, all_said, base_of, decided_in, numbered, saying_of, sayings, sayings_of_file, state_in}
use Rattle.pathspec_attributes.specs.Sayings.FilePlace.{DirectoryFile, GlobalFile, InfoFile}
use Rattle.pathspec_attributes.proofs.DecidingProofs.{decides-append, decides_once, knows-more}

-- ---- all that rules say

pub map-reverse : {A B : Type 0} (f : A → B) (xs : List A) → map f (reverse xs) ≡ reverse (map f xs)
map-reverse f [] = refl
map-reverse f (x ∷ xs) =
    ap (map f) (reverse-append (x ∷ []) xs)
    ∙ (map-append f (reverse xs) (x ∷ [])
    ∙ (ap (λ ys. ys ++ f x ∷ []) (map-reverse f xs)
    ∙ sym (reverse-append (f x ∷ []) (map f xs))))

rules-of : (lines : List ℕ) (rules : List Rule) → map (λ (own : ℕ × Rule). own.1) (numbered lines rules) ≡ rules
rules-of lines [] = refl
rules-of [] (rule ∷ rules) = ap (λ rs. rule ∷ rs) (rules-of [] rules)
rules-of (n ∷ lines) (rule ∷ rules) = ap (λ rs. rule ∷ rs) (rules-of lines rules)

pub said-append : (xs ys : List Saying) → all_said (xs ++ ys) ≡ all_said xs ++ all_said ys
said-append xs ys = flat_map-append (λ (s : Saying). s.said) xs ys

module _ (case : Case) (path : List ℕ) (is_dir : Bool) (place : FilePlace) where
  abbrev says_rule : Rule → List Assignment
  says_rule rule = said_by_rule case (base_of place) path is_dir rule

  said-once : (own : ℕ × Rule) → all_said (saying_of case path is_dir place own) ≡ says_rule own.1
  said-once own = by (fits case (base_of place) own.1 path is_dir)
    where
      by : (b : Bool) → all_said (cond b (record { at = record { file = place; line = own.0 }; said = reverse own.1.assignments } ∷ []) []) ≡ cond b (reverse own.1.assignments) []
      by true = append-nil (reverse own.1.assignments)
      by false = refl

  said-each : (list : List (ℕ × Rule)) → all_said (flat_map (saying_of case path is_dir place) list) ≡ flat_map says_rule (map (λ (own : ℕ × Rule). own.1) list)
  said-each [] = refl
  said-each (own ∷ list) =
      said-append (saying_of case path is_dir place own) (flat_map (saying_of case path is_dir place) list)
      ∙ (ap (λ xs. xs ++ all_said (flat_map (saying_of case path is_dir place) list)) (said-once own)
      ∙ ap (λ xs. says_rule own.1 ++ xs) (said-each list))

  said-in-file : (file : AttributeFile) → all_said (sayings_of_file case path is_dir place file) ≡ said_by_file case path is_dir (base_of place) file
  said-in-file file =
      said-each (reverse (numbered file.lines file.rules))
      ∙ ap (flat_map says_rule) (map-reverse (λ (own : ℕ × Rule). own.1) (numbered file.lines file.rules) ∙ ap reverse (rules-of file.lines file.rules))

said-in-directories : (case : Case) (path : List ℕ) (is_dir : Bool) (look : List ℕ → AttributeFile) (bases : List (List ℕ))
    → all_said (flat_map (λ base. sayings_of_file case path is_dir (DirectoryFile base) (look base)) bases) ≡ flat_map (λ base. said_by_file case path is_dir base (look base)) bases
said-in-directories case path is_dir look [] = refl
said-in-directories case path is_dir look (base ∷ bases) =
    said-append (sayings_of_file case path is_dir (DirectoryFile base) (look base)) (flat_map (λ b. sayings_of_file case path is_dir (DirectoryFile b) (look b)) bases)
    ∙ (ap (λ xs. xs ++ all_said (flat_map (λ b. sayings_of_file case path is_dir (DirectoryFile b) (look b)) bases)) (said-in-file case path is_dir (DirectoryFile base) (look base))
    ∙ ap (λ xs. said_by_file case path is_dir base (look base) ++ xs) (said-in-directories case path is_dir look bases))

said-in-all : (files : Files) (path : List ℕ) (is_dir : Bool) → all_said (sayings files path is_dir) ≡ said files path is_dir
said-in-all files path is_dir =
    let info : List Saying = sayings_of_file files.case path is_dir InfoFile files.info in
    let between : List Saying = flat_map (λ base. sayings_of_file files.case path is_dir (DirectoryFile base) (file_at files.directories base)) (directories_of path) in
    let global : List Saying = sayings_of_file files.case path is_dir GlobalFile files.global in
    let first : all_said info ≡ said_by_file files.case path is_dir [] files.info = said-in-file files.case path is_dir InfoFile files.info in
    let middle : all_said between ≡ flat_map (λ base. said_by_file files.case path is_dir base (file_at files.directories base)) (directories_of path) = said-in-directories files.case path is_dir (file_at files.directories) (directories_of path) in
    let last : all_said global ≡ said_by_file files.case path is_dir [] files.global = said-in-file files.case path is_dir GlobalFile files.global in
    said-append info (between ++ global)
    ∙ (ap (λ xs. all_said info ++ xs) (said-append between global)
    ∙ (ap (λ xs. xs ++ (all_said between ++ all_said global)) first
    ∙ (ap (λ xs. said_by_file files.case path is_dir [] files.info ++ (xs ++ all_said global)) middle
    ∙ ap (λ xs. said_by_file files.case path is_dir [] files.info ++ (flat_map (λ base. said_by_file files.case path is_dir base (file_at files.directories base)) (directories_of path) ++ xs)) last)))

-- ---- the state of one name

clash : (b : Bool) → b ≡ true → b ≡ false → ⊥
clash b t f = cc

other-way : (x y : List ℕ) → bytes_eq x y ≡ false → bytes_eq y x ≡ false
other-way x y h = elim (cases_Bool (bytes_eq y x)) [
  | inl e ↦ let same : y ≡ x = (bytes_decides y x).0 e in subst (λ n. bytes_eq y n ≡ false) same (subst (λ n. bytes_eq n y ≡ false) (sym same) h)
  | inr n ↦ n
]

module _ (name : List ℕ) where
  -- a state once an assignment is set
  abbrev set_one : State → Assignment → State
  set_one s a = cond (bytes_eq name a.name) a.state s

  -- and once all are
  abbrev state_after : State → List Assignment → State
  state_after s list = fold set_one s list

  -- the place of the name
  abbrev place : State → List NamedState
  place s = record { name = name; state = s } ∷ []

  at-place : (list : List Assignment) (s : State) → apply_assignments (place s) list ≡ place (state_after s list)
  at-place [] s = refl
  at-place (a ∷ list) s = ap (λ ps. apply_assignments ps list) (one (bytes_eq name a.name)) ∙ at-place list (set_one s a)
    where
      one : (b : Bool) → cond b (record { name = name; state = a.state }) (record { name = name; state = s }) ∷ [] ≡ place (cond b a.state s)
      one true = refl
      one false = refl

  -- a name that isn't among those that are set
  unknown-stays : (list : List Assignment) (s : State) → knows list name ≡ false → state_after s list ≡ s
  unknown-stays [] s h = refl
  unknown-stays (a ∷ list) s h = by (bytes_eq a.name name) refl h (λ f. unknown-stays list s f)
    where
      by : (b : Bool) → bytes_eq a.name name ≡ b → (b || knows list name) ≡ false → (knows list name ≡ false → state_after s list ≡ s) → state_after (set_one s a) list ≡ s
      by true e f rest = absurd (clash true refl f)
      by false e f rest = rw (other-way a.name name e) (rest f)

  set-last : (list : List Assignment) (a : Assignment) (s : State) → state_after s (list ++ a ∷ []) ≡ set_one (state_after s list) a
  set-last list a s = fold_push set_one s list a

  module _ (macros : List Macro) where
    -- a list that is decided only grows
    grows : {all decided new : List Assignment} → Decides macros all decided new → (own : List Assignment) × (new ≡ decided ++ own)
    grows (ends {decided = decided}) = ([], sym (append-nil decided))
    grows (passes h next) = grows next
    grows (takes {a = a} {decided = decided} h next) = let rest = grows next in (a ∷ rest.0, rest.1 ∙ append_assoc decided (a ∷ []) rest.0)

    -- a name that is decided keeps its state
    keeps : {all decided new : List Assignment} → Decides macros all decided new → knows decided name ≡ true → (s : State) → state_after s new ≡ state_after s decided
    keeps ends known s = refl
    keeps (passes h next) known s = keeps next known s
    keeps (takes {a = a} {decided = decided} h next) known s =
        keeps next (knows-more decided a name ∙ rw known (or-true (bytes_eq a.name name))) s ∙ (set-last decided a s ∙ rw other refl)
      where
        or-true : (b : Bool) → (b || true) ≡ true
        or-true true = refl
        or-true false = refl

        other : bytes_eq name a.name ≡ false
        other = elim (cases_Bool (bytes_eq name a.name)) [
          | inl e ↦ let same : name ≡ a.name = (bytes_decides name a.name).0 e in absurd (clash (knows decided a.name) (subst (λ n. knows decided n ≡ true) same known) h)
          | inr n ↦ n
        ]

    -- what decides a name that was open
    record Settles (decided new : List Assignment) : Type 0 where
      own : List Assignment
      is : new ≡ decided ++ own
      state : State
      among : Contains own (record { name = name; state = state })
      stays : (s : State) → state_after s new ≡ state

    settles : {all decided new : List Assignment} → Decides macros all decided new → knows decided name ≡ false → knows new name ≡ true → Settles decided new
    settles (ends {decided = decided}) unknown known = absurd (clash (knows decided name) known unknown)
    settles (passes h next) unknown known = settles next unknown known
    settles {new = new} (takes {a = a} {decided = decided} h next) unknown known =
        by (bytes_eq a.name name) refl (λ e. settles next (knows-more decided a name ∙ rw e unknown) known)
      where
        by : (b : Bool) → bytes_eq a.name name ≡ b → (bytes_eq a.name name ≡ false → Settles (decided ++ a ∷ []) new) → Settles decided new
        by true e later =
            let same : a.name ≡ name = (bytes_decides a.name name).0 e in
            let rest = grows next in
            let more : knows (decided ++ a ∷ []) name ≡ true = knows-more decided a name ∙ rw e refl in
            let back : bytes_eq name a.name ≡ true = (subst (λ n. bytes_eq n a.name ≡ true) same ((bytes_decides a.name a.name).1 refl)) in
            record {
              own = a ∷ rest.0;
              is = rest.1 ∙ append_assoc decided (a ∷ []) rest.0;
              state = a.state;
              among = subst (λ n. Contains (a ∷ rest.0) (record { name = n; state = a.state })) same (Contains-append_left (a ∷ []) rest.0 a (Contains-push [] a));
              stays = λ s. keeps next more s ∙ (set-last decided a s ∙ rw back refl);
            }
        by false e later =
            let rest = later e in
            record {
              own = a ∷ rest.own;
              is = rest.is ∙ append_assoc decided (a ∷ []) rest.own;
              state = rest.state;
              among = Contains-append_right (a ∷ []) rest.own (record { name = name; state = rest.state }) rest.among;
              stays = rest.stays;
            }

-- ---- the laws

-- what is decided by one list after another
in-two : (macros : List Macro) (xs ys : List Assignment) → decided_by macros (xs ++ ys) [] ≡ decided_by macros ys (decided_by macros xs [])
in-two macros xs ys =
    let middle : List Assignment = decided_by macros xs [] in
    sym (decides_once.one macros (xs ++ ys) [] (decided_by macros ys middle) (decides-append macros ys (decides_once.some macros xs []) (decides_once.some macros ys middle)))

some-says : (files : Files) (path : List ℕ) (is_dir : Bool) (name : List ℕ) (at : RuleAt) (first : FirstDecides (macros_of files) (sayings files path is_dir) name at) → Answers files path is_dir first.before first.said name
some-says files path is_dir name at first =
    let macros : List Macro = macros_of files in
    let rule : Saying = record { at = at; said = first.said } in
    let old : List Assignment = decided_in macros first.before in
    let new : List Assignment = decided_by macros first.said old in
    let here : all_said (first.before ++ rule ∷ []) ≡ all_said first.before ++ first.said = said-append first.before (rule ∷ []) ∙ ap (λ xs. all_said first.before ++ xs) (append-nil first.said) in
    let reached : decided_in macros (first.before ++ rule ∷ []) ≡ new = ap (λ xs. decided_by macros xs []) here ∙ in-two macros (all_said first.before) first.said in
    let known : knows new name ≡ true = subst (λ xs. knows xs name ≡ true) reached first.decided in
    let decides : Decides macros first.said old new = decides_once.some macros first.said old in
    let settled : Settles name macros old new = settles name macros decides first.undecided known in
    let whole : said files path is_dir ≡ all_said first.before ++ (first.said ++ all_said first.behind) = sym (said-in-all files path is_dir) ∙ (ap all_said first.among ∙ said-append first.before (rule ∷ first.behind)) in
    let end : List Assignment = decided_by macros (all_said first.behind) new in
    let twice : decided_by macros (first.said ++ all_said first.behind) old ≡ end = sym (decides_once.one macros (first.said ++ all_said first.behind) old end (decides-append macros (all_said first.behind) decides (decides_once.some macros (all_said first.behind) new))) in
    let all : decided files path is_dir ≡ end = ap (λ xs. decided_by macros xs []) whole ∙ (in-two macros (all_said first.before) (first.said ++ all_said first.behind) ∙ twice) in
    let stays : state_after name Unspecified end ≡ settled.state = keeps name macros (decides_once.some macros (all_said first.behind) new) known Unspecified ∙ settled.stays Unspecified in
    record {
      state = settled.state;
      says = record { own = settled.own; decides = subst (λ xs. Decides macros first.said old xs) settled.is decides; among = settled.among };
      answer = ap (λ xs. states_of (apply_assignments (place name Unspecified) xs)) all ∙ (ap states_of (at-place name end Unspecified) ∙ ap (λ s. s ∷ []) stays);
    }

none-says : (files : Files) (path : List ℕ) (is_dir : Bool) (name : List ℕ) → knows (decided_in (macros_of files) (sayings files path is_dir)) name ≡ false → state_in files path is_dir name ≡ Unspecified ∷ []
none-says files path is_dir name unknown =
    let all : List Assignment = decided files path is_dir in
    let same : decided_in (macros_of files) (sayings files path is_dir) ≡ all = ap (λ xs. decided_by (macros_of files) xs []) (said-in-all files path is_dir) in
    ap states_of (at-place name all Unspecified) ∙ ap (λ s. s ∷ []) (unknown-stays name all Unspecified (subst (λ xs. knows xs name ≡ false) same unknown))

pub laws_of_deciders : LawsOfDeciders
laws_of_deciders = record { all = said-in-all; some = some-says; none = none-says }
