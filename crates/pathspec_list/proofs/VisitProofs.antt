-- What a visit goes on to.
use Rattle.std.proofs.Common.{◌≡◌, ℕ, Bool, true, false, ◌&&◌, cond, refl, sym, ◌∙◌, ap, subst, List, [], ◌∷◌, ◌++◌, map, reverse, inl, inr, Option, None, Result, Ok, Err}
use Rattle.std.specs.Prelude.{◌≢◌, OnErr, OnOk}
use Rattle.pathspec_parts.specs.Entries.{Entry}
use Rattle.pathspec_list.specs.Directories.{paths_of, entries_at_top, entries_in, path_in, AreNamesIn, EachAt, append_known, opened_after}
use Rattle.pathspec_list.specs.Listings.{given_if, path_if, Given}
use Rattle.pathspec_list.specs.Courses.{Course, after_fault, after_entry, IsVisit, IsTopVisit, IsLook, GivesAtMost, MayGive, course}

-- what holds on success, and what follows from it
pub follows_on_ok : {A F : Type 0} (r : Result A F) (P Q : Type 0) → (P → Q) → OnOk r P → OnOk r Q
follows_on_ok (Ok a) P Q f h = f h
follows_on_ok (Err e) P Q f h = h

-- what would hold on failure, and what follows from it
pub follows_on_err : {A F : Type 0} (r : Result A F) (P Q : Type 0) → (P → Q) → OnErr r P → OnErr r Q
follows_on_err (Ok a) P Q f h = h
follows_on_err (Err e) P Q f h = f h

-- what holds holds on failure
pub on_err : {A F : Type 0} (r : Result A F) (P : Type 0) → P → OnErr r P
on_err (Ok a) P h = tt
on_err (Err e) P h = h

-- Where all entries at a path are of one kind, at most the path is given as one of that kind.
pub gives_one_kind : (takes : List ℕ → Bool → Bool) (es : List Entry) (path : List ℕ) (is_dir : Bool) (given given' : Option (List Given)) → EachAt es path (λ n e. e.is_dir ≡ is_dir)
    → (path ≢ [] → MayGive (takes path is_dir) path is_dir given given') → GivesAtMost takes es path given given'
gives_one_kind takes es path is_dir given given' kind may = λ full n e stands is.
    subst (λ d. MayGive (takes e.path d) path d given given') (sym (kind n e stands is)) (subst (λ p. MayGive (takes p is_dir) path is_dir given given') (sym is) (may full))

-- where no directory was found, none was opened
pub none_opened : {N F : Type 0} (opened : Option (List (List ℕ))) (path : List ℕ) (r : Result (Option N) F) (found : Option N) → r ≡ Ok found → found ≡ None → opened_after opened path r ≡ opened
none_opened opened path r found is none = rw (is, none) refl

and_false : (a b : Bool) → b ≡ false → (a && b) ≡ false
and_false true b h = h
and_false false b h = refl

module _ (given : Option (List Given)) (told opened : Option (List (List ℕ))) (stack : List (List ℕ)) (given' : Option (List Given)) (told' opened' : Option (List (List ℕ))) (stack' : List (List ℕ)) where
  to_course : (c : Course) → given' ≡ c.given → told' ≡ c.told → opened' ≡ c.opened → reverse stack' ≡ c.pending → course given' told' opened' stack' ≡ c
  to_course c a b o p =
      let to : Option (List Given) → Option (List (List ℕ)) → Option (List (List ℕ)) → List (List ℕ) → Course = λ g t q r. record { given = g; told = t; opened = q; pending = r } in
      ap (λ g. to g told' opened' (reverse stack')) a ∙ (ap (λ t. to c.given t opened' (reverse stack')) b ∙ (ap (λ q. to c.given c.told q (reverse stack')) o ∙ ap (λ r. to c.given c.told c.opened r) p))

  -- The top was opened, with these names.
  pub top_opened : (es : List Entry) (names : List (List ℕ)) → AreNamesIn es [] names → given' ≡ given → told' ≡ told → opened' ≡ append_known opened ([] ∷ []) → reverse stack' ≡ map (path_in []) names ++ reverse stack
      → IsTopVisit es (course given told opened stack) (course given' told' opened' stack')
  top_opened es names inside a b o p =
      inr (to_course (record { given = given; told = told; opened = append_known opened ([] ∷ []); pending = paths_of (entries_at_top es) ++ reverse stack }) a b o (p ∙ ap (λ ps. ps ++ reverse stack) (as_they_are names ∙ inside.at_top refl)))
    where
      as_they_are : (ns : List (List ℕ)) → map (path_in []) ns ≡ ns
      as_they_are [] = refl
      as_they_are (x ∷ xs) = ap (λ ys. x ∷ ys) (as_they_are xs)

  -- A look at a path that is not to be opened is a visit to it.
  pub look_visits : (takes : List ℕ → Bool → Bool) (can_enter : List ℕ → Bool) (es : List Entry) (path : List ℕ) → can_enter path ≡ false → opened' ≡ opened → stack' ≡ stack → IsLook takes es path given told given' told' → IsVisit takes can_enter es path (course given told opened stack) (course given' told' opened' stack')
  look_visits takes can_enter es path skips o s look = λ full n e stands is.
      let shut : (e.is_dir && can_enter e.path) ≡ false = and_false e.is_dir (can_enter e.path) (ap can_enter is ∙ skips) in
      let more : List (List ℕ) = paths_of (entries_in es n e) ++ reverse stack in
      elim (look full n e stands is) [
        | inl w ↦ inl (to_course (after_fault (course given told opened stack) path) w.0 w.1 o (ap reverse s))
        | inr w ↦ inr (to_course (after_entry takes can_enter es n e (course given told opened stack)) w.0 w.1 (o ∙ sym (ap (λ b. path_if b e.path opened) shut)) (ap reverse s ∙ sym (ap (λ b. cond b more (reverse stack)) shut)))
      ]

  -- To give a path, where no directory stands, is a visit to it.
  pub file_visits : (takes : List ℕ → Bool → Bool) (can_enter : List ℕ → Bool) (es : List Entry) (path : List ℕ) → EachAt es path (λ n e. e.is_dir ≡ false) → opened' ≡ opened → stack' ≡ stack
      → (path ≢ [] → given' ≡ given_if (takes path false) path false given) → told' ≡ told → IsVisit takes can_enter es path (course given told opened stack) (course given' told' opened' stack')
  file_visits takes can_enter es path kind o s gives t = λ full n e stands is.
      let file : e.is_dir ≡ false = kind n e stands is in
      let shut : (e.is_dir && can_enter e.path) ≡ false = ap (λ d. d && can_enter e.path) file in
      let more : List (List ℕ) = paths_of (entries_in es n e) ++ reverse stack in
      let given_here : given' ≡ given_if (takes e.path e.is_dir) e.path e.is_dir given =
      gives full ∙ sym (ap (λ p. given_if (takes p false) p false given) is) ∙ sym (ap (λ d. given_if (takes e.path d) e.path d given) file) in
      inr (to_course (after_entry takes can_enter es n e (course given told opened stack)) given_here t (o ∙ sym (ap (λ b. path_if b e.path opened) shut)) (ap reverse s ∙ sym (ap (λ b. cond b more (reverse stack)) shut)))
