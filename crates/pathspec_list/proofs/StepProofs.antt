-- The steps of the walk's loop: what is taken from its stack, and what it is told under other names.
use Rattle.std.proofs.Common.{◌≡◌, ℕ, Bool, refl, sym, ◌∙◌, ap, subst, List, [], ◌∷◌, ◌++◌, length, map, reverse, Vec, Global, arith, Option, Some, option_map}
use Rattle.std.proofs.lemmas.List.{map-append, reverse-append}
use Rattle.pathspec_parts.specs.Attributes.{Table}
use Rattle.pathspec_parts.specs.Entries.{Entry}
use Rattle.gix_pathspec.specs.Specs.{Spec}
use Rattle.pathspec_list.specs.Listings.{is_listed, Given, GivesPart, IsMore}
use Rattle.pathspec_list.specs.Directories.{AreNamesIn, IsFoundAt}
use Rattle.pathspec_list.specs.Courses.{Course, IsVisit, IsTopVisit, GivesAtMost, course}
use Rattle.pathspec_list.proofs.CourseProofs.{no_more}

-- the texts of a stack
abbrev pub texts : List (Vec ℕ Global) → List (List ℕ)
texts vs = map (λ v. v.items) vs

pub stack_top : (xs ys : List (Vec ℕ Global)) (x : Vec ℕ Global) → xs ≡ ys ++ x ∷ [] → reverse (texts xs) ≡ x.items ∷ reverse (texts ys)
stack_top xs ys x h =
    let split : texts xs ≡ texts ys ++ x.items ∷ [] = ap texts h ∙ map-append (λ (v : Vec ℕ Global). v.items) ys (x ∷ []) in
    ap reverse split ∙ reverse-append (texts ys) (x.items ∷ [])

pub stack_empty : (xs : List (Vec ℕ Global)) → length xs ≡ 0 → reverse (texts xs) ≡ []
stack_empty [] h = refl
stack_empty (x ∷ xs) h = absurd (omega (arith, h))

-- a stack that is empty, by whatever name
pub top_at_start : (es : List Entry) (given : Option (List Given)) (told opened : Option (List (List ℕ))) (stack : List (List ℕ)) (c : Course) → stack ≡ [] → IsTopVisit es (course given told opened stack) c → IsTopVisit es (course given told opened []) c
top_at_start es given told opened stack c h v = subst (λ s. IsTopVisit es (course given told opened s) c) h v

-- the names that were found
pub found_names : (es : List Entry) (path : List ℕ) (found : Option (Vec (Vec ℕ Global) Global)) (names : Vec (Vec ℕ Global) Global) → found ≡ Some names → IsFoundAt es path (option_map (λ v. texts v.items) found) → AreNamesIn es path (texts names.items)
found_names es path found names e h = (subst (λ (o : Option (Vec (Vec ℕ Global) Global)). IsFoundAt es path (option_map (λ v. texts v.items) o)) e h).1

-- nothing is a part of all
pub part_of_nothing : (takes : List ℕ → Bool → Bool) (es : List Entry) (given given' : Option (List Given)) → given' ≡ given → IsMore given given' (GivesPart takes es)
part_of_nothing takes es given given' h = ([], h ∙ sym (no_more given), record { numbers = []; are = refl; rising = λ k l. absurd (omega (arith, l)); pass = λ n c. absurd (omega (arith, c.1)) })

-- a path and a table by other names
pub visit_as : (with_directories : Bool) (table table' : Table) (specs : List Spec) (can_enter : List ℕ → Bool) (es : List Entry) (path path' : List ℕ) (c c' : Course) → table' ≡ table → path' ≡ path → IsVisit (is_listed with_directories table' specs) can_enter es path' c c'
    → IsVisit (is_listed with_directories table specs) can_enter es path c c'
visit_as with_directories table table' specs can_enter es path path' c c' t p v = subst (λ q. IsVisit (is_listed with_directories table specs) can_enter es q c c') p (subst (λ u. IsVisit (is_listed with_directories u specs) can_enter es path' c c') t v)

pub at_most_as : (with_directories : Bool) (table table' : Table) (specs : List Spec) (es : List Entry) (path path' : List ℕ) (given given' : Option (List Given)) → table' ≡ table → path' ≡ path → GivesAtMost (is_listed with_directories table' specs) es path' given given'
    → GivesAtMost (is_listed with_directories table specs) es path given given'
at_most_as with_directories table table' specs es path path' given given' t p v = subst (λ q. GivesAtMost (is_listed with_directories table specs) es q given given') p (subst (λ u. GivesAtMost (is_listed with_directories u specs) es path' given given') t v)
