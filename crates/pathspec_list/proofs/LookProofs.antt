-- What a step of a walk looks at, and what it tells of its look-up.
use Rattle.std.proofs.Common.{◌≡◌, ◌≢◌, ℕ, Bool, true, false, ◌||◌, refl, sym, ◌∙◌, ap, subst, List, [], ◌∷◌, inr, Option, Result}
use Rattle.pathspec_parts.specs.Attributes.{Table}
use Rattle.gix_pathspec.specs.Specs.{Spec}
use Rattle.pathspec_list.specs.declared.walk.ListError.{ListError}
use Rattle.pathspec_list.specs.Directories.{append_known}
use Rattle.pathspec_list.specs.Listings.{is_listed, matters}
use Rattle.pathspec_list.specs.ListAnswers.{CountsFailure, AsksInWalk, AsksNoLookUp}
use Rattle.pathspec_list.specs.Courses.{MayAsk}

or_second : (x y z : Bool) → y ≡ true → (x || y || z) ≡ true
or_second true y z h = refl
or_second false true z h = refl
or_second false false z h = cc

or_third : (x y z : Bool) → z ≡ true → (x || y || z) ≡ true
or_third true y z h = refl
or_third false true z h = refl
or_third false false z h = h

-- A path that is listed as a file is looked at, and so is one that is listed as a directory.
pub file_asked : (takes : List ℕ → Bool → Bool) (specs : List Spec) (path : List ℕ) (asked asked' : Option (List (List ℕ))) (file : Bool) → asked' ≡ append_known asked (path ∷ []) → (path ≢ [] → file ≡ takes path false) → file ≡ true → MayAsk (matters takes specs path) path asked asked'
file_asked takes specs path asked asked' file e h t = inr (e, λ n. or_second _ (takes path false) (takes path true) (sym (h n) ∙ t))

pub directory_asked : (with_directories : Bool) (table table' : Table) (specs : List Spec) (path : List ℕ) (asked asked' : Option (List (List ℕ))) (directory : Bool) → table' ≡ table → asked' ≡ append_known asked (path ∷ []) → (path ≢ [] → directory ≡ is_listed with_directories table' specs path true) → directory ≡ true
    → MayAsk (matters (is_listed with_directories table specs) specs path) path asked asked'
directory_asked with_directories table table' specs path asked asked' directory t e h d =
    let takes = is_listed with_directories table specs in
    inr (e, λ n. or_third _ (takes path false) (takes path true) (sym (ap (λ u. is_listed with_directories u specs path true) t) ∙ (sym (h n) ∙ d)))

-- a table and a path by other names
pub ask_as : (with_directories : Bool) (table table' : Table) (specs : List Spec) (path path' : List ℕ) (asked asked' : Option (List (List ℕ))) → table' ≡ table → path' ≡ path → MayAsk (matters (is_listed with_directories table' specs) specs path') path' asked asked'
    → MayAsk (matters (is_listed with_directories table specs) specs path) path asked asked'
ask_as with_directories table table' specs path path' asked asked' t p v = subst (λ q. MayAsk (matters (is_listed with_directories table specs) specs q) q asked asked') p (subst (λ u. MayAsk (matters (is_listed with_directories u specs) specs path') path' asked asked') t v)

-- as many failures, by another name
counts_as : {A F S : Type 0} (before between after : ℕ) (r : Result A (ListError F S)) → between ≡ before → CountsFailure between after r → CountsFailure before after r
counts_as before between after r e h = subst (λ n. CountsFailure n after r) e h

-- the look-up was asked before, and this call asks it no more
pub asked_before : {A F S : Type 0} (table table' : Table) (failures failures' : ℕ) (r : Result A (ListError F S)) → table' ≡ table → failures' ≡ failures → AsksNoLookUp r → AsksInWalk table failures table' failures' r
asked_before table table' failures failures' r t e h = (t, counts_as failures failures' failures' r e (h failures'))
