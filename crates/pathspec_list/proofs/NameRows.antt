-- Rows on the names in a directory.
use Rattle.std.proofs.Common.{◌≡◌, true, false, refl, [], ◌∷◌, ◌++◌}
use Rattle.std.specs.Prelude.{codes}
use Rattle.pathspec_list.specs.Names.{has_git, kept_names, given_names}

kept : kept_names (codes "." ++ 0 ∷ codes ".git" ++ 0 ∷ codes "b" ++ 0 ∷ codes ".gitignore" ++ 0 ∷ codes ".." ++ 0 ∷ codes "a" ++ 0 ∷ []) ≡ (codes "b" ∷ codes ".gitignore" ∷ codes "a" ∷ [])
kept = refl

git : has_git (codes "a" ++ 0 ∷ codes ".git" ++ 0 ∷ []) ≡ true
git = refl

other_git : has_git (codes ".gitignore" ++ 0 ∷ codes "a.git" ++ 0 ∷ []) ≡ false
other_git = refl

nested : given_names (codes "deps/z") false (codes ".git" ++ 0 ∷ codes "a" ++ 0 ∷ []) ≡ []
nested = refl

opened_nested : given_names (codes "deps/z") true (codes ".git" ++ 0 ∷ codes "a" ++ 0 ∷ []) ≡ (codes "a" ∷ [])
opened_nested = refl

top : given_names [] false (codes ".git" ++ 0 ∷ codes "a" ++ 0 ∷ []) ≡ (codes "a" ∷ [])
top = refl
