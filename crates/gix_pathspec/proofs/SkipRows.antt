-- Rows on directories that a walk may skip.
use Rattle.std.proofs.Common.{◌≡◌, true, false, refl, [], ◌∷◌, Some, ℕ, Bool, List, Option}
use Rattle.std.specs.Prelude.{codes}
use Rattle.gix_pathspec.proofs.Asking.{IsTable, skipped, chosen_of}

-- a prefix, specs and a directory; and whether a walk may skip what lies below it
abbrev SkipRow : Type 0
SkipRow = List ℕ × List (List ℕ) × List ℕ × Option Bool

-- an exclude takes the directory whole, or does not
whole : IsTable (λ (r : SkipRow). skipped r.0 r.1 r.2) (λ r. r.3) (
    ([], codes ":!crates" ∷ [], codes "crates", Some true) ∷
    ([], codes ":!crates" ∷ [], codes "crates/x", Some true) ∷
    ([], codes ":!crates" ∷ [], codes "docs", Some false) ∷
    ([], codes ":!crates" ∷ [], codes "cratesx", Some false) ∷
    ([], codes "*.md" ∷ codes ":!crates" ∷ [], codes "crates", Some true) ∷
    ([], codes "*.md" ∷ codes ":!crates" ∷ [], codes "docs", Some false) ∷
    ([], codes "a/b" ∷ codes ":!a" ∷ [], codes "a", Some true) ∷
    ([], codes "a" ∷ codes ":!a/b" ∷ [], codes "a", Some false) ∷
    ([], codes "a" ∷ codes ":!a/b" ∷ [], codes "a/b", Some true) ∷
    ([], codes ":!a/" ∷ [], codes "a", Some true) ∷
    ([], codes ":!." ∷ [], codes "a", Some true) ∷
    ([], codes ":(exclude,icase)A" ∷ [], codes "a", Some true) ∷
    ([], codes ":(exclude)A" ∷ [], codes "a", Some false) ∷
    (codes "p", codes ":(exclude,icase)B" ∷ [], codes "p/b", Some true) ∷
    (codes "p", codes ":(exclude,icase)B" ∷ [], codes "P/b", Some false) ∷
    ([], codes ":(exclude,attr:x)a" ∷ [], codes "a", Some false) ∷
    ([], codes ":(exclude,literal)a/*" ∷ [], codes "a", Some false) ∷
    [])
unfolding skipped
whole = refl

-- an exclude takes the rest of the directory, or does not
rest : IsTable (λ (r : SkipRow). skipped r.0 r.1 r.2) (λ r. r.3) (
    ([], codes ":(exclude,glob)**/node_modules/**" ∷ [], codes "a/node_modules", Some true) ∷
    ([], codes ":(exclude,glob)**/node_modules/**" ∷ [], codes "node_modules", Some true) ∷
    ([], codes ":(exclude,glob)**/node_modules/**" ∷ [], codes "a/node_modulesx", Some false) ∷
    ([], codes ":(exclude,glob)**/node_modules/**" ∷ [], codes "a/node_modules/b", Some true) ∷
    ([], codes ":(exclude,glob)**/node_modules" ∷ [], codes "node_modules", Some false) ∷
    ([], codes ":!*/gen/*" ∷ [], codes "src/gen", Some true) ∷
    ([], codes ":!*/gen/*" ∷ [], codes "gen", Some false) ∷
    ([], codes ":(exclude,glob)*/gen/*" ∷ [], codes "src/gen", Some false) ∷
    ([], codes ":!a*" ∷ [], codes "ab", Some true) ∷
    ([], codes ":(exclude,glob)a*" ∷ [], codes "ab", Some false) ∷
    ([], codes ":(exclude,glob,attr:x)a/**" ∷ [], codes "a", Some false) ∷
    [])
unfolding skipped
rest = refl

-- excludes bury each include that reaches the directory, or not each
shadowed : IsTable (λ (r : SkipRow). skipped r.0 r.1 r.2) (λ r. r.3) (
    ([], codes "a/b" ∷ codes ":!a/b" ∷ [], codes "a", Some true) ∷
    ([], codes "a/b/c" ∷ codes ":!a/b" ∷ [], codes "a", Some true) ∷
    ([], codes "a/b" ∷ codes "a/c" ∷ codes ":!a/b" ∷ [], codes "a", Some false) ∷
    ([], codes "a/b/" ∷ codes ":!a/b/" ∷ [], codes "a", Some true) ∷
    [])
unfolding skipped
shadowed = refl

-- ---- the empty path

-- the root is never skipped, since the paths of its entries have no slash in front, as what lies below an empty path would
empty_path : IsTable (λ (r : SkipRow). skipped r.0 r.1 r.2) (λ r. r.3) (
    ([], codes "a" ∷ [], [], Some false) ∷
    ([], codes ":!." ∷ [], [], Some false) ∷
    ([], codes ":![!a]*" ∷ [], [], Some false) ∷
    [])
unfolding skipped
empty_path = refl

-- the glob of the last row matches a slash and what follows it, but not this file
entry_of_root : chosen_of [] (codes ":![!a]*" ∷ []) (codes "a") false ≡ Some true
unfolding chosen_of
entry_of_root = refl

-- ---- the directory itself, and what is a file

-- an exclude that takes the rest of a directory may leave the directory itself
itself_chosen : chosen_of [] (codes ":(exclude,glob)a/**" ∷ []) (codes "a") true ≡ Some true
unfolding chosen_of
itself_chosen = refl

-- and no path in it
inside_not_chosen : chosen_of [] (codes ":(exclude,glob)a/**" ∷ []) (codes "a/x") false ≡ Some false
unfolding chosen_of
inside_not_chosen = refl

-- a star of a glob that isn't path-aware takes what lies below a directory, too
shell_star_takes : chosen_of [] (codes ":!a*" ∷ []) (codes "ab/x") false ≡ Some false
unfolding chosen_of
shell_star_takes = refl

-- a glob that wants a directory has an open end, and takes no file in it
glob_wants_directory : skipped [] (codes ":(exclude,glob)a/**/" ∷ []) (codes "a") ≡ Some false
unfolding skipped
glob_wants_directory = refl

-- such a file is chosen
file_in_glob_directories : chosen_of [] (codes ":(exclude,glob)a/**/" ∷ []) (codes "a/x") false ≡ Some true
unfolding chosen_of
file_in_glob_directories = refl

-- a directory that is called like the glob is taken whole, by its name
star_by_name : skipped [] (codes ":(exclude,glob)a*" ∷ []) (codes "a*") ≡ Some true
unfolding skipped
star_by_name = refl

-- an exclude that wants a directory leaves a file of its path
file_of_directory_exclude : chosen_of [] (codes ":!a/" ∷ []) (codes "a") false ≡ Some true
unfolding chosen_of
file_of_directory_exclude = refl

-- so it doesn't bury an include that takes a file
file_is_unshadowed : skipped [] (codes "a/b" ∷ codes ":!a/b/" ∷ []) (codes "a") ≡ Some false
unfolding skipped
file_is_unshadowed = refl

-- the file is chosen
file_beside_directory_exclude : chosen_of [] (codes "a/b" ∷ codes ":!a/b/" ∷ []) (codes "a/b") false ≡ Some true
unfolding chosen_of
file_beside_directory_exclude = refl

-- ---- case

-- an exclude with case doesn't bury an include without
other_letters_live : skipped [] (codes ":(icase)a/b" ∷ codes ":!a/b" ∷ []) (codes "a") ≡ Some false
unfolding skipped
other_letters_live = refl

-- which takes other letters
other_letters_chosen : chosen_of [] (codes ":(icase)a/b" ∷ codes ":!a/b" ∷ []) (codes "a/B") false ≡ Some true
unfolding chosen_of
other_letters_chosen = refl

-- ---- where nothing is chosen, and the directory isn't skipped

-- the name has no letters, and so case can't count: such specs aren't exact, as an include without case stands beside an exclude with case
no_letters : skipped [] (codes ":(icase)a/1" ∷ codes ":!a/1" ∷ []) (codes "a") ≡ Some false
unfolding skipped
no_letters = refl

-- an include with a wildcard isn't shadowed
glob_is_unshadowed : skipped [] (codes "a/b/*.c" ∷ codes ":!a/b" ∷ []) (codes "a") ≡ Some false
unfolding skipped
glob_is_unshadowed = refl
