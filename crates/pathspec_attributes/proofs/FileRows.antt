-- Rows on files: what they say of paths, as git answers.
use Rattle.std.proofs.Common.{◌≡◌, ℕ, Bool, true, false, refl, List, [], ◌∷◌, ◌++◌, map}
use Rattle.std.specs.Prelude.{codes}
use Rattle.std.specs.List.{flat_map}
use Rattle.pathspec_glob.specs.declared.Case.{Case}
use Rattle.pathspec_glob.specs.declared.Case.TheVariants.{Sensitive, Fold}
use Rattle.pathspec_glob.specs.Tokens.{tokens_from}
use Rattle.pathspec_glob.specs.GlobRelation.{matches}
use Rattle.pathspec_parts.specs.Attributes.{State}
use Rattle.pathspec_parts.specs.Attributes.State.{Set, Unset, Value, Unspecified}
use Rattle.pathspec_attributes.specs.Files.{Files, built_in, file_of, left_out, table_of}
use Rattle.pathspec_attributes.specs.declared.reasons.Reason.TheVariants.{InvalidName, MacroHere, Negative}

-- the text of lines
abbrev text : List (List ℕ) → List ℕ
text lines = flat_map (λ line. line ++ 10 ∷ []) lines

-- the files of a repository: global, the top's, those of two directories `t` and `t/sub`, and info
abbrev repository : Case → List (List ℕ) → List (List ℕ) → List (List ℕ) → List (List ℕ) → List (List ℕ) → Files
repository case global top t sub info = record {
  case = case;
  info = file_of true (text info);
  directories =
      record { path = []; file = file_of true (text top) }
      ∷ record { path = codes "t"; file = file_of false (text t) }
      ∷ record { path = codes "t/sub"; file = file_of false (text sub) }
      ∷ [];
  global = file_of true (text global);
}

-- the files of a repository with the top's alone
abbrev top_alone : Case → List (List ℕ) → Files
top_alone case top = repository case [] top [] [] []

-- the states of these attributes
unfoldable pub states : Files → List (List ℕ) → List ℕ → Bool → List State
unfolding matches tokens_from built_in
states files names path is_dir = (table_of files (record { path = path; case = Sensitive; is_dir = is_dir; names = names })).states

-- the states of `x`, for paths of files
abbrev x_of : Files → List (List ℕ) → List (List State)
x_of files paths = map (λ path. states files (codes "x" ∷ []) path false) paths

-- ---- what a rule fits

by_last_name : x_of (top_alone Sensitive (codes "*.c x" ∷ [])) (codes "a.c" ∷ codes "s/a.c" ∷ codes "a.d" ∷ []) ≡ (Set ∷ []) ∷ (Set ∷ []) ∷ (Unspecified ∷ []) ∷ []
unfolding states
by_last_name = refl

by_whole_path : x_of (top_alone Sensitive (codes "/*.c x" ∷ codes "s/*.d x" ∷ [])) (codes "a.c" ∷ codes "s/a.c" ∷ codes "s/a.d" ∷ codes "s/q/a.d" ∷ []) ≡ (Set ∷ []) ∷ (Unspecified ∷ []) ∷ (Set ∷ []) ∷ (Unspecified ∷ []) ∷ []
unfolding states
by_whole_path = refl

stars : x_of (top_alone Sensitive (codes "s/** x" ∷ codes "**/a.c x" ∷ codes "b/**/c x" ∷ []))
    (codes "s" ∷ codes "s/a" ∷ codes "s/q/z" ∷ codes "a.c" ∷ codes "q/z/a.c" ∷ codes "b/c" ∷ codes "b/q/z/c" ∷ codes "bc" ∷ [])
    ≡ (Unspecified ∷ []) ∷ (Set ∷ []) ∷ (Set ∷ []) ∷ (Set ∷ []) ∷ (Set ∷ []) ∷ (Set ∷ []) ∷ (Set ∷ []) ∷ (Unspecified ∷ []) ∷ []
unfolding states
stars = refl

-- a directory's line says nothing of what is below, and one with a slash at its end nothing of files
directories : map (λ is_dir. states (top_alone Sensitive (codes "s x" ∷ codes "s/ y" ∷ [])) (codes "x" ∷ codes "y" ∷ []) (codes "s") is_dir) (false ∷ true ∷ []) ≡ (Set ∷ Unspecified ∷ []) ∷ (Set ∷ Set ∷ []) ∷ []
unfolding states
directories = refl

below_directory : x_of (top_alone Sensitive (codes "s x" ∷ codes "s/ x" ∷ [])) (codes "s/a" ∷ codes "s/" ∷ []) ≡ (Unspecified ∷ []) ∷ (Set ∷ []) ∷ []
unfolding states
below_directory = refl

case_counts : x_of (top_alone Sensitive (codes "*.C x" ∷ [])) (codes "a.c" ∷ []) ≡ (Unspecified ∷ []) ∷ []
unfolding states
case_counts = refl

case_folds : x_of (top_alone Fold (codes "*.C x" ∷ [])) (codes "a.c" ∷ []) ≡ (Set ∷ []) ∷ []
unfolding states
case_folds = refl

-- two stars in the midst of a name are one: here git sets the second, too
known_difference : x_of (top_alone Sensitive (codes "a**/b x" ∷ [])) (codes "ax/b" ∷ codes "a/x/b" ∷ []) ≡ (Set ∷ []) ∷ (Unspecified ∷ []) ∷ []
unfolding states
known_difference = refl

-- a backslash quotes no blank, and a pattern that ends with one fits nothing
quotes_no_blank : x_of (top_alone Sensitive (codes "a\\ b x" ∷ [])) (codes "a\\" ∷ codes "a b" ∷ codes "a" ∷ []) ≡ (Unspecified ∷ []) ∷ (Unspecified ∷ []) ∷ (Unspecified ∷ []) ∷ []
unfolding states
quotes_no_blank = refl

-- `!` behind a backslash stands for itself
starts_with_bang : x_of (top_alone Sensitive (codes "\\!a x" ∷ codes "!b x" ∷ [])) (codes "!a" ∷ codes "b" ∷ codes "!b" ∷ []) ≡ (Set ∷ []) ∷ (Unspecified ∷ []) ∷ (Unspecified ∷ []) ∷ []
unfolding states
starts_with_bang = refl

-- ---- which saying counts

last_of_a_line : x_of (top_alone Sensitive (codes "*.c x -x x=v" ∷ [])) (codes "a.c" ∷ []) ≡ (Value (codes "v") ∷ []) ∷ []
unfolding states
last_of_a_line = refl

later_line : x_of (top_alone Sensitive (codes "* x" ∷ codes "*.c -x" ∷ [])) (codes "a.c" ∷ codes "a.d" ∷ []) ≡ (Unset ∷ []) ∷ (Set ∷ []) ∷ []
unfolding states
later_line = refl

-- the example of the manual page
manual : states (repository Sensitive [] (codes "abc foo bar baz" ∷ []) (codes "a* merge=filfre" ∷ codes "abc -foo -bar" ∷ codes "*.c frotz" ∷ []) [] (codes "a* foo !bar -baz" ∷ []))
    (codes "foo" ∷ codes "bar" ∷ codes "baz" ∷ codes "merge" ∷ codes "frotz" ∷ []) (codes "t/abc") false
    ≡ Set ∷ Unspecified ∷ Unset ∷ Value (codes "filfre") ∷ Unspecified ∷ []
unfolding states
manual = refl

nearer_file : x_of (repository Sensitive (codes "*.c x=g" ∷ []) (codes "*.c x=t" ∷ []) (codes "*.c x=d" ∷ []) [] []) (codes "t/a.c" ∷ codes "a.c" ∷ codes "t/sub/a.c" ∷ []) ≡ (Value (codes "d") ∷ []) ∷ (Value (codes "t") ∷ []) ∷ (Value (codes "d") ∷ []) ∷ []
unfolding states
nearer_file = refl

global_under_all : x_of (repository Sensitive (codes "*.c x=g" ∷ []) [] (codes "*.c x=d" ∷ []) [] []) (codes "t/a.c" ∷ codes "a.c" ∷ codes "t" ∷ []) ≡ (Value (codes "d") ∷ []) ∷ (Value (codes "g") ∷ []) ∷ (Unspecified ∷ []) ∷ []
unfolding states
global_under_all = refl

-- a file says nothing of its own directory, and its patterns begin there
own_directory : x_of (repository Sensitive [] [] (codes "t x" ∷ codes "/sub x" ∷ codes "sub/a x" ∷ []) [] []) (codes "t" ∷ codes "t/sub" ∷ codes "t/sub/a" ∷ codes "sub" ∷ codes "sub/a" ∷ []) ≡ (Unspecified ∷ []) ∷ (Set ∷ []) ∷ (Set ∷ []) ∷ (Unspecified ∷ []) ∷ (Unspecified ∷ []) ∷ []
unfolding states
own_directory = refl

-- a directory's file is found by the bytes of its path, with case
exact_directory : x_of (repository Fold [] [] (codes "*.c x" ∷ []) [] []) (codes "t/a.c" ∷ codes "t/A.C" ∷ codes "T/a.c" ∷ []) ≡ (Set ∷ []) ∷ (Set ∷ []) ∷ (Unspecified ∷ []) ∷ []
unfolding states
exact_directory = refl

-- an attribute that is left unspecified hides what is farther
hides : x_of (repository Sensitive [] (codes "*.d x" ∷ []) (codes "*.d !x" ∷ []) [] []) (codes "t/a.d" ∷ codes "a.d" ∷ []) ≡ (Unspecified ∷ []) ∷ (Set ∷ []) ∷ []
unfolding states
hides = refl

-- ---- macros

-- the names `m` and `x`
abbrev m_x : List (List ℕ)
m_x = codes "m" ∷ codes "x" ∷ []

info_defines : states (repository Sensitive [] (codes "[attr]m x=top" ∷ []) (codes "[attr]m x=sub" ∷ codes "* m" ∷ []) [] (codes "[attr]m x=info" ∷ [])) m_x (codes "t/a") false ≡ Set ∷ Value (codes "info") ∷ []
unfolding states
info_defines = refl

top_over_global : states (repository Sensitive (codes "[attr]m x=global" ∷ codes "* m" ∷ []) (codes "[attr]m x=top" ∷ []) [] [] []) m_x (codes "t/a") false ≡ Set ∷ Value (codes "top") ∷ []
unfolding states
top_over_global = refl

last_definition : states (top_alone Sensitive (codes "[attr]m x=1" ∷ codes "[attr]m x=2" ∷ codes "* m" ∷ [])) m_x (codes "a") false ≡ Set ∷ Value (codes "2") ∷ []
unfolding states
last_definition = refl

defined_behind : states (top_alone Sensitive (codes "* m" ∷ codes "[attr]m x" ∷ [])) m_x (codes "a") false ≡ Set ∷ Set ∷ []
unfolding states
defined_behind = refl

-- only a macro that is set expands, and only where that decides it
no_expansion : map (λ path. states (top_alone Sensitive (codes "[attr]m x" ∷ codes "a -m" ∷ codes "b m=1" ∷ codes "c !m" ∷ codes "d m -m" ∷ [])) m_x path false) (codes "a" ∷ codes "b" ∷ codes "c" ∷ codes "d" ∷ [])
    ≡ (Unset ∷ Unspecified ∷ []) ∷ (Value (codes "1") ∷ Unspecified ∷ []) ∷ (Unspecified ∷ Unspecified ∷ []) ∷ (Unset ∷ Unspecified ∷ []) ∷ []
unfolding states
no_expansion = refl

expands_at_its_place : map (λ path. states (top_alone Sensitive (codes "[attr]m x" ∷ codes "a m -x" ∷ codes "b -x m" ∷ [])) m_x path false) (codes "a" ∷ codes "b" ∷ []) ≡ (Set ∷ Unset ∷ []) ∷ (Set ∷ Set ∷ []) ∷ []
unfolding states
expands_at_its_place = refl

-- a ring ends
ring : states (top_alone Sensitive (codes "[attr]m n x" ∷ codes "[attr]n m y" ∷ codes "* m" ∷ [])) (codes "m" ∷ codes "n" ∷ codes "x" ∷ codes "y" ∷ []) (codes "a") false ≡ Set ∷ Set ∷ Set ∷ Set ∷ []
unfolding states
ring = refl

-- in a macro the last counts, too
order_in_macro : map (λ path. states (top_alone Sensitive (codes "[attr]m n x" ∷ codes "[attr]k x n" ∷ codes "[attr]n -x" ∷ codes "a m" ∷ codes "b k" ∷ [])) (codes "x" ∷ []) path false) (codes "a" ∷ codes "b" ∷ []) ≡ (Set ∷ []) ∷ (Unset ∷ []) ∷ []
unfolding states
order_in_macro = refl

-- a macro may be defined as nothing
empty_macro : states (top_alone Sensitive (codes "[attr]m x" ∷ codes "[attr]m" ∷ codes "* m" ∷ [])) m_x (codes "a") false ≡ Set ∷ Unspecified ∷ []
unfolding states
empty_macro = refl

-- git's own, and another in its place
binary : states (top_alone Sensitive (codes "* binary" ∷ [])) (codes "binary" ∷ codes "diff" ∷ codes "merge" ∷ codes "text" ∷ []) (codes "a") false ≡ Set ∷ Unset ∷ Unset ∷ Unset ∷ []
unfolding states
binary = refl

binary_redefined : states (top_alone Sensitive (codes "[attr]binary foo" ∷ codes "* binary" ∷ [])) (codes "binary" ∷ codes "diff" ∷ codes "foo" ∷ []) (codes "a") false ≡ Set ∷ Unspecified ∷ Set ∷ []
unfolding states
binary_redefined = refl

-- ---- what is left out

-- the lines of a directory's file that git drops
told : left_out false (text (codes "* a@b" ∷ codes "# c" ∷ codes "!a x" ∷ codes "[attr]m x" ∷ codes "* x" ∷ [])) ≡ record { line = 1; reason = InvalidName } ∷ record { line = 3; reason = Negative } ∷ record { line = 4; reason = MacroHere } ∷ []
told = refl
