-- The answers about directories (gix-pathspec's `directory_matches_prefix` and `longest_common_directory`).
use Rattle.std.specs.Prelude.{ℕ, Bool, true, false, not, ◌&&◌, ◌||◌, List, [], length, take, drop, filter, find, nat_le, ◌==◌, if◌then◌else◌, Option, Some, None}
use Rattle.std.specs.List.{list_any, list_all, before_last}
use Rattle.gix_pathspec.specs.Bytes.{is_empty, fold_case, first_is, begins_with}
use Rattle.gix_pathspec.specs.Paths.{is_slash}
use Rattle.gix_pathspec.specs.Specs.{Spec, is_exclude, is_include, ignores_case, wants_directory, always_matches, has_wildcard}
use Rattle.gix_pathspec.specs.Prefixes.{stem, common_prefix}
use Rattle.gix_pathspec.specs.Pruning.{agree, is_total_exclude}

-- a text before its last slash, or all of it where it has none
abbrev pub parent_or_self : List ℕ → List ℕ
parent_or_self text = if list_any is_slash text then before_last is_slash text else text

-- The front of a spec is its path where it has no wildcard, else its stem before the last slash, else its stem.
abbrev pub front : Spec → List ℕ
front s = if has_wildcard s then parent_or_self (stem s) else s.path

-- With leading, a front longer than n is cut down to the path's first n bytes before their last slash, or where they have none to those bytes, if a slash follows them.
abbrev pub leading_front : Spec → ℕ → List ℕ
leading_front s n =
    let first_bytes = take n s.path in
    if nat_le (length (front s)) n then front s
    else if list_any is_slash first_bytes then before_last is_slash first_bytes
    else if first_is is_slash (drop n s.path) then first_bytes
    else front s

-- the front that counts for d
abbrev pub front_for : Spec → List ℕ → Bool → List ℕ
front_for s d false = front s
front_for s d true = leading_front s (length d)

-- the front begins d, without case where the spec has none
abbrev pub agrees_in_front : Spec → List ℕ → Bool → Bool
agrees_in_front s d leading = begins_with (fold_case (ignores_case s) d) (fold_case (ignores_case s) (front_for s d leading))

-- an exclude that settles the answer
abbrev pub settles : Spec → Bool
settles s = is_exclude s && (has_wildcard s || is_total_exclude s)

-- the answer of the first exclude that settles it, else whether an include takes d
abbrev pub settling_answer : Option Spec → Bool → Bool
settling_answer (Some s) otherwise = has_wildcard s
settling_answer None otherwise = otherwise

-- an include that always matches, or whose front d begins with
abbrev pub allows_directory : List ℕ → Bool → Spec → Bool
allows_directory d leading s = is_include s && (always_matches s || agrees_in_front s d leading)

-- Whether d can lie in the prefix of the specs, which stand in search order. True for no specs or an empty d, and false where d and the common prefix disagree.
unfoldable pub directory_matches : List Spec → List ℕ → Bool → Bool
directory_matches specs d leading =
    is_empty specs || is_empty d
    || agree d (common_prefix specs)
    && settling_answer (find settles specs) (not (list_any is_include specs) || list_any (allows_directory d leading) specs)

-- the path ends with the common prefix, or goes on after it with a slash
abbrev pub ends_at_boundary : List ℕ → Spec → Bool
ends_at_boundary common s = length s.path == length common || first_is is_slash (drop (length common) s.path)

-- a text before its last slash, and nothing where it has none
abbrev pub parent : List ℕ → List ℕ
parent text = if list_any is_slash text then before_last is_slash text else []

-- a text where it is not empty
abbrev pub non_empty : List ℕ → Option (List ℕ)
non_empty text = if is_empty text then None else Some text

-- the includes' common directory, where first is the first of them
abbrev pub directory_of : List Spec → Option Spec → List ℕ → Option (List ℕ)
directory_of includes None common = None
directory_of includes (Some first) common = non_empty (if wants_directory first && list_all (ends_at_boundary common) includes then common else parent common)

-- The longest common directory is the common prefix where the first include wants a directory and every include's path ends there or goes on with a slash,
-- and else the common prefix before its last slash. There is none without an include, and none that is empty.
unfoldable pub common_directory : List Spec → Option (List ℕ)
common_directory specs = directory_of (filter is_include specs) (find is_include specs) (common_prefix specs)
