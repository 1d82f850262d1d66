-- The match that a search finds for a path, and its place.
use Rattle.std.specs.Prelude.{◌≡◌, ℕ, ◌<◌, Bool, false, List, length, find, slice_get, if◌then◌else◌, Option, Some, None, unwrap_or}
use Rattle.std.specs.List.{list_any}
use Rattle.std.specs.Option.{option_and_then}
use Rattle.gix_pathspec.specs.declared.search.MatchKind.{MatchKind}
use Rattle.gix_pathspec.specs.declared.search.MatchKind.TheVariants.{Always}
use Rattle.gix_pathspec.specs.declared.search.matching.Match.{Match}
use Rattle.gix_pathspec.specs.Bytes.{is_empty}
use Rattle.gix_pathspec.specs.Attributes.{Table}
use Rattle.gix_pathspec.specs.Specs.{Spec, is_include}
use Rattle.gix_pathspec.specs.Patterns.{pattern_spec}
use Rattle.gix_pathspec.specs.Reading.{nil_spec}
use Rattle.gix_pathspec.specs.Matching.{fit, has_attributes, spec_matches}
use Rattle.gix_pathspec.specs.Search.{Numbered, Answer, specs_of, answer_with}

-- Whether a path counts as a directory: where that is not known, it does not.
abbrev pub is_directory : Option Bool → Bool
is_directory is_dir = unwrap_or is_dir false

-- the way in which a spec matches a path: it fits so, and the look-up says what it lists
unfoldable pub matched_kind : Table → Spec → List ℕ → Bool → Option MatchKind
matched_kind table s path is_dir = if has_attributes table s path is_dir then fit s path is_dir else None

-- the first spec in search order that matches the path
abbrev pub first_match : Table → List Numbered → List ℕ → Bool → Option Numbered
first_match table search path is_dir = find (λ n. spec_matches table n.spec path is_dir) search

-- The first spec that matches the path stands at the place, and it matches in the way that `kind` says.
pub record IsFirstMatch (table : Table) (search : List Numbered) (path : List ℕ) (is_dir : Bool) (place : ℕ) (kind : MatchKind) : Type 0 where
  pub within : place < length search
  pub first : first_match table search path is_dir ≡ slice_get search place
  pub fits : option_and_then (λ n. fit n.spec path is_dir) (slice_get search place) ≡ Some kind

-- The place and the way that were found are those of the first match, or no spec matches.
abbrev pub IsFirstFound : Table → List Numbered → List ℕ → Bool → Option (ℕ × MatchKind) → Type 0
IsFirstFound table search path is_dir None = first_match table search path is_dir ≡ None
IsFirstFound table search path is_dir (Some found) = IsFirstMatch table search path is_dir found.0 found.1

-- The answer for a path that no spec matches: the nil pattern, where the path is empty or there is no include.
abbrev pub default_answer : List Numbered → List ℕ → Option Answer
default_answer search path =
    if is_empty path then Some (record { pattern = nil_spec; number = 0; kind = Always })
    else if list_any is_include (specs_of search) then None
    else Some (record { pattern = nil_spec; number = length search; kind = Always })

-- the answer that the place of the first match stands for
abbrev pub answer_found : List Numbered → List ℕ → Option (ℕ × MatchKind) → Option Answer
answer_found search path None = default_answer search path
answer_found search path (Some found) = option_and_then (λ n. answer_with n (Some found.1)) (slice_get search found.0)

-- the answer that a match is
abbrev pub match_view : Match → Answer
match_view m = record { pattern = pattern_spec m.pattern.now; number = m.sequence_number; kind = m.kind }
