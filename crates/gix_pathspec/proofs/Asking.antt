-- The questions that the rows ask, each as one function that computes.
use Rattle.std.proofs.Common.{◌≡◌, ℕ, Bool, true, false, List, [], ◌∷◌, Option, map}
use Rattle.std.specs.Prelude.{bytes_eq}
use Rattle.std.specs.Option.{option_map, option_and_then}
use Rattle.std.specs.Result.{result_ok}
use Rattle.pathspec_parts.specs.Attributes.{Table}
use Rattle.pathspec_parts.specs.Attributes.State.{Set, Unspecified}
use Rattle.pathspec_parts.specs.Tokens.{tokens_from}
use Rattle.pathspec_parts.specs.GlobRelation.{matches}
use Rattle.pathspec_pattern.specs.LongText.{long_text}
use Rattle.gix_pathspec.specs.declared.search.MatchKind.{MatchKind}
use Rattle.gix_pathspec.specs.Results.{all_ok, ◌>>=◌}
use Rattle.gix_pathspec.specs.NormalForm.{normal_form, climb}
use Rattle.gix_pathspec.specs.Matching.{fit, has_attributes, spec_matches, is_chosen}
use Rattle.gix_pathspec.specs.Prefixes.{common_prefix, first_prefix_directory}
use Rattle.gix_pathspec.specs.Tables.{stem_reaches}
use Rattle.gix_pathspec.specs.Pruning.{reaches, can_match}
use Rattle.gix_pathspec.specs.Skipping.{takes_whole, takes_rest, shadows, holds_nothing, may_skip}
use Rattle.gix_pathspec.specs.Directories.{directory_matches, common_directory}
use Rattle.gix_pathspec.specs.Search.{Numbered, Answer, search_of, answer, selects, specs_of}
use Rattle.gix_pathspec.specs.Room.{source_of}
use Rattle.gix_pathspec.specs.SetSources.{all_sources, has_set_behind, places_behind, set_source_of}
use Rattle.gix_pathspec.specs.ExcludeSets.{is_exclude_member}
use Rattle.pathspec_pattern.proofs.Asking.{parse}

-- each row has the answer that is computed
abbrev pub IsTable : {R A : Type 0} → (R → A) → (R → A) → List R → Type 0
IsTable computed given rows = map computed rows ≡ map given rows

-- how a spec fits a path
unfoldable pub fitted : List ℕ → List ℕ → Bool → Option MatchKind
unfolding parse normal_form climb fit matches tokens_from
fitted text path is_dir = option_and_then (λ n. fit n path is_dir) (result_ok (parse text >>= λ s. normal_form [] [] s))

-- how it fits a file
unfoldable pub kind : List ℕ → List ℕ → Option MatchKind
unfolding fitted
kind text path = fitted text path false

-- whether a text's spec is a member of a set, and if so, whether it decides where its glob matches
unfoldable pub set_member : List ℕ → List ℕ → Option Bool
unfolding parse normal_form climb
set_member prefix text = option_map (λ source. source.cuts) (option_and_then source_of (result_ok (parse text >>= λ s. normal_form prefix [] s)))

-- the head right behind which the glob of a text's spec begins, if it does so, and whether the spec decides where its glob matches
unfoldable pub headed_member : List ℕ → List ℕ → Option (List ℕ × Bool)
unfolding parse normal_form climb
headed_member prefix text = option_map (λ source. (source.head, source.member.cuts)) (option_and_then set_source_of (result_ok (parse text >>= λ s. normal_form prefix [] s)))

-- whether a text's spec is an exclude that stands in the set of those that a skip question asks
unfoldable pub exclude_member : List ℕ → List ℕ → Option Bool
unfolding parse normal_form climb tokens_from
exclude_member prefix text = option_map is_exclude_member (result_ok (parse text >>= λ s. normal_form prefix [] s))

-- a look-up that knows of no attribute
abbrev pub nothing_known : Table
nothing_known q = record { found = true; states = map (λ name. Unspecified) q.names }

-- one that says of one path that an attribute is set
abbrev pub known_of : List ℕ → Table
known_of path q = record { found = bytes_eq q.path path; states = Set ∷ [] }

-- the search of texts, where each reads and has a normal form
unfoldable pub searched : List ℕ → List (List ℕ) → Option (List Numbered)
unfolding parse normal_form climb search_of
searched prefix texts = option_and_then (λ specs. result_ok (search_of prefix [] specs)) (result_ok (all_ok (map parse texts)))

-- whether a head has a set in a search
unfoldable pub has_head_set : List ℕ → List (List ℕ) → List ℕ → Option Bool
unfolding searched tokens_from
has_head_set prefix texts h = option_map (λ search. has_set_behind (all_sources search) h) (searched prefix texts)

-- the places of the specs whose glob begins right behind a head
unfoldable pub head_places : List ℕ → List (List ℕ) → List ℕ → Option (List ℕ)
unfolding searched
head_places prefix texts h = option_map (places_behind h) (searched prefix texts)

-- what it answers to a path
unfoldable pub answered : List ℕ → List (List ℕ) → List ℕ → Bool → Option (Option Answer)
unfolding searched answer common_prefix spec_matches has_attributes fit matches tokens_from
answered prefix texts path is_dir = option_map (λ search. answer nothing_known search path is_dir) (searched prefix texts)

-- the number and the kind of the answer
unfoldable pub asked : List ℕ → List (List ℕ) → List ℕ → Bool → Option (ℕ × MatchKind)
unfolding answered
asked prefix texts path is_dir = option_and_then (λ given. option_map (λ a. (a.number, a.kind)) given) (answered prefix texts path is_dir)

-- the long text of the spec that answers for a file
unfoldable pub answering : List ℕ → List (List ℕ) → List ℕ → Option (List ℕ)
unfolding answered long_text
answering prefix texts path = option_and_then (λ given. option_map (λ a. long_text a.pattern) given) (answered prefix texts path false)

-- whether the answer selects a file
unfoldable pub selected : List ℕ → List (List ℕ) → List ℕ → Option Bool
unfolding answered
selected prefix texts path = option_map selects (answered prefix texts path false)

-- whether something at or below a path can match
unfoldable pub can_match_under : List ℕ → List (List ℕ) → List ℕ → Option Bool → Option Bool
unfolding searched can_match common_prefix reaches stem_reaches
can_match_under prefix texts d is_dir = option_map (λ search. can_match (specs_of search) d is_dir) (searched prefix texts)

-- whether a walk may skip what lies below a directory
unfoldable pub skipped : List ℕ → List (List ℕ) → List ℕ → Option Bool
unfolding searched may_skip holds_nothing takes_whole takes_rest shadows can_match reaches stem_reaches common_prefix matches tokens_from
skipped prefix texts d = option_map (λ search. may_skip (specs_of search) d) (searched prefix texts)

-- whether a path is chosen
unfoldable pub chosen_of : List ℕ → List (List ℕ) → List ℕ → Bool → Option Bool
unfolding searched is_chosen spec_matches has_attributes fit matches tokens_from
chosen_of prefix texts path is_dir = option_map (λ search. is_chosen nothing_known (specs_of search) path is_dir) (searched prefix texts)

-- the common prefix
unfoldable pub common : List ℕ → List (List ℕ) → Option (List ℕ)
unfolding searched common_prefix
common prefix texts = option_map (λ search. common_prefix (specs_of search)) (searched prefix texts)

-- the longest common directory
unfoldable pub directory : List ℕ → List (List ℕ) → Option (List ℕ)
unfolding searched common_directory common_prefix
directory prefix texts = option_and_then (λ search. common_directory (specs_of search)) (searched prefix texts)

-- the prefix directory of the first include
unfoldable pub first_directory : List ℕ → List (List ℕ) → Option (List ℕ)
unfolding searched
first_directory prefix texts = option_map (λ search. first_prefix_directory (specs_of search)) (searched prefix texts)

-- whether a directory lies in the prefix
unfoldable pub in_prefix : List (List ℕ) → List ℕ → Bool → Option Bool
unfolding searched directory_matches common_prefix
in_prefix texts d leading = option_map (λ search. directory_matches (specs_of search) d leading) (searched [] texts)
