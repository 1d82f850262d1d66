-- A search: normalised specs with their numbers, excludes first.
use Rattle.std.specs.Prelude.{◌≡◌, ◌↔◌, Contains, ℕ, ◌+◌, Bool, false, not, ◌&&◌, List, [], ◌∷◌, ◌++◌, length, map, filter, find, if◌then◌else◌, Option, Some, None, Result, Ok, Err}
use Rattle.std.specs.List.{list_any}
use Rattle.gix_pathspec.specs.declared.search.MatchKind.{MatchKind}
use Rattle.gix_pathspec.specs.declared.search.MatchKind.TheVariants.{Always}
use Rattle.gix_pathspec.specs.Bytes.{is_empty, begins_with}
use Rattle.gix_pathspec.specs.Results.{◌>>=◌}
use Rattle.gix_pathspec.specs.Faults.{Fault}
use Rattle.gix_pathspec.specs.Specs.{Spec, is_exclude, is_include, must_be_dir}
use Rattle.gix_pathspec.specs.Reading.{nil_spec, literal_spec}
use Rattle.gix_pathspec.specs.NormalForm.{normal_form}
use Rattle.gix_pathspec.specs.Attributes.{Table}
use Rattle.gix_pathspec.specs.Matching.{fit, spec_matches}
use Rattle.gix_pathspec.specs.Prefixes.{common_prefix}

-- a spec and its number
pub record Numbered : Type 0 where
  pub number : ℕ
  pub spec : Spec

-- the specs without their numbers
abbrev pub specs_of : List Numbered → List Spec
specs_of search = map (λ n. n.spec) search

-- How many specs the last match asked, or the last question whether a walk may skip a directory, and how many heads it
-- compared with the path; and how many all of them asked and compared, modulo 2 ^ 128. The same of the steps and looks of sets. And
-- whether these told which of their specs to ask, or whether one covers the directory, and whether one of them gave up.
pub record MatchCounts : Type 0 where
  pub last_tested : ℕ
  pub last_compared : ℕ
  pub last_stepped : ℕ
  pub last_by_set : Bool
  pub last_gave_up : Bool
  pub tested : ℕ
  pub compared : ℕ
  pub stepped : ℕ

-- nothing was asked and compared yet
pub record IsFresh (counts : MatchCounts) : Type 0 where
  pub last_tested : counts.last_tested ≡ 0
  pub last_compared : counts.last_compared ≡ 0
  pub last_stepped : counts.last_stepped ≡ 0
  pub last_by_set : counts.last_by_set ≡ false
  pub last_gave_up : counts.last_gave_up ≡ false
  pub tested : counts.tested ≡ 0
  pub compared : counts.compared ≡ 0
  pub stepped : counts.stepped ≡ 0

-- the counts of the last call begin anew, and the totals stay
pub record BeginsCounts (old new : MatchCounts) : Type 0 where
  pub last_tested : new.last_tested ≡ 0
  pub last_compared : new.last_compared ≡ 0
  pub last_stepped : new.last_stepped ≡ 0
  pub last_by_set : new.last_by_set ≡ false
  pub last_gave_up : new.last_gave_up ≡ false
  pub tested : new.tested ≡ old.tested
  pub compared : new.compared ≡ old.compared
  pub stepped : new.stepped ≡ old.stepped

-- The contents of a search: its specs in search order, where they come from, and the counts of its own matches.
pub record SearchContents : Type 0 where
  pub specs : List Numbered
  pub source : Option (List ℕ)
  pub counts : MatchCounts

-- the new search has the specs of the old one, and its source
pub record KeepsSpecs (old new : SearchContents) : Type 0 where
  pub specs : new.specs ≡ old.specs
  pub source : new.source ≡ old.source

-- a fault with the number of its spec
abbrev pub at_number : {A : Type 0} → ℕ → Result A Fault → Result A (ℕ × Fault)
at_number number (Ok x) = Ok x
at_number number (Err fault) = Err (number, fault)

-- the specs in normal form, numbered from n on, or the first that has none
abbrev pub numbered_from : ℕ → List ℕ → List ℕ → List Spec → Result (List Numbered) (ℕ × Fault)
numbered_from n prefix root [] = Ok []
numbered_from n prefix root (s ∷ specs) =
    at_number n (normal_form prefix root s) >>= λ normal. numbered_from (n + 1) prefix root specs >>= λ others. Ok (record { number = n; spec = normal } ∷ others)

-- excludes before includes, each group in its order
abbrev pub in_search_order : List Numbered → List Numbered
in_search_order ns = filter (λ n. is_exclude n.spec) ns ++ filter (λ n. is_include n.spec) ns

-- an empty list with a prefix stands for that prefix
abbrev pub default_to_prefix : List ℕ → List Spec → List Spec
default_to_prefix prefix specs = if is_empty specs && not (is_empty prefix) then literal_spec must_be_dir [] ∷ [] else specs

-- The search of specs, or the first spec that has no normal form.
unfoldable pub search_of : List ℕ → List ℕ → List Spec → Result (List Numbered) (ℕ × Fault)
search_of prefix root specs = numbered_from 0 prefix root (default_to_prefix prefix specs) >>= λ ns. Ok (in_search_order ns)

-- n is the normal form of one of the specs
abbrev pub IsNormalFormOfOne : List ℕ → List ℕ → List Spec → Spec → Type 0
IsNormalFormOfOne prefix root specs n = (s : Spec) × Contains specs s × (normal_form prefix root s ≡ Ok n)

-- The specs of a search are just the normal forms of those that it is made from.
abbrev pub HoldsNormalForms : Type 0
HoldsNormalForms =
    (prefix root : List ℕ) (specs : List Spec) (search : List Numbered) (n : Spec) → search_of prefix root specs ≡ Ok search
    → Contains (specs_of search) n ↔ IsNormalFormOfOne prefix root (default_to_prefix prefix specs) n

-- a spec that matches a path, its number, and how
pub record Answer : Type 0 where
  pub pattern : Spec
  pub number : ℕ
  pub kind : MatchKind

-- the answer of a spec that matches in some way
abbrev pub answer_with : Numbered → Option MatchKind → Option Answer
answer_with n None = None
answer_with n (Some kind) = Some (record { pattern = n.spec; number = n.number; kind = kind })

-- the first spec that matches the path; where none does, all of a search without includes is chosen
abbrev pub answer_of : List Numbered → List ℕ → Bool → Option Numbered → Option Answer
answer_of search path is_dir (Some n) = answer_with n (fit n.spec path is_dir)
answer_of search path is_dir None =
    if list_any is_include (specs_of search) then None else Some (record { pattern = nil_spec; number = length search; kind = Always })

-- The spec that settles a path: none where the path lacks the common prefix, else the first in search order that matches it. The empty path is always taken.
unfoldable pub answer : Table → List Numbered → List ℕ → Bool → Option Answer
answer table search path is_dir =
    if is_empty path then Some (record { pattern = nil_spec; number = 0; kind = Always })
    else if not (begins_with path (common_prefix (specs_of search))) then None
    else answer_of search path is_dir (find (λ n. spec_matches table n.spec path is_dir) search)

-- an answer that selects the path
abbrev pub selects : Option Answer → Bool
selects None = false
selects (Some a) = is_include a.pattern
