-- Promises of the directories that a walk may skip, as facts that contracts can cite.
use Rattle.std.specs.Prelude.{◌≡◌, ◌≢◌, ◌↔◌, ◌⊎◌, ℕ, Bool, true, not, ◌&&◌, List, [], Some, IsTrue, IsFalse, Contains}
use Rattle.gix_pathspec.specs.Bytes.{is_empty}
use Rattle.gix_pathspec.specs.Paths.{IsBytes, IsBelow}
use Rattle.gix_pathspec.specs.Attributes.{Table}
use Rattle.gix_pathspec.specs.Specs.{Spec, is_exclude, is_include, ignores_case, has_wildcard}
use Rattle.gix_pathspec.specs.Matching.{IsChosen}
use Rattle.gix_pathspec.specs.Plain.{has_one_case}
use Rattle.gix_pathspec.specs.Pruning.{can_match}
use Rattle.gix_pathspec.specs.Search.{Numbered, Answer, specs_of, answer}
use Rattle.gix_pathspec.specs.Skipping.{found_takes_whole, holds_nothing, may_skip}

-- ---- safe

-- the path is the directory itself, or lies below it
abbrev pub IsInside : List ℕ → Bool → List ℕ → Type 0
IsInside path is_dir d = (path ≡ d) × IsTrue is_dir ⊎ IsBelow path d

-- Safe: nothing below a directory that may be skipped is chosen, whatever a look-up says.
abbrev pub SkippedIsNotChosen : Table → List Spec → Type 0
SkippedIsNotChosen table specs = (d : List ℕ) → IsTrue (may_skip specs d) → (path : List ℕ) (is_dir : Bool) → IsBelow path d → ¬ (IsChosen table specs path is_dir)

-- A directory that holds nothing isn't chosen, and nothing below it is.
abbrev pub NothingIsChosen : Table → List Spec → Type 0
NothingIsChosen table specs = (d : List ℕ) → IsTrue (holds_nothing specs d) → (path : List ℕ) (is_dir : Bool) → IsInside path is_dir d → ¬ (IsChosen table specs path is_dir)

-- Stays: nothing at or below what lies below a directory that may be skipped is chosen.
abbrev pub SkippedStays : Table → List Spec → Type 0
SkippedStays table specs = (d x : List ℕ) → IsTrue (may_skip specs d) → IsBelow x d → (path : List ℕ) (is_dir : Bool) → IsInside path is_dir x → ¬ (IsChosen table specs path is_dir)

-- ---- wider

-- Wider: a directory that pruning says no to may be skipped.
abbrev pub SkipsMore : List Spec → Type 0
SkipsMore specs = (d : List ℕ) → IsFalse (can_match specs d (Some true)) → IsTrue (may_skip specs d)

-- ---- found

-- Found: a directory may be skipped where the match of it is by an exclude that takes it whole.
abbrev pub FoundIsSkipped : Type 0
FoundIsSkipped = (table : Table) (search : List Numbered) (d : List ℕ) (a : Answer) → answer table search d true ≡ Some a → IsTrue (found_takes_whole a) → IsTrue (may_skip (specs_of search) d)

-- ---- exact

-- A plain spec, include or exclude, has no wildcard, no attributes, and no prefix directory without case.
abbrev pub is_plain_spec : Spec → Bool
is_plain_spec s = not (has_wildcard s) && has_one_case s && is_empty s.attributes

-- all specs are plain
abbrev pub ArePlain : List Spec → Type 0
ArePlain specs = (s : Spec) → Contains specs s → IsTrue (is_plain_spec s)

-- no include ignores case beside an exclude that doesn't
abbrev pub CaseAgrees : List Spec → Type 0
CaseAgrees specs = (i e : Spec) → Contains specs i → Contains specs e → IsTrue (is_include i) → IsTrue (is_exclude e) → IsTrue (ignores_case i) → IsTrue (ignores_case e)

-- the directory itself, or some path below it, is chosen
abbrev pub HoldsChosen : Table → List Spec → List ℕ → Type 0
HoldsChosen table specs d = (path : List ℕ) × (is_dir : Bool) × IsBytes path × IsInside path is_dir d × IsChosen table specs path is_dir

-- Exact: where all specs are plain and their cases agree, just those directories may be skipped at and below which nothing is chosen.
abbrev pub SkipIsExact : Table → List Spec → Type 0
SkipIsExact table specs = ArePlain specs → CaseAgrees specs → (d : List ℕ) → d ≢ [] → IsBytes d → IsFalse (may_skip specs d) ↔ HoldsChosen table specs d
