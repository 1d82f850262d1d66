-- What settles a path, by the definitions of a search.
use Rattle.std.specs.Prelude.{◌≡◌, ℕ, Bool, true, false, ◌&&◌, List, ◌∷◌, ◌++◌, IsTrue, IsFalse}
use Rattle.std.specs.List.{list_any}
use Rattle.gix_pathspec.specs.Attributes.{Table}
use Rattle.gix_pathspec.specs.Specs.{Spec, is_exclude, is_include}
use Rattle.gix_pathspec.specs.Matching.{spec_matches}
use Rattle.gix_pathspec.specs.Prefixes.{common_prefix}
use Rattle.gix_pathspec.specs.Search.{Numbered, specs_of}
use Rattle.pathspec_explain.specs.Parting.{PartsAt}
use Rattle.pathspec_explain.specs.declared.verdict.Verdict.{Verdict}
use Rattle.pathspec_explain.specs.declared.verdict.Verdict.TheVariants.{Selected, Excluded, NoExcludeMatches, NoIncludeMatches, LacksCommonPrefix}

-- The spec settles the path: it matches the path, and no spec before it in search order does.
pub record Settles (table : Table) (search : List Numbered) (path : List ℕ) (is_dir : Bool) (n : Numbered) : Type 0 where
  pub before : List Numbered
  pub after : List Numbered
  pub stands : search ≡ before ++ n ∷ after
  pub matches : IsTrue (spec_matches table n.spec path is_dir)
  pub first : IsFalse (list_any (λ m. spec_matches table m.spec path is_dir) before)

-- A spec of this kind, with this number, settles the path.
abbrev pub IsSettledBy : Table → List Numbered → List ℕ → Bool → (Spec → Bool) → ℕ → Type 0
IsSettledBy table search path is_dir kind number = (n : Numbered) × (n.number ≡ number) × IsTrue (kind n.spec) × Settles table search path is_dir n

-- There are includes, and none of them matches the path.
abbrev pub NoneIncludes : Table → List Spec → List ℕ → Bool → Type 0
NoneIncludes table specs path is_dir = IsTrue (list_any is_include specs) × IsFalse (list_any (λ s. is_include s && spec_matches table s path is_dir) specs)

-- There is no include, and no spec matches the path.
abbrev pub NoneExcludes : Table → List Spec → List ℕ → Bool → Type 0
NoneExcludes table specs path is_dir = IsFalse (list_any is_include specs) × IsFalse (list_any (λ s. spec_matches table s path is_dir) specs)

-- The verdict is true of the path.
abbrev pub IsVerdict : Table → List Numbered → List ℕ → Bool → Verdict → Type 0
IsVerdict table search path is_dir (Selected number) = IsSettledBy table search path is_dir is_include number
IsVerdict table search path is_dir (Excluded number) = IsSettledBy table search path is_dir is_exclude number
IsVerdict table search path is_dir NoExcludeMatches = NoneExcludes table (specs_of search) path is_dir
IsVerdict table search path is_dir NoIncludeMatches = NoneIncludes table (specs_of search) path is_dir
IsVerdict table search path is_dir (LacksCommonPrefix at) = NoneIncludes table (specs_of search) path is_dir × PartsAt (common_prefix (specs_of search)) path at

-- the verdict selects the path
abbrev pub is_selected : Verdict → Bool
is_selected (Selected number) = true
is_selected (Excluded number) = false
is_selected NoExcludeMatches = true
is_selected NoIncludeMatches = false
is_selected (LacksCommonPrefix at) = false
