-- What a spec means from a folder of the repository: its path from the root, resolved (normalising).
use Rattle.std.specs.Prelude.{◌≡◌, ℕ, ◌-◌, min, max, Bool, true, false, not, ◌&&◌, ◌||◌, List, [], ◌∷◌, ◌++◌, length, take, map, filter, codes, bytes_eq, ◌==◌, if◌then◌else◌, Option, Some, None, Result, Ok, Err, IsTrue}
use Rattle.pathspec_parts.specs.Bytes.{is_empty}
use Rattle.pathspec_parts.specs.Paths.{components, join_names, is_parent_dir, is_absolute, strip_root}
use Rattle.pathspec_pattern.specs.Faults.{Fault}
use Rattle.pathspec_pattern.specs.Faults.Fault.{OutsideRoot, LeavesRepository}
use Rattle.pathspec_pattern.specs.Specs.{Spec, top, has, wants_directory, has_boundary}

-- ---- fronts of components

-- every front of a list, from the empty one to the whole
abbrev pub fronts : {X : Type 0} → List X → List (List X)
fronts [] = [] ∷ []
fronts (x ∷ xs) = [] ∷ map (λ front. x ∷ front) (fronts xs)

-- how many of the components are `..`
abbrev pub parent_dir_count : List (List ℕ) → ℕ
parent_dir_count cs = length (filter is_parent_dir cs)

-- how many of them are names
abbrev pub name_count : List (List ℕ) → ℕ
name_count cs = length (filter (λ c. not (is_parent_dir c)) cs)

-- the greatest of numbers, and 0 of none
abbrev pub maximum : List ℕ → ℕ
maximum [] = 0
maximum (n ∷ ns) = max n (maximum ns)

-- How far components climb above where they begin: the greatest excess of `..` over names among their fronts.
unfoldable pub climb : List (List ℕ) → ℕ
climb cs = maximum (map (λ front. parent_dir_count front - name_count front) (fronts cs))

-- A name survives where what follows it does not climb.
abbrev pub survivors : List (List ℕ) → List (List ℕ)
survivors [] = []
survivors (c ∷ cs) = let others = survivors cs in if not (is_parent_dir c) && climb cs == 0 then c ∷ others else others

-- ---- what a path stands on

-- what a path stands on: the root of the repository, names of a prefix, or the top of the repository
pub data Base : Type 0 where
  Root : Base
  Prefix : (front : List (List ℕ)) → Base
  Top : Base

-- An absolute path stands on the root. A relative one stands on a prefix that is not empty, unless the spec is for the top.
abbrev pub base : List ℕ → Spec → Base
base prefix s =
    if is_absolute s.path then Root
    else if is_empty prefix || has top s.signature then Top
    else Prefix (components prefix)

-- the names that a path stands on
abbrev pub base_names : Base → List (List ℕ)
base_names Root = []
base_names (Prefix front) = front
base_names Top = []

-- A path's own components: on the root those after the root's, outside which it may lie.
abbrev pub own_components : Base → List ℕ → List ℕ → Option (List (List ℕ))
own_components Root root path = strip_root root path
own_components (Prefix front) root path = Some (components path)
own_components Top root path = Some (components path)

-- What is resolved: the names that a path stands on, and then its own components.
abbrev pub components_to_resolve : Base → List (List ℕ) → List (List ℕ)
components_to_resolve b own = base_names b ++ own

-- A path lies inside the repository where it does not climb above what it stands on.
abbrev pub is_inside : Base → List (List ℕ) → Bool
is_inside b own = climb (components_to_resolve b own) == 0

-- ---- the normal form

-- How many of the survivors are kept for the prefix directory: on a prefix as many as it has names that the path never climbs above, on the root all.
abbrev pub kept : Base → List (List ℕ) → List (List ℕ) → ℕ
kept Root own left = length left
kept (Prefix front) own left = length front - climb own
kept Top own left = 0

-- how many of them are the prefix directory: the kept ones, without the last of all unless a directory is wanted
abbrev pub directory_count : Base → Spec → List (List ℕ) → List (List ℕ) → ℕ
directory_count b s own left = min (kept b own left) (length left - (if wants_directory s then 0 else 1))

-- how many bytes these names are, joined
abbrev pub directory_length : Base → Spec → List (List ℕ) → List (List ℕ) → ℕ
directory_length b s own left = length (join_names (take (directory_count b s own left) left))

-- whether the prefix directory stays: nothing stands in front of the path, which is what its survivors make
abbrev pub keeps_directory : Base → Spec → List (List ℕ) → Bool
keeps_directory Root s left = false
keeps_directory (Prefix front) s left = false
keeps_directory Top s left = bytes_eq s.path (join_names left)

-- the prefix length of a spec whose path becomes these survivors
abbrev pub new_prefix_length : Base → Spec → List (List ℕ) → List (List ℕ) → ℕ
new_prefix_length b s own left =
    if s.nil then 0
    else if keeps_directory b s left then s.prefix_length
    else directory_length b s own left

-- Whether a path that leaves nothing stays an empty path: it is the root itself, or it was empty and stands on the top.
abbrev pub stays_empty : Base → Spec → List (List ℕ) → Bool
stays_empty Root s own = parent_dir_count own == 0
stays_empty (Prefix front) s own = false
stays_empty Top s own = is_empty s.path

-- the spec with these survivors for its path; where there is none, an empty path, or the nil spec `.`
abbrev pub resolved : Base → Spec → List (List ℕ) → List (List ℕ) → Spec
resolved b s own [] =
    if stays_empty b s own then record s { path = []; prefix_length = 0 }
    else record s { path = codes "."; nil = true; prefix_length = 0 }
resolved b s own (name ∷ more) = record s { path = join_names (name ∷ more); prefix_length = new_prefix_length b s own (name ∷ more) }

-- the resolved spec, or why the path lies outside
abbrev pub resolve : Base → Spec → Option (List (List ℕ)) → Result Spec Fault
resolve b s None = Err (OutsideRoot s.path)
resolve b s (Some own) = if is_inside b own then Ok (resolved b s own (survivors (components_to_resolve b own))) else Err (LeavesRepository s.path)

-- The spec as it is meant from a clean prefix, in a repository with this root, or why it lies outside.
unfoldable pub normal_form : List ℕ → List ℕ → Spec → Result Spec Fault
normal_form prefix root s = let b = base prefix s in resolve b s (own_components b root s.path)

-- A spec that is its own normal form, without a prefix and under whatever root.
abbrev pub IsNormal : Spec → Type 0
IsNormal s = (root : List ℕ) → normal_form [] root s ≡ Ok s

-- The prefix length of a normal form is a boundary of its path, if that of the spec is one.
abbrev pub NormalFormHasBoundary : Type 0
NormalFormHasBoundary = (prefix root : List ℕ) (s n : Spec) → IsTrue (has_boundary s) → normal_form prefix root s ≡ Ok n → IsTrue (has_boundary n)

-- A nil normal form has no prefix directory.
abbrev pub NilHasNoDirectory : Type 0
NilHasNoDirectory = (prefix root : List ℕ) (s n : Spec) → normal_form prefix root s ≡ Ok n → IsTrue n.nil → n.prefix_length ≡ 0

-- n has the signature, the mode and the attributes of s
pub record KeepsMagic (s n : Spec) : Type 0 where
  pub signature : n.signature ≡ s.signature
  pub mode : n.mode ≡ s.mode
  pub attributes : n.attributes ≡ s.attributes

-- A normal form has them.
abbrev pub NormalFormKeepsMagic : Type 0
NormalFormKeepsMagic = (prefix root : List ℕ) (s n : Spec) → normal_form prefix root s ≡ Ok n → KeepsMagic s n

-- A normal form is its own, without a prefix and under whatever root.
abbrev pub NormalFormIsNormal : Type 0
NormalFormIsNormal = (prefix root : List ℕ) (s n : Spec) → normal_form prefix root s ≡ Ok n → IsNormal n
