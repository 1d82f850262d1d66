-- Where the specs of a command stand in their search.
use Rattle.std.specs.Prelude.{◌≡◌, ℕ, ◌<◌, Bool, List, length, map, slice_get, slice_index}
use Rattle.gix_pathspec.specs.Specs.{is_exclude}
use Rattle.gix_pathspec.specs.Search.{Numbered, in_search_order}

-- the specs of which these are excludes
abbrev pub HaveExcludes : List Bool → List Numbered → Type 0
HaveExcludes excludes specs = map (λ n. is_exclude n.spec) specs ≡ excludes

-- Each place is that of a spec in the search: the spec with a number stands at the place with that number.
pub record ArePlaces (excludes : List Bool) (places : List ℕ) : Type 0 where
  pub each : length places ≡ length excludes
  pub stands : (specs : List Numbered) (number : ℕ) → HaveExcludes excludes specs → number < length specs
      → slice_get (in_search_order specs) (slice_index places number) ≡ slice_get specs number
