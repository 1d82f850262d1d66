-- What an iterator over the components of a path still gives.
use Rattle.std.specs.Prelude.{ℕ, List}
use Rattle.pathspec_parts.specs.declared.path.iter.Components.{Components as Left}
use Rattle.pathspec_parts.specs.Paths.{components}

-- the components of what is left of the path
abbrev pub remaining_components : Left → List (List ℕ)
remaining_components it = components it.rest.now
