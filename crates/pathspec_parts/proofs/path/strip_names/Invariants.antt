use Rattle.std.proofs.Common.{◌≡◌}
use Rattle.pathspec_parts.specs.Paths.{strip_names}
use Rattle.pathspec_parts.specs.Components.{remaining_components}
use Rattle.pathspec_parts.proofs.path.strip_names.Given as goal

abbrev pub invariant-loop-component : goal.invariant-loop-component
invariant-loop-component l = strip_names (remaining_components l.component-iterator) (remaining_components l.rest) ≡ strip_names (remaining_components l.fn.front) (remaining_components l.fn.path)
