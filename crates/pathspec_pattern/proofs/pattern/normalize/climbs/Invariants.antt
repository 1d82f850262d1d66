use Rattle.std.proofs.Common.{◌≡◌}
use Rattle.pathspec_parts.specs.Components.{remaining_components}
use Rattle.pathspec_pattern.specs.NormalForm.{parent_dir_count}
use Rattle.pathspec_pattern.proofs.pattern.normalize.climbs.Given as goal

abbrev pub invariant-loop-component : goal.invariant-loop-component
invariant-loop-component l = parent_dir_count (remaining_components l.component-iterator) ≡ parent_dir_count (remaining_components l.fn.components)
