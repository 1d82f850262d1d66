use Rattle.pathspec_parts.specs.Components.{remaining_components}
use Rattle.pathspec_pattern.proofs.StackProofs.{AcceptsAfterByte}
use Rattle.pathspec_pattern.proofs.pattern.normalize.push_components.Given as goal

abbrev pub invariant-loop-component : goal.invariant-loop-component
invariant-loop-component l = AcceptsAfterByte l.fn.stack (remaining_components l.fn.components) l.stack (remaining_components l.component-iterator)
