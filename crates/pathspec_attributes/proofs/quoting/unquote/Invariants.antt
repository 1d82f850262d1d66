use Rattle.std.proofs.Common.{◌≡◌, length}
use Rattle.std.specs.Option.{option_map}
use Rattle.pathspec_attributes.specs.Quoting.{unquoted, unquoted_behind}
use Rattle.pathspec_attributes.proofs.QuotingProofs.{in_front}
use Rattle.pathspec_attributes.proofs.quoting.unquote.Given as goal

abbrev pub invariant-loop-rest : goal.invariant-loop-rest
invariant-loop-rest l = unquoted l.fn.text ≡ option_map (in_front l.bytes.items) (unquoted_behind 0 l.rest)

abbrev pub decreases-loop-rest : goal.decreases-loop-rest
decreases-loop-rest l = length l.rest
