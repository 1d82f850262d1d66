use Rattle.std.proofs.Common.{length, map, string_bytes}
use Rattle.pathspec_select.specs.Options.{no_options}
use Rattle.pathspec_select.specs.OptionWords.{options_from}
use Rattle.pathspec_select.proofs.OptionProofs.{ReadTo}
use Rattle.pathspec_select.proofs.options.unchecked_options.Given as goal

abbrev pub invariant-loop-specs : goal.invariant-loop-specs
invariant-loop-specs l = ReadTo (options_from no_options (map string_bytes l.words)) l.options (map string_bytes l.options.specs.now)

abbrev pub decreases-loop-specs : goal.decreases-loop-specs
decreases-loop-specs l = length l.options.specs.now
