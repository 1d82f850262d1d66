-- The texts so far have been read.
use Rattle.std.proofs.Common.{◌≡◌, map, length}
use Rattle.gix_pathspec.specs.Patterns.{pattern_spec}
use Rattle.gix_pathspec.specs.Lines.{readings_from}
use Rattle.gix_pathspec.proofs.BuildingProofs.{onto}
use Rattle.pathspec_c.specs.Calls.{texts_in}
use Rattle.pathspec_c.proofs.build.parse_texts.Given as goal

abbrev pub invariant-loop-rest : goal.invariant-loop-rest
invariant-loop-rest l =
    readings_from 0 l.defaults (texts_in l.texts) ≡ onto (map pattern_spec l.patterns.items) (readings_from (length l.patterns.items) l.defaults (texts_in l.rest))

abbrev pub decreases-loop-rest : goal.decreases-loop-rest
decreases-loop-rest l = length l.rest
