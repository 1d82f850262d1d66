use Rattle.std.proofs.Common.{◌≡◌, map, drop, string_bytes}
use Rattle.gix_pathspec.specs.Patterns.{pattern_spec}
use Rattle.gix_pathspec.specs.Lines.{readings_from}
use Rattle.gix_pathspec.proofs.BuildingProofs.{onto}
use Rattle.pathspec_select.proofs.words.parse_words.Given as goal

abbrev pub invariant-loop-number : goal.invariant-loop-number
invariant-loop-number l = readings_from 0 l.defaults (map string_bytes l.texts) ≡ onto (map pattern_spec l.patterns.items) (readings_from l.number l.defaults (map string_bytes (drop l.number l.texts)))
