-- The texts so far say the patterns so far.
use Rattle.std.proofs.Common.{◌≡◌, take, map, Ok}
use Rattle.bstr.specs.Owned.{bstring_bytes}
use Rattle.gix_pathspec.specs.Patterns.{pattern_spec}
use Rattle.gix_pathspec.specs.Reading.{reading, no_defaults}
use Rattle.pathspec_callers.proofs.store.patterns_of.Given as goal

abbrev pub invariant-loop-text : goal.invariant-loop-text
invariant-loop-text l = map (reading no_defaults) (map bstring_bytes (take l.text-index l.texts)) ≡ map Ok (map pattern_spec l.patterns.items)
