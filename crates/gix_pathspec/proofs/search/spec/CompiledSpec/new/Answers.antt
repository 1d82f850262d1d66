-- The path goes on after its stem where it has a wildcard.
use Rattle.std.proofs.Common.{◌∙◌}
use Rattle.gix_pathspec.specs.Patterns.{pattern_spec}
use Rattle.gix_pathspec.proofs.PruningCalls.{stem-wild}
use Rattle.gix_pathspec.proofs.search.spec.CompiledSpec.new.Goals as goal

pub compile_glob-requires : goal.compile_glob-requires
compile_glob-requires c = stem-wild (pattern_spec c.args.pattern) _ _ c.stem_length-stem.ensures (c.as_bytes.ensures ∙ c.path.ensures.path)

pub last_byte-last-requires : goal.last_byte-last-requires
last_byte-last-requires c = stem-wild (pattern_spec c.args.pattern) _ _ c.stem_length-stem.ensures (c.as_bytes.ensures ∙ c.path.ensures.path)

pub takes_rest-requires : goal.takes_rest-requires
takes_rest-requires c = stem-wild (pattern_spec c.args.pattern) _ _ c.stem_length-stem.ensures (c.as_bytes.ensures ∙ c.path.ensures.path)
