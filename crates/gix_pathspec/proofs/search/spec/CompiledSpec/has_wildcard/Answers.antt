-- The path goes on after its stem.
use Rattle.std.proofs.Common.{◌∙◌, ap, length}
use Rattle.gix_pathspec.specs.Prefixes.{stem}
use Rattle.gix_pathspec.proofs.PruningCalls.{stem-wild}
use Rattle.gix_pathspec.proofs.search.spec.CompiledSpec.has_wildcard.Goals as goal

pub returns : goal.returns
returns c = stem-wild c.args.self.now.spec _ _ (c.self.invariant.is_stem ∙ ap (λ v. length (stem v.spec)) c.self.view_is) c.path.ensures
