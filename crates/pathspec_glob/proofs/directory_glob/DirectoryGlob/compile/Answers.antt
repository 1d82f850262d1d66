use Rattle.std.proofs.Common.{false, ◌∙◌, ap}
use Rattle.pathspec_glob.specs.GlobCells.{alternates_behind}
use Rattle.pathspec_glob.specs.GlobSteps.{TokenList}
use Rattle.pathspec_glob.proofs.RunProofs.{all_alternates}
use Rattle.pathspec_glob.proofs.directory_glob.DirectoryGlob.compile.Goals as goal

pub of_tokens-requires : goal.of_tokens-requires
of_tokens-requires c = ap (λ (t : TokenList). alternates_behind false t.tokens) c.in_ok-tokens.ensures ∙ all_alternates c.args.mode c.args.pattern.now
