use Rattle.std.proofs.Common.{ap, arith, length}
use Rattle.pathspec_glob.specs.GlobSteps.{TokenList}
use Rattle.pathspec_glob.proofs.TokenProofs.{few_listed}
use Rattle.pathspec_glob.proofs.directory_glob.DirectoryGlob.tokens.Goals as goal

pub returns-clause-few : goal.returns-clause-few
returns-clause-few c =
    let inside = c.self.inside in
    let read = ap (λ (parts : TokenList). length parts.tokens) c.self.invariant.parts_is in
    omega (arith, few_listed inside.tokens.mode inside.source.pattern, read, ap (λ g. length g.pattern) c.self.view_is)
