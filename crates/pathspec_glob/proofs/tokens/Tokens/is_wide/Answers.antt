use Rattle.std.proofs.Common.{ap}
use Rattle.pathspec_glob.proofs.PlaceProofs.{tokens-at}
use Rattle.pathspec_glob.proofs.tokens.Tokens.is_wide.Goals as goal

pub returns : goal.returns
returns c =
    let tokens = tokens-at c.self.inside.all.items c.args.self.now.tokens c.args.place c.index.result.now (ap (λ p. p.tokens) c.self.view_is) c.requires c.index.ensures in
    rw tokens c.is_wide.ensures
