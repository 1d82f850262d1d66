use Rattle.std.proofs.Common.{ap}
use Rattle.pathspec_glob.proofs.PlaceProofs.{tokens-at}
use Rattle.pathspec_glob.proofs.counted.CountedTokens.test.Goals as goal

pub returns-clause-answer : goal.returns-clause-answer
returns-clause-answer c =
    let tokens = tokens-at c.self.inside.all.items c.args.self.now.tokens c.args.place c.index.result.now (ap (λ p. p.tokens) c.self.view_is) c.requires.place c.index.ensures in
    let mode = ap (λ p. p.mode) c.self.view_is in
    rw tokens (rw mode at c.takes.ensures)
