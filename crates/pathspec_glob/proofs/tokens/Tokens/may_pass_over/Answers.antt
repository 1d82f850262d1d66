use Rattle.std.proofs.Common.{ap}
use Rattle.pathspec_glob.proofs.PlaceProofs.{tokens-from}
use Rattle.pathspec_glob.proofs.tokens.Tokens.may_pass_over.Goals as goal

pub returns-clause-over : goal.returns-clause-over
returns-clause-over c =
    let tokens = tokens-from c.self.inside.all.items c.deref.result.now c.args.self.now.tokens c.args.place (ap (λ p. p.tokens) c.self.view_is) c.deref.ensures.value in
    let mode = ap (λ p. p.mode) c.self.view_is in
    rw (tokens, mode) at c.may_pass_over.ensures
