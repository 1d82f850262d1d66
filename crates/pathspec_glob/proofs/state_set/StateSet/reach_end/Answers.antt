use Rattle.std.proofs.Common.{[], sym, ◌∙◌}
use Rattle.pathspec_glob.specs.BitVecs.{holds}
use Rattle.pathspec_glob.proofs.AcceptProofs.{closure-accepts, end-accepts}
use Rattle.pathspec_glob.proofs.state_set.StateSet.reach_end.Goals as goal

pub returns-clause-accepts : goal.returns-clause-accepts
returns-clause-accepts c case =
    let tokens = c.args.tokens.now in
    let closure = c.close.ensures.closure tokens c.requires.moves in
    let entered = holds c.close.new.self.entered in
    let staying = holds c.args.self.now.staying in
    (rw c.len.ensures at c.holds.ensures)
    ∙ sym (end-accepts tokens.mode case tokens.tokens entered staying closure.closed)
    ∙ closure-accepts tokens.mode case tokens.tokens (holds c.args.self.now.entered) staying entered [] closure.includes closure.least
