use Rattle.std.proofs.Common.{◌*◌, ◌∙◌, refl}
use Rattle.pathspec_glob.proofs.BitProofs.{has-or}
use Rattle.pathspec_glob.proofs.StepProofs.{not-of-bits}
use Rattle.pathspec_glob.proofs.state_set.StateSet.active_states.Goals as goal

pub returns-clause-active : goal.returns-clause-active
returns-clause-active c i h entered staying = has-or c.word.result c.word-2.result i ∙ rw (c.word.ensures i h entered, c.word-2.ensures i h staying) refl

pub returns-clause-none : goal.returns-clause-none
returns-clause-none c none i h =
    not-of-bits c.args.self.now.entered c.args.self.now.staying (c.args.index * 64) i c.word.result c.word-2.result (c.word.ensures i h) (c.word-2.ensures i h) none
