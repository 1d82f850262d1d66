-- The closure is asked for the environment's words.
use Rattle.std.proofs.Common.{ap, sym, ◌∙◌, rules}
use Rattle.pathspec_select.specs.Environment.{words_of}
use Rattle.pathspec_select.specs.Requests.{environment_result}
use Rattle.pathspec_select.proofs.EnvironmentProofs.{asks_environment, tells-environment}
use Rattle.pathspec_select.proofs.environment.Environment.defaults.Goals as goal

pub returns-in-Ok : goal.returns-in-Ok
returns-in-Ok c =
    let h = c.in-Ok.ensures.asked in
    let same = asks_environment (words_of c.args.self.now) h.words _ _ _ (λ name word later k. rw (← k.shows) (search rules)) h.asked in
    ap environment_result (sym (c.in-Ok.ensures.unasked h.words (words_of c.args.self.now) same) ∙ h.answer)

pub returns-in-Err : goal.returns-in-Err
returns-in-Err c =
    let h = c.in-Err.ensures.asked in
    let same = asks_environment (words_of c.args.self.now) h.words _ _ _ (λ name word later k. rw (← k.shows) (search rules)) h.asked in
    tells-environment c.in-Err.error c.of_environment.result _ _ (c.in-Err.ensures.unasked h.words (words_of c.args.self.now) same) h.answer c.of_environment.ensures
