use Rattle.std.proofs.Common.{[], ◌++◌, sym, ◌∙◌, ap, append-nil}
use Rattle.pathspec_glob.specs.GlobRelation.{matches}
use Rattle.pathspec_glob.proofs.state_set.StateSet.run.Goals as goal

-- where no place is left at some byte, the text does not match
pub returns-else-take_text-clause-answer : goal.returns-else-take_text-clause-answer
returns-else-take_text-clause-answer c =
    let tokens = c.args.tokens.now in
    let lost = rw c.if-take_text.false at (c.take_text.ensures.accepts []) in
    c.if-take_text.false ∙ sym lost ∙ c.begin.ensures.accepts c.args.case (c.args.text.now ++ [])
    ∙ ap (matches tokens.mode c.args.case tokens.tokens) (append-nil c.args.text.now)
