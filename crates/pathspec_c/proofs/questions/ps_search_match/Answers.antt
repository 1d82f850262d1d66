-- The box has what the handle had.
use Rattle.pathspec_c.proofs.questions.ps_search_match.Goals as goal

pub returns-in-Some-clause-answer : goal.returns-in-Some-clause-answer
returns-in-Some-clause-answer c = λ n. rw (← c.in-Some.ensures.searcher) (rw c.deref_mut.ensures.value at (c.settle-status.ensures.answer n))

pub returns-in-Some-clause-report : goal.returns-in-Some-clause-report
returns-in-Some-clause-report c = λ n. rw (← c.in-Some.ensures.searcher) (rw c.deref_mut.ensures.value at (c.settle-status.ensures.report n))
