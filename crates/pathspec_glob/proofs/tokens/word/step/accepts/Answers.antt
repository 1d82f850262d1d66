use Rattle.pathspec_glob.proofs.tokens.word.step.accepts.Goals as goal
use Rattle.pathspec_glob.proofs.tokens.word.step.accepts.Goals.{else-last_loops-via-then-last_loops+else-last_loops_at_slash, else-last_loops-via-else-last_loops}

pub returns-then-last_loops_at_slash-clause-leads : goal.returns-then-last_loops_at_slash-clause-leads
returns-then-last_loops_at_slash-clause-leads c = rw (c.if-last_loops.true, c.if-last_loops_at_slash.true) c.leads_to_last.ensures.leads

pub returns-then-last_loops-2-clause-leads : goal.returns-then-last_loops-2-clause-leads
returns-then-last_loops-2-clause-leads c = elim c.else-last_loops.branch [
  | else-last_loops-via-then-last_loops+else-last_loops_at_slash w ↦
      rw (c.if-last_loops-2.true, w.if-last_loops_at_slash.false) c.leads_to_last-then-last_loops-2.ensures.leads
  | else-last_loops-via-else-last_loops w ↦ cc (c.if-last_loops-2.true, w.if-last_loops.false)
]

pub returns-else-last_loops-2-clause-leads : goal.returns-else-last_loops-2-clause-leads
returns-else-last_loops-2-clause-leads c = rw c.if-last_loops-2.false c.leads_to_last-else-last_loops-2.ensures.leads
