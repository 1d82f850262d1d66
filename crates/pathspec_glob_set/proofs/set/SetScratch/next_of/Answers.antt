use Rattle.std.proofs.Common.{ap, arith, length}
use Rattle.pathspec_glob_set.specs.declared.table.Table.{Table}
use Rattle.pathspec_glob_set.specs.Answers.{set_in}
use Rattle.pathspec_glob_set.proofs.AnswerProofs.{found-matches, left-all, left-none}
use Rattle.pathspec_glob_set.proofs.set.SetScratch.next_of.Goals as goal

pub returns-then-found-len-clause-no_other : goal.returns-then-found-len-clause-no_other
returns-then-found-len-clause-no_other c text read =
    left-none (set_in c.args.self.now) text c.args.from c.args.self.now.lead c.first_from-found.result (c.first_from-found.ensures.found text read)

pub returns-then-found-len-clause-matches : goal.returns-then-found-len-clause-matches
returns-then-found-len-clause-matches c text read =
    let scratch = c.args.self.now in
    found-matches (set_in scratch) text c.args.from scratch.lead c.first_from-found.result scratch.gave_up (c.first_from-found.ensures.found text read) scratch.told

pub returns-then-found-len-clause-number : goal.returns-then-found-len-clause-number
returns-then-found-len-clause-number c = record { behind = c.first_from-found.ensures.behind; within = omega (arith, c.if-found-len.true, c.len.ensures, ap (λ (t : Table). length t.moves.ends.items) c.first_from-found.ensures.kept.table) }

pub returns-else-found-len-clause-no_other : goal.returns-else-found-len-clause-no_other
returns-else-found-len-clause-no_other c text read =
    left-all (set_in c.args.self.now) text c.args.from c.args.self.now.lead c.first_from-found.result (c.first_from-found.ensures.found text read)
    (omega (arith, c.if-found-len.false, c.len.ensures, ap (λ (t : Table). length t.moves.ends.items) c.first_from-found.ensures.kept.table))
