use Rattle.std.proofs.Common.{subst, sym}
use Rattle.pathspec_glob_set.specs.Answers.{set_in, IsFound}
use Rattle.pathspec_glob_set.specs.Tables.{row_of, Finds, IsKnown}
use Rattle.pathspec_glob_set.proofs.AnswerProofs.{alike-self, found-in-row, found-nowhere, found-unknown}
use Rattle.pathspec_glob_set.proofs.set.SetScratch.first_from.Goals as goal

pub first_of-requires-clause-row : goal.first_of-requires-clause-row
first_of-requires-clause-row c = c.args.self.now.in_use c.in-Row.row c.in-Row.is

pub returns-in-Row-clause-found : goal.returns-in-Row-clause-found
returns-in-Row-clause-found c text read =
    let scratch = c.args.self.now in
    let table = scratch.table in
    let there = subst (λ l. IsKnown l → Finds table text l) c.in-Row.is read in
    found-in-row (set_in scratch) table.moves text (row_of table c.in-Row.row) c.args.from c.first_of.result scratch.lead (alike-self table.moves) (there tt).1 c.first_of.ensures.first

pub returns-in-Nowhere-clause-found : goal.returns-in-Nowhere-clause-found
returns-in-Nowhere-clause-found c text read =
    let scratch = c.args.self.now in
    let table = scratch.table in
    let there = subst (λ l. IsKnown l → Finds table text l) c.in-Nowhere.is read in
    subst (IsFound (set_in scratch) text c.args.from scratch.lead) (sym c.len.ensures)
    (found-nowhere (set_in scratch) table.moves text c.args.from scratch.lead (alike-self table.moves) (there tt) c.requires.from)

pub returns-in-Unknown-clause-found : goal.returns-in-Unknown-clause-found
returns-in-Unknown-clause-found c text read =
    subst (λ l. IsFound (set_in c.args.self.now) text c.args.from l c.args.from) (sym c.in-Unknown.is) (found-unknown (set_in c.args.self.now) text c.args.from c.requires.from)
