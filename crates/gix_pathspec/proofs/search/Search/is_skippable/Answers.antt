-- A directory that holds nothing may be skipped.
use Rattle.std.proofs.Common.{◌∙◌, sym}
use Rattle.bstr.specs.BStr.{bstr_bytes}
use Rattle.gix_pathspec.specs.Search.{specs_of}
use Rattle.gix_pathspec.proofs.SkipTableProofs.{tables-skip}
use Rattle.gix_pathspec.proofs.SubtreeExcludeProofs.{skip-unasked}
use Rattle.gix_pathspec.proofs.VisitProofs.{tables-unasked}
use Rattle.gix_pathspec.proofs.search.Search.is_skippable.Goals as goal

pub returns-then-holds_nothing_by_tables-clause-answer :
    goal.returns-then-holds_nothing_by_tables-clause-answer
returns-then-holds_nothing_by_tables-clause-answer c = c.if-holds_nothing_by_tables.true ∙ sym (tables-skip (specs_of c.args.self.now.specs) (bstr_bytes c.args.directory) (sym c.holds_nothing_by_tables.ensures.answer ∙ c.if-holds_nothing_by_tables.true))

pub returns-then-holds_nothing_by_tables-clause-counted :
    goal.returns-then-holds_nothing_by_tables-clause-counted
returns-then-holds_nothing_by_tables-clause-counted c =
    let d = bstr_bytes c.args.directory in
    let specs = specs_of c.args.self.now.specs in
    skip-unasked d specs c.args.scratch.now.counts c.holds_nothing_by_tables.new.scratch.counts c.holds_nothing_by_tables.ensures.begun
    (tables-unasked specs d (sym c.holds_nothing_by_tables.ensures.answer ∙ c.if-holds_nothing_by_tables.true))
