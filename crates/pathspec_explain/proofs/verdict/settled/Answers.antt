-- The spec that is found is an exclude or an include, or there is no include.
use Rattle.std.proofs.Common.{sym}
use Rattle.gix_pathspec.specs.Found.{match_view}
use Rattle.pathspec_explain.proofs.VerdictProofs.{told-some}
use Rattle.pathspec_explain.proofs.verdict.settled.Goals as goal

pub returns-then-is_excluded-clause-verdict : goal.returns-then-is_excluded-clause-verdict
returns-then-is_excluded-clause-verdict c = λ table path is_dir some is.
    (told-some table c.args.search.now.specs path is_dir (match_view c.args.found.now) some is).0 (sym c.if-is_excluded.ensures)

pub returns-then-has_include-clause-verdict : goal.returns-then-has_include-clause-verdict
returns-then-has_include-clause-verdict c = λ table path is_dir some is.
    (told-some table c.args.search.now.specs path is_dir (match_view c.args.found.now) some is).1 (sym c.if-is_excluded.ensures) (sym c.if-has_include.ensures)

pub returns-clause-verdict : goal.returns-clause-verdict
returns-clause-verdict c = λ table path is_dir some is.
    (told-some table c.args.search.now.specs path is_dir (match_view c.args.found.now) some is).2 (sym c.if-is_excluded.ensures) (sym c.if-has_include.ensures)
