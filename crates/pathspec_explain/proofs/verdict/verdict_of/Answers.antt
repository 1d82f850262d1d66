-- A match was found, or none.
use Rattle.std.proofs.Common.{sym, ◌∙◌, ap}
use Rattle.std.specs.Option.{option_map}
use Rattle.bstr.specs.BStr.{bstr_bytes}
use Rattle.gix_pathspec.specs.Found.{match_view}
use Rattle.pathspec_explain.proofs.VerdictProofs.{told-none}
use Rattle.pathspec_explain.proofs.verdict.verdict_of.Goals as goal

pub returns-in-Some-clause-verdict : goal.returns-in-Some-clause-verdict
returns-in-Some-clause-verdict c = λ table is_dir some e.
    c.settled.ensures.verdict table (bstr_bytes c.args.path) is_dir some (sym e ∙ ap (option_map match_view) c.in-Some.is)

pub returns-in-None-clause-verdict : goal.returns-in-None-clause-verdict
returns-in-None-clause-verdict c = λ table is_dir some e.
    c.unsettled.ensures.verdict table is_dir (told-none table c.args.search.now.specs (bstr_bytes c.args.path) is_dir _ some e (ap (option_map match_view) c.in-None.is))
