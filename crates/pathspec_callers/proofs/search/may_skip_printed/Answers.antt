-- What is told of the path without its slash.
use Rattle.std.proofs.Common.{◌≡◌, ◌∙◌, ap, subst}
use Rattle.bstr.specs.BStr.{bstr_bytes}
use Rattle.pathspec_parts.specs.Paths.{without_last_slash}
use Rattle.pathspec_callers.specs.Selections.{HoldsNothingBelow}
use Rattle.pathspec_callers.proofs.search.may_skip_printed.Goals as goal

pub returns-clause-skipped : goal.returns-clause-skipped
returns-clause-skipped c = λ skipped.
    let same : bstr_bytes c.new.result ≡ without_last_slash (bstr_bytes c.args.directory) =
    c.new.ensures ∙ c.strip_last_slash.ensures.path ∙ ap without_last_slash c.as_bytes.ensures in
    subst (HoldsNothingBelow c.args.search.now) same (c.may_skip.ensures.skipped skipped)
