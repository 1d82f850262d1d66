-- All patterns are taken, so the search is theirs.
use Rattle.std.proofs.Common.{◌≡◌, ◌∙◌, subst, ap, map, List, Ok, Err}
use Rattle.std.proofs.IntoIterSteps.{All-taken}
use Rattle.pathspec_pattern.specs.declared.pattern.Pattern.{Pattern}
use Rattle.bstr.specs.BStr.{bstr_bytes}
use Rattle.gix_pathspec.specs.Patterns.{pattern_spec}
use Rattle.gix_pathspec.specs.Search.{search_of}
use Rattle.pathspec_select.specs.Requests.{spec_result}
use Rattle.pathspec_select.proofs.RequestProofs.{tells-build}
use Rattle.pathspec_select.proofs.job.specs.search.Goals as goal

pub returns-in-Ok-clause-specs : goal.returns-in-Ok-clause-specs
returns-in-Ok-clause-specs c =
    let h = c.in-Ok.ensures.ok in
    let all : search_of (bstr_bytes c.new.result) (bstr_bytes c.new-2.result) (map pattern_spec c.args.patterns.items) ≡ Ok c.in-Ok.search.specs = subst (λ (ps : List Pattern). search_of (bstr_bytes c.new.result) (bstr_bytes c.new-2.result) (map pattern_spec ps) ≡ Ok c.in-Ok.search.specs) (All-taken h.0 h.1 h.3 ∙ h.2.0) h.4 in
    ap spec_result (rw (c.new.ensures, c.new-2.ensures) at all)

pub returns-in-Err-clause-specs : goal.returns-in-Err-clause-specs
returns-in-Err-clause-specs c =
    tells-build c.in-Err.error c.of_build.result _ _ c.of_build.ensures c.in-Err.ensures.err
    (λ fault h.
    let all : search_of (bstr_bytes c.new.result) (bstr_bytes c.new-2.result) (map pattern_spec c.args.patterns.items) ≡ Err fault = subst (λ (ps : List Pattern). search_of (bstr_bytes c.new.result) (bstr_bytes c.new-2.result) (map pattern_spec ps) ≡ Err fault) (All-taken h.0 h.1 h.3 ∙ h.2.0) h.4 in
    ap spec_result (rw (c.new.ensures, c.new-2.ensures) at all))
