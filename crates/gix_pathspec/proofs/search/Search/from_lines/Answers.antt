-- The search is that of the lines, and the laws hold of all searches.
use Rattle.std.proofs.Common.{◌≡◌, sym, subst, rules}
use Rattle.std.proofs.lemmas.Result.{err_from_is_err_and, IfOk-weaker}
use Rattle.bstr.specs.BStr.{bstr_bytes}
use Rattle.pathspec_pattern.proofs.StaysProofs.{normal_form_again}
use Rattle.gix_pathspec.specs.Building.{prefix_bytes, Builds}
use Rattle.gix_pathspec.proofs.BuildingProofs.{tells-on}
use Rattle.gix_pathspec.proofs.HeldProofs.{holds_normal_forms}
use Rattle.gix_pathspec.proofs.LineProofs.{lines-search, lines-fail}
use Rattle.gix_pathspec.proofs.search.Search.from_lines.Goals as goal

pub returns-in_err-specs-clause-search : goal.returns-in_err-specs-clause-search
returns-in_err-specs-clause-search c =
    let p = err_from_is_err_and c.from_residual.result c.from_residual.ensures.1 in
    let same : prefix_bytes c.args.prefix ≡ bstr_bytes c.unwrap_or-prefix.result = search rules in
    rw (p.1, p.2) (tells-on _ _ _ (λ fault h. rw same (lines-fail c.args.defaults (bstr_bytes c.unwrap_or-prefix.result) _ _ fault h)) c.in_err-specs.ensures.specs)

pub returns-clause-search : goal.returns-clause-search
returns-clause-search c =
    let same : prefix_bytes c.args.prefix ≡ bstr_bytes c.unwrap_or-prefix.result = search rules in
    rw same (subst (λ r. Builds (λ s. s.specs) r c.of_compiled.result) (sym (lines-search c.args.defaults (bstr_bytes c.unwrap_or-prefix.result) _ _ c.in_ok-specs.specs.items c.in_ok-specs.ensures.specs)) c.of_compiled.ensures.search)

pub returns-clause-forms : goal.returns-clause-forms
returns-clause-forms c = IfOk-weaker c.of_compiled.result _ _ (λ s e. (holds_normal_forms, normal_form_again)) c.of_compiled.ensures.effort
