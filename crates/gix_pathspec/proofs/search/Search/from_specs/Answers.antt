-- The search is that of all patterns, and the laws hold of all searches.
use Rattle.std.proofs.Common.{◌≡◌, map, rules}
use Rattle.std.proofs.lemmas.Result.{err_from_is_err_and, IfOk-weaker, IfErr-weaker}
use Rattle.bstr.specs.BStr.{bstr_bytes}
use Rattle.pathspec_pattern.proofs.StaysProofs.{normal_form_again}
use Rattle.gix_pathspec.specs.Patterns.{pattern_spec}
use Rattle.gix_pathspec.specs.Building.{prefix_bytes}
use Rattle.gix_pathspec.proofs.BuildingProofs.{tells-on, search-fails, search-built, search-told}
use Rattle.gix_pathspec.proofs.HeldProofs.{holds_normal_forms}
use Rattle.gix_pathspec.proofs.search.Search.from_specs.Goals as goal

pub returns-in_err-compiled-clause-err : goal.returns-in_err-compiled-clause-err
returns-in_err-compiled-clause-err g c =
    let p = err_from_is_err_and c.from_residual.result c.from_residual.ensures.1 in
    let same : prefix_bytes c.args.prefix ≡ bstr_bytes c.unwrap_or-prefix.result = search rules in
    rw (p.1, p.2) (tells-on _ _ _ (λ fault h. (h.0, h.1, h.2, h.3, rw same (search-fails _ _ _ fault h.4))) c.in_err-compiled.ensures.err)

pub returns-in_err-compiled-clause-forms : goal.returns-in_err-compiled-clause-forms
returns-in_err-compiled-clause-forms g c = (holds_normal_forms, normal_form_again)

pub returns-clause-ok : goal.returns-clause-ok
returns-clause-ok g c =
    let same : prefix_bytes c.args.prefix ≡ bstr_bytes c.unwrap_or-prefix.result = search rules in
    let made = c.in_ok-compiled.ensures.ok in
    IfOk-weaker c.of_compiled.result _ _ (λ s e. (made.0, made.1, made.2, made.3, rw same e))
    (search-built (bstr_bytes c.unwrap_or-prefix.result) (bstr_bytes c.args.root) (map pattern_spec made.1) c.of_compiled.result (λ s. s.specs) c.in_ok-compiled.compiled.items made.4 c.of_compiled.ensures.search)

pub returns-clause-err : goal.returns-clause-err
returns-clause-err g c =
    let same : prefix_bytes c.args.prefix ≡ bstr_bytes c.unwrap_or-prefix.result = search rules in
    let made = c.in_ok-compiled.ensures.ok in
    IfErr-weaker c.of_compiled.result _ _ (λ e t. tells-on e _ _ (λ fault f. (made.0, made.1, made.2, made.3, rw same f)) t)
    (search-told (bstr_bytes c.unwrap_or-prefix.result) (bstr_bytes c.args.root) (map pattern_spec made.1) c.of_compiled.result (λ s. s.specs) c.in_ok-compiled.compiled.items made.4 c.of_compiled.ensures.search)

pub returns-clause-forms : goal.returns-clause-forms
returns-clause-forms g c = (holds_normal_forms, normal_form_again)
