-- All patterns are taken, so the search is that of what the texts say.
use Rattle.std.proofs.Common.{◌≡◌, ◌∙◌, subst, map, List, Ok}
use Rattle.std.proofs.IntoIterSteps.{All-taken}
use Rattle.std.proofs.lemmas.Result.{IfOk-weaker}
use Rattle.bstr.specs.BStr.{bstr_bytes}
use Rattle.pathspec_pattern.specs.declared.pattern.Pattern.{Pattern}
use Rattle.gix_pathspec.specs.Patterns.{pattern_spec}
use Rattle.gix_pathspec.specs.Search.{search_of}
use Rattle.pathspec_callers.proofs.store.search_of_texts.Goals as goal

pub returns-clause-search : goal.returns-clause-search
returns-clause-search c =
    IfOk-weaker c.from_specs.result _ _
    (λ search h. (map pattern_spec c.in_ok-patterns.patterns.items, c.in_ok-patterns.ensures, subst (λ (ps : List Pattern). search_of (bstr_bytes c.args.prefix) (bstr_bytes c.args.root) (map pattern_spec ps) ≡ Ok search.specs) (All-taken h.0 h.1 h.3 ∙ h.2.0) h.4))
    c.from_specs.ensures.ok
