-- All patterns are taken, so the search is that of what the texts say.
use Rattle.std.proofs.Common.{◌≡◌, ◌∙◌, subst, map, List, Ok, Err, Result, MatchResult, IfOk, IfErr}
use Rattle.std.proofs.IntoIterSteps.{All-taken}
use Rattle.pathspec_pattern.specs.declared.pattern.Pattern.{Pattern}
use Rattle.bstr.specs.BStr.{bstr_bytes}
use Rattle.gix_pathspec.specs.Patterns.{pattern_spec}
use Rattle.gix_pathspec.specs.Search.{search_of}
use Rattle.gix_pathspec.proofs.BuildingProofs.{tells-on}
use Rattle.pathspec_c.proofs.build.search_of_texts.Goals as goal

-- both cases of a result
by_result : {A E : Type 0} {P P' : A → Type 0} {Q Q' : E → Type 0} (r : Result A E) → ((x : A) → P x → P' x) → ((e : E) → Q e → Q' e) → IfOk r P → IfErr r Q → MatchResult r P' Q'
by_result (Ok x) f g h k = f x h
by_result (Err e) f g h k = g e k

pub returns : goal.returns
returns c =
    let read = c.in_ok-patterns.ensures in
    by_result c.from_specs.result
    (λ search h.
    let all = subst (λ (ps : List Pattern). search_of (bstr_bytes c.new.result) (bstr_bytes c.new-2.result) (map pattern_spec ps) ≡ Ok search.specs) (All-taken h.0 h.1 h.3 ∙ h.2.0) h.4 in
    rw read (rw (c.new.ensures, c.new-2.ensures) at all))
    (λ error tells. tells-on error _ _
    (λ fault h.
    let all = subst (λ (ps : List Pattern). search_of (bstr_bytes c.new.result) (bstr_bytes c.new-2.result) (map pattern_spec ps) ≡ Err fault) (All-taken h.0 h.1 h.3 ∙ h.2.0) h.4 in
    rw read (rw (c.new.ensures, c.new-2.ensures) at all)) tells)
    c.from_specs.ensures.ok c.from_specs.ensures.err
