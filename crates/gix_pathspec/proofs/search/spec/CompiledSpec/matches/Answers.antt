-- The spec fits or not, and then has its attributes or not.
use Rattle.std.proofs.Common.{◌≡◌, ◌∙◌, sym, ap, Bool, List, ℕ, Some, None, Option, true, map, arith}
use Rattle.std.proofs.lemmas.List.{length-map}
use Rattle.bstr.specs.BStr.{bstr_bytes}
use Rattle.gix_pathspec.specs.declared.search.MatchKind.{MatchKind}
use Rattle.gix_pathspec.specs.Bytes.{is_empty}
use Rattle.gix_pathspec.specs.AttributeStates.{assignment_view}
use Rattle.gix_pathspec.specs.Search.{Numbered}
use Rattle.gix_pathspec.specs.Matching.{fit}
use Rattle.gix_pathspec.proofs.FoundProofs.{is_empty-counted, has_attributes-unlisted, matched_kind-fitted, matched_kind-unfitted}
use Rattle.gix_pathspec.proofs.search.spec.CompiledSpec.matches.Goals as goal

-- how a spec fits, by another name
fit-same : (inside named : Numbered) (path : List ℕ) (is_dir : Bool) (told kind : Option MatchKind) → inside ≡ named → told ≡ fit inside.spec path is_dir → told ≡ kind → fit named.spec path is_dir ≡ kind
fit-same inside named path is_dir told kind same e is = ap (λ (n : Numbered). fit n.spec path is_dir) (sym same) ∙ (sym e ∙ is)

pub returns-in_default-clause-answer : goal.returns-in_default-clause-answer
returns-in_default-clause-answer g c = matched_kind-unfitted _ _ _ _ (fit-same _ _ (bstr_bytes c.args.path) c.args.is_dir _ None c.self.view_is c.match_kind.ensures.kind c.in_default.is)

pub returns-then-is_empty-clause-answer : goal.returns-then-is_empty-clause-answer
returns-then-is_empty-clause-answer g c =
    let v = c.self.inside.pattern.attributes in
    let none : is_empty (map assignment_view v.items) ≡ true = is_empty-counted (map assignment_view v.items) v.len (omega (arith, length-map v.items assignment_view)) ∙ sym c.is_empty.ensures ∙ c.if-is_empty.true in
    let unlisted = sym (ap (λ (n : Numbered). is_empty n.spec.attributes) c.self.view_is) ∙ none in
    let fits = fit-same _ _ (bstr_bytes c.args.path) c.args.is_dir _ (Some c.in-Some.kind) c.self.view_is c.match_kind.ensures.kind c.in-Some.is in
    matched_kind-fitted _ _ _ _ true _ fits (has_attributes-unlisted _ c.args.self.now.spec _ _ unlisted)

pub returns-clause-answer : goal.returns-clause-answer
returns-clause-answer g c =
    let fits = fit-same _ _ (bstr_bytes c.args.path) c.args.is_dir _ (Some c.in-Some.kind) c.self.view_is c.match_kind.ensures.kind c.in-Some.is in
    c.then_some.ensures ∙ matched_kind-fitted _ _ _ _ _ _ fits (cc (c.in_ok-has_attributes.ensures.answer))
