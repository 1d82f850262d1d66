-- A word is read, or refused.
use Rattle.std.proofs.Common.{◌≡◌, sym, ap, ◌∙◌, map, List, [], ◌∷◌, ◌++◌, Some, None}
use Rattle.std.proofs.lemmas.List.{map-append}
use Rattle.std.specs.Option.{option_map}
use Rattle.pathspec_parts.specs.Attributes.{Assignment}
use Rattle.pathspec_parts.specs.AttributeStates.{assignment_view}
use Rattle.pathspec_attributes.specs.Readings.{assignment_of, assignments_of}
use Rattle.pathspec_attributes.proofs.WordProofs.{in_front, words-refuses, words-takes}
use Rattle.pathspec_attributes.proofs.assignments.assignments.Goals as goal

pub returns-in_default : goal.returns-in_default
returns-in_default c =
    let refused : assignment_of c.at_first_blank.result.0.now ≡ None = sym c.in_ok-next.ensures ∙ ap (option_map assignment_view) c.in_default.is in
    sym (words-refuses (assignments_of c.args.text.now) (map assignment_view c.loop-rest.assignments.items) c.loop-rest.rest.now c.at_first_blank.result.0.now c.at_first_blank.result.1.now c.loop-rest.invariant c.at_first_blank.ensures.before c.at_first_blank.ensures.behind (sym c.is_empty-in-loop-rest.ensures ∙ c.if-not-is_empty.true) refused)

pub loop-rest-preserved-in_ok-push : goal.loop-rest-preserved-in_ok-push
loop-rest-preserved-in_ok-push c =
    let a : Assignment = assignment_view c.in-Some.next in
    let made : List Assignment = map assignment_view c.loop-rest.assignments.items in
    let said : assignment_of c.at_first_blank.result.0.now ≡ Some a = sym c.in_ok-next.ensures ∙ ap (option_map assignment_view) c.in-Some.is in
    let pushed : map assignment_view c.push.new.self.items ≡ made ++ a ∷ [] = ap (map assignment_view) c.in_ok-push.ensures.items ∙ map-append assignment_view c.loop-rest.assignments.items (c.in-Some.next ∷ []) in
    words-takes (assignments_of c.args.text.now) made c.loop-rest.rest.now c.at_first_blank.result.0.now c.at_first_blank.result.1.now c.loop-rest.invariant c.at_first_blank.ensures.before c.at_first_blank.ensures.behind a (sym c.is_empty-in-loop-rest.ensures ∙ c.if-not-is_empty.true) said
    ∙ ap (λ (made : List Assignment). in_front made (assignments_of c.at_first_blank.result.1.now)) (sym pushed)
