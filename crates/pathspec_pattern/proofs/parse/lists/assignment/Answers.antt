-- A part with a mark in front, and one without that holds `=`.
use Rattle.std.proofs.Common.{◌≡◌, ◌==◌, false, sym, ◌∙◌}
use Rattle.pathspec_parts.specs.Bytes.{bang, dash, first_is}
use Rattle.pathspec_pattern.specs.AttributeLists.{assignment_of}
use Rattle.pathspec_pattern.proofs.CutProofs.{begins-first}
use Rattle.pathspec_pattern.proofs.parse.lists.assignment.Goals as goal

pub returns-in-Some : goal.returns-in-Some
unfolding assignment_of
returns-in-Some c = rw (sym (begins-first bang c.args.part.now) ∙ c.in-Some.ensures.cases.0, ← c.in-Some.ensures.cases.1) c.assignment_of_state.ensures

pub returns-in-Some-strip_prefix : goal.returns-in-Some-strip_prefix
unfolding assignment_of
returns-in-Some-strip_prefix c =
    rw (sym (begins-first bang c.args.part.now) ∙ c.in_default.ensures.cases, sym (begins-first dash c.args.part.now) ∙ c.in-Some-strip_prefix.ensures.cases.0, ← c.in-Some-strip_prefix.ensures.cases.1) c.assignment_of_state-in-Some-strip_prefix.ensures

pub returns-then-not-contains : goal.returns-then-not-contains
unfolding assignment_of
returns-then-not-contains c =
    let no_dash : first_is (λ b. b == dash) c.args.part.now ≡ false = sym (begins-first dash c.args.part.now) ∙ c.in_default-strip_prefix.ensures.cases in
    rw (sym (begins-first bang c.args.part.now) ∙ c.in_default.ensures.cases, no_dash, sym c.contains.ensures.value ∙ c.if-not-contains.true) (rw no_dash at c.assignment_of_state-then-not-contains.ensures)

pub returns : goal.returns
unfolding assignment_of
returns c =
    rw (sym (begins-first bang c.args.part.now) ∙ c.in_default.ensures.cases, sym (begins-first dash c.args.part.now) ∙ c.in_default-strip_prefix.ensures.cases, sym c.contains.ensures.value ∙ c.if-not-contains.false, ← c.at_first.ensures.before, ← c.at_first.ensures.after)
    c.assignment_of_value.ensures
