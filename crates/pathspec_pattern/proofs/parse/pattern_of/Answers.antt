-- What the text says, by the tests that were made on the way.
use Rattle.std.proofs.Common.{sym, ◌∙◌, ap, subst, Ok}
use Rattle.pathspec_pattern.specs.Errors.{Computes}
use Rattle.pathspec_pattern.specs.Patterns.{pattern_spec}
use Rattle.pathspec_pattern.specs.Reading.{spec_of}
use Rattle.pathspec_pattern.proofs.ParseProofs.{exact-from, exact-from_magic, reading-empty, reading-literal, reading-plain, reading-nil}
use Rattle.pathspec_pattern.proofs.parse.pattern_of.Goals as goal

pub returns-then-is_empty : goal.returns-then-is_empty
returns-then-is_empty c = reading-empty c.args.defaults c.args.input.now (sym c.is_empty.ensures ∙ c.if-is_empty.true)

pub returns-then-defaults : goal.returns-then-defaults
returns-then-defaults c = exact-from c.args.defaults c.args.input.now _ c.from_literal.result (reading-literal c.args.defaults c.args.input.now (sym c.is_empty.ensures ∙ c.if-is_empty.false) c.if-defaults.true) c.from_literal.ensures.ok c.from_literal.ensures.err

pub returns-then-not-begins_with_colon : goal.returns-then-not-begins_with_colon
returns-then-not-begins_with_colon c =
    let said = reading-plain c.args.defaults c.args.input.now (sym c.is_empty.ensures ∙ c.if-is_empty.false) c.if-defaults.false (sym c.begins_with_colon.ensures ∙ c.if-not-begins_with_colon.true) in
    let same = ap (λ magic. spec_of c.args.defaults magic c.args.input.now) (sym c.none.ensures) in
    subst (λ r. Computes pattern_spec r c.with_body.result) (sym (said ∙ same)) c.with_body.ensures

pub returns-then-is_lone_colon : goal.returns-then-is_lone_colon
returns-then-is_lone_colon c =
    reading-nil c.args.defaults c.args.input.now (sym c.is_empty.ensures ∙ c.if-is_empty.false) c.if-defaults.false (sym c.is_lone_colon.ensures ∙ c.if-is_lone_colon.true) (sym c.begins_with_colon.ensures ∙ c.if-not-begins_with_colon.false) ∙ ap Ok (sym c.nil.ensures)

pub returns : goal.returns
returns c =
    exact-from_magic c.args.defaults c.args.input.now (sym c.is_empty.ensures ∙ c.if-is_empty.false) c.pattern_with_magic.result c.if-defaults.false (sym c.is_lone_colon.ensures ∙ c.if-is_lone_colon.false) (sym c.begins_with_colon.ensures ∙ c.if-not-begins_with_colon.false) c.pattern_with_magic.ensures
