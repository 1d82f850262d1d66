-- What is resolved as it stands is its own normal form, what is normalised stays, and the laws of heights hold of all components.
use Rattle.std.proofs.Common.{sym, ◌∙◌}
use Rattle.bstr.specs.BStr.{bstr_bytes}
use Rattle.pathspec_pattern.specs.Patterns.{pattern_spec}
use Rattle.pathspec_pattern.proofs.HeightProofs.{climb_by_height, survivors_by_height, kept_is_least_height}
use Rattle.pathspec_pattern.proofs.StaysProofs.{normal_form_again, resolved_stays}
use Rattle.pathspec_pattern.proofs.BoundaryProofs.{normal_form_has_boundary}
use Rattle.pathspec_pattern.proofs.NormalTextProofs.{normal_form_keeps_magic, nil_has_no_directory}
use Rattle.pathspec_pattern.proofs.pattern.Pattern.resolve.Goals as goal

pub invariant_of-self : goal.invariant_of-self
invariant_of-self c = record {
  boundary = normal_form_has_boundary (bstr_bytes c.args.prefix) (bstr_bytes c.args.root) (pattern_spec c.args.self.now) _ c.args.self.now.boundary c.in_ok-resolved.ensures;
  nil_has_none = nil_has_no_directory (bstr_bytes c.args.prefix) (bstr_bytes c.args.root) (pattern_spec c.args.self.now) _ c.in_ok-resolved.ensures;
}

pub returns-then-is_resolved-clause-form : goal.returns-then-is_resolved-clause-form
returns-then-is_resolved-clause-form c = resolved_stays (bstr_bytes c.args.prefix) (bstr_bytes c.args.root) (pattern_spec c.args.self.now) c.args.self.now.boundary c.args.self.now.nil_has_none (sym c.is_resolved.ensures ∙ c.if-is_resolved.true)

pub returns-then-is_resolved-clause-idempotent : goal.returns-then-is_resolved-clause-idempotent
returns-then-is_resolved-clause-idempotent c = normal_form_again (bstr_bytes c.args.prefix) (bstr_bytes c.args.root) (pattern_spec c.args.self.now) _ (returns-then-is_resolved-clause-form c)

pub returns-then-is_resolved-clause-by_heights : goal.returns-then-is_resolved-clause-by_heights
returns-then-is_resolved-clause-by_heights c = (climb_by_height, survivors_by_height, kept_is_least_height)

pub returns-then-is_resolved-clause-laws : goal.returns-then-is_resolved-clause-laws
returns-then-is_resolved-clause-laws c = (normal_form_again, normal_form_keeps_magic)

pub returns-then-is_resolved-clause-directory : goal.returns-then-is_resolved-clause-directory
returns-then-is_resolved-clause-directory c = (normal_form_has_boundary, nil_has_no_directory)

pub returns-in_err-resolved-clause-by_heights : goal.returns-in_err-resolved-clause-by_heights
returns-in_err-resolved-clause-by_heights c = (climb_by_height, survivors_by_height, kept_is_least_height)

pub returns-clause-idempotent : goal.returns-clause-idempotent
returns-clause-idempotent c = normal_form_again (bstr_bytes c.args.prefix) (bstr_bytes c.args.root) (pattern_spec c.args.self.now) _ c.in_ok-resolved.ensures

pub returns-clause-by_heights : goal.returns-clause-by_heights
returns-clause-by_heights c = (climb_by_height, survivors_by_height, kept_is_least_height)

pub returns-in_err-resolved-clause-directory : goal.returns-in_err-resolved-clause-directory
returns-in_err-resolved-clause-directory c = (normal_form_has_boundary, nil_has_no_directory)

pub returns-clause-directory : goal.returns-clause-directory
returns-clause-directory c = (normal_form_has_boundary, nil_has_no_directory)

pub returns-in_err-resolved-clause-laws : goal.returns-in_err-resolved-clause-laws
returns-in_err-resolved-clause-laws c = (normal_form_again, normal_form_keeps_magic)

pub returns-clause-laws : goal.returns-clause-laws
returns-clause-laws c = (normal_form_again, normal_form_keeps_magic)
