-- By where the path lies, and whether its components climb out.
use Rattle.std.proofs.Common.{sym, ◌∙◌, ap}
use Rattle.std.proofs.lemmas.Result.{IfOk-weaker, IfErr-weaker, MatchResult-from_both}
use Rattle.bstr.specs.BStr.{bstr_bytes}
use Rattle.pathspec_parts.specs.Components.{remaining_components}
use Rattle.pathspec_pattern.specs.Patterns.{pattern_spec}
use Rattle.pathspec_pattern.specs.NormalForm.{parent_dir_count, base_names}
use Rattle.pathspec_pattern.specs.Resolving.{base_of, resolved_spec}
use Rattle.pathspec_pattern.proofs.ParseProofs.{memory-or_any}
use Rattle.pathspec_pattern.proofs.ResolvingProofs.{form-outside, form-leaves, form-stays, base-names_only}
use Rattle.pathspec_pattern.proofs.pattern.Pattern.resolved.Goals as goal

pub returns-in_default : goal.returns-in_default
returns-in_default c = rw (c.in_ok-to_vec.ensures.ok, c.as_slice.ensures.value) (form-outside (bstr_bytes c.args.prefix) (bstr_bytes c.args.root) (pattern_spec c.args.self.now) (base_of c.base-base.result) c.base-base.ensures c.in_default.ensures)

pub new-requires : goal.new-requires
new-requires c = ap (λ b. parent_dir_count (base_names b)) c.base-base.ensures ∙ base-names_only (bstr_bytes c.args.prefix) (bstr_bytes c.args.root) (pattern_spec c.args.self.now) c.requires

pub returns-in_default-2 : goal.returns-in_default-2
returns-in_default-2 c =
    let out = rw c.in_default-2.is at c.in_ok-walk.ensures.inside in
    rw (c.in_ok-to_vec-2.ensures.ok, c.as_slice-in_default-2.ensures.value) (form-leaves (bstr_bytes c.args.prefix) (bstr_bytes c.args.root) (pattern_spec c.args.self.now) (base_of c.base-base.result) c.base-base.ensures (remaining_components c.in-Some.own) c.in-Some.ensures (sym out))

pub returns : goal.returns
returns c =
    let walk = c.in-Some-2.walk in
    let inside = rw c.in-Some-2.is at c.in_ok-walk.ensures.inside in
    let parts = rw c.in-Some-2.is at c.in_ok-walk.ensures.parts in
    MatchResult-from_both c.resolved_along.result _ _
    (IfOk-weaker c.resolved_along.result _ _ (λ r h. form-stays (bstr_bytes c.args.prefix) (bstr_bytes c.args.root) (pattern_spec c.args.self.now) (base_of walk.base) (ap base_of parts.0 ∙ c.base-base.ensures) (remaining_components walk.own) (rw (parts.0, parts.1) c.in-Some.ensures) walk.stack.names (resolved_spec (pattern_spec c.args.self.now) r) (rw (parts.0, parts.1) (sym inside)) walk.left.names h) c.resolved_along.ensures.ok)
    (IfErr-weaker c.resolved_along.result _ _ (λ e m. memory-or_any e _ m) c.resolved_along.ensures.err)
