-- Each component leads on; where one climbs out, they all do.
use Rattle.std.proofs.Common.{subst}
use Rattle.bstr.specs.BStr.{bstr_bytes}
use Rattle.pathspec_parts.specs.Components.{remaining_components}
use Rattle.pathspec_pattern.proofs.StackProofs.{AcceptsAfterByte, pushed-on, pushed-out, end-inside, end-left, end-least}
use Rattle.pathspec_pattern.proofs.pattern.normalize.push_components.Goals as goal

pub push_component-requires : goal.push_component-requires
push_component-requires c = record { names = c.loop-component.invariant.names; least = c.loop-component.invariant.within }

pub returns-then-not-branch : goal.returns-then-not-branch
returns-then-not-branch c =
    let here = subst (AcceptsAfterByte c.args.stack.now (remaining_components c.args.components) c.loop-component.stack) c.in-Some.ensures.steps c.loop-component.invariant in
    let out = pushed-out c.args.stack.now (remaining_components c.args.components) c.loop-component.stack (bstr_bytes c.in-Some.component) _ here _ _ c.in_ok-push_component.ensures c.if-not-branch.true in
    record { inside = out; left = λ t. cc; least = λ t. cc }

pub loop-component-preserved : goal.loop-component-preserved
loop-component-preserved c =
    let here = subst (AcceptsAfterByte c.args.stack.now (remaining_components c.args.components) c.loop-component.stack) c.in-Some.ensures.steps c.loop-component.invariant in
    pushed-on c.args.stack.now (remaining_components c.args.components) c.loop-component.stack (bstr_bytes c.in-Some.component) _ here _ _ c.in_ok-push_component.ensures c.if-not-branch.false

pub returns : goal.returns
returns c =
    let end = subst (AcceptsAfterByte c.args.stack.now (remaining_components c.args.components) c.loop-component.stack) c.in-None.ensures.steps.0 c.loop-component.invariant in
    record {
      inside = end-inside c.args.stack.now (remaining_components c.args.components) c.loop-component.stack end;
      left = λ t. end-left c.args.stack.now (remaining_components c.args.components) c.loop-component.stack end;
      least = λ t. end-least c.args.stack.now (remaining_components c.args.components) c.loop-component.stack end;
    }
