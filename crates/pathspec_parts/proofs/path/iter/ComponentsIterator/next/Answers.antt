-- A first piece that is a component is given, and the others are left.
use Rattle.std.proofs.Common.{◌≡◌, ◌∙◌, ap, sym, arith, length, ◌∷◌}
use Rattle.bstr.specs.BStr.{bstr_bytes}
use Rattle.pathspec_parts.specs.Components.{remaining_components}
use Rattle.pathspec_parts.proofs.ComponentProofs.{components-given}
use Rattle.pathspec_parts.proofs.path.iter.ComponentsIterator.next.Goals as goal

pub returns-then-is_component-clause-steps : goal.returns-then-is_component-clause-steps
returns-then-is_component-clause-steps c =
    components-given _ c.loop-piece.self.rest.now _ _ _ c.loop-piece.invariant c.at_first.ensures.before c.at_first.ensures.after (sym c.is_component.ensures ∙ c.if-is_component.true) c.new.ensures

pub returns-then-is_component-clause-goes : goal.returns-then-is_component-clause-goes
returns-then-is_component-clause-goes c =
    let steps = returns-then-is_component-clause-steps c in
    record { on = λ f. let e : length (remaining_components c.args.self.now) ≡ length (bstr_bytes c.new.result ∷ remaining_components (record { rest = c.at_first.result.1 })) = ap length steps in (tt, tt, omega arith); keeps = tt; rests = λ f. tt }
