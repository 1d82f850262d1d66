-- Each assignment is decided, with what it brings along, before those in front of it.
use Rattle.std.proofs.Common.{◌≡◌, ◌∙◌, ℕ, ◌-◌, refl, subst, List, ◌∷◌, map, reverse, take, length, arith}
use Rattle.std.proofs.lemmas.List.{length-map}
use Rattle.pathspec_parts.specs.Attributes.{Assignment}
use Rattle.pathspec_parts.specs.AttributeStates.{assignment_view}
use Rattle.pathspec_attributes.specs.declared.deciding.Pending.{Pending}
use Rattle.pathspec_attributes.specs.Deciding.{Macro}
use Rattle.pathspec_attributes.specs.Leading.{pending_said, Leads}
use Rattle.pathspec_attributes.specs.Views.{macros_view, marked}
use Rattle.pathspec_attributes.proofs.LeadingProofs.{last-before, leads-behind, leads-nowhere, leads-on, said-at-place}
use Rattle.pathspec_attributes.proofs.deciding.decide.Goals as goal

pub loop-left-preserved : goal.loop-left-preserved
loop-left-preserved c =
    let m = c.args.macros.now in
    let macros : List Macro = macros_view m in
    let said : List Assignment = map assignment_view c.args.said.now in
    let left : ℕ = c.loop-left.left in
    let a : Assignment = assignment_view c.index-said-left.result in
    let at = said-at-place c.args.said.now said (left - 1) c.index-said-left.result refl c.index-said-left.is in
    let size : length said ≡ length c.args.said.now = length-map c.args.said.now assignment_view in
    let taken = subst (λ (list : List Pending). Leads macros (a ∷ pending_said m list) (marked c.loop-left.room.marks) c.loop-left.out (pending_said m c.take.new.room.pending.items) (marked c.take.new.room.marks) c.take.new.out) c.loop-left.invariant.pending c.in_ok-take.ensures.leads in
    let one = leads-on macros taken c.in_ok-expand.ensures.leads in
    let rest : List Assignment = reverse (take (left - 1) said) in
    let here = last-before said left a c.loop-left-test.true (omega (arith, size, c.loop-left.invariant.within)) at in
    let step = leads-behind macros (reverse (take left said)) here one (leads-nowhere macros rest (marked c.expand.new.room.marks) c.expand.new.out) in
    record {
      within = omega (arith, c.loop-left.invariant.within);
      pending = c.in_ok-expand.ensures.pending;
      leads = leads-on macros c.loop-left.invariant.leads step;
      names = c.expand.ensures.names ∙ (c.take.ensures.names ∙ c.loop-left.invariant.names);
    }
