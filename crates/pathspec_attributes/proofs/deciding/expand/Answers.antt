-- The last of the pending macros says its last assignment.
use Rattle.std.proofs.Common.{◌∙◌, ℕ, ◌-◌, sym, subst, List}
use Rattle.pathspec_parts.specs.Attributes.{Assignment}
use Rattle.pathspec_parts.specs.AttributeStates.{assignment_view}
use Rattle.pathspec_attributes.specs.Deciding.{Macro}
use Rattle.pathspec_attributes.specs.Leading.{body_at, pending_said, pending_weight, weight, weight_of, Leads}
use Rattle.pathspec_attributes.specs.Views.{macros_view, marked}
use Rattle.pathspec_attributes.proofs.LeadingProofs.{empty-lighter, leads-on, left-of, less-after, less-at-once, next-lighter, pending-next, said-at-place}
use Rattle.pathspec_attributes.proofs.deciding.expand.Goals as goal

pub loop-next-smaller-in-Continue-branch-2 : goal.loop-next-smaller-in-Continue-branch-2
loop-next-smaller-in-Continue-branch-2 c =
    let m = c.args.macros.now in
    let next = c.in-Some.next in
    let body : List Assignment = body_at m next.source next.place in
    let left : ℕ = c.lesser-left.result in
    let old = c.loop-next.room.pending.items in
    let pushed = c.push.new.self.items in
    let a : Assignment = assignment_view c.index-body-left.result in
    let is = left-of c.body_at-body.result.now body next.left left c.body_at-body.ensures c.lesser-left.ensures in
    let at = said-at-place c.body_at-body.result.now body (left - 1) c.index-body-left.result c.body_at-body.ensures c.index-body-left.is in
    less-after (weight m c.take.new.room.pending.items (marked c.take.new.room.marks)) (pending_weight m old) (pending_weight m pushed) (weight_of (macros_view m) (marked c.loop-next.room.marks)) c.in_ok-take.ensures.weight
    (next-lighter m old c.pop.new.self.items next c.in-Some.ensures.items pushed left a is c.if-left-gt0.true at c.in_ok-push.ensures.items)

pub loop-next-preserved-in-Continue-branch-2 : goal.loop-next-preserved-in-Continue-branch-2
loop-next-preserved-in-Continue-branch-2 c =
    let m = c.args.macros.now in
    let macros : List Macro = macros_view m in
    let next = c.in-Some.next in
    let body : List Assignment = body_at m next.source next.place in
    let left : ℕ = c.lesser-left.result in
    let old = c.loop-next.room.pending.items in
    let pushed = c.push.new.self.items in
    let a : Assignment = assignment_view c.index-body-left.result in
    let is = left-of c.body_at-body.result.now body next.left left c.body_at-body.ensures c.lesser-left.ensures in
    let at = said-at-place c.body_at-body.result.now body (left - 1) c.index-body-left.result c.body_at-body.ensures c.index-body-left.is in
    let here = pending-next m old c.pop.new.self.items next c.in-Some.ensures.items pushed left a is c.if-left-gt0.true at c.in_ok-push.ensures.items in
    let step = subst (λ (list : List Assignment). Leads macros list (marked c.loop-next.room.marks) c.loop-next.out (pending_said m c.take.new.room.pending.items) (marked c.take.new.room.marks) c.take.new.out) (sym here) c.in_ok-take.ensures.leads in
    record {
      leads = leads-on macros c.loop-next.invariant.leads step;
      names = c.take.ensures.names ∙ c.loop-next.invariant.names;
    }

pub loop-next-smaller : goal.loop-next-smaller
loop-next-smaller c =
    let m = c.args.macros.now in
    let old = c.loop-next.room.pending.items in
    let after = c.pop.new.self.items in
    less-at-once (pending_weight m old) (pending_weight m after) (weight_of (macros_view m) (marked c.loop-next.room.marks)) (empty-lighter m old after c.in-Some.next c.in-Some.ensures.items)
