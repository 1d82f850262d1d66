-- A name that was decided is passed over, and another one is decided.
use Rattle.std.proofs.Common.{◌≡◌, ◌∙◌, ℕ, suc, ap, Bool, List, ◌++◌, length}
use Rattle.pathspec_parts.specs.Attributes.{Assignment}
use Rattle.pathspec_parts.specs.AttributeStates.{assignment_view, state_ref_view}
use Rattle.pathspec_parts.specs.Outcomes.{set_state}
use Rattle.pathspec_attributes.specs.Deciding.{Macro, expansion}
use Rattle.pathspec_attributes.specs.Leading.{body_of_set, pending_of, pending_said, pending_weight, weight_of}
use Rattle.pathspec_attributes.specs.Views.{macros_view, marked}
use Rattle.pathspec_attributes.proofs.LeadingProofs.{body_weight, expands-nothing, expands-pending, heavier, lighter, more-by-name, said-more, set-falls, take-known, take-new, was-marked, was-new, weighs-more, weighs-pending, weight-falls}
use Rattle.pathspec_attributes.proofs.deciding.take.Goals as goal

pub returns-then-not-branch-clause-leads : goal.returns-then-not-branch-clause-leads
returns-then-not-branch-clause-leads c =
    let a : Assignment = assignment_view c.args.next.now in
    let before : List ℕ → Bool = marked c.args.room.now.marks in
    let after : List ℕ → Bool = marked c.mark.new.self in
    let name : List ℕ = c.as_bytes-name.result.now in
    let same : name ≡ a.name = c.as_bytes-name.ensures ∙ c.as_bytes.ensures.bytes in
    take-known (macros_view c.args.macros.now) a (pending_said c.args.macros.now c.args.room.now.pending.items) before after c.args.out.now
    (was-marked a name same c.in_ok-mark.field-0 before after c.in_ok-mark.ensures.before c.if-not-branch.true)
    (more-by-name a name same c.in_ok-mark.field-0 before after c.in_ok-mark.ensures.after)

pub returns-in-Some-clause-leads : goal.returns-in-Some-clause-leads
returns-in-Some-clause-leads c =
    let macros : List Macro = macros_view c.args.macros.now in
    let a : Assignment = assignment_view c.args.next.now in
    let before : List ℕ → Bool = marked c.args.room.now.marks in
    let after : List ℕ → Bool = marked c.mark.new.self in
    let name : List ℕ = c.as_bytes-name.result.now in
    let same : name ≡ a.name = c.as_bytes-name.ensures ∙ c.as_bytes.ensures.bytes in
    let old = c.args.room.now.pending.items in
    let said : List Assignment = pending_of c.args.macros.now c.in-Some.brought in
    let set = c.in_ok-set.ensures.ok ∙ (ap (λ (n : List ℕ). set_state c.args.out.now n (state_ref_view c.as_ref.result)) same ∙ ap (set_state c.args.out.now a.name) c.as_ref.ensures) in
    let grown : pending_said c.args.macros.now c.push.new.self.items ≡ expansion macros a ++ pending_said c.args.macros.now old =
    said-more (pending_of c.args.macros.now) old c.push.new.self.items c.in-Some.brought c.in_ok-push.ensures.items ∙ ap (λ (xs : List Assignment). xs ++ pending_said c.args.macros.now old) (expands-pending macros a said c.in-Some.ensures) in
    take-new macros a (pending_said c.args.macros.now old) (pending_said c.args.macros.now c.push.new.self.items) before after c.args.out.now c.set.new.self
    (was-new a name same c.in_ok-mark.field-0 before after c.in_ok-mark.ensures.before c.if-not-branch.false)
    (more-by-name a name same c.in_ok-mark.field-0 before after c.in_ok-mark.ensures.after) set grown

pub returns-in-Some-clause-weight : goal.returns-in-Some-clause-weight
returns-in-Some-clause-weight c =
    let macros : List Macro = macros_view c.args.macros.now in
    let a : Assignment = assignment_view c.args.next.now in
    let before : List ℕ → Bool = marked c.args.room.now.marks in
    let after : List ℕ → Bool = marked c.mark.new.self in
    let name : List ℕ = c.as_bytes-name.result.now in
    let same : name ≡ a.name = c.as_bytes-name.ensures ∙ c.as_bytes.ensures.bytes in
    let old = c.args.room.now.pending.items in
    let said : List Assignment = pending_of c.args.macros.now c.in-Some.brought in
    heavier (pending_weight c.args.macros.now old) (pending_weight c.args.macros.now c.push.new.self.items) (weight_of macros before) (weight_of macros after) (suc (length said)) (body_weight (body_of_set macros a))
    (weighs-more c.args.macros.now old c.push.new.self.items c.in-Some.brought c.in_ok-push.ensures.items)
    (weighs-pending macros a said c.in-Some.ensures)
    (set-falls macros a before after
    (was-new a name same c.in_ok-mark.field-0 before after c.in_ok-mark.ensures.before c.if-not-branch.false)
    (more-by-name a name same c.in_ok-mark.field-0 before after c.in_ok-mark.ensures.after))

pub returns-clause-leads : goal.returns-clause-leads
returns-clause-leads c =
    let macros : List Macro = macros_view c.args.macros.now in
    let a : Assignment = assignment_view c.args.next.now in
    let before : List ℕ → Bool = marked c.args.room.now.marks in
    let after : List ℕ → Bool = marked c.mark.new.self in
    let name : List ℕ = c.as_bytes-name.result.now in
    let same : name ≡ a.name = c.as_bytes-name.ensures ∙ c.as_bytes.ensures.bytes in
    let left : List Assignment = pending_said c.args.macros.now c.args.room.now.pending.items in
    let set = c.in_ok-set.ensures.ok ∙ (ap (λ (n : List ℕ). set_state c.args.out.now n (state_ref_view c.as_ref.result)) same ∙ ap (set_state c.args.out.now a.name) c.as_ref.ensures) in
    take-new macros a left left before after c.args.out.now c.set.new.self
    (was-new a name same c.in_ok-mark.field-0 before after c.in_ok-mark.ensures.before c.if-not-branch.false)
    (more-by-name a name same c.in_ok-mark.field-0 before after c.in_ok-mark.ensures.after) set (expands-nothing macros a left c.in_default.ensures)

pub returns-clause-weight : goal.returns-clause-weight
returns-clause-weight c =
    let macros : List Macro = macros_view c.args.macros.now in
    let a : Assignment = assignment_view c.args.next.now in
    let before : List ℕ → Bool = marked c.args.room.now.marks in
    let after : List ℕ → Bool = marked c.mark.new.self in
    lighter (pending_weight c.args.macros.now c.args.room.now.pending.items) (weight_of macros before) (weight_of macros after) (weight-falls macros before after c.as_bytes-name.result.now c.in_ok-mark.ensures.after)
