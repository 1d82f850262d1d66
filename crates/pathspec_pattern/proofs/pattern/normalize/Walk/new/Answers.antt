-- A prefix of names never climbs out, and stands on the stack where it is marked.
use Rattle.std.proofs.Common.{◌≡◌, ℕ, sym, ◌∙◌, ap, ◌-◌, min, arith}
use Rattle.pathspec_parts.specs.Components.{remaining_components}
use Rattle.pathspec_pattern.specs.NormalForm.{parent_dir_count}
use Rattle.pathspec_pattern.proofs.StackProofs.{prefix-inside, prefix-marked}
use Rattle.pathspec_pattern.proofs.pattern.normalize.Walk.new.Goals as goal

pub returns-then-not-branch-clause-inside : goal.returns-then-not-branch-clause-inside
returns-then-not-branch-clause-inside c =
    let inside = prefix-inside (remaining_components c.names.result) c.new-stack.result (ap parent_dir_count c.names.ensures ∙ c.requires) c.new-stack.ensures in
    let clash = sym c.if-not-branch.true ∙ (c.in_ok-push_components.ensures.inside ∙ inside) in
    cc

pub push_components-requires-2-clause-names : goal.push_components-requires-2-clause-names
push_components-requires-2-clause-names c =
    let flat = ap parent_dir_count c.names.ensures ∙ c.requires in
    let marked = prefix-marked (remaining_components c.names.result) c.new-stack.result flat c.new-stack.ensures c.push_components.new.stack c.mark.new.self (c.in_ok-push_components.ensures.left c.if-not-branch.false) c.mark.ensures in
    ap (λ stack. parent_dir_count stack.names) marked ∙ flat

pub returns-then-not-branch-2-clause-inside : goal.returns-then-not-branch-2-clause-inside
returns-then-not-branch-2-clause-inside c =
    let marked = prefix-marked (remaining_components c.names.result) c.new-stack.result (ap parent_dir_count c.names.ensures ∙ c.requires) c.new-stack.ensures c.push_components.new.stack c.mark.new.self (c.in_ok-push_components.ensures.left c.if-not-branch.false) c.mark.ensures in
    sym c.if-not-branch-2.true ∙ (rw (marked, c.names.ensures) at c.in_ok-push_components-2.ensures.inside)

pub invariant_of-result : goal.invariant_of-result
invariant_of-result c =
    let marked = prefix-marked (remaining_components c.names.result) c.new-stack.result (ap parent_dir_count c.names.ensures ∙ c.requires) c.new-stack.ensures c.push_components.new.stack c.mark.new.self (c.in_ok-push_components.ensures.left c.if-not-branch.false) c.mark.ensures in
    let less : (n k : ℕ) → min n (n - k) ≡ n - k = λ n k. omega arith in
    record {
      left = record {
        names = rw (marked, c.names.ensures) at (c.in_ok-push_components-2.ensures.left c.if-not-branch-2.false);
        least = rw (marked, c.names.ensures, less) at (c.in_ok-push_components-2.ensures.least c.if-not-branch-2.false);
      };
    }

pub returns-clause-inside : goal.returns-clause-inside
returns-clause-inside c =
    let marked = prefix-marked (remaining_components c.names.result) c.new-stack.result (ap parent_dir_count c.names.ensures ∙ c.requires) c.new-stack.ensures c.push_components.new.stack c.mark.new.self (c.in_ok-push_components.ensures.left c.if-not-branch.false) c.mark.ensures in
    sym c.if-not-branch-2.false ∙ (rw (marked, c.names.ensures) at c.in_ok-push_components-2.ensures.inside)
