use Rattle.std.proofs.Common.{◌≡◌, ℕ, sym, ◌∙◌, ap, List}
use Rattle.pathspec_parts.specs.Records.{directory_names}
use Rattle.pathspec_select.proofs.SharedProofs.{unshared, unshared-is, unshared-after}
use Rattle.pathspec_select.proofs.AddingProofs.{shared_one, unshared-no_left, unshared-no_missing, unshared-other}
use Rattle.pathspec_select.proofs.OpenProofs.{rest_at, rest_after}
use Rattle.pathspec_select.proofs.listing.names.after_shared.Goals as goal
use Rattle.pathspec_select.proofs.listing.names.after_shared.Goals.{then-loop-name-test+else-not-is_empty, else-loop-name-test, then-loop-name-test+then-not-is_empty+then-ne}

pub loop-name-init : goal.loop-name-init
loop-name-init c = record {
  unshared_is = unshared-after c.args.directory.now c.args.wanted.now c.shared_front-shared.result c.shared_front-shared.ensures;
  rest = rest_at c.args.wanted.now c.shared_front-shared.result c.shared_front-shared.ensures.closed;
}

pub loop-name-preserved : goal.loop-name-preserved
loop-name-preserved c = record {
  unshared_is =
      shared_one c.loop-name.left.now c.loop-name.missing.now _ _ _ _ _ (sym c.is_empty.ensures ∙ c.loop-name-test.true) (sym c.is_empty-in-loop-name.ensures ∙ c.if-not-is_empty.true)
      c.at_first.ensures.before c.at_first.ensures.after c.at_first-in-loop-name.ensures.before c.at_first-in-loop-name.ensures.after (sym c.ne.ensures ∙ c.if-ne.false) c.loop-name.invariant.unshared_is;
  rest = rest_after c.args.wanted.now c.loop-name.missing.now _ c.requires c.loop-name.invariant.rest c.at_first-in-loop-name.ensures.after;
}

pub returns : goal.returns
returns c =
    let xs = directory_names c.loop-name.left.now in
    let ys = directory_names c.loop-name.missing.now in
    let e : unshared xs ys ≡ (xs, ys) = elim c.loop-name-test.branch [
      | then-loop-name-test+else-not-is_empty w ↦ unshared-no_missing c.loop-name.left.now c.loop-name.missing.now (sym w.is_empty-in-loop-name.ensures ∙ w.if-not-is_empty.false)
      | else-loop-name-test w ↦ unshared-no_left c.loop-name.left.now c.loop-name.missing.now (sym c.is_empty.ensures ∙ w.loop-name-test.false)
      | then-loop-name-test+then-not-is_empty+then-ne w ↦ unshared-other c.loop-name.left.now c.loop-name.missing.now _ _ _ _ (sym c.is_empty.ensures ∙ w.loop-name-test.true) (sym w.is_empty-in-loop-name.ensures ∙ w.if-not-is_empty.true)
          w.at_first.ensures.before w.at_first.ensures.after w.at_first-in-loop-name.ensures.before w.at_first-in-loop-name.ensures.after (sym w.ne.ensures ∙ w.if-ne.true)
    ] in
    let parts = sym e ∙ (c.loop-name.invariant.unshared_is ∙ unshared-is (directory_names c.args.directory.now) (directory_names c.args.wanted.now)) in
    record {
      left = ap (λ (p : List (List ℕ) × List (List ℕ)). p.0) parts;
      missing = ap (λ (p : List (List ℕ) × List (List ℕ)). p.1) parts;
      rest = c.loop-name.invariant.rest;
    }
