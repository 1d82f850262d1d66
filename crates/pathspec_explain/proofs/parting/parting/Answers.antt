-- The place is the first byte that differs, or all bytes begin the path.
use Rattle.std.proofs.Common.{◌≡◌, true, sym, subst, arith}
use Rattle.std.proofs.lemmas.List.{take_all}
use Rattle.gix_pathspec.specs.Bytes.{begins_with, fold_case}
use Rattle.pathspec_explain.proofs.PartingProofs.{length-folded}
use Rattle.pathspec_explain.proofs.parting.parting.Goals as goal

pub returns-then-not-agrees_at : goal.returns-then-not-agrees_at
returns-then-not-agrees_at c = record {
  within = omega (arith, length-folded c.args.ignore_case c.args.text.now);
  before = c.loop-at.invariant;
  there = sym (c.if-not-agrees_at.ensures c.loop-at.invariant);
}

pub loop-at-preserved : goal.loop-at-preserved
loop-at-preserved c = sym (c.if-not-agrees_at.ensures c.loop-at.invariant)

pub returns : goal.returns
returns c =
    let text = fold_case c.args.ignore_case c.args.text.now in
    let path = fold_case c.args.ignore_case c.args.path.now in
    subst (λ t. begins_with path t ≡ true) (take_all c.loop-at.at text (omega (arith, length-folded c.args.ignore_case c.args.text.now))) c.loop-at.invariant
