-- There are as many members as sources, and no more than specs.
use Rattle.std.proofs.Common.{arith, length-take, take, true, false}
use Rattle.gix_pathspec.specs.Sources.{exclude_source_of}
use Rattle.gix_pathspec.proofs.SourceSteps.{counts-step, few-given}
use Rattle.gix_pathspec.proofs.search.members.has_set.Goals as goal
use Rattle.gix_pathspec.proofs.search.members.has_set.Goals.{then-is_member, else-is_member}

pub loop-spec-preserved : goal.loop-spec-preserved
loop-spec-preserved c = elim c.if-is_member.branch [
  | then-is_member w ↦ omega (arith, counts-step exclude_source_of c.args.specs.now c.loop-spec.spec-index c.spec-item.result c.loop-spec-test.true c.spec-item.is true w.if-is_member.ensures, w.count-is, c.loop-spec.invariant)
  | else-is_member w ↦ omega (arith, counts-step exclude_source_of c.args.specs.now c.loop-spec.spec-index c.spec-item.result c.loop-spec-test.true c.spec-item.is false w.if-is_member.ensures, w.count-is, c.loop-spec.invariant)
]

pub overflow_add-count : goal.overflow_add-count
overflow_add-count c =
    let specs = c.args.specs.now in
    omega (arith, few-given exclude_source_of (take c.loop-spec.spec-index specs), length-take c.loop-spec.spec-index specs, c.loop-spec.invariant, c.loop-spec-test.true)
