use Rattle.std.proofs.Common.{◌-◌, arith}
use Rattle.pathspec_heads.proofs.SearchProofs.{left-after_look, counts-more}
use Rattle.pathspec_heads.proofs.sorted_texts.SortedTexts.search_on.Goals as goal

pub overflow_add-compared : goal.overflow_add-compared
overflow_add-compared g c = let few = c.loop-range.invariant.cost 64 (omega arith) in omega (arith, few.3)

pub loop-range-preserved : goal.loop-range-preserved
loop-range-preserved g c =
    let i = c.loop-range.invariant in
    let n = c.probe-range in
    let at = c.next_look-index in
    record {
      so_far = n.ensures.so_far;
      counted = λ before first. counts-more before c.loop-range.compared c.loop-range.scratch n.new.scratch (i.counted before first) n.ensures.counted;
      asked = omega arith;
      cost = left-after_look (c.args.left.high - c.args.left.low) c.loop-range.range.low c.loop-range.range.high at.result (n.result.high - n.result.low) c.loop-range.compared at.ensures.within at.ensures.middle n.ensures.smaller i.cost;
    }
