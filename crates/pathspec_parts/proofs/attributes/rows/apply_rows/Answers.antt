-- Each number is that of a row of the path.
use Rattle.std.proofs.Common.{◌∙◌, ◌<◌, ap, map, rules, List, length, get_or, arith}
use Rattle.pathspec_parts.specs.AttributeStates.{assignment_view}
use Rattle.pathspec_parts.specs.Outcomes.{NamedState, apply_assignments}
use Rattle.pathspec_parts.proofs.RowNumberProofs.{number-within, applies-more, applies-all}
use Rattle.pathspec_parts.proofs.attributes.rows.apply_rows.Goals as goal

pub offset_bounds-rows-number : goal.offset_bounds-rows-number
offset_bounds-rows-number c =
    let within : get_or c.args.numbers.now c.loop-number.number-index 0 < length c.args.rows.now = number-within c.args.rows.now c.args.path.now c.args.numbers.now c.requires c.loop-number.number-index c.loop-number-test.true in
    search (rules, within)

pub bounds-rows-number : goal.bounds-rows-number
bounds-rows-number c = number-within c.args.rows.now c.args.path.now c.args.numbers.now c.requires c.loop-number.number-index c.loop-number-test.true

pub loop-number-preserved : goal.loop-number-preserved
loop-number-preserved c = record {
  so_far =
      c.in_ok-apply.ensures.ok
      ∙ (ap (apply_assignments c.loop-number.out) (ap (map assignment_view) c.deref.ensures.value)
      ∙ (ap (λ (places : List NamedState). apply_assignments places (map assignment_view (get_or c.args.rows.now (get_or c.args.numbers.now c.loop-number.number-index 0) c.index-rows-number.result).1.items)) c.loop-number.invariant.so_far ∙ applies-more c.args.rows.now c.args.path.now c.args.numbers.now c.requires c.args.out.now c.loop-number.number-index c.loop-number-test.true c.index-rows-number.result));
  names = c.in_ok-apply.ensures.names ∙ c.loop-number.invariant.names;
}

pub returns-clause-ok : goal.returns-clause-ok
returns-clause-ok c =
    c.loop-number.invariant.so_far ∙ applies-all c.args.rows.now c.args.path.now c.args.numbers.now c.requires c.args.out.now c.loop-number.number-index (let past = c.loop-number-test.false in omega (arith, past))
