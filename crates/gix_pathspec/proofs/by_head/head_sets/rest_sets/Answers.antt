-- One set more rests, and its effort is counted.
use Rattle.std.proofs.Common.{◌≡◌, ◌+◌, ◌%◌, ◌^◌, ◌<◌, ◌≤◌, ◌∙◌, refl, sym, ap, subst, arith, length, get_or}
use Rattle.std.specs.List.{sum_by}
use Rattle.std.proofs.lemmas.List.{length-map, length-set, take_all}
use Rattle.std.proofs.lemmas.List.Elements.{All-from_all_within, All-set, AllWithin-more_set}
use Rattle.pathspec_glob.specs.Counts.{Counts}
use Rattle.pathspec_heads.specs.Groups.{IsLeastFrom}
use Rattle.gix_pathspec.specs.declared.by_head.head_set.HeadSet.{HeadSet}
use Rattle.gix_pathspec.specs.HeadSets.{set_heads, effort_of, most_effort, IsAtRest, IsBegunAt, IsHeadSetOf, IsLittleStepped}
use Rattle.gix_pathspec.proofs.BegunSetProofs.{none-between, none-left, number-within, rested-skip, same-length}
use Rattle.gix_pathspec.proofs.HeadCountsProofs.{effort-count, effort-step, rest-step, total-kept}
use Rattle.gix_pathspec.proofs.HeadSetProofs.{same-own}
use Rattle.gix_pathspec.proofs.HeadSetsProofs.{heads-kept}
use Rattle.gix_pathspec.proofs.by_head.head_sets.rest_sets.Goals as goal

pub bounds-sets-number : goal.bounds-sets-number
bounds-sets-number c =
    let given = c.args.sets.now in
    let least = subst (IsLeastFrom (IsBegunAt (set_heads given) c.args.path.now) c.loop-number.from) c.in-Some.is (c.next_set.ensures.next (set_heads given) c.args.path.now c.requires.longest) in
    number-within given c.loop-number.sets c.in-Some.number c.loop-number.invariant.heads least.found.1.0

pub offset_bounds-sets-number : goal.offset_bounds-sets-number
offset_bounds-sets-number c =
    let given = c.args.sets.now in
    let least = subst (IsLeastFrom (IsBegunAt (set_heads given) c.args.path.now) c.loop-number.from) c.in-Some.is (c.next_set.ensures.next (set_heads given) c.args.path.now c.requires.longest) in
    let low = number-within given c.loop-number.sets c.in-Some.number c.loop-number.invariant.heads least.found.1.0 in
    omega (arith, low)

pub overflow_add-from : goal.overflow_add-from
overflow_add-from c =
    let given = c.args.sets.now in
    let least = subst (IsLeastFrom (IsBegunAt (set_heads given) c.args.path.now) c.loop-number.from) c.in-Some.is (c.next_set.ensures.next (set_heads given) c.args.path.now c.requires.longest) in
    let low = number-within given c.loop-number.sets c.in-Some.number c.loop-number.invariant.heads least.found.1.0 in
    omega (arith, low)

pub loop-number-smaller : goal.loop-number-smaller
loop-number-smaller c =
    let given = c.args.sets.now in
    let least = subst (IsLeastFrom (IsBegunAt (set_heads given) c.args.path.now) c.loop-number.from) c.in-Some.is (c.next_set.ensures.next (set_heads given) c.args.path.now c.requires.longest) in
    let low = number-within given c.loop-number.sets c.in-Some.number c.loop-number.invariant.heads least.found.1.0 in
    omega (arith, low, least.found.0, length-set c.loop-number.sets c.in-Some.number c.rest-effort.new.self)

pub loop-number-preserved : goal.loop-number-preserved
loop-number-preserved c =
    let given = c.args.sets.now in
    let path = c.args.path.now in
    let sets = c.loop-number.sets in
    let at = c.in-Some.number in
    let least = subst (IsLeastFrom (IsBegunAt (set_heads given) path) c.loop-number.from) c.in-Some.is (c.next_set.ensures.next (set_heads given) path c.requires.longest) in
    let low = number-within given sets at c.loop-number.invariant.heads least.found.1.0 in
    let i = rested-skip path given sets c.loop-number.from at c.loop-number.effort c.loop-number.invariant least.found.0 (omega (arith, low)) (none-between (set_heads given) path c.loop-number.from at least) in
    let old = get_or sets at c.index-sets-number.result in
    let is : old ≡ get_or sets at old = ap (λ d. get_or sets at d) c.index-sets-number.is in
    let was : old ≡ get_or given at old = is ∙ i.rest at old (omega arith) in
    let new = c.rest-effort.new.self in
    let same = c.rest-effort.ensures.same in
    let there : at < length given = omega (arith, low, same-length given sets i.heads) in
    let sum = (c.loop-number.effort + c.rest-effort.result) % 2 ^ 128 in
    record {
      within = omega (arith, low, length-set sets at new);
      idle = i.idle;
      heads = heads-kept sets at old new is same.head ∙ i.heads;
      own = λ sources all.
          let now = i.own sources all in
          All-set (IsHeadSetOf sources) sets at new (same-own sources old new same (now at c.index-sets-number.result low)) now;
      total = total-kept sets at old new is c.rest-effort.ensures.total ∙ i.total;
      rest = rest-step given sets at old new low is i.rest;
      at_rest = AllWithin-more_set sets at new low IsAtRest i.at_rest c.rest-effort.ensures.at_rest;
      counted = effort-count given at old c.loop-number.effort c.rest-effort.result sum there was i.counted c.rest-effort.ensures.counted refl;
      few = λ little. effort-step path given at old c.loop-number.effort c.rest-effort.result sum there was (i.few little) (c.rest-effort.ensures.few path (subst (IsLittleStepped path) (sym was) (little at old there))) refl;
    }

pub returns-clause-counted : goal.returns-clause-counted
returns-clause-counted c =
    let given = c.args.sets.now in
    let path = c.args.path.now in
    let sets = c.loop-number.sets in
    let i = c.loop-number.invariant in
    let least = subst (IsLeastFrom (IsBegunAt (set_heads given) path) c.loop-number.from) c.in_default.is (c.next_set.ensures.next (set_heads given) path c.requires.longest) in
    let size : length (set_heads given) ≡ length sets = omega (arith, same-length given sets i.heads, length-map given (λ (s : HeadSet). s.head)) in
    let none = none-left (set_heads given) path c.loop-number.from least in
    let end = rested-skip path given sets c.loop-number.from (length sets) c.loop-number.effort i i.within (omega arith) (λ k a l. none k a (omega (arith, l, size))) in
    subst (λ ss. Counts 0 (sum_by effort_of ss) c.loop-number.effort) (take_all (length sets) given (omega (arith, same-length given sets i.heads))) end.counted

pub returns-clause-few : goal.returns-clause-few
returns-clause-few c little =
    let given = c.args.sets.now in
    let path = c.args.path.now in
    let sets = c.loop-number.sets in
    let i = c.loop-number.invariant in
    let least = subst (IsLeastFrom (IsBegunAt (set_heads given) path) c.loop-number.from) c.in_default.is (c.next_set.ensures.next (set_heads given) path c.requires.longest) in
    let size : length (set_heads given) ≡ length sets = omega (arith, same-length given sets i.heads, length-map given (λ (s : HeadSet). s.head)) in
    let none = none-left (set_heads given) path c.loop-number.from least in
    let end = rested-skip path given sets c.loop-number.from (length sets) c.loop-number.effort i i.within (omega arith) (λ k a l. none k a (omega (arith, l, size))) in
    subst (λ ss. c.loop-number.effort ≤ sum_by (most_effort path) ss) (take_all (length sets) given (omega (arith, same-length given sets i.heads))) (end.few little)

pub returns-clause-at_rest : goal.returns-clause-at_rest
returns-clause-at_rest c =
    let given = c.args.sets.now in
    let path = c.args.path.now in
    let sets = c.loop-number.sets in
    let i = c.loop-number.invariant in
    let least = subst (IsLeastFrom (IsBegunAt (set_heads given) path) c.loop-number.from) c.in_default.is (c.next_set.ensures.next (set_heads given) path c.requires.longest) in
    let size : length (set_heads given) ≡ length sets = omega (arith, same-length given sets i.heads, length-map given (λ (s : HeadSet). s.head)) in
    let none = none-left (set_heads given) path c.loop-number.from least in
    let end = rested-skip path given sets c.loop-number.from (length sets) c.loop-number.effort i i.within (omega arith) (λ k a l. none k a (omega (arith, l, size))) in
    All-from_all_within IsAtRest sets end.at_rest
