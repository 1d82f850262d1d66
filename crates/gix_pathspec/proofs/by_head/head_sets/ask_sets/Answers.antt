-- One set more is asked, and those between rest.
use Rattle.std.proofs.Common.{◌≡◌, ◌<◌, ◌∙◌, true, false, inl, inr, sym, ap, subst, arith, [], length, get_or}
use Rattle.std.proofs.lemmas.Bool.{both_ways, cases_Bool}
use Rattle.std.proofs.lemmas.List.{length-map, length-set}
use Rattle.std.proofs.lemmas.List.Elements.{All-from_all_within, All-set, AllWithin-more_set}
use Rattle.pathspec_heads.specs.Groups.{IsLeastFrom}
use Rattle.gix_pathspec.specs.declared.by_head.head_set.HeadSet.{HeadSet}
use Rattle.gix_pathspec.specs.Bytes.{begins_with}
use Rattle.gix_pathspec.specs.HeadSets.{set_heads, IsAtRest, IsBegunAt, IsHeadSetOf, IsIdleBeside, IsLittleStepped, IsNextOf}
use Rattle.gix_pathspec.specs.SetSources.{all_sources}
use Rattle.gix_pathspec.proofs.BegunSetProofs.{asked-skip, head-there, none-between, none-left, number-within, same-length}
use Rattle.gix_pathspec.proofs.HeadCountsProofs.{begin-step, rest-step, sums-begin}
use Rattle.gix_pathspec.proofs.HeadSetProofs.{same-own}
use Rattle.gix_pathspec.proofs.HeadSetsProofs.{barred-at, heads-kept, slice-set_other, slice-set_same, unbarred-more}
use Rattle.gix_pathspec.proofs.by_head.head_sets.ask_sets.Goals as goal
use Rattle.gix_pathspec.proofs.by_head.head_sets.ask_sets.Goals.{then-not-ask, else-not-ask}

pub bounds-sets-number : goal.bounds-sets-number
bounds-sets-number c =
    let given = c.args.sets.now in
    let least = subst (IsLeastFrom (IsBegunAt (set_heads given) c.args.path.now) c.loop-number.from) c.in-Some.is (c.next_set.ensures.next (set_heads given) c.args.path.now c.requires.longest) in
    number-within given c.loop-number.sets c.in-Some.number c.loop-number.invariant.heads least.found.1.0

pub offset_bounds-sets-number : goal.offset_bounds-sets-number
offset_bounds-sets-number c =
    let given = c.args.sets.now in
    let least = subst (IsLeastFrom (IsBegunAt (set_heads given) c.args.path.now) c.loop-number.from) c.in-Some.is (c.next_set.ensures.next (set_heads given) c.args.path.now c.requires.longest) in
    let low = number-within given c.loop-number.sets c.in-Some.number c.loop-number.invariant.heads least.found.1.0 in
    omega (arith, low)

pub ask-requires-clause-begins : goal.ask-requires-clause-begins
ask-requires-clause-begins c =
    let given = c.args.sets.now in
    let sets = c.loop-number.sets in
    let i = c.loop-number.invariant in
    let least = subst (IsLeastFrom (IsBegunAt (set_heads given) c.args.path.now) c.loop-number.from) c.in-Some.is (c.next_set.ensures.next (set_heads given) c.args.path.now c.requires.longest) in
    let low = number-within given sets c.in-Some.number i.heads least.found.1.0 in
    ap (begins_with c.args.path.now) (sym (head-there sets c.in-Some.number c.index-sets-number.result low) ∙ ap (λ hs. get_or hs c.in-Some.number []) i.heads) ∙ least.found.1.1

pub ask-requires-clause-at_rest : goal.ask-requires-clause-at_rest
ask-requires-clause-at_rest c =
    let given = c.args.sets.now in
    let i = c.loop-number.invariant in
    let least = subst (IsLeastFrom (IsBegunAt (set_heads given) c.args.path.now) c.loop-number.from) c.in-Some.is (c.next_set.ensures.next (set_heads given) c.args.path.now c.requires.longest) in
    let low : c.in-Some.number < length given = omega (arith, least.found.1.0, length-map given (λ (s : HeadSet). s.head)) in
    subst IsAtRest (sym (i.rest c.in-Some.number c.index-sets-number.result least.found.0)) (c.requires.at_rest c.in-Some.number c.index-sets-number.result low)

pub overflow_add-from : goal.overflow_add-from
overflow_add-from c =
    let given = c.args.sets.now in
    let least = subst (IsLeastFrom (IsBegunAt (set_heads given) c.args.path.now) c.loop-number.from) c.in-Some.is (c.next_set.ensures.next (set_heads given) c.args.path.now c.requires.longest) in
    let low = number-within given c.loop-number.sets c.in-Some.number c.loop-number.invariant.heads least.found.1.0 in
    omega (arith, low)

pub loop-number-smaller : goal.loop-number-smaller
loop-number-smaller c =
    let given = c.args.sets.now in
    let least = subst (IsLeastFrom (IsBegunAt (set_heads given) c.args.path.now) c.loop-number.from) c.in-Some.is (c.next_set.ensures.next (set_heads given) c.args.path.now c.requires.longest) in
    let low = number-within given c.loop-number.sets c.in-Some.number c.loop-number.invariant.heads least.found.1.0 in
    omega (arith, low, least.found.0, length-set c.loop-number.sets c.in-Some.number c.ask.new.self)

pub loop-number-preserved : goal.loop-number-preserved
loop-number-preserved c =
    let given = c.args.sets.now in
    let path = c.args.path.now in
    let sets = c.loop-number.sets in
    let at = c.in-Some.number in
    let least = subst (IsLeastFrom (IsBegunAt (set_heads given) path) c.loop-number.from) c.in-Some.is (c.next_set.ensures.next (set_heads given) path c.requires.longest) in
    let low = number-within given sets at c.loop-number.invariant.heads least.found.1.0 in
    let i = asked-skip path given sets c.loop-number.from at c.loop-number.tells c.loop-number.gave_up c.loop-number.invariant least.found.0 (omega (arith, low)) (none-between (set_heads given) path c.loop-number.from at least) in
    let old = get_or sets at c.index-sets-number.result in
    let is : old ≡ get_or sets at old = ap (λ d. get_or sets at d) c.index-sets-number.is in
    let new = c.ask.new.self in
    let same = c.ask.ensures.same in
    let on : begins_with path old.head ≡ true = ap (begins_with path) (sym (head-there sets at c.index-sets-number.result low) ∙ ap (λ hs. get_or hs at []) i.heads) ∙ least.found.1.1 in
    let idle = λ (off : begins_with path new.head ≡ false). absurd (both_ways (begins_with path old.head) (sym (ap (begins_with path) same.head) ∙ off) on) in
    elim c.if-not-ask.branch [
      | then-not-ask w ↦
          record {
            within = omega (arith, low, length-set sets at new);
            at_rest = i.at_rest;
            heads = heads-kept sets at old new is same.head ∙ i.heads;
            own = λ sources all.
                let now = i.own sources all in
                All-set (IsHeadSetOf sources) sets at new (same-own sources old new same (now at c.index-sets-number.result low)) now;
            few = All-set (IsLittleStepped path) sets at new c.ask.ensures.few i.few;
            idle = All-set (IsIdleBeside path) sets at new idle i.idle;
            begun = begin-step given sets at old new low is i.begun i.rest c.ask.ensures.begun;
            rest = rest-step given sets at old new low is i.rest;
            unbarred = λ tells. absurd (both_ways c.if-not-ask.tells w.tells-is tells);
            told = λ barred up. absurd (both_ways c.ask.result w.if-not-ask.true (c.ask.ensures.told (barred-at path given sets at old barred i.heads low is on) up));
            next = λ specs own bytes tells. absurd (both_ways c.if-not-ask.tells w.tells-is tells);
            gave_up = λ up. (
              w.tells-is,
              elim (c.ask.ensures.gave_up up) [
                | inl was ↦ let r = (i.gave_up was).1 in (r.0, r.1, omega (arith, r.2), slice-set_other sets at new r.0 r.1 r.2 r.3, r.4)
                | inr now ↦ (at, new, omega arith, slice-set_same sets at new low, now.1)
              ],
            );
          }
      | else-not-ask w ↦
          record {
            within = omega (arith, low, length-set sets at new);
            at_rest = i.at_rest;
            heads = heads-kept sets at old new is same.head ∙ i.heads;
            own = λ sources all.
                let now = i.own sources all in
                All-set (IsHeadSetOf sources) sets at new (same-own sources old new same (now at c.index-sets-number.result low)) now;
            few = All-set (IsLittleStepped path) sets at new c.ask.ensures.few i.few;
            idle = All-set (IsIdleBeside path) sets at new idle i.idle;
            begun = begin-step given sets at old new low is i.begun i.rest c.ask.ensures.begun;
            rest = rest-step given sets at old new low is i.rest;
            unbarred = λ tells. unbarred-more path given sets at old i.heads low is (i.unbarred (sym w.tells-is ∙ tells)) (λ _. c.ask.ensures.unbarred w.if-not-ask.false);
            told = λ barred up. w.tells-is ∙ i.told barred (elim (cases_Bool c.loop-number.gave_up) [
              | inl was ↦ absurd (both_ways c.ask.new.gave_up up (c.ask.ensures.goes_on was))
              | inr not ↦ not
            ]);
            next = λ specs own bytes tells.
                let its = i.own (all_sources specs) own at c.index-sets-number.result low in
                AllWithin-more_set sets at new low (IsNextOf specs path 0) (i.next specs own bytes (sym w.tells-is ∙ tells)) (c.ask.ensures.next specs its bytes w.if-not-ask.false);
            gave_up = λ up. elim (c.ask.ensures.gave_up up) [
              | inl was ↦ let g = i.gave_up was in let r = g.1 in (w.tells-is ∙ g.0, (r.0, r.1, omega (arith, r.2), slice-set_other sets at new r.0 r.1 r.2 r.3, r.4))
              | inr now ↦ absurd (both_ways c.ask.result now.0 w.if-not-ask.false)
            ];
          }
    ]

pub returns-clause-unbarred : goal.returns-clause-unbarred
returns-clause-unbarred c tells k d l =
    let given = c.args.sets.now in
    let path = c.args.path.now in
    let sets = c.loop-number.sets in
    let i = c.loop-number.invariant in
    let least = subst (IsLeastFrom (IsBegunAt (set_heads given) path) c.loop-number.from) c.in_default.is (c.next_set.ensures.next (set_heads given) path c.requires.longest) in
    let size : length (set_heads given) ≡ length sets = omega (arith, same-length given sets i.heads, length-map given (λ (s : HeadSet). s.head)) in
    let none = none-left (set_heads given) path c.loop-number.from least in
    let end = asked-skip path given sets c.loop-number.from (length sets) c.loop-number.tells c.loop-number.gave_up i i.within (omega arith) (λ k a l. none k a (omega (arith, l, size))) in
    end.unbarred tells k d (omega (arith, l, size))

pub returns-clause-next : goal.returns-clause-next
returns-clause-next c specs own bytes tells =
    let given = c.args.sets.now in
    let path = c.args.path.now in
    let sets = c.loop-number.sets in
    let i = c.loop-number.invariant in
    let least = subst (IsLeastFrom (IsBegunAt (set_heads given) path) c.loop-number.from) c.in_default.is (c.next_set.ensures.next (set_heads given) path c.requires.longest) in
    let size : length (set_heads given) ≡ length sets = omega (arith, same-length given sets i.heads, length-map given (λ (s : HeadSet). s.head)) in
    let none = none-left (set_heads given) path c.loop-number.from least in
    let end = asked-skip path given sets c.loop-number.from (length sets) c.loop-number.tells c.loop-number.gave_up i i.within (omega arith) (λ k a l. none k a (omega (arith, l, size))) in
    All-from_all_within (IsNextOf specs path 0) sets (end.next specs own bytes tells)

pub returns-clause-begun : goal.returns-clause-begun
returns-clause-begun c =
    let given = c.args.sets.now in
    let path = c.args.path.now in
    let sets = c.loop-number.sets in
    let i = c.loop-number.invariant in
    let least = subst (IsLeastFrom (IsBegunAt (set_heads given) path) c.loop-number.from) c.in_default.is (c.next_set.ensures.next (set_heads given) path c.requires.longest) in
    let size : length (set_heads given) ≡ length sets = omega (arith, same-length given sets i.heads, length-map given (λ (s : HeadSet). s.head)) in
    let none = none-left (set_heads given) path c.loop-number.from least in
    let end = asked-skip path given sets c.loop-number.from (length sets) c.loop-number.tells c.loop-number.gave_up i i.within (omega arith) (λ k a l. none k a (omega (arith, l, size))) in
    sums-begin given sets (sym (same-length given sets i.heads)) end.begun

pub returns-clause-gave_up : goal.returns-clause-gave_up
returns-clause-gave_up c up = let r = c.loop-number.invariant.gave_up up in (r.0, (r.1.0, r.1.1, r.1.3, r.1.4))
