-- One set more is asked for its next place, and stays the same but for that.
use Rattle.std.proofs.Common.{◌≡◌, ◌+◌, ◌<◌, ◌≤◌, ◌∙◌, true, sym, ap, subst, arith, List, [], length, take, get_or}
use Rattle.std.specs.Prelude.{IfSome}
use Rattle.std.proofs.Math.Seq.{map-set_same}
use Rattle.std.proofs.lemmas.Bool.{both_ways}
use Rattle.std.proofs.lemmas.List.{length-map, length-set}
use Rattle.std.proofs.lemmas.List.Elements.{All-set}
use Rattle.pathspec_heads.specs.Groups.{earlier, IsLeastFrom}
use Rattle.gix_pathspec.specs.declared.by_head.head_set.HeadSet.{HeadSet}
use Rattle.gix_pathspec.specs.Bytes.{begins_with}
use Rattle.gix_pathspec.specs.HeadSets.{set_heads, IsBegunAt, IsGlobHit, IsHeadSetOf, IsIdleBeside, IsLittleStepped}
use Rattle.gix_pathspec.specs.SetSources.{is_of_heads}
use Rattle.gix_pathspec.specs.Sets.{IsNext}
use Rattle.gix_pathspec.proofs.BegunSetProofs.{head-there, next-skip, none-between, none-left, number-within}
use Rattle.gix_pathspec.proofs.HeadSetProofs.{keeps-own, little-stays}
use Rattle.gix_pathspec.proofs.HeadSetsProofs.{heads-kept, next-step, next-whole}
use Rattle.gix_pathspec.proofs.by_head.head_sets.next_of_sets.Goals as goal

pub bounds-sets-number : goal.bounds-sets-number
bounds-sets-number c =
    let given = c.args.sets.now in
    let there = subst (λ o. IfSome o (λ number. (c.loop-number.asked ≤ number) × (number < length (set_heads given)))) c.in-Some.is (c.next_set.ensures.within (set_heads given) c.requires.grouped) in
    number-within given c.loop-number.sets c.in-Some.number c.loop-number.invariant.heads there.1

pub offset_bounds-sets-number : goal.offset_bounds-sets-number
offset_bounds-sets-number c =
    let given = c.args.sets.now in
    let there = subst (λ o. IfSome o (λ number. (c.loop-number.asked ≤ number) × (number < length (set_heads given)))) c.in-Some.is (c.next_set.ensures.within (set_heads given) c.requires.grouped) in
    let low = number-within given c.loop-number.sets c.in-Some.number c.loop-number.invariant.heads there.1 in
    omega (arith, low)

pub overflow_add-asked : goal.overflow_add-asked
overflow_add-asked c =
    let given = c.args.sets.now in
    let there = subst (λ o. IfSome o (λ number. (c.loop-number.asked ≤ number) × (number < length (set_heads given)))) c.in-Some.is (c.next_set.ensures.within (set_heads given) c.requires.grouped) in
    let low = number-within given c.loop-number.sets c.in-Some.number c.loop-number.invariant.heads there.1 in
    omega (arith, low)

pub loop-number-smaller : goal.loop-number-smaller
loop-number-smaller c =
    let given = c.args.sets.now in
    let there = subst (λ o. IfSome o (λ number. (c.loop-number.asked ≤ number) × (number < length (set_heads given)))) c.in-Some.is (c.next_set.ensures.within (set_heads given) c.requires.grouped) in
    let low = number-within given c.loop-number.sets c.in-Some.number c.loop-number.invariant.heads there.1 in
    omega (arith, low, there.0, length-set c.loop-number.sets c.in-Some.number c.next_place.new.self)

pub loop-number-preserved : goal.loop-number-preserved
loop-number-preserved c =
    let given = c.args.sets.now in
    let sets = c.loop-number.sets in
    let at = c.in-Some.number in
    let i = c.loop-number.invariant in
    let there = subst (λ o. IfSome o (λ number. (c.loop-number.asked ≤ number) × (number < length (set_heads given)))) c.in-Some.is (c.next_set.ensures.within (set_heads given) c.requires.grouped) in
    let low = number-within given sets at i.heads there.1 in
    let old = get_or sets at c.index-sets-number.result in
    let is : old ≡ get_or sets at old = ap (λ d. get_or sets at d) c.index-sets-number.is in
    let new = c.next_place.new.self in
    let stays = c.next_place.ensures.stays in
    record {
      within = omega (arith, low, length-set sets at new);
      heads = heads-kept sets at old new is stays.head ∙ i.heads;
      begun = map-set_same (λ (s : HeadSet). s.begun) sets at new old (stays.begun ∙ ap (λ (s : HeadSet). s.begun) is) ∙ i.begun;
      own = λ sources all.
          let now = i.own sources all in
          All-set (IsHeadSetOf sources) sets at new (keeps-own sources old new stays (now at c.index-sets-number.result low)) now;
      few = λ path all.
          let now = i.few path all in
          All-set (IsLittleStepped path) sets at new (little-stays path old new stays (now at c.index-sets-number.result low)) now;
      idle = λ path longest all.
          let least = subst (IsLeastFrom (IsBegunAt (set_heads given) path) c.loop-number.asked) c.in-Some.is (c.next_set.ensures.next (set_heads given) path longest) in
          let on : begins_with path old.head ≡ true = ap (begins_with path) (sym (head-there sets at c.index-sets-number.result low) ∙ ap (λ hs. get_or hs at []) i.heads) ∙ least.found.1.1 in
          All-set (IsIdleBeside path) sets at new (λ off. absurd (both_ways (begins_with path old.head) (sym (ap (begins_with path) stays.head) ∙ off) on)) (i.idle path longest all);
      next = λ specs path table is_dir longest bytes same none all.
          let least = subst (IsLeastFrom (IsBegunAt (set_heads given) path) c.loop-number.asked) c.in-Some.is (c.next_set.ensures.next (set_heads given) path longest) in
          let now = i.next specs path table is_dir longest bytes same none all in
          let skipped = next-skip specs path c.args.from (set_heads given) c.loop-number.asked at c.loop-number.next there.0 (omega (arith, there.1)) (none-between (set_heads given) path c.loop-number.asked at least) now.0 in
          let its = now.1 at c.index-sets-number.result low in
          let r = c.next_place.ensures.next specs path table is_dir bytes same none its in
          let s = next-step specs path c.args.from given sets at old new c.loop-number.next c.next_place.result low is i.heads skipped now.1 now.2 r.0 r.1 r.2 in
          let e : c.earlier-next.result ≡ earlier c.loop-number.next c.next_place.result = c.earlier-next.ensures in
          (subst (IsNext (is_of_heads (take (at + 1) (set_heads given))) specs path c.args.from) (sym e) s.0, s.1, subst (λ found. IfSome found (IsGlobHit specs path)) (sym e) s.2);
    }

pub returns-clause-next : goal.returns-clause-next
returns-clause-next c specs path table is_dir longest bytes same none all =
    let given = c.args.sets.now in
    let sets = c.loop-number.sets in
    let i = c.loop-number.invariant in
    let now = i.next specs path table is_dir longest bytes same none all in
    let least = subst (IsLeastFrom (IsBegunAt (set_heads given) path) c.loop-number.asked) c.in_default.is (c.next_set.ensures.next (set_heads given) path longest) in
    let count = ap (λ (hs : List (List _)). length hs) i.heads in
    let low : c.loop-number.asked ≤ length (set_heads given) = omega (arith, i.within, count, length-map sets (λ (s : HeadSet). s.head)) in
    let skipped = next-skip specs path c.args.from (set_heads given) c.loop-number.asked (length (set_heads given)) c.loop-number.next low (omega arith) (none-left (set_heads given) path c.loop-number.asked least) now.0 in
    (next-whole specs path c.args.from (set_heads given) (length (set_heads given)) c.loop-number.next (omega arith) skipped, now.1, now.2)
