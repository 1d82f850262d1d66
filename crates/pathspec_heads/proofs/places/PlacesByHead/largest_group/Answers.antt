-- One group more is compared with the largest so far.
use Rattle.std.proofs.Common.{◌≡◌, ◌-◌, ◌≤◌, ◌∙◌, inl, inr, ap, arith, max}
use Rattle.std.proofs.lemmas.Bool.{cases_lt}
use Rattle.std.proofs.lemmas.List.{get_or_default}
use Rattle.std.proofs.Math.Nat.{le-max_left, le-max_right, max-eq_left, max-eq_right}
use Rattle.pathspec_heads.specs.Groups.{end_of, group_size, start_of, GroupedPlaces}
use Rattle.pathspec_heads.proofs.places.PlacesByHead.largest_group.Goals as goal

pub loop-head-preserved : goal.loop-head-preserved
loop-head-preserved c =
    let starts = c.args.self.now.starts in
    let order = c.args.self.now.order in
    let head = c.loop-head.head in
    let begins : c.index.result.now ≡ start_of starts head = c.index.ensures ∙ get_or_default c.self.inside.starts.items head c.index.result.now 0 (omega (arith, c.loop-head-test.true, c.loop-head.auto.head-end, c.len-head-end.ensures.count, c.self.invariant.grouped.all))
    ∙ ap (λ (v : GroupedPlaces). start_of v.starts head) c.self.view_is in
    let size : c.end_of.result - c.index.result.now ≡ group_size starts order head = ap (λ e. e - c.index.result.now) c.end_of.ensures ∙ ap (λ s. end_of starts order head - s) begins in
    let own = c.end_of.result - c.index.result.now in
    let largest = c.loop-head.largest in
    let before = le-max_right own largest in
    let here = le-max_left own largest in
    let is = c.max-largest.ensures in
    record {
      all = λ k l. elim (cases_lt k head) [
        | inl less ↦ omega (arith, c.loop-head.invariant.all k less, before, is)
        | inr g ↦
            let e : k ≡ head = omega (arith, l, g) in
            omega (arith, ap (group_size starts order) e, size, here, is)
      ];
      some = λ any. elim (cases_lt largest own) [
        | inl less ↦
            let low : largest ≤ own = omega (arith, less) in
            let same : max own largest ≡ own = max-eq_left low in
            (head, omega arith, omega (arith, size, is, same))
        | inr g ↦
            let same : max own largest ≡ largest = max-eq_right g in
            let r = c.loop-head.invariant.some (omega (arith, any, is, same)) in
            (r.0, omega (arith, r.1), omega (arith, r.2, is, same))
      ];
    }
