-- The last open directory is closed where it ends before the next entry.
use Rattle.std.proofs.Common.{◌≡◌, ◌∙◌, ◌-◌, refl, sym, ap, subst, rules, List, ℕ, length, take, vec_len, arith}
use Rattle.std.specs.Prelude.{slice_get, Some}
use Rattle.pathspec_parts.specs.Trees.{TreeContents, tree_after}
use Rattle.pathspec_parts.specs.Entries.Call.{Close}
use Rattle.pathspec_select.specs.TreeCopies.{TakesNextAbove}
use Rattle.pathspec_select.proofs.TreeCopyProofs.{next-above, last-before, ended, still-open, takes-next, above-closed, closes}
use Rattle.pathspec_select.proofs.listing.copy.close_ended.Goals as goal

pub loop-last-init : goal.loop-last-init
loop-last-init c =
    let es = c.args.outline.now.tree.entries in
    let within = c.requires.within in
    let number = c.requires.number in
    record { course = next-above es c.args.tree.now c.args.opened.now.items c.requires.copy (omega (arith, within, number)); entries = refl }

pub end_of-requires : goal.end_of-requires
end_of-requires c =
    let es = c.args.outline.now.tree.entries in
    let opened = c.loop-last.opened.items in
    let last : slice_get opened (length opened - 1) ≡ Some c.in-Some.last.now = ap (λ (t : List ℕ). slice_get t (length t - 1)) (sym c.deref.ensures.value) ∙ sym c.in-Some.ensures.value in
    let before = last-before es c.loop-last.tree opened c.loop-last.invariant.course c.in-Some.last.now last in
    let count = ap length c.loop-last.invariant.entries in
    let within = c.requires.within in
    let number = c.requires.number in
    omega (arith, before, count, within, number)

pub returns-then-end_of-number-clause-next : goal.returns-then-end_of-number-clause-next
returns-then-end_of-number-clause-next c =
    let es = c.args.outline.now.tree.entries in
    let opened = c.loop-last.opened.items in
    let last : slice_get opened (length opened - 1) ≡ Some c.in-Some.last.now = ap (λ (t : List ℕ). slice_get t (length t - 1)) (sym c.deref.ensures.value) ∙ sym c.in-Some.ensures.value in
    let count = ap length c.loop-last.invariant.entries in
    let number = c.requires.number in
    let behind = c.if-end_of-number.true in
    takes-next es c.loop-last.tree opened c.loop-last.invariant.course (still-open es c.loop-last.tree opened c.loop-last.invariant.course c.in-Some.last.now c.end_of.result last c.end_of.ensures (omega (arith, count, number, behind)))

pub loop-last-preserved : goal.loop-last-preserved
loop-last-preserved c =
    let es = c.args.outline.now.tree.entries in
    let opened = c.loop-last.opened.items in
    let tree = c.loop-last.tree in
    let last : slice_get opened (length opened - 1) ≡ Some c.in-Some.last.now = ap (λ (t : List ℕ). slice_get t (length t - 1)) (sym c.deref.ensures.value) ∙ sym c.in-Some.ensures.value in
    let count = ap length c.loop-last.invariant.entries in
    let number = c.requires.number in
    let before = c.if-end_of-number.false in
    let closed : c.close.new.self ≡ tree_after tree Close = closes tree c.close.new.self c.close.result c.close.ensures.ok c.close.ensures.err c.close.ensures.refused in
    let all : vec_len c.loop-last.opened ≡ length opened = search rules in
    let fewer : c.pop.new.self.items ≡ take (length opened - 1) opened = c.pop.ensures.rest ∙ ap (λ k. take (k - 1) opened) all in
    let shorter = ended es tree opened c.loop-last.invariant.course c.in-Some.last.now c.end_of.result last c.end_of.ensures (omega (arith, count, number, before)) in
    record {
      course = subst (λ (t : TreeContents). TakesNextAbove es t c.pop.new.self.items) (sym closed) (above-closed es tree opened c.loop-last.invariant.course c.pop.new.self.items shorter fewer);
      entries = ap (λ (t : TreeContents). t.entries) closed ∙ c.loop-last.invariant.entries;
    }
