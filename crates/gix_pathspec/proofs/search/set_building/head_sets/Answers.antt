-- Each source in turn: where it is the first of its group, the set of its head is made, if the head has one.
use Rattle.std.proofs.Common.{◌≡◌, ◌+◌, ◌<◌, ◌∙◌, refl, sym, ap, subst, arith, All, length, map, false, Some}
use Rattle.std.proofs.lemmas.List.{length-map}
use Rattle.std.proofs.lemmas.Option.{slice_get_read}
use Rattle.std.specs.List.{list_any}
use Rattle.gix_pathspec.specs.Bytes.{is_wildcard}
use Rattle.gix_pathspec.specs.HeadSets.{IsUnread}
use Rattle.gix_pathspec.specs.SetSources.{ended, ended_heads, SetSource}
use Rattle.gix_pathspec.proofs.SetBuildingProofs.{group-given, made-unread, sets-all, sets-step, text-there, with_made, AreSetsSoFar}
use Rattle.gix_pathspec.proofs.search.set_building.head_sets.Goals as goal
use Rattle.gix_pathspec.proofs.search.set_building.head_sets.Goals.{in-Some+in_ok-push, in_default}

pub group_from-requires-clause-text : goal.group_from-requires-clause-text
group_from-requires-clause-text c =
    let texts = c.in_ok-texts.texts.items in
    let sources = c.args.sources.now in
    let number = c.loop-number.number in
    let same : map (λ text. text.now) texts ≡ ended_heads sources = (rw c.deref.ensures.value at c.in_ok-texts.ensures) ∙ c.in_ok-owned.ensures in
    let low : number < length texts = omega (arith, c.loop-number-test.true, ap length same, length-map texts (λ text. text.now), length-map sources (λ (x : SetSource). ended x.head)) in
    (rw c.deref-in-loop-number.ensures.value (text-there texts number c.index-text.result.now low ∙ ap (λ t. Some t.now) (sym c.index-text.ensures)))

pub set_of_group-requires : goal.set_of_group-requires
set_of_group-requires c =
    let sources = c.args.sources.now in
    let number = c.loop-number.number in
    let source = c.index-sources-number.result in
    let is = c.index-sources-number.is in
    let low : number < length sources = c.loop-number-test.true in
    let at = slice_get_read sources (length sources) number source refl low is in
    let same = (rw c.deref.ensures.value at c.in_ok-texts.ensures) ∙ c.in_ok-owned.ensures in
    group-given sources number source (map (λ text. text.now) c.in_ok-texts.texts.items) same at (subst (λ (x : SetSource). list_any is_wildcard x.head ≡ false) (sym is) (c.requires.plain number source low)) c.head.result.now c.in_ok-group.group c.head.ensures
    (rw c.deref-in-loop-number.ensures.value at c.in_ok-group.ensures.found)

pub loop-number-preserved : goal.loop-number-preserved
loop-number-preserved c =
    let sources = c.args.sources.now in
    let number = c.loop-number.number in
    let sets = c.loop-number.sets.items in
    let source = c.index-sources-number.result in
    let is = c.index-sources-number.is in
    let low : number < length sources = c.loop-number-test.true in
    let at = slice_get_read sources (length sources) number source refl low is in
    let same = (rw c.deref.ensures.value at c.in_ok-texts.ensures) ∙ c.in_ok-owned.ensures in
    let step = sets-step sources number source (map (λ text. text.now) c.in_ok-texts.texts.items) same at (subst (λ (x : SetSource). list_any is_wildcard x.head ≡ false) (sym is) (c.requires.plain number source low)) c.head.result.now c.in_ok-group.group c.in_ok-set.set sets c.head.ensures
    (rw c.deref-in-loop-number.ensures.value at c.in_ok-group.ensures.found) (rw c.deref-in-loop-number.ensures.value at c.in_ok-group.ensures.none) c.in_ok-set.ensures.made c.in_ok-set.ensures.none c.loop-number.invariant.so_far in
    elim c.match-set.branch [
      | in-Some+in_ok-push w ↦
          let is = ap (with_made sets) w.in-Some.is ∙ sym w.in_ok-push.ensures.items ∙ ap (λ v. v.items) (sym w.sets-is) in
          record {
            so_far = subst (λ ss. AreSetsSoFar sources ss (number + 1)) is step;
            unread = subst (All IsUnread) is (made-unread sets c.in_ok-set.set c.loop-number.invariant.unread c.in_ok-set.ensures.unread);
          }
      | in_default w ↦
          let is = ap (with_made sets) w.in_default.is ∙ ap (λ v. v.items) (sym w.sets-is) in
          record {
            so_far = subst (λ ss. AreSetsSoFar sources ss (number + 1)) is step;
            unread = subst (All IsUnread) is (made-unread sets c.in_ok-set.set c.loop-number.invariant.unread c.in_ok-set.ensures.unread);
          }
    ]

pub returns-clause-own : goal.returns-clause-own
returns-clause-own c = sets-all c.args.sources.now c.loop-number.sets.items c.loop-number.number c.loop-number-test.false c.loop-number.invariant.so_far
