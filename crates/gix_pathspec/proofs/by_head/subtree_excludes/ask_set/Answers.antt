-- The set in the scratch is that of the excludes, and its steps and looks are the scratch's.
use Rattle.std.proofs.Common.{◌≡◌, ◌+◌, ◌*◌, ◌||◌, Bool, true, false, refl, sym, ◌∙◌, ap, subst, List, length}
use Rattle.std.specs.Option.{ForSome}
use Rattle.pathspec_glob.specs.Counts.{Counts}
use Rattle.gix_pathspec.specs.Members.{IsScratchOf}
use Rattle.gix_pathspec.specs.Room.{MemberSource, ScratchContents}
use Rattle.gix_pathspec.specs.SetCounts.{set_total, sets_total, GrowsBy}
use Rattle.gix_pathspec.specs.Sets.{places_of, IsSetMade}
use Rattle.gix_pathspec.proofs.SetCountsProofs.{counts-behind}
use Rattle.gix_pathspec.proofs.by_head.subtree_excludes.ask_set.Goals as goal

pub returns-clause-answer : goal.returns-clause-answer
returns-clause-answer c excludes is bytes =
    let seen = ap (λ (s : ScratchContents). s.room.excludes) c.scratch.view_is in
    c.told_by_set-told.ensures.answer excludes
    (subst (λ (sources : List MemberSource). ForSome c.scratch.inside.exclude_set (IsScratchOf sources)) (seen ∙ is) c.scratch.invariant.of_excludes.own) bytes

pub returns-clause-counted : goal.returns-clause-counted
returns-clause-counted c =
    let seen = ap (λ (s : ScratchContents). s.room.excludes) c.scratch.view_is in
    let sources = c.args.scratch.now.room.excludes in
    let old = c.scratch.inside.exclude_set in
    let new = c.told_by_set-told.new.set in
    let own = subst (λ (xs : List MemberSource). ForSome old (IsScratchOf xs)) seen c.scratch.invariant.of_excludes.own in
    let begun : sets_total c.scratch.inside.stepped old ≡ c.args.scratch.now.counts.stepped = ap (λ (s : ScratchContents). s.counts.stepped) c.scratch.view_is in
    let counted = subst (λ k. Counts k c.growth-scratch-inside.result (set_total new)) c.set_total-before.ensures (subst (Counts c.set_total-before.result c.growth-scratch-inside.result) c.set_total.ensures c.growth-scratch-inside.ensures.counted) in
    let most = (length c.args.directory.now + 1) * (places_of sources + 2) + length sources in
    record {
      stepped = subst (λ k. Counts k c.growth-scratch-inside.result (sets_total c.scratch.inside.stepped new)) begun
          (counts-behind (set_total old) c.growth-scratch-inside.result (set_total new) c.scratch.inside.stepped counted);
      few_stepped = c.growth-scratch-inside.ensures.few most (subst (λ k. GrowsBy most k c.set_total.result) (sym c.set_total-before.ensures) (subst (GrowsBy most (set_total old)) (sym c.set_total.ensures) (c.told_by_set-told.ensures.few sources own)));
    }

neither : (a b : Bool) → (a || b) ≡ false → a ≡ false
neither true b h = h
neither false b h = refl

pub returns-clause-told : goal.returns-clause-told
returns-clause-told c some made plain went_on =
    let seen = ap (λ (s : ScratchContents). s.room.excludes) c.scratch.view_is in
    c.told_by_set-told.ensures.told some (c.scratch.invariant.of_excludes.made (subst (λ (xs : List MemberSource). IsSetMade xs) (sym seen) made)) plain (neither _ _ went_on)
