-- The next place of the group is added, or none is left.
use Rattle.std.proofs.Common.{[], ◌∷◌, ◌++◌, sym, ◌∙◌, ap, subst, arith, map}
use Rattle.std.proofs.lemmas.List.{length-map}
use Rattle.pathspec_heads.specs.Groups.{IsLeastFrom}
use Rattle.pathspec_heads.proofs.CandidateProofs.{candidates-next, IsCandidate}
use Rattle.gix_pathspec.specs.Bytes.{begins_with}
use Rattle.gix_pathspec.specs.SetSources.{positions_from}
use Rattle.gix_pathspec.proofs.HeadGroupProofs.{all-taken, no-place-left, place-found}
use Rattle.gix_pathspec.proofs.search.set_building.numbers_of.Goals as goal

pub returns-in_default : goal.returns-in_default
returns-in_default c =
    let texts = map (λ text. text.now) c.args.texts.now in
    let groups = c.args.groups.now in
    let least = candidates-next texts groups.heads groups.starts groups.order c.requires.grouped c.args.text.now c.args.group c.loop-from.from c.next_place.result c.requires.chain c.next_place.ensures in
    c.loop-from.invariant.so_far ∙ no-place-left texts c.args.text.now c.loop-from.from (subst (IsLeastFrom (IsCandidate texts c.args.text.now) c.loop-from.from) c.in_default.is least) (omega (arith, c.loop-from.invariant.within, length-map c.args.texts.now (λ text. text.now)))

pub returns : goal.returns
returns c =
    let texts = map (λ text. text.now) c.args.texts.now in
    c.loop-from.invariant.so_far ∙ ap (positions_from (begins_with c.args.text.now) 0) (all-taken texts c.loop-from.from (omega (arith, c.loop-from-test.false, length-map c.args.texts.now (λ text. text.now))))

pub overflow_add-from : goal.overflow_add-from
overflow_add-from c =
    let texts = map (λ text. text.now) c.args.texts.now in
    let groups = c.args.groups.now in
    let least = candidates-next texts groups.heads groups.starts groups.order c.requires.grouped c.args.text.now c.args.group c.loop-from.from c.next_place.result c.requires.chain c.next_place.ensures in
    let found = subst (IsLeastFrom (IsCandidate texts c.args.text.now) c.loop-from.from) c.in-Some.is least in
    omega (arith, found.found.1.0, length-map c.args.texts.now (λ text. text.now))

pub loop-from-preserved : goal.loop-from-preserved
loop-from-preserved c =
    let texts = map (λ text. text.now) c.args.texts.now in
    let groups = c.args.groups.now in
    let least = candidates-next texts groups.heads groups.starts groups.order c.requires.grouped c.args.text.now c.args.group c.loop-from.from c.next_place.result c.requires.chain c.next_place.ensures in
    let found = subst (IsLeastFrom (IsCandidate texts c.args.text.now) c.loop-from.from) c.in-Some.is least in
    record {
      within = omega (arith, found.found.1.0, length-map c.args.texts.now (λ text. text.now));
      so_far = c.in_ok-push.ensures.items ∙ ap (λ ns. ns ++ c.in-Some.number ∷ []) c.loop-from.invariant.so_far ∙ sym (place-found texts c.args.text.now c.loop-from.from c.in-Some.number found);
    }
