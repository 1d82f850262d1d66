-- What is known of the next member stays known as members are passed.
use Rattle.std.proofs.Common.{refl, subst}
use Rattle.gix_pathspec.specs.Sets.{IsNext}
use Rattle.gix_pathspec.specs.SetSources.{is_of_head}
use Rattle.gix_pathspec.proofs.HeadSetProofs.{found-place, place-known, stays-trans}
use Rattle.gix_pathspec.proofs.by_head.head_set.HeadSet.next_place.Goals as goal

pub loop-self-preserved : goal.loop-self-preserved
loop-self-preserved c = record {
  stays = stays-trans c.args.self.now c.loop-self.self c.pass.new.self c.loop-self.invariant.stays c.pass.ensures.stays;
  next = λ specs path table is_dir bytes same none next.
      let now = c.loop-self.invariant.next specs path table is_dir bytes same none next in
      c.pass.ensures.next specs path table is_dir c.args.from bytes none (c.loop-self-test.ensures.passed specs refl now.are same) now;
}

pub returns-clause-next : goal.returns-clause-next
returns-clause-next c specs path table is_dir bytes same none next =
    let now = c.loop-self.invariant.next specs path table is_dir bytes same none next in
    let set = c.loop-self.self in
    let known = place-known specs c.args.places.now set c.place.result now.are same c.place.ensures in
    let r = found-place specs path c.args.from set c.place.result now known (λ l. c.loop-self-test.ensures.behind specs refl now.are same l) in
    (subst (λ h. IsNext (is_of_head h) specs path c.args.from c.place.result) c.loop-self.invariant.stays.head r.0, now, r.1)
