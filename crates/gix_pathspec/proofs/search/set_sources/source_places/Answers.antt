-- A spec with a source gives its place, and another spec gives none.
use Rattle.std.proofs.Common.{◌∙◌, refl, true, false, append-nil}
use Rattle.gix_pathspec.proofs.SourceSteps.{places-step}
use Rattle.gix_pathspec.proofs.search.set_sources.source_places.Goals as goal
use Rattle.gix_pathspec.proofs.search.set_sources.source_places.Goals.{then-has_headed_member+in_ok-push, else-has_headed_member}

pub loop-place-preserved : goal.loop-place-preserved
loop-place-preserved c =
    elim c.if-has_headed_member.branch [
      | then-has_headed_member+in_ok-push w ↦
          let more = places-step c.args.specs.now c.loop-place.place c.index-specs-place.result c.loop-place-test.true c.index-specs-place.is true w.if-has_headed_member.ensures in
          rw w.places-is (w.in_ok-push.ensures.items ∙ rw (more, c.loop-place.invariant) refl)
      | else-has_headed_member w ↦
          let more = places-step c.args.specs.now c.loop-place.place c.index-specs-place.result c.loop-place-test.true c.index-specs-place.is false w.if-has_headed_member.ensures in
          rw w.places-is (rw (more, append-nil, c.loop-place.invariant) refl)
    ]
