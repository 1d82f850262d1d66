-- A spec with a source gives it, and another spec gives none.
use Rattle.std.proofs.Common.{◌∙◌, refl, append-nil}
use Rattle.gix_pathspec.specs.SetSources.{set_source_of}
use Rattle.gix_pathspec.proofs.SourceSteps.{given-step}
use Rattle.gix_pathspec.proofs.search.set_sources.headed_members.Goals as goal
use Rattle.gix_pathspec.proofs.search.set_sources.headed_members.Goals.{in-Some+in_ok-push, in_default}

pub loop-spec-preserved : goal.loop-spec-preserved
loop-spec-preserved c =
    let more = given-step set_source_of c.args.specs.now c.loop-spec.spec-index c.spec-item.result c.loop-spec-test.true c.spec-item.is c.in_ok-source.field-0 c.in_ok-source.ensures in
    elim c.match-branch-2.branch [
      | in-Some+in_ok-push w ↦ rw w.sources-is (w.in_ok-push.ensures.items ∙ rw (more, w.in-Some.is, c.loop-spec.invariant) refl)
      | in_default w ↦ rw w.sources-is (rw (more, w.in_default.is, append-nil, c.loop-spec.invariant) refl)
    ]
