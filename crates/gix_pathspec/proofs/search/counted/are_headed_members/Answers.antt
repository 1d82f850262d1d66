-- The source at a rank is that of the next member, or there are none of the specs' set.
use Rattle.std.proofs.Common.{◌≡◌, ◌<◌, ◌∙◌, refl, sym, ap, arith, true, false, length}
use Rattle.std.proofs.lemmas.Bool.{ltb-true, ltb-false}
use Rattle.std.proofs.lemmas.Option.{slice_get_read, slice_get_within}
use Rattle.std.specs.Prelude.{is_some}
use Rattle.gix_pathspec.specs.SetSources.{set_source_of}
use Rattle.gix_pathspec.proofs.SourceSteps.{given-next, some-given, taken-past, taken-step}
use Rattle.gix_pathspec.proofs.search.counted.are_headed_members.Goals as goal
use Rattle.gix_pathspec.proofs.search.counted.are_headed_members.Goals.{then-has_headed_member+in-Some, else-has_headed_member}

pub returns-in_default : goal.returns-in_default
returns-in_default c = (
  λ t. let no : false ≡ true = t in cc,
  λ all.
      let low : c.loop-spec.rank < length c.args.sources.now = ltb-true _ _ (sym c.in-Some.ensures.lookup.0) in
      let there = slice_get_read c.args.sources.now (length c.args.sources.now) c.loop-spec.rank c.in-Some.source.now refl low c.in-Some.ensures.lookup.1 in
      let next = given-next set_source_of c.args.specs.now c.args.sources.now c.loop-spec.spec-index c.loop-spec.rank c.spec-item.result c.loop-spec-test.true c.spec-item.is c.loop-spec.invariant.rank c.loop-spec.invariant.so_far c.if-has_headed_member.ensures all in
      sym c.if-has_this_source.false ∙ c.has_this_source.ensures.1 (sym next ∙ there),
)

pub returns-in_default-2 : goal.returns-in_default-2
returns-in_default-2 c = (
  λ t. let no : false ≡ true = t in cc,
  λ all.
      let next = given-next set_source_of c.args.specs.now c.args.sources.now c.loop-spec.spec-index c.loop-spec.rank c.spec-item.result c.loop-spec-test.true c.spec-item.is c.loop-spec.invariant.rank c.loop-spec.invariant.so_far c.if-has_headed_member.ensures all in
      let own = some-given set_source_of c.spec-item.result.spec c.if-has_headed_member.ensures in
      let low : c.loop-spec.rank < length c.args.sources.now = slice_get_within c.args.sources.now c.loop-spec.rank own.0 (next ∙ own.1) in
      let high = ltb-false c.loop-spec.rank (length c.args.sources.now) (sym c.get.ensures.lookup.0 ∙ ap is_some c.in_default.is) in
      absurd (let no : ⊥ = omega (arith, low, high) in no),
)

pub loop-spec-preserved : goal.loop-spec-preserved
loop-spec-preserved c = elim c.if-has_headed_member.branch [
  | then-has_headed_member+in-Some w ↦
      let low : c.loop-spec.rank < length c.args.sources.now = ltb-true _ _ (sym w.in-Some.ensures.lookup.0) in
      record {
        rank = omega (arith, low, w.rank-is);
        so_far = rw w.rank-is (taken-step set_source_of c.args.specs.now c.args.sources.now c.loop-spec.spec-index c.loop-spec.rank c.spec-item.result w.in-Some.source.now c.loop-spec-test.true c.spec-item.is low w.in-Some.ensures.lookup.1 c.loop-spec.invariant.so_far (w.has_this_source.ensures.0 w.if-has_this_source.true));
      }
  | else-has_headed_member w ↦ record {
    rank = omega (arith, w.rank-is, c.loop-spec.invariant.rank);
    so_far = rw w.rank-is (taken-past set_source_of c.args.specs.now c.args.sources.now c.loop-spec.spec-index c.loop-spec.rank c.spec-item.result c.loop-spec-test.true c.spec-item.is c.loop-spec.invariant.so_far w.if-has_headed_member.ensures);
  }
]
