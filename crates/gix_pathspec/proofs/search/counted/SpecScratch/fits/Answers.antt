-- There is room where there is one for globs and attributes, and the sets are the specs'.
use Rattle.std.proofs.Common.{◌≡◌, sym, ◌∙◌, ap, subst, map}
use Rattle.std.proofs.lemmas.Bool.{both_ways, ne_eqb}
use Rattle.pathspec_parts.specs.Outcomes.{names_of}
use Rattle.gix_pathspec.specs.Room.{made_sources, HasGlobRoom, SpecRoom}
use Rattle.gix_pathspec.specs.SetSources.{head_set_sources}
use Rattle.gix_pathspec.proofs.search.counted.SpecScratch.fits.Goals as goal
use Rattle.gix_pathspec.proofs.search.counted.SpecScratch.fits.Goals.{then-len, else-len}

pub returns-then-have_room : goal.returns-then-have_room
returns-then-have_room c =
    let specs = c.args.specs.now in
    let room = c.args.self.now.room in
    let same : c.deref-then-have_room.result.now ≡ specs = c.deref-then-have_room.ensures.value ∙ c.specs.view_is in
    let tokens = ap (λ (r : SpecRoom). r.room.tokens) c.self.view_is in
    let names = ap (λ (r : SpecRoom). r.room.names) c.self.view_is in
    let has : HasGlobRoom specs room.tokens room.names = elim c.if-len.branch [
      | then-len w ↦
          let own = w.have_room.ensures.0 (sym w.value-is ∙ c.if-have_room.true) in
          let of = subst (λ ns. HasGlobRoom ns c.self.inside.globs.tokens (map names_of w.deref-then-len.result.now)) (w.deref.ensures.value ∙ c.specs.view_is) own in
          let seen = subst (λ os. HasGlobRoom specs c.self.inside.globs.tokens (map names_of os)) w.deref-then-len.ensures.value of in
          subst (λ k. HasGlobRoom specs k room.names) tokens (subst (HasGlobRoom specs c.self.inside.globs.tokens) names seen)
      | else-len w ↦ absurd (both_ways c.if-len.value (w.value-is ∙ ne_eqb c.len.result c.len-2.result w.if-len.false) c.if-have_room.true)
    ] in (
      λ told.
          let sources = c.has_sources.ensures.0 told in
          record {
            globs = has.globs;
            outcomes = has.outcomes;
            members = sources.0 ∙ ap head_set_sources same;
            excludes = sources.1 ∙ ap made_sources same;
          },
      λ fits. c.has_sources.ensures.1 (fits.members ∙ ap head_set_sources (sym same), fits.excludes ∙ ap made_sources (sym same)),
    )
