-- The spec at a place has room or not, and with it the specs.
use Rattle.std.proofs.Common.{◌≡◌, ◌∙◌, sym, refl, arith, true, false}
use Rattle.gix_pathspec.proofs.RoomProofs.{room-at, room-more, room-whole}
use Rattle.gix_pathspec.proofs.search.counted.have_room.Goals as goal

pub returns-then-not-fits : goal.returns-then-not-fits
returns-then-not-fits c = (
  λ t. let no : false ≡ true = t in cc,
  λ h.
      let fits = room-at c.args.specs.now c.args.outcomes.now c.args.globs.now.tokens c.loop-place.place c.index-specs-place.result c.index-outcomes-place.result (omega arith) c.index-specs-place.is c.index-outcomes-place.is h in
      let no : false ≡ true = sym c.if-not-fits.true ∙ c.fits.ensures.1 fits in
      cc,
)

pub loop-place-preserved : goal.loop-place-preserved
loop-place-preserved c =
    room-more c.args.specs.now c.args.outcomes.now c.args.globs.now.tokens c.loop-place.place c.index-specs-place.result c.index-outcomes-place.result (omega arith) c.index-specs-place.is c.index-outcomes-place.is c.requires (c.fits.ensures.0 c.if-not-fits.false) c.loop-place.invariant

pub returns : goal.returns
returns c =
    let whole = room-whole c.args.specs.now c.args.outcomes.now c.args.globs.now.tokens c.loop-place.place c.requires (omega arith) c.loop-place.invariant in
    (λ _. whole, λ _. refl)
