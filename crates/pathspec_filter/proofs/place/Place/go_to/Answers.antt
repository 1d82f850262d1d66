-- The place is the wanted directory, or else the top.
use Rattle.std.proofs.Common.{◌∙◌, sym}
use Rattle.std.proofs.lemmas.Slice.Eq.{bytes_eq-Decides}
use Rattle.pathspec_filter.proofs.place.Place.go_to.Goals as goal

pub returns-then-eq-clause-there : goal.returns-then-eq-clause-there
returns-then-eq-clause-there c = sym c.as_slice.ensures.value ∙ (bytes_eq-Decides c.as_slice.result.now c.args.wanted.now).0 (sym c.eq.ensures ∙ c.if-eq.true)
