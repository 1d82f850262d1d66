-- The last macro of the name counts so far.
use Rattle.std.proofs.Common.{◌∙◌, ℕ, sym, ap, List}
use Rattle.std.specs.Option.{option_map}
use Rattle.std.specs.Prelude.{bytes_eq}
use Rattle.pathspec_attributes.specs.Leading.{body_of_place}
use Rattle.pathspec_attributes.proofs.LeadingProofs.{place-found, place-passes}
use Rattle.pathspec_attributes.proofs.deciding.place_of.Goals as goal
use Rattle.pathspec_attributes.proofs.deciding.place_of.Goals.{then-eq, else-eq}

pub loop-place-preserved : goal.loop-place-preserved
loop-place-preserved c =
    let macros = c.args.macros.now in
    let name : List ℕ = c.args.name.now in
    let place : ℕ = c.loop-place.place in
    let own = c.index-macros-place.result in
    let read = c.as_bytes-in-loop-place.ensures ∙ c.as_bytes.ensures.bytes in
    let test = c.eq.ensures ∙ ap (bytes_eq name) read in
    elim c.if-eq.branch [
      | then-eq w ↦ ap (option_map (body_of_place macros)) w.found-is ∙ place-found macros name place own c.loop-place-test.true c.index-macros-place.is (sym test ∙ w.if-eq.true)
      | else-eq w ↦ place-passes macros name place own c.loop-place-test.true c.index-macros-place.is (option_map (body_of_place macros) c.if-eq.found) (sym test ∙ w.if-eq.false) (ap (option_map (body_of_place macros)) w.found-is ∙ c.loop-place.invariant)
    ]
