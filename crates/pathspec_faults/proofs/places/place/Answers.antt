-- The place lies in the text, and the laws are proved.
use Rattle.std.proofs.Common.{ℕ, ◌≤◌, sym, subst, length}
use Rattle.std.specs.declared.ops.Range.{Range}
use Rattle.pathspec_pattern.specs.Errors.{fault_of}
use Rattle.pathspec_faults.proofs.LawProofs.{told_lies, held_within, place_lies, place_holds, path_holds, word_holds}
use Rattle.pathspec_faults.proofs.places.place.Goals as goal

pub returns-clause-within : goal.returns-clause-within
returns-clause-within c =
    let lies = told_lies (fault_of c.args.error.now) c.args.text.now in
    subst (λ (r : Range ℕ). (r.start ≤ r.end) × (r.end ≤ length c.args.text.now)) (sym c.place_told.ensures) (held_within c.args.text.now lies.0 _ lies.1)

pub returns-clause-laws : goal.returns-clause-laws
returns-clause-laws c = (place_lies, place_holds, path_holds, word_holds)
