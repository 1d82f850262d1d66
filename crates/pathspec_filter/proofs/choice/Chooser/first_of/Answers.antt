-- A file right in the directory of the last record.
use Rattle.std.proofs.Common.{List, ℕ, subst}
use Rattle.pathspec_parts.specs.RecordParts.{BeginsWithFile}
use Rattle.pathspec_filter.specs.Places.{Choice, chooses}
use Rattle.pathspec_filter.specs.FoundRecords.{BeginsGood}
use Rattle.pathspec_filter.proofs.PlaceProofs.{found-file}
use Rattle.pathspec_filter.proofs.choice.Chooser.first_of.Goals as goal

pub returns-clause-found : goal.returns-clause-found
returns-clause-found g c =
    let s = c.self.inside in
    let rest = c.args.rest.now in
    let n = c.in-Some.length in
    let table = g.L.LookUp.table c.args.look_up.now in
    let is_selected = c.in_ok-is_taken.is_taken in
    let file = subst (λ (d : List ℕ). BeginsWithFile s.separator d rest n) c.deref.ensures.value c.in-Some.ensures in
    subst (λ (x : Choice). BeginsGood (chooses table x) x.separator rest n is_selected) c.self.view_is
    (found-file table s.questions s.separator s.place.directory.items rest n is_selected file c.self.invariant.names c.in_ok-is_taken.ensures.taken)
