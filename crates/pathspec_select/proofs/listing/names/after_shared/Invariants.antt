use Rattle.std.proofs.Common.{◌≡◌, length}
use Rattle.pathspec_parts.specs.Records.{directory_names}
use Rattle.pathspec_select.specs.ListingAnswers.{IsRestOf}
use Rattle.pathspec_select.proofs.SharedProofs.{unshared}
use Rattle.pathspec_select.proofs.listing.names.after_shared.Given as goal

abbrev pub invariant-loop-name : goal.invariant-loop-name
invariant-loop-name l = record {
  unshared_is : unshared (directory_names l.left) (directory_names l.missing) ≡ unshared (directory_names l.directory) (directory_names l.wanted);
  rest : IsRestOf l.wanted l.missing;
}

abbrev pub decreases-loop-name : goal.decreases-loop-name
decreases-loop-name l = length l.left
