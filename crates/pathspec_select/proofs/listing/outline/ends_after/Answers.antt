use Rattle.std.proofs.Common.{◌≡◌, ◌==◌, refl, Some}
use Rattle.std.specs.Prelude.{slice_get}
use Rattle.pathspec_select.proofs.ListingProofs.{got, ends-at}
use Rattle.pathspec_select.proofs.listing.outline.ends_after.Goals as goal

pub returns-in-Some : goal.returns-in-Some
returns-in-Some c =
    let at : slice_get c.args.bytes.now c.args.count ≡ Some c.in-Some.byte.now = got c.args.bytes.now c.args.bytes.now c.args.count c.in-Some.byte.now _ refl c.in-Some.ensures.lookup.0 c.in-Some.ensures.lookup.1 in
    ends-at (λ b. b == c.args.separator) c.args.bytes.now c.args.count c.in-Some.byte.now at c.requires
