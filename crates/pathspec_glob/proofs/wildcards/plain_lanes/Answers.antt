use Rattle.std.proofs.Common.{ℕ, bit_or, refl, arith}
use Rattle.std.proofs.lemmas.Simd.{zip2_splat, zip2_of_maps, length-chunk}
use lib.Lanes.{chunk}
use Rattle.pathspec_glob.specs.Bytes.{is_wildcard}
use Rattle.pathspec_glob.proofs.LaneProofs.{first_in_lanes}
use Rattle.pathspec_glob.proofs.wildcards.plain_lanes.Goals as goal

pub returns : goal.returns
returns c =
    let v = chunk c.args.at 16 c.args.text.now in
    let long = length-chunk c.args.at 16 c.args.text.now c.requires in
    first_in_lanes is_wildcard c.args.text.now c.args.at 16 _ _ c.requires (omega arith) c.type_inv.text c.first_set.ensures _
    (zip2_of_maps bit_or _ _ v (zip2_of_maps bit_or _ _ v (zip2_splat {Y = ℕ} _ v 16 42 long) (zip2_splat {Y = ℕ} _ v 16 63 long))
    (zip2_of_maps bit_or _ _ v (zip2_splat {Y = ℕ} _ v 16 91 long) (zip2_splat {Y = ℕ} _ v 16 92 long))) refl
