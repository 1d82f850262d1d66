use Rattle.std.proofs.Common.{◌≡◌, ◌≤◌, length, arith, nat_eq, length-take}
use Rattle.std.specs.List.{common_prefix_len}
use Rattle.std.proofs.lemmas.List.Sums.{common_prefix_len-le}
use Rattle.gix_pathspec.proofs.search.init.common_front.Goals as goal

pub slice_bounds-result-end : goal.slice_bounds-result-end
slice_bounds-result-end c =
    let n = c.agreement.result in
    let is : n ≡ common_prefix_len nat_eq c.args.left.now c.args.right.now = c.agreement.ensures in
    let most : common_prefix_len nat_eq c.args.left.now c.args.right.now ≤ length c.args.left.now = (common_prefix_len-le nat_eq c.args.left.now c.args.right.now).0 in
    omega (arith, is, most, length-take n c.args.left.now)
