-- The members are in a box.
use Rattle.std.proofs.Common.{◌∙◌}
use Rattle.gix_pathspec.proofs.BeginProofs.{boxed-members, boxed-some}
use Rattle.gix_pathspec.proofs.by_head.SpecsByHead.new.Goals as goal

pub invariant_of-result : goal.invariant_of-result
invariant_of-result c = record {
  is_grouped = c.requires.places;
  are_members = boxed-members c.args.specs c.args.members c.requires.members;
  is_made = boxed-some c.args.members ∙ c.requires.made;
  is_common = c.requires.common;
}
