use Rattle.pathspec_parts.proofs.LayoutProofs.{layout_of_none}
use Rattle.pathspec_parts.proofs.tree.Tree.new.Goals as goal

pub invariant_of-result : goal.invariant_of-result
invariant_of-result c = (layout_of_none c.new.result.items c.new-2.result.items c.new-3.result c.new.ensures.items c.new-2.ensures.items c.new-3.ensures.stack c.new-3.ensures.directories).0

pub returns : goal.returns
returns c = (layout_of_none c.new.result.items c.new-2.result.items c.new-3.result c.new.ensures.items c.new-2.ensures.items c.new-3.ensures.stack c.new-3.ensures.directories).1
