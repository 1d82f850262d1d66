use Rattle.std.proofs.Common.{map}
use Rattle.pathspec_heads.specs.Groups.{IsGroupedFront}
use Rattle.pathspec_heads.proofs.groups.grouped.Given as goal

abbrev pub invariant-loop-index : goal.invariant-loop-index
invariant-loop-index l = IsGroupedFront (map (λ entry. (entry.0.now, entry.1)) l.entries.items) l.index l.groups.heads l.groups.starts.items l.groups.order.items
