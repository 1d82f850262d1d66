use Rattle.std.proofs.Common.{◌+◌, length, leb, Some}
use Rattle.pathspec_heads.specs.Heads.{head_at}
use Rattle.pathspec_heads.proofs.HeadProofs.{IsWalked}
use Rattle.pathspec_heads.proofs.sorted_texts.SortedTexts.front_of.Given as goal

abbrev pub invariant-loop-at : goal.invariant-loop-at
invariant-loop-at l = IsWalked l.self (head_at l.self l.index) (λ h. leb (length h) l.agreed) (l.index + 1) (Some l.at)

abbrev pub decreases-loop-at : goal.decreases-loop-at
decreases-loop-at l = l.at
