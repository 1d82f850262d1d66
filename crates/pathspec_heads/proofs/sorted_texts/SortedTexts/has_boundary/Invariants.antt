use Rattle.std.proofs.Common.{◌+◌, ℕ, Option, Some, None, length}
use Rattle.pathspec_heads.specs.Stems.{with_slash, is_boundary}
use Rattle.pathspec_heads.proofs.HeadProofs.{IsWalked}
use Rattle.pathspec_heads.proofs.sorted_texts.SortedTexts.has_boundary.Given as goal

abbrev pub invariant-loop-next : goal.invariant-loop-next
invariant-loop-next l =
    let t = with_slash l.probe.ignore_case l.probe.path.now in
    IsWalked l.self t (is_boundary t l.limit) (length l.self) l.next

-- how many are left to look at
abbrev pub left : Option ℕ → ℕ
left None = 0
left (Some at) = at + 1

abbrev pub decreases-loop-next : goal.decreases-loop-next
decreases-loop-next l = left l.next
