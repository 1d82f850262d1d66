use Rattle.std.proofs.Common.{◌≡◌, map, take}
use Rattle.pathspec_heads.proofs.PlacedProofs.{placed_from}
use Rattle.pathspec_heads.proofs.groups.sorted.Given as goal

abbrev pub invariant-loop-place : goal.invariant-loop-place
invariant-loop-place l = map (λ entry. (entry.0.now, entry.1)) l.entries.items ≡ take l.place (placed_from 0 (map (λ text. text.now) l.texts))
