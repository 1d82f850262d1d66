use Rattle.std.proofs.Common.{◌≡◌, map, take}
use Rattle.gix_pathspec.proofs.search.set_building.slices.Given as goal

abbrev pub invariant-loop-text : goal.invariant-loop-text
invariant-loop-text l = map (λ text. text.now) l.slices.items ≡ map (λ text. text.items) (take l.text-index l.texts)
