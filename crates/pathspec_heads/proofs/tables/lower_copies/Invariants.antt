use Rattle.std.proofs.Common.{◌≡◌, map, take, true}
use Rattle.pathspec_glob.specs.Bytes.{fold_case}
use Rattle.pathspec_heads.proofs.tables.lower_copies.Given as goal

abbrev pub invariant-loop-text : goal.invariant-loop-text
invariant-loop-text l = map (λ copy. copy.items) l.copies.items ≡ map (fold_case true) (map (λ text. text.now) (take l.text-index l.texts))
