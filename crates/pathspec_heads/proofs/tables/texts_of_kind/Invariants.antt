use Rattle.std.proofs.Common.{◌≡◌, map, filter, take}
use Rattle.pathspec_heads.specs.Tables.{StemParts, is_of_kind}
use Rattle.pathspec_heads.proofs.tables.texts_of_kind.Given as goal

abbrev pub invariant-loop-stem : goal.invariant-loop-stem
invariant-loop-stem l = map (λ text. text.now) l.texts.items ≡ map (λ (s : StemParts). s.text) (filter (is_of_kind l.ignore_case l.kind) (take l.stem-index l.stems))
