use Rattle.std.proofs.Common.{◌≤◌, All, take}
use Rattle.gix_pathspec.specs.Room.{tokens_of}
use Rattle.gix_pathspec.proofs.search.counted.most_tokens.Given as goal

abbrev pub invariant-loop-spec : goal.invariant-loop-spec
invariant-loop-spec l = All (λ n. tokens_of n.spec ≤ l.most) (take l.spec-index l.specs)
