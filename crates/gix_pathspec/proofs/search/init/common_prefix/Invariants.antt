use Rattle.std.proofs.Common.{◌≡◌, take}
use Rattle.std.specs.List.{reduce}
use Rattle.std.specs.Option.{option_copied}
use Rattle.gix_pathspec.specs.Prefixes.{common_front, heads}
use Rattle.gix_pathspec.specs.Search.{specs_of}
use Rattle.gix_pathspec.proofs.search.init.common_prefix.Given as goal

abbrev pub invariant-loop-spec : goal.invariant-loop-spec
invariant-loop-spec l = option_copied l.common ≡ reduce common_front (heads (specs_of (take l.spec-index l.specs)))
