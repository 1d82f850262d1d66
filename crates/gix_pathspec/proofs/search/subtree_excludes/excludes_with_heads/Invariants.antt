use Rattle.std.proofs.Common.{◌≡◌, map, take}
use Rattle.gix_pathspec.specs.Reach.{subtree_excludes_of}
use Rattle.gix_pathspec.specs.Search.{specs_of}
use Rattle.gix_pathspec.specs.ExcludeSets.{exclude_head_beside}
use Rattle.gix_pathspec.proofs.search.subtree_excludes.excludes_with_heads.Given as goal

abbrev pub invariant-loop-spec : goal.invariant-loop-spec
invariant-loop-spec l = record {
  excludes : l.excludes.items ≡ subtree_excludes_of (specs_of (take l.spec-index l.specs));
  heads : map (λ head. head.now) l.heads.items ≡ map (exclude_head_beside l.fn.is_set_asked) l.excludes.items;
}
