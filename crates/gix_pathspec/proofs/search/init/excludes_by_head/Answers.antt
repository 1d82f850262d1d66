-- The heads by which excludes are looked for without a set are their own.
use Rattle.std.proofs.Common.{◌≡◌, sym, ◌∙◌, ap, subst, map}
use Rattle.std.specs.Box.{box_value}
use Rattle.pathspec_heads.specs.Groups.{IsGrouped}
use Rattle.gix_pathspec.specs.SubtreeExcludes.{exclude_head}
use Rattle.gix_pathspec.proofs.search.init.excludes_by_head.Goals as goal

pub new-requires-2-clause-places : goal.new-requires-2-clause-places
new-requires-2-clause-places c =
    let places = box_value c.in_ok-heads.heads in
    let own : map (λ head. head.now) c.in_ok-excludes.heads.items ≡ map exclude_head c.in_ok-excludes.excludes.items = c.in_ok-excludes.ensures.heads in
    let heads = ap (λ hs. map (λ head. head.now) hs) c.deref.ensures.value ∙ (own ∙ ap (map exclude_head) (sym c.new.ensures)) in
    subst (λ hs. IsGrouped hs places.heads places.starts places.order) heads c.in_ok-heads.ensures
