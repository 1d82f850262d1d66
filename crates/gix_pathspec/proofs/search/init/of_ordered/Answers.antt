-- A search holds what its specs reach, the excludes that are asked one by one, and room for its own matches.
use Rattle.std.proofs.Common.{◌≡◌, ◌∙◌, sym, ap, List, subst}
use Rattle.gix_pathspec.specs.Search.{Numbered, specs_of, in_search_order}
use Rattle.gix_pathspec.specs.SelectionLaws.{NoNilPrefix, SpecPathsAreBytes}
use Rattle.gix_pathspec.specs.Reach.{subtree_excludes_of, IsReachOf}
use Rattle.gix_pathspec.proofs.search.init.of_ordered.Goals as goal

pub invariant_of-result : goal.invariant_of-result
invariant_of-result c =
    let made = c.in_ok-specs.ensures.specs in
    record {
      is_ordered = subst (λ (ns : List Numbered). in_search_order ns ≡ ns) (sym made) c.requires.ordered;
      has_no_nil_prefix = subst (λ (ns : List Numbered). NoNilPrefix (specs_of ns)) (sym made) c.requires.prefixes;
      has_byte_paths = subst (λ (ns : List Numbered). SpecPathsAreBytes (specs_of ns)) (sym made) c.requires.bytes;
      is_reach = subst (λ (ns : List Numbered). IsReachOf (specs_of ns) c.in_ok-reach.reach) (c.deref.ensures.value ∙ sym made) c.in_ok-reach.ensures.reach;
      are_excludes = c.in_ok-reach.ensures.excludes ∙ ap (λ (ns : List Numbered). subtree_excludes_of (specs_of ns)) (c.deref.ensures.value ∙ sym made);
      is_nil = c.nil.ensures;
      has_room = c.in_ok-specs.ensures.fits;
    }
