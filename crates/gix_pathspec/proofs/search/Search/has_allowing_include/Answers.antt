-- The numbers of the specs don't count.
use Rattle.std.proofs.Common.{◌∙◌, ap, rules, tests}
use Rattle.std.proofs.lemmas.Iterator.{YieldsList-from_slice}
use Rattle.std.proofs.lemmas.Iterator.Search.{any_from_yields_List}
use Rattle.gix_pathspec.specs.Directories.{allows_directory}
use Rattle.gix_pathspec.proofs.SpecListProofs.{list_any-specs}
use Rattle.gix_pathspec.proofs.search.Search.has_allowing_include.Goals as goal

pub returns : goal.returns
returns c =
    any_from_yields_List (λ n. allows_directory c.args.path.now c.args.leading n.spec) _ _ c.any.result c.any.ensures.ran
    (YieldsList-from_slice c.args.self.now.specs (c.iter.ensures.rest ∙ (c.as_slice.ensures ∙ ap (λ v. v.specs) c.self.view_is)))
    (λ x b q k. search (rules, tests))
    ∙ list_any-specs (allows_directory c.args.path.now c.args.leading) c.args.self.now.specs
