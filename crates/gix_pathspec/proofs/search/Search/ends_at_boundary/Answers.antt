-- The numbers of the specs and the excludes don't count.
use Rattle.std.proofs.Common.{◌∙◌, ◌||◌, not, sym, ap, rules, tests}
use Rattle.std.proofs.lemmas.Iterator.{YieldsList-from_slice}
use Rattle.std.proofs.lemmas.Iterator.Search.{all_from_yields_List}
use Rattle.gix_pathspec.specs.Specs.{is_include}
use Rattle.gix_pathspec.specs.Directories.{ends_at_boundary}
use Rattle.gix_pathspec.specs.Search.{specs_of}
use Rattle.gix_pathspec.proofs.SpecListProofs.{list_all-specs, list_all-filter}
use Rattle.gix_pathspec.proofs.search.Search.ends_at_boundary.Goals as goal

pub returns : goal.returns
returns c =
    all_from_yields_List (λ n. not (is_include n.spec) || ends_at_boundary c.args.common.now n.spec) _ _ c.all.result c.all.ensures.ran
    (YieldsList-from_slice c.args.self.now.specs (c.iter.ensures.rest ∙ (c.as_slice.ensures ∙ ap (λ v. v.specs) c.self.view_is)))
    (λ x b q k. search (rules, tests))
    ∙ list_all-specs (λ s. not (is_include s) || ends_at_boundary c.args.common.now s) c.args.self.now.specs
    ∙ sym (list_all-filter is_include (ends_at_boundary c.args.common.now) (specs_of c.args.self.now.specs))
