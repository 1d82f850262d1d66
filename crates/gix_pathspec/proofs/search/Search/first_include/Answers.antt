-- The numbers of the specs don't count.
use Rattle.std.proofs.Common.{◌∙◌, ap, rules, tests}
use Rattle.std.proofs.lemmas.Iterator.{YieldsList-from_slice}
use Rattle.std.proofs.lemmas.Iterator.Search.{find_from_yields_List}
use Rattle.std.specs.Option.{option_map}
use Rattle.gix_pathspec.specs.Specs.{is_include}
use Rattle.gix_pathspec.proofs.SpecListProofs.{find-specs, option_map-twice}
use Rattle.gix_pathspec.proofs.search.Search.first_include.Goals as goal

pub returns : goal.returns
returns c =
    option_map-twice (λ r. r.now) (λ n. n.spec) c.find.result
    ∙ ap (option_map (λ n. n.spec))
    (find_from_yields_List (λ n. is_include n.spec) _ _ c.find.result c.find.ensures.ran
    (YieldsList-from_slice c.args.self.now.specs (c.iter.ensures.rest ∙ (c.as_slice.ensures ∙ ap (λ v. v.specs) c.self.view_is)))
    (λ x b q k. search (rules, tests)))
    ∙ find-specs is_include c.args.self.now.specs
