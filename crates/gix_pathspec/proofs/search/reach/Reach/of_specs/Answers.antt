-- The numbers of the specs don't count.
use Rattle.std.proofs.Common.{◌≡◌, ◌∙◌, sym, subst, rules, tests, ◌&&◌, Bool, true, false, List}
use Rattle.std.proofs.lemmas.Iterator.{YieldsList-from_slice}
use Rattle.std.specs.List.{list_any}
use Rattle.std.proofs.lemmas.Iterator.Search.{any_from_yields_List}
use Rattle.gix_pathspec.specs.Tables.{IsTableOf}
use Rattle.gix_pathspec.specs.Tables.{IsTableOf}
use Rattle.gix_pathspec.specs.Reach.{stems_of, taken_paths}
use Rattle.gix_pathspec.specs.Search.{Numbered, specs_of}
use Rattle.gix_pathspec.specs.Specs.{Spec, is_include, always_matches}
use Rattle.gix_pathspec.specs.Pruning.{is_total_exclude}
use Rattle.gix_pathspec.proofs.SpecListProofs.{list_any-specs}
use Rattle.gix_pathspec.proofs.search.reach.Reach.of_specs.Goals as goal

-- a test of each spec in turn is one of the specs without their numbers
some-spec : (test : Spec → Bool) (specs : List Numbered) {found : Bool} → found ≡ list_any (λ n. test n.spec) specs → found ≡ list_any test (specs_of specs)
some-spec test specs found = found ∙ list_any-specs test specs

pub returns : goal.returns
returns c = record {
  excludes_all = some-spec is_total_exclude c.args.specs.now
      (any_from_yields_List (λ n. is_total_exclude n.spec) _ _ c.any-excludes_all.result c.any-excludes_all.ensures.ran (YieldsList-from_slice c.args.specs.now c.iter.ensures.rest) (λ x b q k. search (rules, tests)));
  has_include = some-spec is_include c.args.specs.now
      (any_from_yields_List (λ n. is_include n.spec) _ _ c.any-has_include.result c.any-has_include.ensures.ran (YieldsList-from_slice c.args.specs.now c.iter-2.ensures.rest) (λ x b q k. search (rules, tests)));
  includes_all = some-spec (λ s. is_include s && always_matches s) c.args.specs.now
      (any_from_yields_List (λ n. is_include n.spec && always_matches n.spec) _ _ c.any-includes_all.result c.any-includes_all.ensures.ran (YieldsList-from_slice c.args.specs.now c.iter-3.ensures.rest) (λ x b q k. search (rules, tests)));
  reachable = subst (IsTableOf (stems_of false (specs_of c.args.specs.now) (specs_of c.args.specs.now))) (sym c.in_ok-reachable.ensures.ok) c.in_ok-stem_table.ensures;
  shadowed = subst (IsTableOf (stems_of true (specs_of c.args.specs.now) (specs_of c.args.specs.now))) (sym c.in_ok-shadowed.ensures.ok) c.in_ok-stem_table-2.ensures;
  taken = subst (IsTableOf (taken_paths (specs_of c.args.specs.now))) (sym c.in_ok-taken.ensures.ok) c.in_ok-path_table.ensures;
}
