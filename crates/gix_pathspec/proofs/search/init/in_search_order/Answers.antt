-- Without an exclude, the specs stand in search order as they are.
use Rattle.std.proofs.Common.{◌≡◌, ◌∙◌, sym, subst, rules, tests, false, List}
use Rattle.std.proofs.lemmas.Iterator.{YieldsList-from_slice}
use Rattle.std.proofs.lemmas.Iterator.Search.{any_from_yields_List}
use Rattle.std.specs.List.{list_any}
use Rattle.gix_pathspec.specs.Specs.{is_exclude}
use Rattle.gix_pathspec.specs.Search.{Numbered}
use Rattle.gix_pathspec.proofs.SearchProofs.{in_search_order-includes}
use Rattle.gix_pathspec.proofs.search.init.in_search_order.Goals as goal

pub returns-then-not-any : goal.returns-then-not-any
returns-then-not-any c =
    let found = any_from_yields_List (λ (n : Numbered). is_exclude n.spec) _ _ c.any.result c.any.ensures.ran (YieldsList-from_slice c.deref.result.now c.iter.ensures.rest) (λ x b q k. search (rules, tests)) in
    let none : list_any (λ (n : Numbered). is_exclude n.spec) c.args.specs.items ≡ false = subst (λ (ns : List Numbered). list_any (λ n. is_exclude n.spec) ns ≡ false) c.deref.ensures.value (sym found ∙ c.if-not-any.true) in
    sym (in_search_order-includes c.args.specs.items none)
