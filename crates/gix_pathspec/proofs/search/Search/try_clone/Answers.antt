-- The clone has the same specs, in the same order.
use Rattle.std.proofs.Common.{◌∙◌, sym, subst, List}
use Rattle.gix_pathspec.specs.Search.{Numbered, specs_of}
use Rattle.gix_pathspec.specs.SelectionLaws.{NoNilPrefix}
use Rattle.gix_pathspec.proofs.search.Search.try_clone.Goals as goal

pub of_ordered-requires-clause-prefixes : goal.of_ordered-requires-clause-prefixes
of_ordered-requires-clause-prefixes c = subst (λ (ns : List Numbered). NoNilPrefix (specs_of ns)) (sym (c.in_ok-specs.ensures.ok ∙ c.as_slice.ensures)) c.self.invariant.has_no_nil_prefix
