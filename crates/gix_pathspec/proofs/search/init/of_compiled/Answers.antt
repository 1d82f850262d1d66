-- What is made is the search of the normal forms.
use Rattle.std.proofs.Common.{◌≡◌, sym, List, Ok, subst}
use Rattle.bstr.specs.BStr.{bstr_bytes}
use Rattle.gix_pathspec.specs.Search.{Numbered, specs_of, search_of}
use Rattle.gix_pathspec.specs.SelectionLaws.{SpecPathsAreBytes}
use Rattle.gix_pathspec.specs.Paths.{IsBytes}
use Rattle.gix_pathspec.proofs.SearchProofs.{search_has_no_nil_prefix, search_of-ordered, of_ordered}
use Rattle.gix_pathspec.proofs.BuildingProofs.{search-given}
use Rattle.gix_pathspec.proofs.search.init.of_compiled.Goals as goal
use Rattle.gix_pathspec.proofs.search.init.of_compiled.Goals.{In_ok-ordered}

-- the specs in their order are those of a search
is_ordered : (c : In_ok-ordered) → search_of (bstr_bytes c.args.prefix) (bstr_bytes c.args.root) c.requires.numbered.0 ≡ Ok c.in_ok-ordered.ordered.items
is_ordered c = search-given _ _ _ c.in_ok-given.given.items c.in_ok-ordered.ordered.items c.requires.numbered c.in_ok-given.ensures.specs c.in_ok-ordered.ensures

pub of_ordered-requires-clause-ordered : goal.of_ordered-requires-clause-ordered
of_ordered-requires-clause-ordered c = search_of-ordered _ _ _ _ (is_ordered c)

pub of_ordered-requires-clause-prefixes : goal.of_ordered-requires-clause-prefixes
of_ordered-requires-clause-prefixes c = search_has_no_nil_prefix _ _ _ _ (is_ordered c)

pub of_ordered-requires-clause-bytes : goal.of_ordered-requires-clause-bytes
of_ordered-requires-clause-bytes c = subst (λ (ns : List Numbered). SpecPathsAreBytes (specs_of ns)) (sym c.in_ok-ordered.ensures) (of_ordered (λ s. IsBytes s.path) c.in_ok-given.given.items c.in_ok-given.ensures.bytes)
