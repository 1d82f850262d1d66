-- The laws hold of all specs, and one of them of those in which no nil spec has a prefix directory, as in each search.
use Rattle.gix_pathspec.specs.Search.{specs_of}
use Rattle.gix_pathspec.proofs.DirectoryProofs.{outside_fits_none, outside_is_safe, leading_is_wider}
use Rattle.gix_pathspec.proofs.search.Search.directory_matches_prefix.Goals as goal

pub returns-clause-answer : goal.returns-clause-answer
returns-clause-answer c = rw (← c.as_bytes.ensures) c.lies_in_prefix.ensures

pub returns-clause-fits_none : goal.returns-clause-fits_none
returns-clause-fits_none c = outside_fits_none (specs_of c.args.self.now.specs)

pub returns-clause-outside : goal.returns-clause-outside
returns-clause-outside c table = rw (← c.self.view_is) (outside_is_safe table _ c.self.invariant.has_no_nil_prefix)

pub returns-clause-wider : goal.returns-clause-wider
returns-clause-wider c = leading_is_wider (specs_of c.args.self.now.specs)
