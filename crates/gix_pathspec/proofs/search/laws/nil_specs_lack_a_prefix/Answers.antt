-- The invariant has it.
use Rattle.gix_pathspec.proofs.search.laws.nil_specs_lack_a_prefix.Goals as goal

pub returns : goal.returns
returns c = rw (← c.search.view_is) c.search.invariant.has_no_nil_prefix
