-- The invariant has it.
use Rattle.gix_pathspec.proofs.search.laws.spec_paths_are_bytes.Goals as goal

pub returns : goal.returns
returns c = rw (← c.search.view_is) c.search.invariant.has_byte_paths
