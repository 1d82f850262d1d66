-- The laws hold of the specs of each search.
use Rattle.gix_pathspec.proofs.SkipProofs.{nothing_is_chosen, skipped_is_not_chosen, skipped_stays, skips_more}
use Rattle.gix_pathspec.proofs.SkipExactProofs.{skip_is_exact}
use Rattle.gix_pathspec.proofs.search.Search.may_skip.Goals as goal

pub returns-clause-safe : goal.returns-clause-safe
returns-clause-safe c table = rw (← c.self.view_is) (skipped_is_not_chosen table _ c.self.invariant.has_no_nil_prefix)

pub returns-clause-nothing : goal.returns-clause-nothing
returns-clause-nothing c table = rw (← c.self.view_is) (nothing_is_chosen table _ c.self.invariant.has_no_nil_prefix)

pub returns-clause-stays : goal.returns-clause-stays
returns-clause-stays c table = rw (← c.self.view_is) (skipped_stays table _ c.self.invariant.has_no_nil_prefix)

pub returns-clause-wider : goal.returns-clause-wider
returns-clause-wider c = skips_more _

pub returns-clause-exact : goal.returns-clause-exact
returns-clause-exact c table = rw (← c.self.view_is) (skip_is_exact table _ c.self.invariant.has_no_nil_prefix c.self.invariant.has_byte_paths)
