-- The specs by their heads have it, and it is the longest of them.
use Rattle.std.proofs.Common.{◌∙◌}
use Rattle.gix_pathspec.proofs.PrefixProofs.{common_prefix_is_longest}
use Rattle.gix_pathspec.proofs.SelectedProofs.{chosen_begins_common}
use Rattle.gix_pathspec.proofs.search.Search.common_prefix.Goals as goal

pub returns-clause-longest : goal.returns-clause-longest
returns-clause-longest c = rw (← c.self.view_is) (rw (c.new.ensures ∙ c.common_prefix.ensures) (common_prefix_is_longest _))

pub returns-clause-chosen : goal.returns-clause-chosen
returns-clause-chosen c = chosen_begins_common
