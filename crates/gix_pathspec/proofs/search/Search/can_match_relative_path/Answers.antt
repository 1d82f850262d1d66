-- The laws hold of all specs, and some of them of those in which no nil spec has a prefix directory or paths are bytes, as in each search.
use Rattle.gix_pathspec.specs.Search.{specs_of}
use Rattle.gix_pathspec.proofs.PruningSafeProofs.{pruning_is_safe, file_pruning_is_safe}
use Rattle.gix_pathspec.proofs.NotChosenProofs.{pruned_is_not_chosen, file_pruned_is_not_chosen}
use Rattle.gix_pathspec.proofs.SharpPruningProofs.{pruning_is_sharp, pruning_is_sharp_for_fits}
use Rattle.gix_pathspec.proofs.PruningNearProofs.{pruning_is_near}
use Rattle.gix_pathspec.proofs.search.Search.can_match_relative_path.Goals as goal

pub returns-clause-answer : goal.returns-clause-answer
returns-clause-answer c = rw (← c.as_bytes.ensures) c.can_match.ensures

pub returns-clause-safe : goal.returns-clause-safe
returns-clause-safe c = pruning_is_safe (specs_of c.args.self.now.specs)

pub returns-clause-file_safe : goal.returns-clause-file_safe
returns-clause-file_safe c = file_pruning_is_safe (specs_of c.args.self.now.specs)

pub returns-clause-pruned : goal.returns-clause-pruned
returns-clause-pruned c table = rw (← c.self.view_is) (pruned_is_not_chosen table _ c.self.invariant.has_no_nil_prefix)

pub returns-clause-file_pruned : goal.returns-clause-file_pruned
returns-clause-file_pruned c table = rw (← c.self.view_is) (file_pruned_is_not_chosen table _ c.self.invariant.has_no_nil_prefix)

pub returns-clause-sharp : goal.returns-clause-sharp
returns-clause-sharp c table = rw (← c.self.view_is) (pruning_is_sharp table _ c.self.invariant.has_byte_paths)

pub returns-clause-sharp_for_fits : goal.returns-clause-sharp_for_fits
returns-clause-sharp_for_fits c = rw (← c.self.view_is) (pruning_is_sharp_for_fits _ c.self.invariant.has_byte_paths)

pub returns-clause-near : goal.returns-clause-near
returns-clause-near c = pruning_is_near (specs_of c.args.self.now.specs)
