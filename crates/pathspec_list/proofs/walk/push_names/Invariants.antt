use Rattle.std.proofs.Common.{◌≡◌, ℕ, List, ◌++◌, map, reverse, vec_len}
use Rattle.pathspec_list.specs.Directories.{path_in}
use Rattle.pathspec_list.proofs.walk.push_names.Given as goal

-- the names that were taken are on the stack
abbrev pub invariant-loop-name : goal.invariant-loop-name
invariant-loop-name l = (taken : List (List ℕ)) × (map (λ v. v.items) l.fn.names.items ≡ map (λ v. v.items) l.names.items ++ taken) × (reverse (map (λ v. v.items) l.pending.items) ≡ map (path_in l.directory) taken ++ reverse (map (λ v. v.items) l.fn.pending.items))

abbrev pub decreases-loop-name : goal.decreases-loop-name
decreases-loop-name l = vec_len l.names
