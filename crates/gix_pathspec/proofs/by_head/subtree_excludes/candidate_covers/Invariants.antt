-- No exclude so far takes the directory, so one that does is among the rest; and what was asked is counted.
use Rattle.std.proofs.Common.{◌≡◌, ◌+◌, ◌-◌, ◌≤◌, Bool, drop, length, find}
use Rattle.bstr.specs.BStr.{bstr_bytes}
use Rattle.pathspec_glob.specs.Counts.{Counts}
use Rattle.gix_pathspec.specs.ExcludeSets.{covers_beside, exclude_count_beside, AreExcludesBeside}
use Rattle.gix_pathspec.proofs.by_head.subtree_excludes.candidate_covers.Given as goal

abbrev pub invariant-loop-from : goal.invariant-loop-from
invariant-loop-from l =
    record {
      room : l.scratch.room ≡ l.fn.scratch.room;
      within : l.from ≤ length l.excludes;
      rest : (asked : Bool) → AreExcludesBeside asked l.excludes (bstr_bytes l.directory) l.heads l.head
          → find (covers_beside asked (bstr_bytes l.directory)) (drop l.from l.excludes) ≡ find (covers_beside asked (bstr_bytes l.directory)) l.excludes;
      counted : Counts l.fn.scratch.tested l.tested l.scratch.tested;
      few : (asked : Bool) → AreExcludesBeside asked l.excludes (bstr_bytes l.directory) l.heads l.head
          → l.tested + exclude_count_beside asked (drop l.from l.excludes) (bstr_bytes l.directory) ≤ exclude_count_beside asked l.excludes (bstr_bytes l.directory);
      steps : l.tested ≤ l.from;
    }

abbrev pub decreases-loop-from : goal.decreases-loop-from
decreases-loop-from l = l.count - l.from
