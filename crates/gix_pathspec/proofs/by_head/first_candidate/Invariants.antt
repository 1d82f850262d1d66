-- No spec so far matches, so the first that does is among the rest; and what was asked is counted.
use Rattle.std.proofs.Common.{◌≡◌, ◌+◌, ◌-◌, ◌≤◌, All, drop, filter, length, true, is_some}
use Rattle.bstr.specs.BStr.{bstr_bytes}
use Rattle.pathspec_glob.specs.Counts.{Counts}
use Rattle.gix_pathspec.specs.Found.{first_match}
use Rattle.gix_pathspec.specs.Effort.{candidate_count, is_unsettled_candidate, unsettled_count}
use Rattle.gix_pathspec.specs.Sets.{NoneBefore}
use Rattle.gix_pathspec.specs.Candidates.{AreCandidates, AreNext, KeepsSets}
use Rattle.gix_pathspec.specs.HeadSets.{IsIdleBeside}
use Rattle.gix_pathspec.specs.SetSources.{all_sources}
use Rattle.gix_pathspec.proofs.by_head.first_candidate.Given as goal

abbrev pub invariant-loop-from : goal.invariant-loop-from
invariant-loop-from g l =
    record {
      room : l.scratch.room ≡ l.fn.scratch.room;
      within : l.from ≤ length l.specs;
      rest : first_match (g.L.LookUp.table l.fn.look_up) (drop l.from l.specs) (bstr_bytes l.path) l.is_dir ≡ first_match (g.L.LookUp.table l.fn.look_up) l.specs (bstr_bytes l.path) l.is_dir;
      same_table : g.L.LookUp.table l.look_up ≡ g.L.LookUp.table l.fn.look_up;
      same_count : g.L.LookUp.failures l.look_up ≡ g.L.LookUp.failures l.fn.look_up;
      counted : Counts l.fn.scratch.tested l.tested l.scratch.tested;
      few : l.tested + candidate_count (drop l.from l.specs) (bstr_bytes l.path) ≤ candidate_count l.specs (bstr_bytes l.path);
      once : is_some l.candidates.members ≡ true → l.tested + length (filter (is_unsettled_candidate (all_sources l.specs) (bstr_bytes l.path)) (drop l.from l.specs)) ≤ unsettled_count l.specs (bstr_bytes l.path);
      steps : l.tested ≤ l.from;
      asked : AreCandidates l.specs (bstr_bytes l.path) l.candidates l.sets;
      kept : KeepsSets l.fn.sets l.sets;
      idle : All (IsIdleBeside (bstr_bytes l.path)) l.fn.sets → All (IsIdleBeside (bstr_bytes l.path)) l.sets;
      none : NoneBefore (g.L.LookUp.table l.fn.look_up) l.specs (bstr_bytes l.path) l.is_dir l.from;
      next : AreNext l.specs (bstr_bytes l.path) l.candidates l.sets l.from;
    }

abbrev pub decreases-loop-from : goal.decreases-loop-from
decreases-loop-from g l = l.count - l.from
