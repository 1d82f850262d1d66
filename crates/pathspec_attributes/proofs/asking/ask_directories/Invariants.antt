use Rattle.std.proofs.Common.{◌≡◌, ◌≤◌, length}
use Rattle.std.specs.List.{flat_map}
use Rattle.pathspec_parts.specs.Outcomes.{names_of}
use Rattle.pathspec_attributes.specs.Files.{directories_of, directories_to, said_by_file}
use Rattle.pathspec_attributes.specs.Leading.{Leads}
use Rattle.pathspec_attributes.specs.Views.{file_in, macros_view, marked}
use Rattle.pathspec_attributes.proofs.asking.ask_directories.Given as goal

abbrev pub invariant-loop-end : goal.invariant-loop-end
invariant-loop-end l = record {
  within : l.end ≤ length l.asked.path.now;
  leads : Leads (macros_view l.macros)
      (flat_map (λ base. said_by_file l.asked.case l.asked.path.now l.asked.is_dir base (file_in l.directories base)) (directories_of l.asked.path.now)) (marked l.fn.room.marks) l.fn.out
      (flat_map (λ base. said_by_file l.asked.case l.asked.path.now l.asked.is_dir base (file_in l.directories base)) (directories_to l.end l.asked.path.now)) (marked l.room.marks) l.out;
  names : names_of l.out ≡ names_of l.fn.out;
}

abbrev pub decreases-loop-end : goal.decreases-loop-end
decreases-loop-end l = l.end
