use Rattle.std.proofs.Common.{◌≡◌, ◌≤◌, ◌++◌, length, map}
use Rattle.std.specs.List.{flat_map}
use Rattle.pathspec_attributes.specs.Files.{directories_of, directories_to}
use Rattle.pathspec_attributes.specs.Sayings.{saying_view, sayings_of_file}
use Rattle.pathspec_attributes.specs.Sayings.FilePlace.{DirectoryFile}
use Rattle.pathspec_attributes.specs.Views.{file_in}
use Rattle.pathspec_attributes.proofs.sayings.push_directories.Given as goal

abbrev pub invariant-loop-end : goal.invariant-loop-end
invariant-loop-end l = record {
  within : l.end ≤ length l.asked.path.now;
  found : map saying_view l.fn.found.items ++ flat_map (λ base. sayings_of_file l.asked.case l.asked.path.now l.asked.is_dir (DirectoryFile base) (file_in l.directories base)) (directories_of l.asked.path.now)
      ≡ map saying_view l.found.items ++ flat_map (λ base. sayings_of_file l.asked.case l.asked.path.now l.asked.is_dir (DirectoryFile base) (file_in l.directories base)) (directories_to l.end l.asked.path.now);
}

abbrev pub decreases-loop-end : goal.decreases-loop-end
decreases-loop-end l = l.end
