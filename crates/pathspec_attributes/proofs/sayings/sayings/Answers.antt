-- The files are looked at in the order in which they count.
use Rattle.std.proofs.Common.{◌≡◌, ap, ℕ, List, map}
use Rattle.std.proofs.Math.Path.{fun_ext}
use Rattle.std.specs.List.{flat_map}
use Rattle.pathspec_attributes.specs.Files.{AttributeFile, directories_of, file_at}
use Rattle.pathspec_attributes.specs.Sayings.{Saying, saying_view, sayings_of_file}
use Rattle.pathspec_attributes.specs.Sayings.FilePlace.{DirectoryFile, GlobalFile, InfoFile}
use Rattle.pathspec_attributes.specs.Views.{directories_view, file_in, file_view}
use Rattle.pathspec_attributes.proofs.DirectoryProofs.{file_in-is}
use Rattle.pathspec_attributes.proofs.FindingProofs.{in-order}
use Rattle.pathspec_attributes.proofs.sayings.sayings.Goals as goal

pub returns : goal.returns
returns c =
    let asked = c.args.asked.now in
    let path : List ℕ = asked.path.now in
    let directories = c.args.directories.now in
    let say : (List ℕ → AttributeFile) → List Saying = λ look. flat_map (λ base. sayings_of_file asked.case path asked.is_dir (DirectoryFile base) (look base)) (directories_of path) in
    let held : file_in directories ≡ file_at (directories_view directories) = fun_ext (file_in-is directories) in
    in-order (map saying_view c.new-found.result.items) (map saying_view c.push_file.new.found.items) (map saying_view c.push_directories.new.found.items) (map saying_view c.push_file-2.new.found.items)
    (sayings_of_file asked.case path asked.is_dir InfoFile (file_view c.args.info.now)) (say (file_in directories)) (say (file_at (directories_view directories))) (sayings_of_file asked.case path asked.is_dir GlobalFile (file_view c.args.global.now))
    (ap (map saying_view) c.new-found.ensures.items) c.in_ok-push_file.ensures c.in_ok-push_directories.ensures c.in_ok-push_file-2.ensures (ap say held)
