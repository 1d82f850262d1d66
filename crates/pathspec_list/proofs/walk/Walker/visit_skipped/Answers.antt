-- What is looked at is listed, as a file or as a directory.
use Rattle.std.proofs.Common.{◌∙◌}
use Rattle.gix_pathspec.specs.Search.{specs_of}
use Rattle.pathspec_list.specs.Listings.{is_listed}
use Rattle.pathspec_list.proofs.LookProofs.{file_asked, directory_asked, asked_before}
use Rattle.pathspec_list.proofs.walk.Walker.visit_skipped.Goals.{else-not-file-via-then-not-file+else-not-directory, else-not-file-via-else-not-file}
use Rattle.pathspec_list.proofs.walk.Walker.visit_skipped.Goals as goal

pub returns-in-Err-clause-asked : goal.returns-in-Err-clause-asked
returns-in-Err-clause-asked g c =
    let table = g.L.LookUp.table c.args.look_up.now in
    let with_directories = c.args.self.now.with_directories in
    let specs = specs_of c.args.self.now.search.now.specs in
    let path = c.args.path.now in
    let before = g.D.Directories.asked c.args.directories.now in
    let after = g.D.Directories.asked c.is_dir.new.self in
    elim c.else-not-file.branch [
      | else-not-file-via-then-not-file+else-not-directory w ↦
          directory_asked with_directories table (g.L.LookUp.table c.lists.new.look_up) specs path before after c.in_ok-directory.directory c.in_ok-file.ensures.look_up.0 c.is_dir.ensures.asked c.in_ok-directory.ensures.listed w.if-not-directory.false
      | else-not-file-via-else-not-file w ↦ file_asked (is_listed with_directories table specs) specs path before after c.in_ok-file.file c.is_dir.ensures.asked c.in_ok-file.ensures.listed w.if-not-file.false
    ]

pub returns-in-Err-clause-look_up : goal.returns-in-Err-clause-look_up
returns-in-Err-clause-look_up g c =
    let first = c.in_ok-file.ensures.look_up in
    let second = c.in_ok-directory.ensures.look_up in
    asked_before _ _ _ _ _ (second.0 ∙ first.0) (second.1 ∙ first.1) c.tell.ensures.look_up

pub returns-after-is_dir-clause-look_up : goal.returns-after-is_dir-clause-look_up
returns-after-is_dir-clause-look_up g c =
    let first = c.in_ok-file.ensures.look_up in
    let second = c.in_ok-directory.ensures.look_up in
    asked_before _ _ _ _ _ (second.0 ∙ first.0) (second.1 ∙ first.1) c.give_if.ensures.look_up
