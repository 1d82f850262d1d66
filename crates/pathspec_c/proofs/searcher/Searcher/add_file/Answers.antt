-- A file more stands beside those that are held.
use Rattle.std.proofs.Common.{◌≡◌, ◌∙◌, ap, subst, sym}
use Rattle.pathspec_attributes.specs.Files.{Files, file_of}
use Rattle.pathspec_attributes.specs.Places.{PutsFile, may_define}
use Rattle.pathspec_c.specs.declared.searcher.Attributes.{Attributes}
use Rattle.pathspec_c.specs.Searchers.{SearcherContents, files_in}
use Rattle.pathspec_c.specs.Searchers.GivenAttributes.{FilesGiven}
use Rattle.pathspec_c.specs.Views.{given_in}
use Rattle.pathspec_c.proofs.GivenProofs.{onward}
use Rattle.pathspec_c.proofs.searcher.Searcher.add_file.Goals as goal

pub returns-in-Files-clause-ok : goal.returns-in-Files-clause-ok
returns-in-Files-clause-ok c =
    let new : Files = c.add.new.self.files in
    let held : c.in-Files.files.files ≡ files_in c.args.self.now.attributes =
    sym (ap (λ (a : Attributes). files_in (given_in a)) c.in-Files.is) ∙ ap (λ (s : SearcherContents). files_in s.attributes) c.self.view_is in
    onward c.add.result
    (λ puts. (
      new,
      subst (λ (old : Files). PutsFile c.args.place (file_of (may_define c.args.place) c.args.text.now) old new) held puts,
      ap (λ (s : SearcherContents). record { specs = s.specs; attributes = FilesGiven new }) c.self.view_is,
    ))
    c.add.ensures.ok
