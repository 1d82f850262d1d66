-- The first file stands beside none.
use Rattle.std.proofs.Common.{◌∙◌, ap, subst, sym}
use Rattle.pathspec_attributes.specs.Files.{Files, Held, file_of}
use Rattle.pathspec_attributes.specs.Places.{PutsFile, may_define}
use Rattle.pathspec_c.specs.Searchers.{SearcherContents}
use Rattle.pathspec_c.specs.Searchers.GivenAttributes.{FilesGiven}
use Rattle.pathspec_c.proofs.GivenProofs.{files-none}
use Rattle.pathspec_c.proofs.searcher.Searcher.add_first_file.Goals as goal

pub returns-clause-ok : goal.returns-clause-ok
returns-clause-ok c =
    let new : Files = c.add.new.self.files in
    let none = ap (λ (held : Held). held.files) c.in_ok-files.ensures ∙ sym (files-none c.args.self.now.attributes c.requires) in (
      new,
      subst (λ (old : Files). PutsFile c.args.place (file_of (may_define c.args.place) c.args.text.now) old new) none c.in_ok-left_out.ensures.ok,
      ap (λ (s : SearcherContents). record { specs = s.specs; attributes = FilesGiven new }) c.self.view_is,
    )
