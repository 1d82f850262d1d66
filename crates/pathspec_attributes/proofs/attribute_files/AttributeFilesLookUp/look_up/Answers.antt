-- What is put into a reset outcome is what the table says.
use Rattle.std.proofs.Common.{◌≡◌, ◌∙◌, ap}
use Rattle.pathspec_glob.specs.declared.Case.{Case}
use Rattle.bstr.specs.BStr.{bstr_bytes}
use Rattle.pathspec_attributes.specs.Files.{Files, Held}
use Rattle.pathspec_attributes.specs.Views.{asked_files, directories_view, file_view}
use Rattle.pathspec_attributes.proofs.AnswerProofs.{replied}
use Rattle.pathspec_attributes.proofs.attribute_files.AttributeFilesLookUp.look_up.Goals as goal

pub returns-in-Ok-clause-answer : goal.returns-in-Ok-clause-answer
returns-in-Ok-clause-answer c = λ reset.
    let own = c.self.inside in
    let asked = c.question-asked.result in
    let given : Files = asked_files asked (file_view own.info) (directories_view own.directories) (file_view own.global) in
    let held : given ≡ c.args.self.now.files =
    ap (λ (case : Case). record { case = case; info = file_view own.info; directories = directories_view own.directories; global = file_view own.global }) c.question-asked.ensures.case
    ∙ ap (λ (h : Held). h.files) c.self.view_is in
    replied given c.args.self.now.files asked.path.now c.as_bytes.result.now (bstr_bytes c.args.path) asked.is_dir c.args.is_dir c.args._case c.args.out.now c.answer.new.out c.in-Ok.ensures.ok held c.question-asked.ensures.path c.question-asked.ensures.is_dir c.as_bytes.ensures reset
