-- What is put into a reset outcome is what the table says.
use Rattle.std.proofs.Common.{◌≡◌, ◌∙◌, ap, Result, Ok, Err, OnOk}
use Rattle.pathspec_glob.specs.declared.Case.{Case}
use Rattle.bstr.specs.BStr.{bstr_bytes}
use Rattle.pathspec_attributes.specs.Files.{Files, Held}
use Rattle.pathspec_attributes.specs.Views.{asked_files, directories_view, file_view}
use Rattle.pathspec_attributes.proofs.AnswerProofs.{replied}
use Rattle.pathspec_attributes.proofs.attribute_files.AttributeFiles.ask.Goals as goal

-- what follows where a call succeeds
onward : {A E P Q : Type 0} (r : Result A E) → (P → Q) → OnOk r P → OnOk r Q
onward (Ok x) f p = f p
onward (Err e) f p = tt

pub returns-clause-ok : goal.returns-clause-ok
returns-clause-ok c = λ case reset.
    let own = c.self.inside in
    let asked = c.question-asked.result in
    let given : Files = asked_files asked (file_view own.info) (directories_view own.directories) (file_view own.global) in
    let held : given ≡ c.args.self.now.files =
    ap (λ (case : Case). record { case = case; info = file_view own.info; directories = directories_view own.directories; global = file_view own.global }) c.question-asked.ensures.case
    ∙ ap (λ (h : Held). h.files) c.self.view_is in
    onward c.answer.result (λ applied. replied given c.args.self.now.files asked.path.now c.as_bytes.result.now (bstr_bytes c.args.path) asked.is_dir c.args.is_dir case c.args.out.now c.answer.new.out applied held c.question-asked.ensures.path c.question-asked.ensures.is_dir c.as_bytes.ensures reset) c.answer.ensures.ok
