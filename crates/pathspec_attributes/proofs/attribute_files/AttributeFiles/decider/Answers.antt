-- The files that are held are asked.
use Rattle.std.proofs.Common.{◌≡◌, ◌∙◌, ap, ℕ, Bool, ◌||◌, List}
use Rattle.std.proofs.lemmas.Result.{IfOk-weaker}
use Rattle.std.specs.Option.{option_map}
use Rattle.bstr.specs.BStr.{bstr_bytes}
use Rattle.pathspec_glob.specs.declared.Case.{Case}
use Rattle.pathspec_parts.specs.Paths.{ends_with_slash, without_last_slash}
use Rattle.pathspec_attributes.specs.Files.{Files, Held, macros_of}
use Rattle.pathspec_attributes.specs.Sayings.{IsDecider, rule_at_view, sayings}
use Rattle.pathspec_attributes.specs.Views.{asked_files, directories_view, file_view}
use Rattle.pathspec_attributes.proofs.FindingProofs.{same-decider}
use Rattle.pathspec_attributes.proofs.attribute_files.AttributeFiles.decider.Goals as goal

pub returns-clause-decider : goal.returns-clause-decider
returns-clause-decider c =
    let own = c.self.inside in
    let asked = c.question-asked.result in
    let name : List ℕ = c.args.name.now in
    let files : Files = c.args.self.now.files in
    let text : List ℕ = bstr_bytes c.args.path in
    let given : Files = asked_files asked (file_view own.info) (directories_view own.directories) (file_view own.global) in
    let held : given ≡ files =
    ap (λ (case : Case). record { case = case; info = file_view own.info; directories = directories_view own.directories; global = file_view own.global }) c.question-asked.ensures.case
    ∙ ap (λ (h : Held). h.files) c.self.view_is in
    let body : asked.path.now ≡ without_last_slash text = c.question-asked.ensures.path ∙ ap without_last_slash c.as_bytes.ensures in
    let kind : asked.is_dir ≡ (c.args.is_dir || ends_with_slash text) = c.question-asked.ensures.is_dir ∙ ap (λ (t : List ℕ). c.args.is_dir || ends_with_slash t) c.as_bytes.ensures in
    IfOk-weaker c.decider_among.result
    (λ at. IsDecider (macros_of given) (sayings given asked.path.now asked.is_dir) name (option_map rule_at_view at))
    (λ at. IsDecider (macros_of files) (sayings files (without_last_slash text) (c.args.is_dir || ends_with_slash text)) name (option_map rule_at_view at))
    (λ at d. same-decider given files asked.path.now (without_last_slash text) asked.is_dir (c.args.is_dir || ends_with_slash text) name (option_map rule_at_view at) held body kind d)
    c.decider_among.ensures
