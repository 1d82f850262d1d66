-- The rules that fit are asked beside the macros that count.
use Rattle.std.proofs.Common.{◌≡◌, ◌∙◌, ap, subst, ℕ, List, [], ◌++◌, map, reverse}
use Rattle.std.proofs.lemmas.Result.{IfOk-weaker}
use Rattle.std.specs.Option.{option_map}
use Rattle.pathspec_attributes.specs.Deciding.{Macro}
use Rattle.pathspec_attributes.specs.Files.{AttributeFile, Files, built_in, file_at, macros_of}
use Rattle.pathspec_attributes.specs.Sayings.{IsDecider, Saying, rule_at_view, saying_view, sayings}
use Rattle.pathspec_attributes.specs.Views.{asked_files, directories_view, file_view, macro_view}
use Rattle.pathspec_attributes.proofs.AnswerProofs.{same-macros}
use Rattle.pathspec_attributes.proofs.DirectoryProofs.{file_in-is}
use Rattle.pathspec_attributes.proofs.attribute_files.decider_among.Goals as goal

pub returns : goal.returns
returns c =
    let asked = c.args.asked.now in
    let name : List ℕ = c.args.name.now in
    let files : Files = asked_files asked (file_view c.args.info.now) (directories_view c.args.directories.now) (file_view c.args.global.now) in
    let info : List Macro = map macro_view c.as_slice.result.now in
    let top : List Macro = map macro_view c.top_macros.result.now in
    let global : List Macro = map macro_view c.as_slice-2.result.now in
    let own : List Macro = map macro_view c.as_slice-3.result.now in
    let macros : List Macro = reverse info ++ (reverse top ++ (reverse global ++ reverse own)) in
    let macros_are : macros ≡ macros_of files =
    same-macros info top global own files.info.macros (file_at files.directories []).macros files.global.macros built_in.macros (ap (map macro_view) c.as_slice.ensures.value) (c.top_macros.ensures ∙ ap (λ (file : AttributeFile). file.macros) (file_in-is c.args.directories.now [])) (ap (map macro_view) c.as_slice-2.ensures.value) (ap (map macro_view) c.as_slice-3.ensures.value ∙ ap (λ (file : AttributeFile). file.macros) c.requires) in
    let all : List Saying = sayings files asked.path.now asked.is_dir in
    let found : map saying_view c.deref.result.now ≡ all = ap (map saying_view) c.deref.ensures.value ∙ c.in_ok-found.ensures in
    IfOk-weaker c.decider.result
    (λ at. IsDecider macros (map saying_view c.deref.result.now) name (option_map rule_at_view at))
    (λ at. IsDecider (macros_of files) all name (option_map rule_at_view at))
    (λ at d. subst (λ (ms : List Macro). IsDecider ms all name (option_map rule_at_view at)) macros_are (subst (λ (list : List Saying). IsDecider macros list name (option_map rule_at_view at)) found d))
    c.decider.ensures
