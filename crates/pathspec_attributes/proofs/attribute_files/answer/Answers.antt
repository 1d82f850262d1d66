-- The files are asked in the order in which they count.
use Rattle.std.proofs.Common.{◌≡◌, ◌∙◌, ap, List, [], ◌++◌, map, reverse}
use Rattle.std.proofs.lemmas.Result.{on_ok_weaker}
use Rattle.pathspec_attributes.specs.Deciding.{Macro}
use Rattle.pathspec_attributes.specs.Files.{AttributeFile, Files, built_in, file_at, macros_of}
use Rattle.pathspec_attributes.specs.Views.{asked_files, directories_view, file_in, file_view, macro_view, marked}
use Rattle.pathspec_attributes.proofs.AnswerProofs.{answered, same-macros}
use Rattle.pathspec_attributes.proofs.DirectoryProofs.{file_in-is}
use Rattle.pathspec_attributes.proofs.attribute_files.answer.Goals as goal

pub returns-clause-ok : goal.returns-clause-ok
returns-clause-ok c =
    let asked = c.args.asked.now in
    let files : Files = asked_files asked (file_view c.args.info.now) (directories_view c.args.directories.now) (file_view c.args.global.now) in
    let info : List Macro = map macro_view c.as_slice.result.now in
    let top : List Macro = map macro_view c.top_macros.result.now in
    let global : List Macro = map macro_view c.as_slice-2.result.now in
    let own : List Macro = map macro_view c.as_slice-3.result.now in
    let macros : List Macro = reverse info ++ (reverse top ++ (reverse global ++ reverse own)) in
    let macros_are : macros ≡ macros_of files =
    same-macros info top global own files.info.macros (file_at files.directories []).macros files.global.macros built_in.macros (ap (map macro_view) c.as_slice.ensures.value) (c.top_macros.ensures ∙ ap (λ (file : AttributeFile). file.macros) (file_in-is c.args.directories.now [])) (ap (map macro_view) c.as_slice-2.ensures.value) (ap (map macro_view) c.as_slice-3.ensures.value ∙ ap (λ (file : AttributeFile). file.macros) c.requires) in
    on_ok_weaker c.ask_file-2.result
    (λ global. answered files macros (file_in c.args.directories.now) asked.path.now asked.is_dir
    (marked c.forget.new.self) (marked c.ask_file.new.room.marks) (marked c.ask_directories.new.room.marks) (marked c.ask_file-2.new.room.marks)
    c.args.out.now c.ask_file.new.out c.ask_directories.new.out c.ask_file-2.new.out
    macros_are (file_in-is c.args.directories.now) c.forget.ensures c.in_ok-ask_file.ensures.leads c.in_ok-ask_directories.ensures.leads global)
    c.ask_file-2.ensures.leads
