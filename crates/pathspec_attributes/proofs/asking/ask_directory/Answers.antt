-- Where no file is held, nothing is said.
use Rattle.std.proofs.Common.{[], Option, subst}
use Rattle.std.specs.Option.{option_map_or}
use Rattle.pathspec_attributes.specs.declared.file.File.{File}
use Rattle.pathspec_attributes.specs.Files.{empty_file, said_by_file}
use Rattle.pathspec_attributes.specs.Leading.{Leads}
use Rattle.pathspec_attributes.specs.Views.{file_view, macros_view, marked}
use Rattle.pathspec_attributes.proofs.LeadingProofs.{leads-nowhere}
use Rattle.pathspec_attributes.proofs.asking.ask_directory.Goals as goal

pub returns-in-None-clause-leads : goal.returns-in-None-clause-leads
returns-in-None-clause-leads c =
    let asked = c.args.asked.now in
    let marks = (marked c.args.room.now.marks) in
    let out = c.args.out.now in
    subst (λ (o : Option File). Leads (macros_view c.args.macros.now) (said_by_file asked.case asked.path.now asked.is_dir c.args.base.now (option_map_or file_view o empty_file)) marks out [] marks out) c.in-None.ensures.value (leads-nowhere (macros_view c.args.macros.now) [] marks out)
