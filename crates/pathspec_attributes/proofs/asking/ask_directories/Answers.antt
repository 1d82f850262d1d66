-- Each directory's file is asked before those above it, and the top's last.
use Rattle.std.proofs.Common.{◌≡◌, ◌∙◌, ℕ, ◌-◌, ◌&&◌, false, get_or, length, List, [], subst, arith}
use Rattle.std.specs.List.{flat_map}
use Rattle.std.specs.Prelude.{nat_lt}
use Rattle.std.proofs.lemmas.Result.{on_ok_weaker}
use Rattle.pathspec_parts.specs.Paths.{is_slash}
use Rattle.pathspec_parts.specs.Attributes.{Assignment}
use Rattle.pathspec_attributes.specs.Deciding.{Macro}
use Rattle.pathspec_attributes.specs.Files.{directories_to, said_by_file}
use Rattle.pathspec_attributes.specs.Leading.{Leads}
use Rattle.pathspec_attributes.specs.Views.{file_in, macros_view, marked}
use Rattle.pathspec_attributes.proofs.AskingProofs.{at-slash, at-front, not-slash, directory-says, directory-passes, top-says}
use Rattle.pathspec_attributes.proofs.LeadingProofs.{leads-behind, leads-nowhere, leads-on}
use Rattle.pathspec_attributes.proofs.asking.ask_directories.Goals as goal
use Rattle.pathspec_attributes.proofs.asking.ask_directories.Goals.{else-end-gt0-via-then-end-gt0+else-asked-end-eq47, else-end-gt0-via-else-end-gt0}

pub loop-end-preserved-then-asked-end-eq47 : goal.loop-end-preserved-then-asked-end-eq47
loop-end-preserved-then-asked-end-eq47 c =
    let macros : List Macro = macros_view c.args.macros.now in
    let asked = c.args.asked.now in
    let path : List ℕ = asked.path.now in
    let say : List ℕ → List Assignment = λ base. said_by_file asked.case path asked.is_dir base (file_in c.args.directories.now base) in
    let end : ℕ = c.loop-end.end in
    let marks = (marked c.ask_directory.new.room.marks) in
    let out = c.ask_directory.new.out in
    let step = leads-behind macros (flat_map say (directories_to end path))
    (directory-says say path end c.loop-end-test.true (at-slash path (end - 1) c.if-asked-end-eq47.true c.if-end-gt0.true))
    c.in_ok-ask_directory.ensures.leads (leads-nowhere macros (flat_map say (directories_to (end - 1) path)) marks out) in
    record {
      within = omega (arith, c.loop-end.invariant.within);
      leads = leads-on macros c.loop-end.invariant.leads step;
      names = c.ask_directory.ensures.names ∙ c.loop-end.invariant.names;
    }

pub loop-end-preserved : goal.loop-end-preserved
loop-end-preserved c =
    let macros : List Macro = macros_view c.args.macros.now in
    let asked = c.args.asked.now in
    let path : List ℕ = asked.path.now in
    let say : List ℕ → List Assignment = λ base. said_by_file asked.case path asked.is_dir base (file_in c.args.directories.now base) in
    let end : ℕ = c.loop-end.end in
    let k : ℕ = end - 1 in
    let passes : (is_slash (get_or path k 0) && nat_lt 0 k) ≡ false = elim c.else-end-gt0.branch [
      | else-end-gt0-via-then-end-gt0+else-asked-end-eq47 w ↦ not-slash path k w.if-asked-end-eq47.false
      | else-end-gt0-via-else-end-gt0 w ↦ at-front path k w.if-end-gt0.false
    ] in
    record {
      within = omega (arith, c.loop-end.invariant.within);
      leads = subst (λ (list : List Assignment). Leads macros (flat_map say (directories_to (length path) path)) (marked c.args.room.now.marks) c.args.out.now list (marked c.loop-end.room.marks) c.loop-end.out) (directory-passes say path end c.loop-end-test.true passes) c.loop-end.invariant.leads;
      names = c.loop-end.invariant.names;
    }

pub returns-clause-leads : goal.returns-clause-leads
returns-clause-leads c =
    let macros : List Macro = macros_view c.args.macros.now in
    let asked = c.args.asked.now in
    let path : List ℕ = asked.path.now in
    let say : List ℕ → List Assignment = λ base. said_by_file asked.case path asked.is_dir base (file_in c.args.directories.now base) in
    on_ok_weaker c.ask_directory-2.result (λ top. leads-on macros c.loop-end.invariant.leads
    (leads-behind macros (flat_map say (directories_to c.loop-end.end path)) (top-says say path c.loop-end.end c.loop-end-test.false) top (leads-nowhere macros [] (marked c.ask_directory-2.new.room.marks) c.ask_directory-2.new.out))) c.ask_directory-2.ensures.leads
