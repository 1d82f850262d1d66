-- What a job ends with, by where its specs stand.
use Rattle.std.proofs.Common.{refl, sym, subst}
use Rattle.pathspec_select.specs.Requests.{numbered_specs}
use Rattle.pathspec_select.specs.Requests.JobSpecs.{FromWords, FromInput}
use Rattle.pathspec_select.specs.Program.{IsAllOf}
use Rattle.pathspec_select.proofs.ChosenProofs.{writes_records}
use Rattle.pathspec_select.proofs.InputProofs.{parts-on_ok}
use Rattle.pathspec_select.proofs.ProgramProofs.{ends-parts, parts-built}
use Rattle.pathspec_select.proofs.program.run_with.Goals as goal

pub returns-in-FromWords-clause-ends : goal.returns-in-FromWords-clause-ends
returns-in-FromWords-clause-ends g c =
    let bytes = c.as_slice.result.now in
    let ns = c.in-FromWords.search.specs in
    let input = g.R.Read.remaining c.args.reader.now in
    let all = subst (IsAllOf input) (sym c.as_slice.ensures.value) c.in_ok-bytes.ensures.all in
    rw (← c.job.view_is, c.in-FromWords.is)
    (ends-parts (FromWords ns) input bytes (record { specs = ns; listing = bytes }) all refl (g.L.LookUp.table c.args.look_up.now) c.job.inside.separator (g.W.Write.contents c.args.writer.now) (g.W.Write.contents c.write_chosen.new.writer) c.write_chosen.result c.write_chosen.ensures.ends)

pub returns-clause-ends : goal.returns-clause-ends
returns-clause-ends g c =
    let bytes = c.as_slice-in-FromInput.result.now in
    let builder = c.in-FromInput.builder in
    let ns = c.in_ok-search-in-FromInput.search.specs in
    let input = g.R.Read.remaining c.args.reader.now in
    let parts = c.in_ok-specs-in-FromInput.field-0 in
    let divided = c.in_ok-specs-in-FromInput.ensures in
    let all = subst (IsAllOf input) (sym c.as_slice-in-FromInput.ensures.value) c.in_ok-bytes.ensures.all in
    let built = parts-built builder bytes parts.specs.now parts.listing.now ns divided.divided divided.specs divided.listing c.in_ok-search-in-FromInput.ensures.specs in
    rw (← c.job.view_is, c.in-FromInput.is)
    (ends-parts (FromInput builder) input bytes (record { specs = ns; listing = parts.listing.now }) all built (g.L.LookUp.table c.args.look_up.now) c.job.inside.separator (g.W.Write.contents c.args.writer.now) (g.W.Write.contents c.write_chosen-in-FromInput.new.writer) c.write_chosen-in-FromInput.result
    c.write_chosen-in-FromInput.ensures.ends)

pub returns-in-FromWords-clause-chosen : goal.returns-in-FromWords-clause-chosen
returns-in-FromWords-clause-chosen g c =
    writes_records (g.L.LookUp.table c.args.look_up.now) (numbered_specs c.args.job.now.specs) c.args.job.now.separator (g.R.Read.remaining c.args.reader.now) (g.W.Write.contents c.args.writer.now) (g.W.Write.contents c.write_chosen.new.writer) c.write_chosen.result (returns-in-FromWords-clause-ends g c)

pub returns-clause-chosen : goal.returns-clause-chosen
returns-clause-chosen g c =
    writes_records (g.L.LookUp.table c.args.look_up.now) (numbered_specs c.args.job.now.specs) c.args.job.now.separator (g.R.Read.remaining c.args.reader.now) (g.W.Write.contents c.args.writer.now) (g.W.Write.contents c.write_chosen-in-FromInput.new.writer) c.write_chosen-in-FromInput.result
    (returns-clause-ends g c)

pub returns-in-FromWords-clause-parts : goal.returns-in-FromWords-clause-parts
returns-in-FromWords-clause-parts g c = parts-on_ok c.write_chosen.result

pub returns-clause-parts : goal.returns-clause-parts
returns-clause-parts g c = parts-on_ok c.write_chosen-in-FromInput.result
