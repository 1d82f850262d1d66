-- The refusal tells the fault of the search that is built.
use Rattle.std.proofs.Common.{◌≡◌, ap, Err}
use Rattle.gix_pathspec.specs.Lines.{search_of_lines}
use Rattle.pathspec_select.specs.Requests.{spec_result}
use Rattle.pathspec_select.proofs.RequestProofs.{tells-build}
use Rattle.pathspec_select.proofs.job.specs.SearchBuilder.build.Goals as goal

pub returns-in-Err-clause-specs : goal.returns-in-Err-clause-specs
returns-in-Err-clause-specs c =
    tells-build c.in-Err.error c.of_build.result _ _ c.of_build.ensures c.in-Err.ensures.search
    (λ fault h.
    let same : search_of_lines c.self.inside.defaults c.self.inside.prefix.items c.self.inside.root.items c.args.lines.now ≡ Err fault = rw (c.new.ensures, c.as_slice.ensures.value, c.new-root.ensures, c.as_slice-2.ensures.value) at h in
    rw (← c.self.view_is) (ap spec_result same))
