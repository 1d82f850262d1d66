-- What is found settles the path, and selects it just where it is chosen.
use Rattle.std.proofs.Common.{◌∙◌}
use Rattle.bstr.specs.BStr.{bstr_bytes}
use Rattle.gix_pathspec.specs.Search.{specs_of}
use Rattle.gix_pathspec.proofs.RoomProofs.{fits-kept}
use Rattle.pathspec_explain.proofs.VerdictProofs.{same_tests}
use Rattle.pathspec_explain.proofs.verdict.explain.Goals as goal

pub settle-requires : goal.settle-requires
settle-requires g c = fits-kept c.args.search.now.specs c.args.scratch.now c.may_skip.new.scratch c.requires.fits c.may_skip.ensures.room

pub returns-clause-verdict : goal.returns-clause-verdict
returns-clause-verdict g c = c.verdict_of-verdict.ensures.verdict (g.L.LookUp.table c.args.look_up.now) c.args.is_dir c.requires.some c.in_ok-found.ensures.answer

pub returns-clause-chosen : goal.returns-clause-chosen
returns-clause-chosen g c =
    let selected = c.in_ok-found.ensures.selected c.requires.some in
    let test = c.in_ok-found.ensures.test (g.L.LookUp.table c.args.look_up.now) (specs_of c.args.search.now.specs) (bstr_bytes c.args.path) c.args.is_dir in
    c.verdict_of-verdict.ensures.selected ∙ same_tests _ _ (λ h. test.1 (selected.0 h)) (λ h. selected.1 (test.0 h))
