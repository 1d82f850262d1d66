-- The reason that is found is true, and tells whether the spec matches.
use Rattle.std.proofs.Common.{subst}
use Rattle.std.proofs.lemmas.Result.{IfOk-weaker}
use Rattle.bstr.specs.BStr.{bstr_bytes}
use Rattle.gix_pathspec.specs.Specs.{Spec}
use Rattle.pathspec_explain.specs.Reasons.{IsReason}
use Rattle.pathspec_explain.proofs.ReasonProofs.{reason-tells}
use Rattle.pathspec_explain.proofs.asked.AskedSpec.reason.Goals as goal

pub returns-in-Some-clause-matches : goal.returns-in-Some-clause-matches
returns-in-Some-clause-matches g c =
    IfOk-weaker c.reason_where_it_fits.result _ _ (λ reason h. reason-tells (g.L.LookUp.table c.args.look_up.now) c.args.self.now (bstr_bytes c.args.path) c.args.is_dir reason
    (subst (λ (s : Spec). IsReason (g.L.LookUp.table c.args.look_up.now) s (bstr_bytes c.args.path) c.args.is_dir reason) c.self.view_is h)) c.reason_where_it_fits.ensures.reason

pub returns-in-None-clause-reason : goal.returns-in-None-clause-reason
returns-in-None-clause-reason g c =
    subst (λ (s : Spec). IsReason (g.L.LookUp.table c.args.look_up.now) s (bstr_bytes c.args.path) c.args.is_dir c.why_not.result) c.self.view_is (c.why_not.ensures.reason (g.L.LookUp.table c.args.look_up.now))

pub returns-in-None-clause-matches : goal.returns-in-None-clause-matches
returns-in-None-clause-matches g c = reason-tells (g.L.LookUp.table c.args.look_up.now) c.args.self.now (bstr_bytes c.args.path) c.args.is_dir c.why_not.result (returns-in-None-clause-reason g c)
