-- Each fault in its order, and what is asked for where there is none.
use Rattle.std.proofs.Common.{◌≡◌, ◌∙◌, sym, ap, map, string_bytes, Ok, Err}
use Rattle.std.proofs.lemmas.Result.{err_from_is_err_and}
use Rattle.pathspec_select.specs.RequestFaults.RequestFault.{Usage}
use Rattle.pathspec_select.specs.Environment.{words_of}
use Rattle.pathspec_select.specs.Requests.{numbered_specs, request_of}
use Rattle.pathspec_select.specs.JobForms.{job_specs_view}
use Rattle.pathspec_select.proofs.WordProofs.{tells-on}
use Rattle.pathspec_select.proofs.RowProofs.{rows-words}
use Rattle.pathspec_select.proofs.RequestProofs.{tells-usage, request-options, request-rows, request-environment, request-specs, request-done}
use Rattle.pathspec_select.proofs.job.Job.from_words.Goals as goal

pub returns-in_err-options-clause-request : goal.returns-in_err-options-clause-request
returns-in_err-options-clause-request c =
    let p = err_from_is_err_and c.from_residual.result c.from_residual.ensures.1 in
    let e = c.in_err-options.ensures.options in
    rw (p.1, p.2, e.0) (request-options (map string_bytes c.args.words.now) (words_of c.args.environment.now) Usage e.1)

pub returns-in_err-rows-clause-request : goal.returns-in_err-rows-clause-request
returns-in_err-rows-clause-request c =
    let p = err_from_is_err_and c.from_residual-in_err-rows.result c.from_residual-in_err-rows.ensures.1 in
    let words = map string_bytes c.args.words.now in
    let environment = words_of c.args.environment.now in
    let o = c.in_ok-options.ensures.options in
    rw (p.1, p.2) (tells-usage (λ fault. request_of words environment ≡ Err fault) _ c.in_err-rows.field-0.0 (λ u. request-rows words environment o.0 o.1 Usage (sym (rows-words words o.0 o.1) ∙ u)) c.in_err-rows.ensures.rows)

pub returns-in_err-defaults-clause-request : goal.returns-in_err-defaults-clause-request
returns-in_err-defaults-clause-request c =
    let p = err_from_is_err_and c.from_residual-in_err-defaults.result c.from_residual-in_err-defaults.ensures.1 in
    let words = map string_bytes c.args.words.now in
    let environment = words_of c.args.environment.now in
    let o = c.in_ok-options.ensures.options in
    let r = sym (rows-words words o.0 o.1) ∙ c.in_ok-rows.ensures.rows in
    rw (p.1, p.2) (tells-on c.in_err-defaults.field-0.0 _ _ (request-environment words environment o.0 o.1 c.in_ok-rows.rows.rows r) c.in_err-defaults.ensures)

pub returns-in_err-specs-clause-request : goal.returns-in_err-specs-clause-request
returns-in_err-specs-clause-request c =
    let p = err_from_is_err_and c.from_residual-in_err-specs.result c.from_residual-in_err-specs.ensures.1 in
    let words = map string_bytes c.args.words.now in
    let environment = words_of c.args.environment.now in
    let o = c.in_ok-options.ensures.options in
    let r = sym (rows-words words o.0 o.1) ∙ c.in_ok-rows.ensures.rows in
    rw (p.1, p.2) (tells-on c.in_err-specs.field-0.0 _ _ (request-specs words environment o.0 o.1 c.in_ok-rows.rows.rows r c.in_ok-defaults.defaults c.in_ok-defaults.ensures) (c.in_err-specs.ensures.specs o.0 o.2))

pub returns-clause-request : goal.returns-clause-request
returns-clause-request c =
    let words = map string_bytes c.args.words.now in
    let environment = words_of c.args.environment.now in
    let o = c.in_ok-options.ensures.options in
    let r = sym (rows-words words o.0 o.1) ∙ c.in_ok-rows.ensures.rows in
    let specs = numbered_specs (job_specs_view c.in_ok-specs.specs) in
    request-done words environment o.0 o.1 c.in_ok-rows.rows.rows r c.in_ok-defaults.defaults c.in_ok-defaults.ensures specs (c.in_ok-specs.ensures.specs o.0 o.2)
    ∙ ap (λ separator. Ok (record { separator = separator; rows = c.in_ok-rows.rows.rows; specs = specs })) o.2.settings.separator
