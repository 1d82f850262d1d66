-- The words or the environment are at fault.
use Rattle.std.proofs.Common.{◌≡◌, map, rules, string_bytes}
use Rattle.std.proofs.lemmas.Result.{err_from_is_err_and}
use Rattle.pathspec_select.specs.declared.refusal.Refusal.TheVariants.{Usage}
use Rattle.pathspec_select.specs.Environment.{words_of}
use Rattle.pathspec_select.proofs.ProgramProofs.{refuses-words}
use Rattle.pathspec_select.proofs.program.run.Goals as goal

pub returns-in_err-job-clause-ends : goal.returns-in_err-job-clause-ends
returns-in_err-job-clause-ends g c =
    let p = err_from_is_err_and c.from_residual.result c.from_residual.ensures.1 in
    rw (p.1, p.2)
    (refuses-words (map string_bytes c.args.words.now) (words_of c.args.environment.now) (g.R.Read.remaining c.args.reader.now) (g.W.Write.contents c.args.writer.now) _ c.in_err-job.field-0.0 (search rules)
    (λ o. let e = c.in_err-job.ensures.usage o in let same : c.in_err-job.field-0.0 ≡ Usage = cc in same) c.in_err-job.ensures.request)
