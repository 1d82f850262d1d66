use Rattle.std.proofs.Common.{◌∙◌, sym, ap, true}
use Rattle.pathspec_heads.specs.declared.tables.Question.TheVariants.{Takes}
use Rattle.pathspec_heads.specs.Tables.{TextTable, lists_answer}
use Rattle.pathspec_heads.proofs.TableProofs.{listed}
use Rattle.pathspec_heads.proofs.tables.StemTable.takes_folded.Goals as goal

pub returns : goal.returns
returns c = λ stems is.
    let q = Takes c.args.is_dir in
    c.answer.ensures ∙ (ap (λ (t : TextTable). lists_answer true t.folded q c.args.path.now) c.self.view_is ∙ sym (listed c.args.path.now q true stems c.args.self.now.folded is.folded))
