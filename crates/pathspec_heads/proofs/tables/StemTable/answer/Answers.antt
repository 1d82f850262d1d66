-- The lists with case and those without are asked, one after the other.
use Rattle.std.proofs.Common.{◌≡◌, ◌∙◌, sym, ap, ◌||◌, true, false}
use Rattle.pathspec_heads.specs.Tables.{TextTable, lists_answer}
use Rattle.pathspec_heads.proofs.TableProofs.{table-answers}
use Rattle.pathspec_heads.proofs.tables.StemTable.answer.Goals as goal

pub returns-then-answer : goal.returns-then-answer
returns-then-answer c = λ stems is.
    let table = c.args.self.now in
    let d = c.args.path.now in
    let exact : lists_answer false table.exact c.args.question d ≡ true = ap (λ (t : TextTable). lists_answer false t.exact c.args.question d) (sym c.self.view_is) ∙ (sym c.answer.ensures ∙ c.if-answer.true)
    in c.if-answer.true ∙ (sym (ap (λ b. b || lists_answer true table.folded c.args.question d) exact) ∙ table-answers d c.args.question stems table is)

pub returns-else-answer : goal.returns-else-answer
returns-else-answer c = λ stems is.
    let table = c.args.self.now in
    let d = c.args.path.now in
    let exact : lists_answer false table.exact c.args.question d ≡ false = ap (λ (t : TextTable). lists_answer false t.exact c.args.question d) (sym c.self.view_is) ∙ (sym c.answer.ensures ∙ c.if-answer.false) in
    let folded : c.answer-else-answer.result ≡ lists_answer true table.folded c.args.question d = c.answer-else-answer.ensures ∙ ap (λ (t : TextTable). lists_answer true t.folded c.args.question d) c.self.view_is
    in folded ∙ (sym (ap (λ b. b || lists_answer true table.folded c.args.question d) exact) ∙ table-answers d c.args.question stems table is)
