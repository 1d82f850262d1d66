use Rattle.std.proofs.Common.{◌≡◌, ◌*◌, suc, ◌∷◌, sym, ◌∙◌, arith}
use Rattle.std.proofs.lemmas.Bool.{ltb-false}
use Rattle.pathspec_glob.specs.BitVecs.{holds}
use Rattle.pathspec_glob.proofs.AcceptProofs.{closure-accepts, step-accepts, none-accepts}
use Rattle.pathspec_glob.proofs.StepProofs.{arrives-none, stays-none}
use Rattle.pathspec_glob.proofs.state_set.StateSet.advance.Goals as goal

pub returns-clause-accepts : goal.returns-clause-accepts
returns-clause-accepts c bs =
    let tokens = c.args.tokens.now in
    let b = c.args.byte in
    let case = c.args.case in
    let closure = c.close.ensures.closure tokens c.requires.moves in
    let takes = c.take-tests.ensures.takes in
    let entered = holds c.close.new.self.entered in
    let staying = holds c.args.self.now.staying in
    rw (c.skip_words.ensures.entered, c.skip_words.ensures.staying)
    (step-accepts tokens.mode case tokens.tokens entered (holds c.close.new.self.staying) (holds c.take-tests.new.self.entered) (holds c.take-tests.new.self.staying) b bs
    (rw closure.staying closure.closed) (λ i h. takes.entered (suc i) h) (λ i h. takes.staying i h)
    ∙ rw (takes.entered 0 (omega arith), closure.staying)
    (closure-accepts tokens.mode case tokens.tokens (holds c.args.self.now.entered) staying entered (b ∷ bs) closure.includes closure.least))

pub returns-clause-none : goal.returns-clause-none
returns-clause-none c off text =
    let tokens = c.args.tokens.now in
    let takes = c.take-tests.ensures.takes in
    let zero = rw c.take-tests.ensures.alone at (ltb-false 0 (c.take-tests.result.tokens * c.take-tests.result.count) (sym c.add.ensures.any ∙ off)) in
    let count : c.take-tests.result.count ≡ 0 = omega (arith, zero) in
    let none = c.take-tests.ensures.none count in
    rw (c.skip_words.ensures.entered, c.skip_words.ensures.staying)
    (none-accepts tokens.mode c.args.case tokens.tokens (holds c.take-tests.new.self.entered) (holds c.take-tests.new.self.staying) text
    (λ i h. takes.entered i h ∙ arrives-none tokens c.args.case c.close.new.self c.args.byte i (λ j before. none j (omega arith)))
    (λ i h. takes.staying i h ∙ stays-none tokens c.args.case c.close.new.self c.args.byte i (none i h)))
