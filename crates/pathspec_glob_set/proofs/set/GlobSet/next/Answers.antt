use Rattle.std.proofs.Common.{subst, sym}
use Rattle.pathspec_glob_set.specs.Moves.{AreAlike}
use Rattle.pathspec_glob_set.specs.Answers.{set_in}
use Rattle.pathspec_glob_set.proofs.AnswerProofs.{left-alike, some-match-alike}
use Rattle.pathspec_glob_set.proofs.set.GlobSet.next.Goals as goal

pub returns-clause-no_other : goal.returns-clause-no_other
returns-clause-no_other c =
    let own = c.args.self.now in
    let fits = subst (λ m. AreAlike m own.moves) (sym c.read.ensures.room) c.requires.fits in
    left-alike (set_in c.read.new.self) own c.args.text.now c.args.from c.next_of.result fits (c.next_of.ensures.no_other c.args.text.now c.read.ensures.read)

pub returns-clause-matches : goal.returns-clause-matches
returns-clause-matches c =
    let own = c.args.self.now in
    let scratch = c.read.new.self in
    let fits = subst (λ m. AreAlike m own.moves) (sym c.read.ensures.room) c.requires.fits in
    some-match-alike (set_in scratch) own c.args.text.now c.args.from scratch.gave_up c.next_of.new.self.gave_up c.next_of.result fits c.next_of.ensures.kept.gave_up
    (c.next_of.ensures.matches c.args.text.now c.read.ensures.read)
