-- Without case the lower form is asked for, and then the upper.
use Rattle.std.proofs.Common.{◌∙◌, sym, refl}
use Rattle.std.specs.Char.{to_ascii_uppercase}
use Rattle.pathspec_glob.specs.BitVecs.{words_hold}
use Rattle.pathspec_glob.proofs.ByteSetProofs.{holds-Sensitive, holds-Fold}
use Rattle.pathspec_glob.proofs.sets.ByteSet.holds.Goals as goal

pub returns-in-Sensitive : goal.returns-in-Sensitive
returns-in-Sensitive c = holds-Sensitive c.args.case (words_hold c.args.self.now.words) c.args.byte c.has.result c.ranges.byte.fits c.in-Sensitive.is c.has.ensures

pub returns-then-has : goal.returns-then-has
returns-then-has c =
    holds-Fold c.args.case (words_hold c.args.self.now.words) c.args.byte c.to_ascii_lowercase.result (to_ascii_uppercase c.args.byte) c.has-in-Fold.result c.ranges.byte.fits c.in-Fold.is c.to_ascii_lowercase.ensures.value refl
    (rw (sym c.has-in-Fold.ensures ∙ c.if-has.true) c.if-has.true)

pub returns-else-has : goal.returns-else-has
returns-else-has c =
    holds-Fold c.args.case (words_hold c.args.self.now.words) c.args.byte c.to_ascii_lowercase.result c.to_ascii_uppercase.result c.has-else-has.result c.ranges.byte.fits c.in-Fold.is c.to_ascii_lowercase.ensures.value c.to_ascii_uppercase.ensures.value
    (rw (sym c.has-in-Fold.ensures ∙ c.if-has.false) c.has-else-has.ensures)
