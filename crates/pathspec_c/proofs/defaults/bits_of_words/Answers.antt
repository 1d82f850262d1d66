-- Globs are both asked for and not.
use Rattle.std.proofs.Common.{refl}
use Rattle.gix_pathspec.specs.Faults.Fault.{GlobAndNoGlob}
use Rattle.pathspec_c.proofs.defaults.bits_of_words.Goals as goal

pub returns-then-noglob : goal.returns-then-noglob
returns-then-noglob c =
    (GlobAndNoGlob, refl, rw (c.in_ok-literal.ensures, c.if-literal.false, c.in_ok-ignore_case.ensures, c.in_ok-glob.ensures, c.if-glob.true, c.in_ok-noglob.ensures, c.if-noglob.true) refl)
