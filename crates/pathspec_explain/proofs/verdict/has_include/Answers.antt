-- The first that is left is an include, or the others decide.
use Rattle.std.proofs.Common.{sym}
use Rattle.pathspec_explain.proofs.VerdictProofs.{any-passed, any-here}
use Rattle.pathspec_explain.proofs.verdict.has_include.Goals as goal

pub loop-pattern-preserved : goal.loop-pattern-preserved
loop-pattern-preserved c = any-passed _ _ _ _ c.in-Some.ensures.steps (sym c.if-not-is_excluded.ensures) c.loop-pattern.invariant

pub returns-then-not-is_excluded : goal.returns-then-not-is_excluded
returns-then-not-is_excluded c = any-here _ _ _ _ c.in-Some.ensures.steps (sym c.if-not-is_excluded.ensures) c.loop-pattern.invariant
