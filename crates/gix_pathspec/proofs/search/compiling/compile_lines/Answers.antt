-- The next line says a spec, and its normal form is made; or it is at fault.
use Rattle.std.proofs.Common.{rules}
use Rattle.std.proofs.lemmas.Result.{err_from_is_err_and}
use Rattle.gix_pathspec.specs.Patterns.{pattern_spec}
use Rattle.gix_pathspec.specs.Paths.{IsBytes}
use Rattle.gix_pathspec.proofs.SearchProofs.{of_none}
use Rattle.gix_pathspec.proofs.BuildingProofs.{tells-on}
use Rattle.gix_pathspec.proofs.LineProofs.{read-none, read-more, read-fails}
use Rattle.gix_pathspec.proofs.search.compiling.compile_lines.Goals as goal

pub loop-number-init : goal.loop-number-init
loop-number-init c = (read-none _ _ _ _ _ _ _ (search rules) (search rules) c.new-specs.ensures.items, rw c.new-specs.ensures.items (of_none (λ s. IsBytes s.path)))

pub returns-in_err-pattern-clause-specs : goal.returns-in_err-pattern-clause-specs
returns-in_err-pattern-clause-specs c =
    let p = err_from_is_err_and c.from_residual.result c.from_residual.ensures.1 in
    let steps = c.in-Some.ensures.steps in
    rw (p.1, p.2) (tells-on _ _ _ (λ f h. read-fails _ _ _ _ _ _ _ _ c.loop-number.invariant.0 c.in-Some.number c.in-Some.line.now _ f steps.1 steps.0 h) c.in_err-pattern.ensures)

pub loop-number-preserved : goal.loop-number-preserved
loop-number-preserved c =
    let steps = c.in-Some.ensures.steps in
    (read-more _ _ _ _ _ _ _ _ c.loop-number.invariant.0 c.in-Some.number _ c.in-Some.line.now _ (pattern_spec c.in_ok-pattern.pattern) c.compile_next.new.specs.items c.in_ok-fault.fault steps.1 steps.2 steps.0 c.in_ok-pattern.ensures c.in_ok-fault.ensures.specs, c.in_ok-fault.ensures.bytes)
