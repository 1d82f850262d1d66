use Rattle.std.proofs.Common.{◌≡◌, ◌+◌, ◌^◌, ◌<◌, ◌≤◌, length, ap, arith}
use Rattle.pathspec_glob.specs.Globs.{glob_tokens}
use Rattle.pathspec_glob.proofs.AnswerProofs.{parts-few, parts-count}
use Rattle.pathspec_glob.proofs.matcher.Glob.tokens.Goals.{After-deref-parts}
use Rattle.pathspec_glob.proofs.matcher.Glob.tokens.Goals as goal

-- mode and pattern of the parts are those of the glob
same-source : (c : After-deref-parts) → record { mode = c.deref-parts.result.now.head.mode; pattern = c.deref-parts.result.now.source.pattern } ≡ c.args.self.now
same-source c = rw c.deref-parts.ensures c.self.view_is

-- the tokens are at most the pattern's bytes
few : (c : After-deref-parts) → length c.deref-parts.result.now.head.tokens + length c.deref-parts.result.now.middle.tokens + length c.deref-parts.result.now.tail.tokens ≤ length c.deref-parts.result.now.source.pattern
few c = parts-few c.deref-parts.result.now.head.mode c.deref-parts.result.now.source.pattern c.deref-parts.result.now.head c.deref-parts.result.now.middle c.deref-parts.result.now.tail (rw c.deref-parts.ensures c.self.invariant)

-- which are fewer than 2^64
fits : (c : After-deref-parts) → length c.deref-parts.result.now.source.pattern < 2 ^ 64
fits c = rw c.deref-parts.ensures c.self.invariant.fits

pub overflow_add-result : goal.overflow_add-result
overflow_add-result c =
    let here = (goal.at.overflow_add-result c).After-deref-parts in
    omega (arith, few here, fits here, c.len.ensures, c.len-2.ensures)

pub overflow_add-result-2 : goal.overflow_add-result-2
overflow_add-result-2 c =
    let here = (goal.at.overflow_add-result-2 c).After-deref-parts in
    omega (arith, few here, fits here, c.len.ensures, c.len-2.ensures, c.len-3.ensures)

pub returns-clause-tokens : goal.returns-clause-tokens
returns-clause-tokens c =
    let all = parts-count c.deref-parts.result.now.head.mode c.deref-parts.result.now.source.pattern c.deref-parts.result.now.head c.deref-parts.result.now.middle c.deref-parts.result.now.tail (rw c.deref-parts.ensures c.self.invariant) in
    omega (arith, all, c.len.ensures, c.len-2.ensures, c.len-3.ensures, ap (λ g. length (glob_tokens g)) (same-source (goal.at.returns-clause-tokens c).After-deref-parts))

pub returns-clause-few : goal.returns-clause-few
returns-clause-few c = omega (arith, few (goal.at.returns-clause-few c).After-deref-parts, c.len.ensures, c.len-2.ensures, c.len-3.ensures, ap (λ g. length g.pattern) (same-source (goal.at.returns-clause-few c).After-deref-parts))
