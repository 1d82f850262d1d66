use Rattle.std.proofs.Common.{◌≡◌, ℕ, ◌+◌, ◌*◌, ◌<◌, ◌∙◌, refl, sym, subst, arith, length}
use Rattle.pathspec_glob.specs.BitVecs.{holds}
use Rattle.pathspec_glob.specs.GlobCells.{has}
use Rattle.pathspec_glob_set.specs.Rows.{IsCarried}
use Rattle.pathspec_glob_set.proofs.RowProofs.{carried-next, carried-none, close-more}
use Rattle.pathspec_glob_set.proofs.table.row.close.Goals as goal

pub loop-index-init : goal.loop-index-init
loop-index-init c = record {
  done = λ i h within. absurd (let no : ⊥ = omega (arith, h) in no);
  behind = λ i h. refl;
  carried = λ h. carried-none (holds c.args.wide.now) (holds c.args.over.now) (holds c.args.row.now);
  len = refl;
}

pub loop-index-preserved : goal.loop-index-preserved
loop-index-preserved c =
    let was = c.loop-index.invariant in
    let index = c.loop-index.index in
    let old = c.args.row.now in
    let wide = c.args.wide.now in
    let over = c.args.over.now in
    let row = c.loop-index.row in
    let new = c.set_word.new.self in
    let put = c.set_word.ensures in
    let w = c.word-widens.result in
    let o = c.word-passes.result in
    let closed = c.closed_word-closed.result in
    let next : index * 64 + 64 ≡ (index + 1) * 64 = omega arith in
    let there : (j : ℕ) → j < 64 → index * 64 + j < length old → holds new (index * 64 + j) ≡ has closed j = λ j low h. put.there j low (omega (arith, h, was.len)) in
    let words : (j : ℕ) → j < 64 → index * 64 + j < length old → has c.word-own.result j ≡ holds row (index * 64 + j) = λ j low h. c.word-own.ensures j low (omega (arith, h, was.len)) in
    let ws : (j : ℕ) → j < 64 → index * 64 + j < length old → holds wide (index * 64 + j) ≡ has w j = λ j low h. sym (c.word-widens.ensures j low (omega (arith, h, c.requires.wide))) in
    let os : (j : ℕ) → j < 64 → index * 64 + j < length old → holds over (index * 64 + j) ≡ has o j = λ j low h. sym (c.word-passes.ensures j low (omega (arith, h, c.requires.over))) in
    record {
      done = λ i low within. close-more wide over old row new (length old) (index * 64) c.word-own.result c.loop-index.carry w o closed
          was.len was.done was.behind was.carried words ws os c.closed_word-closed.ensures there put.before i (omega (arith, low, next)) within;
      behind = λ i h. put.behind i (omega (arith, h)) ∙ was.behind i (omega (arith, h));
      carried = λ more. subst (λ from. IsCarried (holds wide) (holds over) (holds new) from c.carried-carry.result) next
          (carried-next (holds wide) (holds over) (holds new) (index * 64) closed w o c.carried-carry.result c.carried-carry.ensures
          (λ j low. ws j low (omega (arith, low, more))) (λ j low. os j low (omega (arith, low, more))) (λ j low. there j low (omega (arith, low, more))));
      len = put.len ∙ was.len;
    }

pub returns-clause-closed : goal.returns-clause-closed
returns-clause-closed c i h = c.loop-index.invariant.done i (omega (arith, h, c.loop-index-test.false)) h
