use Rattle.std.proofs.Common.{◌≡◌, ℕ, ◌<◌, Bool, true, false, List, take, replicate, sym, ◌∙◌, ap, length, arith, get_or}
use Rattle.std.proofs.lemmas.List.{get_or-take, get_or-replicate, get_or-set_same, get_or-set_other}
use Rattle.pathspec_glob.specs.BitVecs.{holds}
use Rattle.pathspec_glob.proofs.AcceptProofs.{begin-accepts}
use Rattle.pathspec_glob.proofs.state_set.StateSet.begin.Goals as goal

-- a row whose first places were left holds none of them
left : (count i : ℕ) (row : List Bool) → take count row ≡ replicate count false → i < count → holds row i ≡ false
left count i row none h = sym (get_or-take count row i false h) ∙ ap (λ front. get_or front i false) none ∙ get_or-replicate count i false false h

pub returns-clause-accepts : goal.returns-clause-accepts
returns-clause-accepts c case text =
    let tokens = c.args.tokens.now.tokens in
    let row = c.leave.new.self in
    let long : 0 < length row = omega (arith, c.requires.entered, c.leave.ensures.len) in
    begin-accepts c.args.tokens.now.mode case tokens (holds c.set.new.self) (holds c.leave-2.new.self) text
    (rw c.set.ensures (get_or-set_same row 0 true false long))
    (λ i some h. rw c.set.ensures (get_or-set_other row 0 i true false (λ e. omega arith) ∙ left _ i row c.leave.ensures.left (omega (arith, c.len.ensures))))
    (λ i h. left _ i c.leave-2.new.self c.leave-2.ensures.left (omega (arith, c.len-2.ensures)))
