use Rattle.std.proofs.Common.{◌≡◌, ℕ, ◌<◌, List, length, get_or, subst, false}
use Rattle.pathspec_glob.specs.BitVecs.{holds}
use Rattle.pathspec_glob.proofs.BitVecProofs.{none-stands}
use Rattle.pathspec_glob.proofs.bit_vec.BitVec.holds_none.Goals as goal

pub returns : goal.returns
returns c told i =
    let zero : (k : ℕ) → k < length c.self.inside.words.items → get_or c.self.inside.words.items k 0 ≡ 0 =
    subst (λ (ws : List ℕ). (k : ℕ) → k < length ws → get_or ws k 0 ≡ 0) c.deref.ensures.value (c.is_zero.ensures told) in
    subst (λ row. holds row i ≡ false) c.self.view_is (none-stands c.self.inside.words.items c.self.inside.len zero i)
