use Rattle.std.proofs.Common.{◌≡◌, ℕ, ◌<◌, ◌||◌, drop}
use Rattle.pathspec_glob.proofs.Words.{items_view, items_hold}
use Rattle.pathspec_glob.specs.BitVecs.{words_hold}
use Rattle.pathspec_glob.proofs.sets.ByteSet.of_items.Given as goal

abbrev pub invariant-loop-item : goal.invariant-loop-item
invariant-loop-item l = (b : ℕ) → b < 256
    → (words_hold l.set.words b || items_hold (items_view (drop l.item-index l.items)) b) ≡ items_hold (items_view l.items) b
