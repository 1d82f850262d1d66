-- How far two texts agree, and which of them stands behind the other in byte order.
use Rattle.std.specs.Prelude.{◌≡◌, ℕ, Bool, List, nat_eq}
use Rattle.std.specs.List.{common_prefix_len}
use Rattle.std.specs.Ordering.{nat_cmp, is_gt}
use Rattle.std.specs.Cmp.Lexicographic.{slice_cmp}

-- how many bytes of two texts agree at the front
abbrev pub agreement : List ℕ → List ℕ → ℕ
agreement x y = common_prefix_len nat_eq x y

-- x stands behind y in byte order
abbrev pub is_behind : List ℕ → List ℕ → Bool
is_behind x y = is_gt (slice_cmp nat_cmp x y)

-- how x compares with y: in how many bytes they agree, and whether x stands behind y
pub record IsComparison (x y : List ℕ) (agreed : ℕ) (behind : Bool) : Type 0 where
  pub agrees : agreed ≡ agreement x y
  pub stands : behind ≡ is_behind x y
