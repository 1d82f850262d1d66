-- Rows of places as truth values, and what places lead to.
use Rattle.std.specs.Prelude.{◌≡◌, ◌<◌, ◌-◌, ℕ, suc, Bool, false, ◌&&◌, ◌||◌, List, length, get_or}
use Rattle.pathspec_glob.specs.GlobCells.{has, further}
use Rattle.pathspec_glob.specs.BitVecs.{holds}

-- what the places of a row lead to without a byte: a wide one to the next, and one that may be passed over to the second next
abbrev pub leads_on : (ℕ → Bool) → (ℕ → Bool) → (ℕ → Bool) → ℕ → Bool
leads_on wide over row i = further false (λ j. row j && wide j) i || further false (further false (λ j. row j && over j)) i

-- a row holds the places that were entered, and those that its own lead to without a byte
abbrev pub IsClosedRow : List Bool → List Bool → List Bool → List Bool → Type 0
IsClosedRow wide over entered row =
    (i : ℕ) → i < length entered → holds row i ≡ (holds entered i || leads_on (holds wide) (holds over) (holds row) i)

-- the places whose token takes the byte
abbrev pub taken_of : List Bool → List Bool → ℕ → Bool
taken_of takes row i = holds row i && holds takes i

-- a row enters the places that a byte leads to from another: a wide one stays, and each leads to the next
abbrev pub IsEntered : List Bool → List Bool → List Bool → List Bool → Type 0
IsEntered wide takes old row =
    (i : ℕ) → i < length old → holds row i ≡ (further false (taken_of takes old) i || (taken_of takes old i && holds wide i))

-- a glob with this last place has matched whatever stands before: its place behind its first token stands, and cuts
abbrev pub is_settled : List Bool → List Bool → ℕ → Bool
is_settled cuts row end = holds row (end - 1) && holds cuts (end - 1)

-- no glob that ends before a place is settled
abbrev pub IsUncut : List Bool → List ℕ → List Bool → ℕ → Type 0
IsUncut cuts ends row i = (g : ℕ) → g < length ends → get_or ends g 0 < i → is_settled cuts row (get_or ends g 0) ≡ false

-- what the words before lead to, as a word that begins at a place holds it
pub record IsCarried (wide over row : ℕ → Bool) (from carry : ℕ) : Type 0 where
  pub first : has carry 0 ≡ leads_on wide over row from
  pub second : has carry 1 ≡ further false (λ j. row j && over j) from
  pub none : (k : ℕ) → has carry (suc (suc k)) ≡ false

-- what a word leads to in the next
pub record IsCarriedWord (row wide over carry : ℕ) : Type 0 where
  pub first : has carry 0 ≡ ((has row 63 && has wide 63) || (has row 62 && has over 62))
  pub second : has carry 1 ≡ (has row 63 && has over 63)
  pub none : (k : ℕ) → has carry (suc (suc k)) ≡ false
