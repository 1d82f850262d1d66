-- Names that are marked: each has the number of the question that marked it last.
use Rattle.std.specs.Prelude.{ℕ, Bool, true, false, List, Vec, ◌==◌, nat_le, Option, IsTrue}
use Rattle.std.specs.Option.{option_map_or}
use Rattle.std.specs.Ordering.{nat_cmp}
use Rattle.std.specs.Cmp.Lexicographic.{slice_cmp}
use Rattle.std.specs.BTreeMap.{BTreeMap, get_by}
use Rattle.std.specs.Global.{Global}

-- numbers by name
abbrev pub Numbers : Type 0
Numbers = BTreeMap (Vec ℕ Global) ℕ

-- the number of a name
abbrev pub number_of : Numbers → List ℕ → Option ℕ
number_of numbers name = get_by (λ key. slice_cmp nat_cmp name key.items) numbers

-- whether a name has this number
abbrev pub has_number : Numbers → ℕ → List ℕ → Bool
has_number numbers number name = option_map_or (λ own. own == number) (number_of numbers name) false

-- no name has a number above this one
abbrev pub AreUpTo : ℕ → Numbers → Type 0
AreUpTo number numbers = (name : List ℕ) → IsTrue (option_map_or (λ own. nat_le own number) (number_of numbers name) true)
