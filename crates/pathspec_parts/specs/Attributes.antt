-- Attributes of paths, and what a look-up is asked of them (gitattributes).
use Rattle.std.specs.Prelude.{ℕ, ◌+◌, ◌-◌, ◌^◌, nat_lt, Bool, true, false, not, ◌&&◌, ◌||◌, List, codes, ◌==◌, Option, Some, None, if◌then◌else◌, ◌≡◌, Result, OnOk, OnErr}
use Rattle.std.specs.List.{list_all}
use Rattle.std.specs.Char.{is_ascii_alphanumeric}
use Rattle.pathspec_glob.specs.declared.Case.{Case}
use Rattle.pathspec_glob.specs.Bytes.{dash, is_one_of, first_is}

-- what an attribute may be
pub data State : Type 0 where
  Set : State
  Unset : State
  Value : (value : List ℕ) → State
  Unspecified : State

-- whether a state has a value
abbrev pub is_value : State → Bool
is_value (Value value) = true
is_value Set = false
is_value Unset = false
is_value Unspecified = false

-- a name and what it is to be
pub record Assignment : Type 0 where
  pub name : List ℕ
  pub state : State

-- the bytes that a name may have: ASCII letters, digits, `-`, `.` and `_`
abbrev pub is_name_byte : ℕ → Bool
is_name_byte b = is_ascii_alphanumeric b || is_one_of (codes "-._") b

-- whether a text begins with `-`
abbrev pub begins_with_dash : List ℕ → Bool
begins_with_dash text = first_is (λ b. b == dash) text

-- A name has only bytes that a name may have, and does not begin with `-`.
abbrev pub is_attribute_name : List ℕ → Bool
is_attribute_name name = list_all is_name_byte name && not (begins_with_dash name)

-- the name that a text is, or None where it is no name
abbrev pub attribute_name_of : List ℕ → Option (List ℕ)
attribute_name_of text = if is_attribute_name text then Some text else None

-- what a look-up is asked
pub record Question : Type 0 where
  pub path : List ℕ
  pub case : Case
  pub is_dir : Bool
  pub names : List (List ℕ)

-- what it says: whether it has an answer, and a state for each name
pub record Reply : Type 0 where
  pub found : Bool
  pub states : List State

-- A steady look-up is a function of the question, its table.
abbrev pub Table : Type 0
Table = Question → Reply

-- the count of failures after one more: it stops at the top of a `u64`
abbrev pub next_count : ℕ → ℕ
next_count count = if nat_lt count (2 ^ 64 - 1) then count + 1 else count

-- A call that asks a look-up leaves its table, and counts one failure more just where it ends with an error.
abbrev pub AsksLookUp : {A F : Type 0} → Table → ℕ → Table → ℕ → Result A F → Type 0
AsksLookUp table failures table' failures' result = (table' ≡ table) × OnOk result (failures' ≡ failures) × OnErr result (failures' ≡ next_count failures)
