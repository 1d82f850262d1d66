-- How assignments decide attributes, and where macros expand (gitattributes, "DEFINING MACRO ATTRIBUTES").
use Rattle.std.specs.Prelude.{◌≡◌, ℕ, zero, suc, ◌+◌, Bool, List, [], ◌∷◌, ◌++◌, length, reverse, bytes_eq, if◌then◌else◌, Option, Some, None, unwrap_or, IsTrue, IsFalse}
use Rattle.std.specs.List.{list_any}
use Rattle.pathspec_parts.specs.Attributes.{State, Assignment}
use Rattle.pathspec_parts.specs.Attributes.State.{Set, Unset, Value, Unspecified}

-- a macro: a name, and what it stands for
pub record Macro : Type 0 where
  pub name : List ℕ
  pub body : List Assignment

-- a name is decided
abbrev pub knows : List Assignment → List ℕ → Bool
knows decided name = list_any (λ (a : Assignment). bytes_eq a.name name) decided

-- what the first macro with a name stands for
abbrev pub body_of : List Macro → List ℕ → Option (List Assignment)
body_of [] name = None
body_of (m ∷ macros) name = if bytes_eq name m.name then Some m.body else body_of macros name

-- and nothing where there is none
abbrev pub body_in : List Macro → List ℕ → List Assignment
body_in macros name = unwrap_or (body_of macros name) []

-- what a state of a name brings along: it expands only where it is set
abbrev pub brought_by : List Macro → List ℕ → State → List Assignment
brought_by macros name Set = body_in macros name
brought_by macros name Unset = []
brought_by macros name (Value value) = []
brought_by macros name Unspecified = []

-- what an assignment brings along
abbrev pub brought : List Macro → Assignment → List Assignment
brought macros a = brought_by macros a.name a.state

-- and in the order in which it counts, the last first
abbrev pub expansion : List Macro → Assignment → List Assignment
expansion macros a = reverse (brought macros a)

-- Assignments, the one that counts most first, decide further names: each name is decided once.
pub data Decides (macros : List Macro) : List Assignment → List Assignment → List Assignment → Type 0 where
  -- no more is said
  ends : {decided : List Assignment} → Decides macros [] decided decided
  -- of a name that is decided no more counts
  passes : {a : Assignment} {said decided new : List Assignment} → IsTrue (knows decided a.name) → Decides macros said decided new → Decides macros (a ∷ said) decided new
  -- another name is decided, and what it brings along counts next
  takes : {a : Assignment} {said decided new : List Assignment} → IsFalse (knows decided a.name) → Decides macros (expansion macros a ++ said) (decided ++ a ∷ []) new → Decides macros (a ∷ said) decided new

-- ---- the relation as a function

-- the assignments in the bodies of macros whose names aren't decided
abbrev pub room : List Macro → List Assignment → ℕ
room [] decided = 0
room (m ∷ macros) decided = (if knows decided m.name then 0 else length m.body) + room macros decided

-- what is decided after so many assignments
abbrev pub decided_after : List Macro → ℕ → List Assignment → List Assignment → List Assignment
decided_after macros zero said decided = decided
decided_after macros (suc n) [] decided = decided
decided_after macros (suc n) (a ∷ said) decided =
    if knows decided a.name then decided_after macros n said decided
    else decided_after macros n (expansion macros a ++ said) (decided ++ a ∷ [])

-- what is decided after all
abbrev pub decided_by : List Macro → List Assignment → List Assignment → List Assignment
decided_by macros said decided = decided_after macros (length said + room macros decided) said decided

-- There is always an outcome, and only one.
pub record DecidesOnce : Type 0 where
  pub some : (macros : List Macro) (said decided : List Assignment) → Decides macros said decided (decided_by macros said decided)
  pub one : (macros : List Macro) (said decided new : List Assignment) → Decides macros said decided new → new ≡ decided_by macros said decided
