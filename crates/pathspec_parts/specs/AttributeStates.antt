-- What a clause reads of states and assignments: the states and assignments of `Attributes`.
use Rattle.std.specs.Prelude.{◌≡◌, List, All}
use Rattle.pathspec_parts.specs.declared.attributes.state.State.{State as Owned}
use Rattle.pathspec_parts.specs.declared.attributes.state.State.TheVariants as owned
use Rattle.pathspec_parts.specs.declared.attributes.state.StateRef.{StateRef}
use Rattle.pathspec_parts.specs.declared.attributes.state.StateRef.TheVariants as lent
use Rattle.pathspec_parts.specs.declared.attributes.state.Assignment.{Assignment as Whole}
use Rattle.pathspec_parts.specs.Attributes.{State, Assignment}
use Rattle.pathspec_parts.specs.Attributes.State.{Set, Unset, Value, Unspecified}
use Rattle.pathspec_parts.specs.AttributeNames.{name_bytes}

-- the state that a `State` is
abbrev pub state_view : Owned → State
state_view owned.Set = Set
state_view owned.Unset = Unset
state_view (owned.Value value) = Value value.items
state_view owned.Unspecified = Unspecified

-- the state that a `StateRef` is
abbrev pub state_ref_view : StateRef → State
state_ref_view lent.Set = Set
state_ref_view lent.Unset = Unset
state_ref_view (lent.Value value) = Value value.now
state_ref_view lent.Unspecified = Unspecified

-- each of these is the state
abbrev pub AreCopies : State → List Owned → Type 0
AreCopies state copies = All (λ copy. state_view copy ≡ state) copies

-- the name and the state that an assignment is
abbrev pub assignment_view : Whole → Assignment
assignment_view a = record { name = name_bytes a.name; state = state_view a.state }
