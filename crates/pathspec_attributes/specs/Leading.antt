-- What a question has decided, in the marks of names and in the outcome, and what is still to be decided.
use Rattle.std.specs.Prelude.{◌≡◌, ℕ, suc, ◌+◌, Bool, List, [], ◌∷◌, length, take, map, reverse, slice_get, if◌then◌else◌, Option, None}
use Rattle.std.specs.Option.{option_map_or}
use Rattle.std.specs.List.{flat_map}
use Rattle.pathspec_parts.specs.Attributes.{State, Assignment}
use Rattle.pathspec_parts.specs.Attributes.State.{Set, Unset, Value, Unspecified}
use Rattle.pathspec_parts.specs.AttributeStates.{assignment_view}
use Rattle.pathspec_parts.specs.Outcomes.{NamedState, apply_assignments}
use Rattle.pathspec_attributes.specs.declared.deciding.Macros.{Macros}
use Rattle.pathspec_attributes.specs.declared.deciding.Pending.{Pending}
use Rattle.pathspec_attributes.specs.declared.deciding.Source.{Source}
use Rattle.pathspec_attributes.specs.declared.deciding.Source.TheVariants.{Info, Top, Global, BuiltIn}
use Rattle.pathspec_attributes.specs.declared.reading.Macro.{Macro as Own}
use Rattle.pathspec_attributes.specs.Deciding.{Macro, knows, body_of, Decides}
use Rattle.pathspec_attributes.specs.Views.{macros_view}

-- Just the names that are decided are marked, and the outcome has their states.
pub record Shows (decided : List Assignment) (marked : List ℕ → Bool) (start out : List NamedState) : Type 0 where
  pub names : (name : List ℕ) → marked name ≡ knows decided name
  pub states : out ≡ apply_assignments start decided

-- What the marks and the outcome show later, and that it decides what was to be decided, once it decides what is left.
pub record Later (macros : List Macro) (said decided left : List Assignment) (marked : List ℕ → Bool) (start out : List NamedState) : Type 0 where
  pub reached : List Assignment
  pub shows : Shows reached marked start out
  pub rest : (new : List Assignment) → Decides macros left reached new → Decides macros said decided new

-- Some of what was said is decided, and some is left.
abbrev pub Leads : List Macro → List Assignment → (List ℕ → Bool) → List NamedState → List Assignment → (List ℕ → Bool) → List NamedState → Type 0
Leads macros said marked out left marked' out' = (start : List NamedState) (decided : List Assignment) → Shows decided marked start out → Later macros said decided left marked' start out'

-- ---- macros that are being expanded

-- one of the lists of macros
abbrev pub listed : Macros → Source → List Own
listed macros Info = macros.info.now
listed macros Top = macros.top.now
listed macros Global = macros.global.now
listed macros BuiltIn = macros.built_in.now

-- what the macro at a place of a list stands for, and nothing where there is none
abbrev pub body_of_place : List Own → ℕ → List Assignment
body_of_place list place = option_map_or (λ (own : Own). map assignment_view own.body.items) (slice_get list place) []

-- the same of all lists
abbrev pub body_at : Macros → Source → ℕ → List Assignment
body_at macros source place = body_of_place (listed macros source) place

-- what a macro still says, in the order in which it counts
abbrev pub pending_of : Macros → Pending → List Assignment
pending_of macros p = reverse (take p.left (body_at macros p.source p.place))

-- and what all say, the last first
abbrev pub pending_said : Macros → List Pending → List Assignment
pending_said macros list = flat_map (pending_of macros) (reverse list)

-- what a state of a name expands to, where it sets a macro
abbrev pub body_by : List Macro → List ℕ → State → Option (List Assignment)
body_by macros name Set = body_of macros name
body_by macros name Unset = None
body_by macros name (Value value) = None
body_by macros name Unspecified = None

-- what an assignment expands to
abbrev pub body_of_set : List Macro → Assignment → Option (List Assignment)
body_of_set macros a = body_by macros a.name a.state

-- ---- how much may still come

-- each macro that may be expanded, with its assignments
abbrev pub weight_of : List Macro → (List ℕ → Bool) → ℕ
weight_of [] marked = 0
weight_of (m ∷ macros) marked = (if marked m.name then 0 else suc (length m.body)) + weight_of macros marked

-- and each that is being expanded
abbrev pub pending_weight : Macros → List Pending → ℕ
pending_weight macros [] = 0
pending_weight macros (p ∷ list) = suc (length (pending_of macros p)) + pending_weight macros list

-- both together
abbrev pub weight : Macros → List Pending → (List ℕ → Bool) → ℕ
weight macros list marked = pending_weight macros list + weight_of (macros_view macros) marked
