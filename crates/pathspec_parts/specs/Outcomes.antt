-- Outcomes of look-ups: a list of names, each with its state.
use Rattle.std.specs.Prelude.{◌≡◌, ℕ, Bool, List, map, fold, bytes_eq, if◌then◌else◌}
use Rattle.std.specs.List.{list_any, count_by}
use Rattle.pathspec_glob.specs.declared.Case.{Case}
use Rattle.pathspec_parts.specs.Attributes.{State, Assignment, Question, Reply}
use Rattle.pathspec_parts.specs.Attributes.State.{Unspecified}

-- what stands at one place: a name and its state
abbrev pub NamedState : Type 0
NamedState = Assignment

-- the names, each at its place
abbrev pub names_of : List NamedState → List (List ℕ)
names_of places = map (λ p. p.name) places

-- the states, each at its place
abbrev pub states_of : List NamedState → List State
states_of places = map (λ p. p.state) places

-- the same names, of which nothing is said
abbrev pub reset_states : List NamedState → List NamedState
reset_states places = map (λ p. record { name = p.name; state = Unspecified }) places

-- of each name nothing is said
abbrev pub IsReset : List NamedState → Type 0
IsReset places = places ≡ reset_states places

-- whether a place has this name
abbrev pub has_name : List NamedState → List ℕ → Bool
has_name places name = list_any (λ p. bytes_eq p.name name) places

-- how many places have this name
abbrev pub name_count : List NamedState → List ℕ → ℕ
name_count places name = count_by (λ p. bytes_eq p.name name) places

-- a place once this name has this state
abbrev pub set_state_at : List ℕ → State → NamedState → NamedState
set_state_at name state p = if bytes_eq p.name name then record { name = p.name; state = state } else p

-- each place with this name has this state, and the others are as before
abbrev pub set_state : List NamedState → List ℕ → State → List NamedState
set_state places name state = map (set_state_at name state) places

-- these names, of which nothing is said
abbrev pub unspecified : List (List ℕ) → List NamedState
unspecified names = map (λ n. record { name = n; state = Unspecified }) names

-- each assignment set, one after another
abbrev pub apply_assignments : List NamedState → List Assignment → List NamedState
apply_assignments places assignments = fold (λ ps a. set_state ps a.name a.state) places assignments

-- the question that a look-up is asked by what it is called with
abbrev pub question_of : List ℕ → Case → Bool → List NamedState → Question
question_of path case is_dir places = record { path = path; case = case; is_dir = is_dir; names = names_of places }

-- the reply that an answer and the states that it leaves are
abbrev pub reply_of : Bool → List NamedState → Reply
reply_of found places = record { found = found; states = states_of places }
