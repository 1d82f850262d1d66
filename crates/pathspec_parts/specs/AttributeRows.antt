-- Rows of a path and what is assigned there, as the table of a look-up.
use Rattle.std.specs.Prelude.{ℕ, List, Vec, true, map, fold, bytes_eq, if◌then◌else◌}
use Rattle.std.specs.Global.{Global}
use Rattle.pathspec_parts.specs.declared.attributes.state.Assignment.{Assignment as Whole}
use Rattle.pathspec_parts.specs.Attributes.{Assignment, Question, Reply, Table}
use Rattle.pathspec_parts.specs.AttributeStates.{assignment_view}
use Rattle.pathspec_parts.specs.Outcomes.{NamedState, apply_assignments, states_of, unspecified}

-- a path, and what is assigned there
pub record Row : Type 0 where
  pub path : List ℕ
  pub assignments : List Assignment

-- the rows that pairs of a path and assignments are
abbrev pub rows_of : List (Vec ℕ Global × Vec Whole Global) → List Row
rows_of pairs = map (λ pair. record { path = pair.0.items; assignments = map assignment_view pair.1.items }) pairs

-- a row counts where the path is its own
abbrev pub apply_row : List ℕ → List NamedState → Row → List NamedState
apply_row path places row = if bytes_eq row.path path then apply_assignments places row.assignments else places

-- the rows one after another
abbrev pub apply_rows : List ℕ → List NamedState → List Row → List NamedState
apply_rows path places rows = fold (apply_row path) places rows

-- rows have an answer to every question
abbrev pub rows_reply : List Row → Question → Reply
rows_reply rows q = record { found = true; states = states_of (apply_rows q.path (unspecified q.names) rows) }

-- Each row whose path is the question's sets its assignments, in order; the answer is always found.
abbrev pub table_of : List Row → Table
table_of rows q = rows_reply rows q

-- What a look-up of rows holds: its rows in their order, and how many questions failed.
pub record RowsContents : Type 0 where
  pub rows : List Row
  pub failures : ℕ
