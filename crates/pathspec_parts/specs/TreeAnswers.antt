-- When a tree refuses a call.
use Rattle.std.specs.Prelude.{◌≡◌, ◌≢◌, ℕ, List, [], Result, Ok, Err}
use Rattle.pathspec_parts.specs.Entries.{OpenDirectory}
use Rattle.pathspec_parts.specs.declared.tree.TreeError.{TreeError}
use Rattle.pathspec_parts.specs.declared.tree.TreeError.TheVariants.{EmptyName, NotOpen, Memory}

-- A name is refused just where it is empty, but for memory.
abbrev pub AnswersName : List ℕ → Result (Unit {0}) TreeError → Type 0
AnswersName name (Ok _) = name ≢ []
AnswersName name (Err EmptyName) = name ≡ []
AnswersName name (Err Memory) = name ≢ []
AnswersName name (Err NotOpen) = ⊥

-- A close is refused just where no directory is open.
abbrev pub AnswersClose : List OpenDirectory → Result (Unit {0}) TreeError → Type 0
AnswersClose directories (Ok _) = directories ≢ []
AnswersClose directories (Err NotOpen) = directories ≡ []
AnswersClose directories (Err EmptyName) = ⊥
AnswersClose directories (Err Memory) = ⊥
