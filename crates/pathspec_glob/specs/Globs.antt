-- Globs as they are compiled, and what is promised of their answers.
use Rattle.std.specs.Prelude.{◌≡◌, ◌≤◌, ◌+◌, ◌*◌, ℕ, Bool, true, false, List, length, drop, not, ◌&&◌, ◌==◌, ◌↔◌, ◌⊎◌, IsTrue, IsFalse, nat_eq, if◌then◌else◌}
use Rattle.std.specs.List.{list_any, ends_with, before_first}
use Rattle.pathspec_glob.specs.declared.Mode.{Mode}
use Rattle.pathspec_glob.specs.declared.Mode.TheVariants.{Shell}
use Rattle.pathspec_glob.specs.declared.Case.{Case}
use Rattle.pathspec_glob.specs.declared.Case.TheVariants.{Sensitive, Fold}
use Rattle.pathspec_glob.specs.declared.state_set.StateSet.{StateSet}
use Rattle.pathspec_glob.specs.declared.scratch.Steps.{Steps}
use Rattle.pathspec_glob.specs.Bytes.{slash, star, first_is, begins_with, fold_case, is_wildcard}
use Rattle.pathspec_glob.specs.Tokens.{Token, tokens}
use Rattle.pathspec_glob.specs.GlobRelation.{Matches, matches}

-- a glob: its mode and its pattern
pub record GlobSource : Type 0 where
  pub mode : Mode
  pub pattern : List ℕ

-- the tokens of a glob
abbrev pub glob_tokens : GlobSource → List Token
glob_tokens glob = tokens glob.mode glob.pattern

-- The room of a scratch: for so many tokens, and with so many steps counted in the last match, and in all together.
pub record Room : Type 0 where
  pub tokens : ℕ
  pub steps : ℕ
  pub total_steps : ℕ

-- new room for so many tokens
abbrev pub room_for : ℕ → Room
room_for tokens = record { tokens = tokens; steps = 0; total_steps = 0 }

-- the room that a set of places and a count make
abbrev pub room_of : StateSet → Steps → Room
room_of states steps = record { tokens = length states.staying; steps = steps.last; total_steps = steps.total }

-- case does not count
abbrev pub folds : Case → Bool
folds Sensitive = false
folds Fold = true

-- a pattern `*rest` without a wildcard in rest
abbrev pub is_tail_pattern : List ℕ → Bool
is_tail_pattern pattern = first_is (λ b. b == star) pattern && not (list_any is_wildcard (drop 1 pattern))

-- A glob's answer is the relation, within a bound on the steps taken, and a true one is not given sooner than the text is read, or the rest of a tail pattern.
pub record AnswersGlob (mode : Mode) (case : Case) (pattern text : List ℕ) (given : Bool) (steps : ℕ) : Type 0 where
  pub relation : IsTrue given ↔ Matches mode case (tokens mode pattern) text
  pub bound : steps ≤ (length pattern + 1) * (length text + 1)
  pub least : IsTrue given → (if is_tail_pattern pattern then length (drop 1 pattern) else length text) ≤ steps

-- The answer to a tail pattern is whether the text ends with its rest; in PathAware this is said of texts without a slash.
abbrev pub AnswersTail : Mode → Case → List ℕ → List ℕ → Bool → Type 0
AnswersTail mode case pattern text given = IsTrue (is_tail_pattern pattern) → (mode ≡ Shell) ⊎ IsFalse (list_any (λ b. b == slash) text)
    → given ≡ ends_with nat_eq (fold_case (folds case) text) (fold_case (folds case) (drop 1 pattern))

-- The function gives just what the relation says.
abbrev pub GlobIsRelation : Type 0
GlobIsRelation = (mode : Mode) (case : Case) (ts : List Token) (text : List ℕ) → IsTrue (matches mode case ts text) ↔ Matches mode case ts text

-- A text that a glob matches begins with what stands before the pattern's first wildcard, without case where case does not count.
abbrev pub MatchBeginsStem : Type 0
MatchBeginsStem = (mode : Mode) (case : Case) (pattern text : List ℕ) → IsTrue (matches mode case (tokens mode pattern) text)
    → IsTrue (begins_with (fold_case (folds case) text) (fold_case (folds case) (before_first is_wildcard pattern)))
