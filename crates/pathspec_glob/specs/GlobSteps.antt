-- The steps of a glob: one token, tested at one position of a text.
use Rattle.std.specs.Prelude.{ℕ, Bool, true, false, not, ◌&&◌, List, [], ◌∷◌, ◌==◌, drop}
use Rattle.pathspec_glob.specs.declared.Mode.{Mode}
use Rattle.pathspec_glob.specs.declared.Case.{Case}
use Rattle.pathspec_glob.specs.Bytes.{slash}
use Rattle.pathspec_glob.specs.Tokens.{Token}
use Rattle.pathspec_glob.specs.Tokens.Token.{One, Star, Deep}
use Rattle.pathspec_glob.specs.OpenEnds.{is_any_run}
use Rattle.pathspec_glob.specs.GlobRelation.{takes, passes_over}

-- the tokens of a glob, and the mode that they are read in
pub record TokenList : Type 0 where
  pub mode : Mode
  pub tokens : List Token

-- a token that takes any number of bytes
abbrev pub is_wide : Token → Bool
is_wide (One single) = false
is_wide Star = true
is_wide Deep = true

-- the first of the tokens takes any number of bytes
abbrev pub is_wide_at : List Token → Bool
is_wide_at [] = false
is_wide_at (t ∷ ts) = is_wide t

-- the first of the tokens may stand for nothing together with the second
abbrev pub may_pass_over_at : Mode → List Token → Bool
may_pass_over_at mode [] = false
may_pass_over_at mode (t ∷ []) = false
may_pass_over_at mode (t ∷ next ∷ ts) = is_any_run t && passes_over mode next

-- the token takes a byte, alone or with others
abbrev pub takes_byte : Mode → Case → Token → ℕ → Bool
takes_byte mode case (One single) b = takes mode case single b
takes_byte mode case Star b = not (b == slash)
takes_byte mode case Deep b = true

-- the first of the tokens takes a byte, alone or with others
abbrev pub takes_at : Mode → Case → List Token → ℕ → Bool
takes_at mode case [] b = false
takes_at mode case (t ∷ ts) b = takes_byte mode case t b

-- The token at a place takes a byte, alone or with others.
abbrev pub token_takes : TokenList → Case → ℕ → ℕ → Bool
token_takes parts case place b = takes_at parts.mode case (drop place parts.tokens) b
