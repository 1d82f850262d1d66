-- Globs with an open end: the last token takes any bytes.
use Rattle.std.specs.Prelude.{Bool, true, false, List, [], ◌∷◌}
use Rattle.pathspec_glob.specs.Tokens.{Token}
use Rattle.pathspec_glob.specs.Tokens.Token.{Deep}

-- the token takes any bytes
abbrev pub is_any_run : Token → Bool
is_any_run Deep = true
is_any_run _ = false

-- the last of the tokens takes any bytes
abbrev pub is_open : List Token → Bool
is_open [] = false
is_open (t ∷ []) = is_any_run t
is_open (t ∷ u ∷ ts) = is_open (u ∷ ts)
