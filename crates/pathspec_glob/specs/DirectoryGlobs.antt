-- Globs that are asked of directories.
use Rattle.std.specs.Prelude.{◌≡◌, ℕ, Bool, List}
use Rattle.pathspec_glob.specs.ByteSets.{listed_token_list}
use Rattle.pathspec_glob.specs.GlobSteps.{TokenList}
use Rattle.pathspec_glob.specs.OpenEnds.{is_open}

-- the tokens of a pattern, and whether their end is open
pub record IsReadFrom (pattern : List ℕ) (parts : TokenList) (open_end : Bool) : Type 0 where
  pub parts_is : parts ≡ listed_token_list parts.mode pattern
  pub open_is : open_end ≡ is_open parts.tokens
