-- The matchers of the tokens between head and tail.
use Rattle.std.specs.Prelude.{◌≡◌, true}
use Rattle.std.specs.Box.{box_value}
use Rattle.pathspec_glob.specs.declared.middle.Matcher.{Matcher}
use Rattle.pathspec_glob.specs.declared.middle.Matcher.TheVariants.{LoneStar, Word, Sets}
use Rattle.pathspec_glob.specs.GlobParts.{MatchAsFirst}
use Rattle.pathspec_glob.specs.StateSets.{IsMovesOf}
use Rattle.pathspec_glob.specs.GlobSteps.{TokenList, is_wide_at}
use Rattle.pathspec_glob.specs.WordAutomata.{IsAutomatonOf}

-- The tokens match just the texts that the first of them takes.
pub record IsLoneStar (parts : TokenList) : Type 0 where
  pub wide : is_wide_at parts.tokens ≡ true
  pub same : MatchAsFirst parts

-- the tokens of a matcher
abbrev pub matcher_view : Matcher → TokenList
matcher_view (LoneStar tokens) = tokens
matcher_view (Word own) = (box_value own).tokens
matcher_view (Sets own) = (box_value own).tokens

-- the matcher was made of the tokens
abbrev pub IsMatcherOf : TokenList → Matcher → Type 0
IsMatcherOf parts (LoneStar tokens) = IsLoneStar parts
IsMatcherOf parts (Word own) = IsAutomatonOf parts (box_value own).word
IsMatcherOf parts (Sets own) = IsMovesOf parts (box_value own).moves
