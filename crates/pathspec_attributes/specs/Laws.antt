-- Laws of attribute files.
use Rattle.pathspec_attributes.specs.Deciding.{DecidesOnce}
use Rattle.pathspec_attributes.specs.Files.{AnswersByOwnDirectories}
use Rattle.pathspec_attributes.specs.Rules.{FitsIsRelation}

-- what holds of all attribute files, whatever they say
pub record LawsOfFiles : Type 0 where
  -- of a path speak the global file, that of `info` and those of the directories above it, and no other
  pub own_directories : AnswersByOwnDirectories
  -- the test of a rule gives just what its relation says
  pub fits : FitsIsRelation
  -- what is said of a path decides its attributes in one way, and only one
  pub once : DecidesOnce
