-- A spec that is asked why it matches paths, with the room for that.
use Rattle.std.specs.Prelude.{◌≡◌, ℕ, ◌≤◌, List, Option}
use Rattle.pathspec_glob.specs.Globs.{GlobSource}
use Rattle.pathspec_parts.specs.Outcomes.{NamedState, names_of}
use Rattle.gix_pathspec.specs.Specs.{Spec}
use Rattle.gix_pathspec.specs.Room.{glob_of, tokens_of, attribute_names}
use Rattle.pathspec_explain.specs.Reasons.{without_case}

-- The spec is ready to be asked: there is the spec without case, the glob of both, room for its tokens, and an outcome with the names of its attributes.
pub record IsAsked (s folded : Spec) (glob : Option GlobSource) (tokens : ℕ) (outcome : List NamedState) : Type 0 where
  pub is_folded : folded ≡ without_case s
  pub is_glob : glob ≡ glob_of s
  pub has_room : tokens_of s ≤ tokens
  pub has_names : names_of outcome ≡ attribute_names s
