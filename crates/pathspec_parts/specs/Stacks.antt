-- A stack of components, and how low it was.
use Rattle.std.specs.Prelude.{ℕ, List, [], ◌∷◌, ◌++◌}

-- what stands on a stack, the top last, and the least height since the last mark, or since the start
pub record StackContents : Type 0 where
  pub names : List (List ℕ)
  pub least : ℕ

-- a stack with one more name on top
abbrev pub with_top : StackContents → List ℕ → StackContents
with_top stack name = record stack { names = stack.names ++ name ∷ [] }
