-- Resolving on a stack: what the contracts inside of normalising read.
use Rattle.std.specs.Prelude.{◌≡◌, ℕ, ◌-◌, ◌==◌, Bool, false, IsTrue, List, ◌++◌, length, min}
use Rattle.pathspec_pattern.specs.declared.pattern.normalize.Resolved.{Resolved}
use Rattle.pathspec_pattern.specs.declared.pattern.normalize.Base.{Base as Held}
use Rattle.pathspec_pattern.specs.declared.pattern.normalize.Base.TheVariants as held
use Rattle.pathspec_parts.specs.Paths.{is_clean_prefix}
use Rattle.pathspec_parts.specs.Components.{remaining_components}
use Rattle.pathspec_parts.specs.Stacks.{StackContents}
use Rattle.pathspec_pattern.specs.Specs.{Spec}
use Rattle.pathspec_pattern.specs.NormalForm.{Base, base_names, climb, survivors, components_to_resolve}
use Rattle.pathspec_pattern.specs.NormalForm.Base.{Root, Prefix, Top}

-- the spec with what normalising changes
abbrev pub resolved_spec : Spec → Resolved → Spec
resolved_spec s r = record s { path = r.path.items; nil = r.nil; prefix_length = r.prefix_length }

-- what a `Base` is
abbrev pub base_of : Held → Base
base_of held.Root = Root
base_of (held.Prefix names) = Prefix (remaining_components names)
base_of held.Top = Top

-- whether a spec is resolved as it stands: on the top of the repository, with a path that is clean, as a prefix is
abbrev pub is_resolved : Base → Spec → Bool
is_resolved Root s = false
is_resolved (Prefix front) s = false
is_resolved Top s = is_clean_prefix s.path

-- A stack holds what is left of a path: the survivors, with the least height that they had since the base.
pub record IsLeft (b : Base) (own : List (List ℕ)) (stack : StackContents) : Type 0 where
  pub names : stack.names ≡ survivors (components_to_resolve b own)
  pub least : stack.least ≡ length (base_names b) - climb own

-- Components are pushed on a stack, where `..` pops a name: whether they never climb below it, and if so what is left, and the least height since the mark.
pub record IsPushed (old : StackContents) (cs : List (List ℕ)) (new : StackContents) (stays : Bool) : Type 0 where
  pub inside : stays ≡ (climb (old.names ++ cs) == 0)
  pub left : IsTrue stays → new.names ≡ survivors (old.names ++ cs)
  pub least : IsTrue stays → new.least ≡ min old.least (length old.names - climb cs)
