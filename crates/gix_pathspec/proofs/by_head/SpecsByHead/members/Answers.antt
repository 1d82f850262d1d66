-- The members are in a box.
use Rattle.std.proofs.Common.{◌≡◌, ◌∙◌, true, false, refl, sym, ap, subst, List, Option, Some, None}
use Rattle.std.specs.Prelude.{is_some}
use Rattle.std.specs.Box.{box_value}
use Rattle.std.specs.Global.{Box}
use Rattle.std.specs.Option.{option_map}
use Rattle.gix_pathspec.specs.declared.search.members.Members.{Members}
use Rattle.gix_pathspec.specs.Members.{AreMembersOf}
use Rattle.gix_pathspec.specs.Search.{Numbered}
use Rattle.gix_pathspec.specs.SetSources.{all_sources, has_any_set}
use Rattle.gix_pathspec.proofs.by_head.SpecsByHead.members.Goals as goal

-- what is in the box
some-boxed : (members : Option (Box Members)) (boxed : Box Members) → members ≡ Some boxed → option_map box_value members ≡ Some (box_value boxed)
some-boxed None boxed e = cc
some-boxed (Some b) boxed e = let same : b ≡ boxed = cc in ap (λ (x : Box Members). Some (box_value x)) same

some-there : (members : Option (Box Members)) (boxed : Box Members) → members ≡ Some boxed → true ≡ is_some (option_map box_value members)
some-there None boxed e = cc
some-there (Some b) boxed e = refl

none-there : (members : Option (Box Members)) → members ≡ None → false ≡ is_some (option_map box_value members)
none-there None e = refl
none-there (Some b) e = cc

pub returns-in-Some-clause-members : goal.returns-in-Some-clause-members
returns-in-Some-clause-members c m e =
    let same : c.deref.result ≡ m = cc in
    let boxed : box_value c.in-Some.members ≡ m.now = sym c.deref.ensures ∙ ap (λ b. b.now) same in
    let there = some-boxed c.self.inside.members c.in-Some.members c.in-Some.is ∙ ap Some boxed in
    subst (λ (ns : List Numbered). AreMembersOf ns m.now) c.self.view_is (c.self.invariant.are_members m.now there)

pub returns-in-Some-clause-made : goal.returns-in-Some-clause-made
returns-in-Some-clause-made c =
    some-there c.self.inside.members c.in-Some.members c.in-Some.is ∙ c.self.invariant.is_made ∙ ap (λ (ns : List Numbered). has_any_set (all_sources ns)) c.self.view_is

pub returns-in-None-clause-made : goal.returns-in-None-clause-made
returns-in-None-clause-made c =
    none-there c.self.inside.members c.in-None.is ∙ c.self.invariant.is_made ∙ ap (λ (ns : List Numbered). has_any_set (all_sources ns)) c.self.view_is
