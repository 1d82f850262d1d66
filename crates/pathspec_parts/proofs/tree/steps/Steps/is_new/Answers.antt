use Rattle.std.proofs.Common.{◌≡◌, true, subst}
use Rattle.std.specs.Prelude.{◌↔◌}
use Rattle.pathspec_parts.specs.Cursors.{CursorContents, IsNew}
use Rattle.pathspec_parts.proofs.CursorProofs.{new_is}
use Rattle.pathspec_parts.proofs.tree.steps.Steps.is_new.Goals as goal

pub returns : goal.returns
returns g c =
    let s = c.self.inside in
    subst (λ (x : CursorContents). (s.is_new ≡ true) ↔ IsNew x) c.self.view_is (new_is (g.E.Entries.list s.entries.now) s.at s.next s.entered.items s.is_new _ c.self.invariant)
