use Rattle.std.proofs.Common.{◌≡◌, ℕ, List, [], arith, sym, subst, None, true}
use Rattle.pathspec_parts.specs.Entries.{Entry}
use Rattle.pathspec_parts.specs.Cursors.{IsCursor}
use Rattle.pathspec_parts.proofs.CursorProofs.{starts}
use Rattle.pathspec_parts.proofs.tree.steps.Steps.new.Goals as goal

-- with a list that is empty, by whatever name
starts_as : (es : List Entry) (room : ℕ) (entered : List ℕ) → entered ≡ [] → IsCursor es None 0 [] true room → IsCursor es None 0 entered true room
starts_as es room entered e h = subst (λ y. IsCursor es None 0 y true room) (sym e) h

pub invariant_of-result : goal.invariant_of-result
invariant_of-result g c =
    let d = c.directories.ensures in
    starts_as (g.E.Entries.list c.args.entries.now) _ c.in_ok-entered.entered.items c.in_ok-entered.ensures.items
    (starts (g.E.Entries.list c.args.entries.now) _ d.nested d.bytes (omega (arith, d.count, c.in_ok-entered.ensures.exact)))
