use Rattle.std.proofs.Common.{◌≡◌, arith, sym, subst, Some, None}
use Rattle.pathspec_parts.specs.Cursors.{CursorContents, next_seen, next_number, path_at, IsNearPath}
use Rattle.pathspec_parts.proofs.CursorProofs.{entry_there, is_near, ends, ends_none, goes, goes_next}
use Rattle.pathspec_parts.proofs.tree.steps.Steps.next.Goals as goal

pub invariant_of-self : goal.invariant_of-self
invariant_of-self g c =
    let s = c.self.inside in
    ends (g.E.Entries.list s.entries.now) s.at s.next s.entered.items _ _ c.self.invariant (omega (arith, c.if-number-len.true, c.len.ensures))

pub returns-then-number-len-clause-next : goal.returns-then-number-len-clause-next
returns-then-number-len-clause-next g c =
    let s = c.self.inside in
    let none = ends_none (g.E.Entries.list s.entries.now) s.at s.next s.entered.items _ _ c.self.invariant (omega (arith, c.if-number-len.true, c.len.ensures)) in
    subst (λ (x : CursorContents). None ≡ next_seen x.entered (next_number x) x.entries) c.self.view_is (sym none)

pub invariant_of-self-2 : goal.invariant_of-self-2
invariant_of-self-2 g c =
    let s = c.self.inside in
    let e = entry_there (g.E.Entries.list s.entries.now) s.next (omega (arith, c.len.ensures, c.if-number-len.false)) in
    goes (g.E.Entries.list s.entries.now) s.at s.next s.entered.items _ _ c.self.invariant e.0 e.1 c.end_of-self-inside.result c.end_of-self-inside.ensures

pub returns-clause-next : goal.returns-clause-next
returns-clause-next g c =
    let s = c.self.inside in
    let e = entry_there (g.E.Entries.list s.entries.now) s.next (omega (arith, c.len.ensures, c.if-number-len.false)) in
    let some = goes_next (g.E.Entries.list s.entries.now) s.at s.next s.entered.items _ _ c.self.invariant e.0 e.1 in
    subst (λ (x : CursorContents). Some s.next ≡ next_seen x.entered (next_number x) x.entries) c.self.view_is (sym some)

pub returns-clause-near : goal.returns-clause-near
returns-clause-near g c =
    let s = c.self.inside in
    subst (λ (x : CursorContents). IsNearPath x.entries s.next (path_at x)) c.self.view_is (is_near (g.E.Entries.list s.entries.now) s.at s.next s.entered.items _ _ c.self.invariant)
