use Rattle.std.proofs.Common.{sym, ◌∙◌}
use Rattle.pathspec_parts.proofs.CursorProofs.{entered_below, enters_as, room_for}
use Rattle.pathspec_parts.proofs.tree.steps.Steps.enter.Goals as goal

pub push_once-requires-clause-below : goal.push_once-requires-clause-below
push_once-requires-clause-below g c =
    let s = c.self.inside in
    entered_below (g.E.Entries.list s.entries.now) s.at c.in-Some.number s.next s.entered.items s.is_new _ c.self.invariant c.in-Some.is

pub push_once-requires-clause-room : goal.push_once-requires-clause-room
push_once-requires-clause-room g c =
    let s = c.self.inside in
    let r = c.self.invariant.here c.in-Some.number c.in-Some.is in
    room_for (g.E.Entries.list s.entries.now) s.at c.in-Some.number s.next s.entered.items s.is_new _ c.self.invariant c.in-Some.is (r.0, r.1, sym (c.is_dir.ensures r.0 r.1) ∙ c.if-not-is_dir.false)

pub invariant_of-self : goal.invariant_of-self
invariant_of-self g c =
    let s = c.self.inside in
    let r = c.self.invariant.here c.in-Some.number c.in-Some.is in
    enters_as (g.E.Entries.list s.entries.now) s.at c.in-Some.number s.next s.entered.items s.is_new _ c.self.invariant c.in-Some.is (r.0, r.1, sym (c.is_dir.ensures r.0 r.1) ∙ c.if-not-is_dir.false) _ c.push_once.ensures.room c.push_once.new.numbers.items c.push_once.ensures.items
