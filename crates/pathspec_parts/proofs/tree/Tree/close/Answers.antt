use Rattle.std.proofs.Common.{length, refl, ap, ◌∙◌, arith}
use Rattle.std.proofs.lemmas.Option.{slice_get_read}
use Rattle.pathspec_parts.specs.Entries.Call.{Close}
use Rattle.pathspec_parts.specs.Trees.{tree_after}
use Rattle.pathspec_parts.proofs.LayoutProofs.{closes_at, top_within}
use Rattle.pathspec_parts.proofs.tree.Tree.close.Goals as goal

pub index_mut-requires : goal.index_mut-requires
index_mut-requires c =
    let s = c.self.inside in
    let within = top_within s.names.items s.nodes.items s.nested s.longest c.self.invariant c.close.new.self.stack c.in-Some.place c.in-Some.ensures.stack in
    omega (arith, within, s.nodes.ok.0)

pub invariant_of-self-2 : goal.invariant_of-self-2
invariant_of-self-2 c =
    let s = c.self.inside in
    let within = top_within s.names.items s.nodes.items s.nested s.longest c.self.invariant c.close.new.self.stack c.in-Some.place c.in-Some.ensures.stack in
    let at = slice_get_read s.nodes.items (length s.nodes.items) c.in-Some.place c.index_mut.result.now (omega arith) within c.index_mut.ensures.value in
    (closes_at s.names.items s.nodes.items s.nested s.longest c.self.invariant c.close.new.self.stack c.in-Some.place c.in-Some.ensures.stack c.index_mut.result.now at (omega (arith, s.nodes.ok.0)) c.len.result (omega (arith, s.nodes.ok.0, c.len.ensures)) c.close.new.self refl c.close.ensures.directories).0

pub returns-clause-ok : goal.returns-clause-ok
returns-clause-ok c =
    let s = c.self.inside in
    let within = top_within s.names.items s.nodes.items s.nested s.longest c.self.invariant c.close.new.self.stack c.in-Some.place c.in-Some.ensures.stack in
    let at = slice_get_read s.nodes.items (length s.nodes.items) c.in-Some.place c.index_mut.result.now (omega arith) within c.index_mut.ensures.value in
    (closes_at s.names.items s.nodes.items s.nested s.longest c.self.invariant c.close.new.self.stack c.in-Some.place c.in-Some.ensures.stack c.index_mut.result.now at (omega (arith, s.nodes.ok.0)) c.len.result (omega (arith, s.nodes.ok.0, c.len.ensures)) c.close.new.self refl c.close.ensures.directories).1
    ∙ ap (λ t. tree_after t Close) c.self.view_is
