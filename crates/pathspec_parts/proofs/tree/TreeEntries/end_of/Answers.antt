use Rattle.std.proofs.Common.{length, ◌∙◌, sym, ap, subst, arith, Option}
use Rattle.std.specs.Prelude.{unwrap_or, option_map}
use Rattle.std.proofs.lemmas.Option.{slice_get_read}
use Rattle.pathspec_parts.specs.Cursors.{IsEndOf}
use Rattle.pathspec_parts.specs.Nesting.{end_from}
use Rattle.pathspec_parts.specs.TreeLayout.{name_at, end_at}
use Rattle.pathspec_parts.specs.declared.tree.Node.{Node}
use Rattle.pathspec_parts.proofs.NodeProofs.{entries_count}
use Rattle.pathspec_parts.proofs.NestingProofs.{end_is}
use Rattle.pathspec_parts.proofs.tree.TreeEntries.end_of.Goals as goal

pub index-requires : goal.index-requires
index-requires c =
    let s = c.self.inside in
    let count = entries_count s.names.items s.nodes.items s.nested s.longest c.self.invariant c.args.self.now c.self.view_is in
    omega (arith, count, c.requires, s.nodes.ok.0)

pub end_from-requires : goal.end_from-requires
end_from-requires c =
    let s = c.self.inside in
    let count = entries_count s.names.items s.nodes.items s.nested s.longest c.self.invariant c.args.self.now c.self.view_is in
    omega (arith, count, c.requires, s.nodes.ok.0)

pub returns : goal.returns
returns c =
    let s = c.self.inside in
    let count = entries_count s.names.items s.nodes.items s.nested s.longest c.self.invariant c.args.self.now c.self.view_is in
    let at = slice_get_read s.nodes.items (length s.nodes.items) c.args.number c.index.result.now (omega arith) (omega (arith, count, c.requires)) c.index.ensures in
    let is = ap (λ (o : Option Node). end_from c.args.number (unwrap_or (option_map (λ x. x.end) o) 0)) at ∙ sym c.end_from.ensures in
    subst (IsEndOf c.args.self.now.entries c.args.number) is
    (end_is (name_at s.names.items s.nodes.items) (end_at s.nodes.items) (length s.nodes.items) s.nested.stack s.nested.directories c.self.invariant.nesting c.args.self.now c.self.view_is c.args.number (omega (arith, count, c.requires)) (omega (arith, s.nodes.ok.0)))
