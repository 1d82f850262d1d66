use Rattle.std.proofs.Common.{length, not, ◌==◌, ◌∙◌, sym, ap, arith, Option}
use Rattle.std.specs.Prelude.{unwrap_or, option_map}
use Rattle.std.proofs.lemmas.Option.{slice_get_read}
use Rattle.pathspec_parts.specs.TreeLayout.{name_at, end_at}
use Rattle.pathspec_parts.specs.declared.tree.Node.{Node}
use Rattle.pathspec_parts.proofs.NodeProofs.{entries_count}
use Rattle.pathspec_parts.proofs.NestingProofs.{kind_is}
use Rattle.pathspec_parts.proofs.tree.TreeEntries.is_dir.Goals as goal

pub index-requires : goal.index-requires
index-requires c =
    let s = c.self.inside in
    let count = entries_count s.names.items s.nodes.items s.nested s.longest c.self.invariant c.args.self.now c.self.view_is in
    omega (arith, count, c.requires, s.nodes.ok.0)

pub returns : goal.returns
returns c = λ e there.
    let s = c.self.inside in
    let count = entries_count s.names.items s.nodes.items s.nested s.longest c.self.invariant c.args.self.now c.self.view_is in
    let at = slice_get_read s.nodes.items (length s.nodes.items) c.args.number c.index.result.now (omega arith) (omega (arith, count, c.requires)) c.index.ensures in
    ap (λ (o : Option Node). not (unwrap_or (option_map (λ x. x.end) o) 0 == 0)) (sym at)
    ∙ kind_is (name_at s.names.items s.nodes.items) (end_at s.nodes.items) (length s.nodes.items) s.nested.stack s.nested.directories c.self.invariant.nesting c.args.self.now c.self.view_is c.args.number e there
