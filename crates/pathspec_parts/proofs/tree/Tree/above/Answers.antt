use Rattle.std.proofs.Common.{◌≡◌, ℕ, ◌+◌, length, List, Option, Some, None, sym, ap, ◌∙◌, arith}
use Rattle.std.specs.Prelude.{slice_get, IfSome}
use Rattle.std.specs.Option.{SomeIff}
use Rattle.pathspec_parts.specs.Entries.{OpenDirectory}
use Rattle.pathspec_parts.specs.Trees.{TreeContents}
use Rattle.pathspec_parts.specs.TreeLayout.{name_at, end_at, path_above}
use Rattle.pathspec_parts.proofs.LayoutProofs.{top_within, top_entry}
use Rattle.pathspec_parts.proofs.NodeProofs.{entries_count, last_is, last_none}
use Rattle.pathspec_parts.proofs.NestingProofs.{none_open}
use Rattle.pathspec_parts.proofs.tree.Tree.above.Goals as goal

some_value : (o : Option ℕ) (P : Type 0) (v w : ℕ) → SomeIff o P v → v ≡ w → IfSome o (λ n. n ≡ w)
some_value None P v w h e = tt
some_value (Some x) P v w h e = h.1 ∙ e

pub path_length-requires : goal.path_length-requires
path_length-requires c =
    let s = c.self.inside in
    let last = last_is s.nested.stack c.in-Some.place (sym c.in-Some.ensures) in
    let within = top_within s.names.items s.nodes.items s.nested s.longest c.self.invariant last.0 c.in-Some.place last.1 in
    let count = entries_count s.names.items s.nodes.items s.nested s.longest c.self.invariant c.args.self.now c.self.view_is in
    omega (arith, within, count)

pub returns-in-Some : goal.returns-in-Some
returns-in-Some c =
    let s = c.self.inside in
    let last = last_is s.nested.stack c.in-Some.place (sym c.in-Some.ensures) in
    let e = top_entry s.names.items s.nodes.items s.nested s.longest c.self.invariant last.0 c.in-Some.place last.1 in
    let there : slice_get c.args.self.now.entries c.in-Some.place ≡ Some e.0 = ap (λ (x : TreeContents). slice_get x.entries c.in-Some.place) (sym c.self.view_is) ∙ e.1 in
    let long : c.path_length.result + 1 ≡ length (path_above c.args.self.now.open_directories) =
    ap (λ k. k + 1) (c.path_length.ensures e.0 there) ∙ (sym e.2 ∙ ap (λ (x : TreeContents). length (path_above x.open_directories)) c.self.view_is) in
    some_value c.checked_add.result _ (c.path_length.result + 1) (length (path_above c.args.self.now.open_directories)) c.checked_add.ensures long

pub returns-in-None : goal.returns-in-None
returns-in-None c =
    let s = c.self.inside in
    let none = none_open (name_at s.names.items s.nodes.items) (end_at s.nodes.items) (length s.nodes.items) s.nested.stack s.nested.directories c.self.invariant.nesting (last_none s.nested.stack (sym c.in-None.ensures)) in
    sym (ap (λ (x : TreeContents). length (path_above x.open_directories)) (sym c.self.view_is) ∙ ap (λ (ds : List OpenDirectory). length (path_above ds)) none)
