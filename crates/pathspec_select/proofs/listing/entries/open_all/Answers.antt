use Rattle.std.proofs.Common.{◌≡◌, ◌+◌, [], ◌∷◌, ◌++◌, length, take, sym, ◌∙◌, ap, subst, arith}
use Rattle.std.proofs.lemmas.Result.{err_from_is_err_and}
use Rattle.pathspec_parts.specs.Trees.{TreeContents, tree_after}
use Rattle.pathspec_parts.specs.Entries.Call.{Open}
use Rattle.pathspec_select.specs.Outlines.{OutlineContents, part, last_name, LiesOpen, HasOpen}
use Rattle.pathspec_select.proofs.OpenProofs.{before_end, names_are, last_is, lies, has_open-next, begins-kept, part_is, no_mark}
use Rattle.pathspec_select.proofs.AddingProofs.{open_one, mark_one, named_one, refused_one, some_name, no_name}
use Rattle.pathspec_select.proofs.listing.entries.open_all.Goals as goal

pub returns-then-is_empty-clause-answers : goal.returns-then-is_empty-clause-answers
returns-then-is_empty-clause-answers c =
    let l = c.loop-end in
    let name = c.at_first.result.0.now in
    refused_one _ name _ (names_are c.args.path.now c.requires.begins.closed l.end c.loop-end-test.true name c.at_first.ensures.before) _ (no_name name (sym c.is_empty.ensures ∙ c.if-is_empty.true)) l.invariant.named

pub add-requires-clause-lies : goal.add-requires-clause-lies
add-requires-clause-lies c =
    let l = c.loop-end in
    let path = c.args.path.now in
    let name = c.at_first.result.0.now in
    let inside = before_end path c.requires.begins.closed l.end c.loop-end-test.true name c.at_first.ensures.before in
    let is = part_is l.outline c.args.start path (l.end + length name) (begins-kept c.args.outline.now l.outline c.args.start path l.invariant.kept c.requires.begins) (omega (arith, inside)) in
    subst (LiesOpen l.outline.tree) (sym is) (lies path c.requires.begins.closed l.end c.loop-end-test.true name c.at_first.ensures.before l.outline.tree l.invariant.here (some_name name (sym c.is_empty.ensures ∙ c.if-is_empty.false)))

pub returns-in_err-add-clause-answers : goal.returns-in_err-add-clause-answers
returns-in_err-add-clause-answers c = let p = err_from_is_err_and c.from_residual.result c.from_residual.ensures.1 in rw (p.1, p.2) tt

pub loop-end-preserved : goal.loop-end-preserved
loop-end-preserved c =
    let l = c.loop-end in
    let i = l.invariant in
    let path = c.args.path.now in
    let name = c.at_first.result.0.now in
    let closed = c.requires.begins.closed in
    let first = c.at_first.ensures.before in
    let test = c.loop-end-test.true in
    let inside = before_end path closed l.end test name first in
    let names = names_are path closed l.end test name first in
    let some = some_name name (sym c.is_empty.ensures ∙ c.if-is_empty.false) in
    let begins = begins-kept c.args.outline.now l.outline c.args.start path i.kept c.requires.begins in
    let is = part_is l.outline c.args.start path (l.end + length name) begins (omega (arith, inside)) in
    let own : last_name (part l.outline.bytes c.args.start (l.end + length name)) ≡ name = ap last_name is ∙ last_is path closed l.end test name first l.outline.tree i.here in
    let ok = c.in_ok-add.ensures.ok in
    let tree_is : c.add.new.self.tree ≡ tree_after l.outline.tree (Open name) = ap (λ (o : OutlineContents). o.tree) ok ∙ ap (λ x. tree_after l.outline.tree (Open x)) own in
    record {
      within = omega (arith, inside);
      here = subst (λ (t : TreeContents). HasOpen t (take (l.end + length name + 1) path)) (sym tree_is) (has_open-next path closed l.end test name first l.outline.tree i.here);
      tree = open_one _ name _ names l.outline.tree c.add.new.self.tree _ tree_is i.tree;
      marks = mark_one _ name _ names l.outline.marks c.add.new.self.marks _ (ap (λ (o : OutlineContents). o.marks) ok ∙ ap (λ m. l.outline.marks ++ m ∷ []) (no_mark l.outline c.args.start path (l.end + length name) begins inside)) i.marks;
      named = named_one _ name _ names _ some i.named;
      kept = record { bytes = ap (λ (o : OutlineContents). o.bytes) ok ∙ i.kept.bytes; separator = ap (λ (o : OutlineContents). o.separator) ok ∙ i.kept.separator };
    }
