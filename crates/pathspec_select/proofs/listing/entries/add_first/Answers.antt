use Rattle.std.proofs.Common.{◌≡◌, ◌==◌, false, sym, ◌∙◌, ap, subst, take, length}
use Rattle.std.proofs.lemmas.List.Elements.{All-take}
use Rattle.pathspec_parts.specs.RecordParts.{first_record, IsFreeOf}
use Rattle.pathspec_select.specs.Outlines.{OutlineContents}
use Rattle.pathspec_parts.proofs.RecordPartProofs.{free_before}
use Rattle.pathspec_select.proofs.OwnProofs.{lies, tree_is, marks_are, names_are_open, good}
use Rattle.pathspec_select.proofs.listing.entries.add_first.Goals as goal

pub add-requires-clause-lies : goal.add-requires-clause-lies
add-requires-clause-lies c = lies c.args.outline.now c.args.start c.args.separator c.args.directory.now c.args.rest.now c.in-Some.length c.in-Some.ensures c.requires.record c.requires.here

pub returns-in-Some-clause-tree : goal.returns-in-Some-clause-tree
returns-in-Some-clause-tree c =
    ap (λ (x : OutlineContents). x.tree) c.in_ok-add.ensures.ok
    ∙ tree_is c.args.outline.now c.args.start c.args.separator c.args.directory.now c.args.rest.now c.in-Some.length c.in-Some.ensures c.requires.record c.requires.here

pub returns-in-Some-clause-marks : goal.returns-in-Some-clause-marks
returns-in-Some-clause-marks c =
    ap (λ (x : OutlineContents). x.marks) c.in_ok-add.ensures.ok
    ∙ marks_are c.args.outline.now c.args.start c.args.separator c.args.directory.now c.args.rest.now c.in-Some.length c.in-Some.ensures c.requires.record c.requires.here

pub returns-in-Some-clause-names : goal.returns-in-Some-clause-names
returns-in-Some-clause-names c = names_are_open c.args.outline.now c.args.start c.args.separator c.args.directory.now c.args.rest.now c.in-Some.length c.in-Some.ensures c.requires.record c.requires.here

pub returns-in-Some-clause-answers : goal.returns-in-Some-clause-answers
returns-in-Some-clause-answers c = good c.args.outline.now c.args.start c.args.separator c.args.directory.now c.args.rest.now c.in-Some.length c.in-Some.ensures c.requires.record c.requires.here c.requires.named

pub returns-clause-free : goal.returns-clause-free
returns-clause-free c =
    let text = first_record c.args.separator c.args.rest.now in
    let front = c.in_ok-open.ensures.front ∙ ap (take (length c.in_ok-open.open.now)) c.at_first.ensures.before in
    subst (IsFreeOf c.args.separator) (sym front) (All-take (λ b. (b == c.args.separator) ≡ false) (length c.in_ok-open.open.now) text (free_before c.args.separator c.args.rest.now))
