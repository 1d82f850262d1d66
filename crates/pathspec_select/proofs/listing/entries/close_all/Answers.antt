use Rattle.std.proofs.Common.{sym, ◌∙◌, ap}
use Rattle.pathspec_select.specs.Outlines.{OutlineContents}
use Rattle.pathspec_select.proofs.AddingProofs.{close_one}
use Rattle.pathspec_select.proofs.listing.entries.close_all.Goals as goal

pub loop-rest-preserved : goal.loop-rest-preserved
loop-rest-preserved c =
    let i = c.loop-rest.invariant in
    let e = c.close.ensures in
    record {
      tree =
          close_one c.loop-rest.outline.tree c.args.outline.now.tree c.close.new.self.tree c.args.path.now c.loop-rest.rest.now _ _ (sym c.is_empty.ensures ∙ c.loop-rest-test.true) c.at_first.ensures.before c.at_first.ensures.after
          (ap (λ (o : OutlineContents). o.tree) e) i.tree;
      marks = ap (λ (o : OutlineContents). o.marks) e ∙ i.marks;
      kept = record { bytes = ap (λ (o : OutlineContents). o.bytes) e ∙ i.kept.bytes; separator = ap (λ (o : OutlineContents). o.separator) e ∙ i.kept.separator };
    }
