-- The path goes on at the place, or has ended.
use Rattle.std.proofs.Common.{length, sym, ◌∙◌}
use Rattle.std.proofs.lemmas.Bool.{le-ltb}
use Rattle.pathspec_explain.proofs.PartingProofs.{more-folded, ended-folded}
use Rattle.pathspec_explain.proofs.parting.agrees_at.Goals as goal

pub returns-then-at-path : goal.returns-then-at-path
returns-then-at-path c = λ h. c.is_same.ensures ∙ sym (more-folded c.args.ignore_case c.args.path.now c.args.text.now c.args.at c.requires c.if-at-path.true h)

pub returns-else-at-path : goal.returns-else-at-path
returns-else-at-path c = λ h.
    le-ltb c.args.at (length c.args.path.now) c.if-at-path.false ∙ sym (ended-folded c.args.ignore_case c.args.path.now c.args.text.now c.args.at c.requires c.if-at-path.false)
