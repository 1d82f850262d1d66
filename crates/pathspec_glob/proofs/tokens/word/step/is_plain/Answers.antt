use Rattle.std.proofs.Common.{sym, ◌∙◌}
use Rattle.std.proofs.lemmas.Bool.{and_parts}
use Rattle.pathspec_glob.specs.GlobCells.{has}
use Rattle.pathspec_glob.proofs.BitProofs.{has-and}
use Rattle.pathspec_glob.proofs.tokens.word.step.is_plain.Goals as goal

pub returns-then-skippable-le1-clause-first : goal.returns-then-skippable-le1-clause-first
returns-then-skippable-le1-clause-first c plain =
    (and_parts (has c.args.self_loops 0) (has c.args.slash_loops 0) (sym (has-and c.args.self_loops c.args.slash_loops 0) ∙ sym c.holds.ensures ∙ plain)).0

pub returns-then-skippable-le1-clause-first_at_slash : goal.returns-then-skippable-le1-clause-first_at_slash
returns-then-skippable-le1-clause-first_at_slash c plain =
    (and_parts (has c.args.self_loops 0) (has c.args.slash_loops 0) (sym (has-and c.args.self_loops c.args.slash_loops 0) ∙ sym c.holds.ensures ∙ plain)).1
