-- The prefix is clean, or it isn't.
use Rattle.std.proofs.Common.{◌∙◌, refl, sym, ap}
use Rattle.pathspec_parts.specs.Paths.{is_clean_prefix}
use Rattle.pathspec_select.proofs.OptionProofs.{cleaned, unclean}
use Rattle.pathspec_select.proofs.options.with_clean_prefix.Goals as goal

pub returns-then-not-is_clean_prefix-clause-options : goal.returns-then-not-is_clean_prefix-clause-options
returns-then-not-is_clean_prefix-clause-options c = λ options h.
    (refl, unclean c.args.options options h c.prefix_of-prefix.result c.prefix_of-prefix.ensures (ap is_clean_prefix (sym c.new.ensures) ∙ sym c.is_clean_prefix.ensures ∙ c.if-not-is_clean_prefix.true))

pub returns-clause-options : goal.returns-clause-options
returns-clause-options c = λ options h.
    cleaned c.args.options options h c.prefix_of-prefix.result c.prefix_of-prefix.ensures (ap is_clean_prefix (sym c.new.ensures) ∙ sym c.is_clean_prefix.ensures ∙ c.if-not-is_clean_prefix.false)
