-- A set is there unless too few excludes begin with a wildcard, or their globs have too many places.
use Rattle.std.proofs.Common.{sym, ◌∙◌}
use Rattle.std.proofs.lemmas.Result.{IfOk-weaker}
use Rattle.gix_pathspec.specs.Reach.{subtree_excludes_of}
use Rattle.gix_pathspec.specs.Search.{specs_of}
use Rattle.gix_pathspec.proofs.ExcludeSetProofs.{excludes-enough}
use Rattle.gix_pathspec.proofs.ExcludeMadeProofs.{is-made-of, none-made-of}
use Rattle.gix_pathspec.proofs.search.init.exclude_set_of.Goals as goal

pub returns-then-not-has_set-clause-made : goal.returns-then-not-has_set-clause-made
returns-then-not-has_set-clause-made c = λ made. absurd (none-made-of (subtree_excludes_of (specs_of c.args.specs.now)) (excludes-enough c.args.specs.now ∙ sym c.has_set.ensures ∙ c.if-not-has_set.true) made)

pub returns-clause-made : goal.returns-clause-made
returns-clause-made c =
    IfOk-weaker c.of_specs.result _ _ (λ set none. is-made-of (subtree_excludes_of (specs_of c.args.specs.now)) set (excludes-enough c.args.specs.now ∙ sym c.has_set.ensures ∙ c.if-not-has_set.false) none) c.of_specs.ensures.none

pub of_specs-requires-clause-enough : goal.of_specs-requires-clause-enough
of_specs-requires-clause-enough c = excludes-enough c.args.specs.now ∙ sym c.has_set.ensures ∙ c.if-not-has_set.false
