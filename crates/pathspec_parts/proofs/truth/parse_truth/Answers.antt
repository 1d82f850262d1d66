use Rattle.std.proofs.Common.{Bool, Option, sym, subst}
use Rattle.pathspec_parts.specs.Truth.{IsTruth}
use Rattle.pathspec_parts.proofs.TruthProofs.{truth_is_exact}
use Rattle.pathspec_parts.proofs.truth.parse_truth.Goals as goal

pub returns-clause-says : goal.returns-clause-says
returns-clause-says c = subst (λ (answer : Option Bool). IsTruth c.args.text.now answer) (sym c.truth_of.ensures) (truth_is_exact c.args.text.now)
