-- The law is a lemma on the definitions.
use Rattle.gix_pathspec.proofs.ChosenProofs.{chosen_is_test}
use Rattle.gix_pathspec.proofs.search.laws.chosen_is_test.Goals as goal

pub returns : goal.returns
returns c = chosen_is_test
