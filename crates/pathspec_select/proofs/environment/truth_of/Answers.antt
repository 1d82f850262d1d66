-- What was found of the word's bytes.
use Rattle.std.proofs.Common.{string_bytes}
use Rattle.pathspec_select.proofs.VariableProofs.{says-found}
use Rattle.pathspec_select.proofs.environment.truth_of.Goals as goal

pub returns-in-Some : goal.returns-in-Some
returns-in-Some c = rw c.in-Some.is (says-found (string_bytes c.in-Some.word) _ _ c.as_bytes.ensures.value c.parse_truth.ensures.value)
