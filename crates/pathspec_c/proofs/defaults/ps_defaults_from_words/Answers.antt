-- The empty word is false.
use Rattle.std.proofs.Common.{refl}
use Rattle.pathspec_parts.specs.Truth.{truth_of}
use Rattle.pathspec_c.proofs.defaults.ps_defaults_from_words.Goals as goal

pub returns-in-Ok-clause-unset : goal.returns-in-Ok-clause-unset
unfolding truth_of
returns-in-Ok-clause-unset c = refl

pub returns-in-Err-clause-unset : goal.returns-in-Err-clause-unset
unfolding truth_of
returns-in-Err-clause-unset c = refl
