-- What a text stands for in a directory of a repository.
use Rattle.std.specs.Prelude.{ℕ, List, Result}
use Rattle.pathspec_pattern.specs.declared.defaults.Defaults.{Defaults}
use Rattle.gix_pathspec.specs.Faults.{Fault}
use Rattle.gix_pathspec.specs.Specs.{Spec}
use Rattle.gix_pathspec.specs.Results.{◌>>=◌}
use Rattle.gix_pathspec.specs.Reading.{reading}
use Rattle.gix_pathspec.specs.NormalForm.{normal_form}

-- the normal form of a text under a prefix, in a repository with this root, or why there is none
abbrev pub normal_form_of : Defaults → List ℕ → List ℕ → List ℕ → Result Spec Fault
normal_form_of defaults prefix root text = reading defaults text >>= λ s. normal_form prefix root s
