-- Why some laws have a premise on nil specs. An exclude `.` that is nil, without case and with a prefix directory, would say no to every directory and match nothing.
use Rattle.std.proofs.Common.{◌≡◌, true, false, refl, inl, [], ◌∷◌, Some}
use Rattle.std.specs.Prelude.{codes}
use Rattle.pathspec_pattern.specs.declared.SearchMode.TheVariants.{ShellGlob}
use Rattle.gix_pathspec.specs.Bytes.{begins_with}
use Rattle.gix_pathspec.specs.Specs.{Spec}
use Rattle.gix_pathspec.specs.Matching.{fit, fits, has_attributes, spec_matches, is_chosen}
use Rattle.gix_pathspec.specs.Prefixes.{stem, common_prefix}
use Rattle.gix_pathspec.specs.Tables.{stem_reaches}
use Rattle.gix_pathspec.specs.Pruning.{reaches, can_match}
use Rattle.gix_pathspec.specs.PruningLaws.{PrunedIsNotChosen}
use Rattle.gix_pathspec.specs.Directories.{directory_matches}
use Rattle.gix_pathspec.specs.DirectoryLaws.{OutsideIsSafe}
use Rattle.gix_pathspec.proofs.Asking.{nothing_known}
use Rattle.gix_pathspec.proofs.ChosenProofs.{chosen_is_test}

abbrev held_back : Spec
held_back = record { path = codes "."; signature = 6; mode = ShellGlob; attributes = []; nil = true; prefix_length = 1 }

says_no : directory_matches (held_back ∷ []) (codes "x") true ≡ false
unfolding directory_matches common_prefix
says_no = refl

prunes : can_match (held_back ∷ []) (codes "x") (Some true) ≡ false
unfolding can_match common_prefix reaches stem_reaches
prunes = refl

but_chosen : is_chosen nothing_known (held_back ∷ []) (codes "x") true ≡ true
unfolding is_chosen spec_matches fit has_attributes
but_chosen = refl

-- so without that premise, a no of the answer about directories would not be safe
outside_unsafe : ¬ (OutsideIsSafe nothing_known (held_back ∷ []))
outside_unsafe safe = safe (codes "x") says_no (codes "x") true (inl refl) ((chosen_is_test nothing_known (held_back ∷ []) (codes "x") true).0 but_chosen)

-- and what is pruned might be chosen
pruned_chosen : ¬ (PrunedIsNotChosen nothing_known (held_back ∷ []))
pruned_chosen safe = safe (codes "x") (Some true) (λ e. let no : ⊥ = cc in no) prunes (codes "x") true (inl refl) ((chosen_is_test nothing_known (held_back ∷ []) (codes "x") true).0 but_chosen)

-- a nil spec fits what does not begin with its stem
abbrev nil_dot : Spec
nil_dot = record { path = codes "."; signature = 0; mode = ShellGlob; attributes = []; nil = true; prefix_length = 0 }

nil_fits : fits nil_dot (codes "x") false ≡ true
unfolding fit
nil_fits = refl

nil_begins : begins_with (codes "x") (stem nil_dot) ≡ false
nil_begins = refl
