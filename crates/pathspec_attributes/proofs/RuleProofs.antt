-- The test of a rule gives what its relation says.
use Rattle.std.proofs.Common.{◌≡◌, Bool, true, false, not, ◌||◌, refl, List, ℕ}
use Rattle.std.proofs.lemmas.Bool.{and_parts, and_from, false≢true}
use Rattle.std.specs.Prelude.{IsTrue}
use Rattle.pathspec_glob.specs.declared.Case.{Case}
use Rattle.pathspec_glob.specs.Globs.{glob_tokens}
use Rattle.pathspec_glob.specs.GlobRelation.{matches}
use Rattle.pathspec_glob.proofs.GlobProofs.{glob_is_relation}
use Rattle.pathspec_attributes.specs.Rules.{Rule, Fits, fits, compared, FitsIsRelation}

kind-to : (only is_dir : Bool) → (not only || is_dir) ≡ true → IsTrue only → IsTrue is_dir
kind-to true is_dir h o = h
kind-to false is_dir h o = absurd (false≢true o)

kind-from : (only is_dir : Bool) → (IsTrue only → IsTrue is_dir) → (not only || is_dir) ≡ true
kind-from true is_dir h = h refl
kind-from false is_dir h = refl

module _ (case : Case) (base : List ℕ) (rule : Rule) (path : List ℕ) (is_dir : Bool) where
  to : IsTrue (fits case base rule path is_dir) → Fits case base rule path is_dir
  to h =
      let p = and_parts (not rule.only_directories || is_dir) (matches rule.glob.mode case (glob_tokens rule.glob) (compared rule.glob.mode base path)) h in
      record { kind = kind-to rule.only_directories is_dir p.0; glob = (glob_is_relation rule.glob.mode case (glob_tokens rule.glob) (compared rule.glob.mode base path)).0 p.1 }

  from : Fits case base rule path is_dir → IsTrue (fits case base rule path is_dir)
  from h = and_from (not rule.only_directories || is_dir) (matches rule.glob.mode case (glob_tokens rule.glob) (compared rule.glob.mode base path))
      (kind-from rule.only_directories is_dir h.kind)
      ((glob_is_relation rule.glob.mode case (glob_tokens rule.glob) (compared rule.glob.mode base path)).1 h.glob)

pub fits_is_relation : FitsIsRelation
fits_is_relation case base rule path is_dir = (to case base rule path is_dir, from case base rule path is_dir)
