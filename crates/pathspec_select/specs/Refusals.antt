-- What a clause reads of a `Refusal`.
use Rattle.std.specs.Prelude.{◌≡◌, ℕ, Some, MatchOption, Result, Ok, Err, MatchResult}
use Rattle.pathspec_pattern.specs.declared.error.Error.{Error}
use Rattle.gix_pathspec.specs.declared.search.init.BuildError.{BuildError}
use Rattle.gix_pathspec.specs.declared.search.init.BuildError.TheVariants as build
use Rattle.gix_pathspec.specs.Faults.{Fault}
use Rattle.gix_pathspec.specs.Errors.{fault_of}
use Rattle.pathspec_select.specs.declared.refusal.Refusal.{Refusal}
use Rattle.pathspec_select.specs.declared.refusal.Refusal.TheVariants as refusal
use Rattle.pathspec_select.specs.declared.listing.contents.ListingError.{ListingError}
use Rattle.pathspec_select.specs.declared.listing.contents.ListingError.TheVariants as listing
use Rattle.pathspec_walk.specs.declared.walk.SelectError.{SelectError}
use Rattle.pathspec_walk.specs.declared.walk.SelectError.TheVariants as walk
use Rattle.pathspec_select.specs.RequestFaults.{RequestFault}

-- the exit status
abbrev pub status_of : Refusal → ℕ
status_of refusal.Usage = 2
status_of (refusal.Environment error) = 3
status_of (refusal.Spec number error) = 3
status_of refusal.Read = 5
status_of refusal.Specs = 4
status_of (refusal.Line number) = 4
status_of refusal.Write = 5
status_of refusal.Memory = 6

-- the exit status of a run, which is 0 where it did all
abbrev pub exit_status : {A : Type 0} → Result A Refusal → ℕ
exit_status (Ok done) = 0
exit_status (Err refused) = status_of refused

-- The refusal tells this fault of the words, the environment or specs, or that memory ran out.
abbrev pub TellsRequestFault : Refusal → (RequestFault → Type 0) → Type 0
TellsRequestFault refusal.Usage P = P RequestFault.Usage
TellsRequestFault (refusal.Environment error) P = (fault : Fault) × (fault_of error ≡ Some fault) × P (RequestFault.BadEnvironment fault)
TellsRequestFault (refusal.Spec number error) P = (fault : Fault) × (fault_of error ≡ Some fault) × P (RequestFault.BadSpec number fault)
TellsRequestFault refusal.Read P = ⊥
TellsRequestFault refusal.Specs P = ⊥
TellsRequestFault (refusal.Line number) P = ⊥
TellsRequestFault refusal.Write P = ⊥
TellsRequestFault refusal.Memory P = Unit {0}

-- The result, seen by `view`, is what is computed; a refusal tells the computed fault, or that memory ran out.
abbrev pub ComputesRequest : {A B : Type 0} → (A → B) → Result B RequestFault → Result A Refusal → Type 0
ComputesRequest view computed result = MatchResult result (λ x. computed ≡ Ok (view x)) (λ e. TellsRequestFault e (λ fault. computed ≡ Err fault))

-- The refusal is for this error of the spec with this number.
abbrev pub RefusesError : ℕ → Error → Refusal → Type 0
RefusesError number error refused = MatchOption (fault_of error) (refused ≡ refusal.Memory) (λ fault. refused ≡ refusal.Spec number error)

-- The refusal is for this error of the environment.
abbrev pub RefusesEnvironment : Error → Refusal → Type 0
RefusesEnvironment error refused = MatchOption (fault_of error) (refused ≡ refusal.Memory) (λ fault. refused ≡ refusal.Environment error)

-- The refusal is for this error of a search that is made.
abbrev pub RefusesBuild : BuildError → Refusal → Type 0
RefusesBuild (build.Spec number error) refused = refused ≡ refusal.Spec number error
RefusesBuild build.Memory refused = refused ≡ refusal.Memory

-- The refusal is what reading may end with: a failed read, or memory that ran out.
abbrev pub IsReadOrMemory : Refusal → Type 0
IsReadOrMemory refusal.Usage = ⊥
IsReadOrMemory (refusal.Environment error) = ⊥
IsReadOrMemory (refusal.Spec number error) = ⊥
IsReadOrMemory refusal.Read = Unit {0}
IsReadOrMemory refusal.Specs = ⊥
IsReadOrMemory (refusal.Line number) = ⊥
IsReadOrMemory refusal.Write = ⊥
IsReadOrMemory refusal.Memory = Unit {0}

-- the refusal for a listing that can't be read
abbrev pub refused_listing : ListingError → Refusal
refused_listing (listing.BadLine number) = refusal.Line number
refused_listing listing.Memory = refusal.Memory

-- the refusal for a walk that ended early
abbrev pub refused_walk : {F : Type 0} → SelectError F → Refusal
refused_walk (walk.LookUp fault) = refusal.Memory
refused_walk walk.Memory = refusal.Memory
