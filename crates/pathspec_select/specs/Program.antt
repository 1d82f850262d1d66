-- What the program does with what it reads, and what it writes.
use Rattle.std.specs.Prelude.{◌≡◌, ◌≢◌, ◌⊎◌, ℕ, List, ◌++◌, Option, None, Some, IfSome, Result, Ok, Err}
use Rattle.std.specs.Io.KnownBytes.{Keeps, Appends}
use Rattle.pathspec_parts.specs.Attributes.{Table, next_count}
use Rattle.pathspec_pattern.specs.Environment.{Words}
use Rattle.gix_pathspec.specs.Faults.{Fault}
use Rattle.gix_pathspec.specs.Errors.{fault_of}
use Rattle.gix_pathspec.specs.Specs.{Spec}
use Rattle.gix_pathspec.specs.Search.{Numbered, specs_of}
use Rattle.pathspec_select.specs.declared.refusal.Refusal.{Refusal}
use Rattle.pathspec_select.specs.declared.refusal.Refusal.TheVariants as refusal
use Rattle.pathspec_parts.specs.Records.{records, first_bad}
use Rattle.pathspec_parts.specs.Writing.{AppendsFront}
use Rattle.pathspec_parts.specs.AttributeRows.{table_of}
use Rattle.pathspec_select.specs.Listing.{output}
use Rattle.pathspec_select.specs.RequestFaults.{RequestFault}
use Rattle.pathspec_select.specs.Options.{options_of}
use Rattle.pathspec_select.specs.Requests.JobSpecs.{FromWords, FromInput}
use Rattle.pathspec_select.specs.Requests.{JobSpecs, Request, InputParts, request_of, parts_of}

-- ---- bytes

-- the bytes are all that is known to be left
abbrev pub IsAllOf : Option (List ℕ) → List ℕ → Type 0
IsAllOf known bytes = IfSome known (λ all. bytes ≡ all)

-- Known bytes grew by all of these; or by a front of them, where a write failed; or by none, where memory ran out.
abbrev pub EndsOutput : {A : Type 0} → Option (List ℕ) → Option (List ℕ) → List ℕ → Result A Refusal → Type 0
EndsOutput old new bs (Ok done) = Appends old new bs
EndsOutput old new bs (Err refusal.Usage) = ⊥
EndsOutput old new bs (Err (refusal.Environment error)) = ⊥
EndsOutput old new bs (Err (refusal.Spec number error)) = ⊥
EndsOutput old new bs (Err refusal.Read) = ⊥
EndsOutput old new bs (Err refusal.Specs) = ⊥
EndsOutput old new bs (Err (refusal.Line number)) = ⊥
EndsOutput old new bs (Err refusal.Write) = AppendsFront old new bs
EndsOutput old new bs (Err refusal.Memory) = Keeps old new

-- ---- a job

-- the listing has no bad record
abbrev pub HasGoodRecords : ℕ → List ℕ → Type 0
HasGoodRecords separator input = first_bad (records separator input) ≡ None

-- its first bad record has this number
abbrev pub HasBadRecord : ℕ → List ℕ → ℕ → Type 0
HasBadRecord separator input number = first_bad (records separator input) ≡ Some number

-- the full output for a listing
abbrev pub output_of : Table → List Spec → ℕ → List ℕ → List ℕ
output_of table specs separator input = output table specs separator (records separator input)

-- P of the specs and of the listing that the input has for a job, where they are known
abbrev pub OnParts : JobSpecs (List Numbered) → Option (List ℕ) → (List Spec → List ℕ → Type 0) → Type 0
OnParts specs input P = IfSome input (λ bytes. (parts : InputParts) × (parts_of specs bytes ≡ Ok parts) × P (specs_of parts.specs) parts.listing)

-- the input has this fault for a job, whose specs stand there
abbrev pub HasInputFault : JobSpecs (List Numbered) → Option (List ℕ) → RequestFault → Type 0
HasInputFault (FromWords search) input fault = ⊥
HasInputFault (FromInput builder) input fault = IfSome input (λ bytes. parts_of (FromInput builder) bytes ≡ Err fault)

-- A job is refused for its first fault: a failed read, no line that ends the specs of the input, the first fault of those specs, the first bad record, a failed write. Nothing is written before a fault, but for a write's, where a beginning of the full output was.
abbrev pub RefusesJob : Table → JobSpecs (List Numbered) → ℕ → Option (List ℕ) → Option (List ℕ) → Option (List ℕ) → Refusal → Type 0
RefusesJob table specs separator input old new refusal.Usage = ⊥
RefusesJob table specs separator input old new (refusal.Environment error) = ⊥
RefusesJob table specs separator input old new (refusal.Spec number error) = ((fault : Fault) × (fault_of error ≡ Some fault) × HasInputFault specs input (RequestFault.BadSpec number fault)) × Keeps old new
RefusesJob table specs separator input old new refusal.Read = Keeps old new
RefusesJob table specs separator input old new refusal.Specs = HasInputFault specs input RequestFault.NoEnd × Keeps old new
RefusesJob table specs separator input old new (refusal.Line number) = OnParts specs input (λ given listing. HasBadRecord separator listing number) × Keeps old new
RefusesJob table specs separator input old new refusal.Write = OnParts specs input (λ given listing. HasGoodRecords separator listing × AppendsFront old new (output_of table given separator listing))
RefusesJob table specs separator input old new refusal.Memory = Keeps old new

-- What a job ends with, for a steady look-up, the job's specs and separator, the bytes that a reader gives, and those that a writer held before and holds after it. Either no fault occurred and exactly the full output was written, or it is refused.
abbrev pub EndsJob : {A : Type 0} → Table → JobSpecs (List Numbered) → ℕ → Option (List ℕ) → Option (List ℕ) → Option (List ℕ) → Result A Refusal → Type 0
EndsJob table specs separator input old new (Ok done) = OnParts specs input (λ given listing. HasGoodRecords separator listing × Appends old new (output_of table given separator listing))
EndsJob table specs separator input old new (Err refused) = RefusesJob table specs separator input old new refused

-- The look-up's failures before and after a job: it fails at most once, and then memory ran out.
abbrev pub CountsRefusal : {A : Type 0} → ℕ → ℕ → Result A Refusal → Type 0
CountsRefusal before after result = (after ≡ before) ⊎ ((after ≡ next_count before) × (result ≡ Err refusal.Memory))

-- ---- the whole program

-- words and the environment ask for this, and P holds of it
abbrev pub AsksFor : List (List ℕ) → Words → (Request → Type 0) → Type 0
AsksFor words environment P = (request : Request) × (request_of words environment ≡ Ok request) × P request

-- they are at fault, and this is their first fault
abbrev pub HasFault : List (List ℕ) → Words → RequestFault → Type 0
HasFault words environment fault = request_of words environment ≡ Err fault

-- what is asked for is done
abbrev pub EndsAsRequested : {A : Type 0} → Option (List ℕ) → Option (List ℕ) → Option (List ℕ) → Result A Refusal → Request → Type 0
EndsAsRequested input old new result request = EndsJob (table_of request.rows) request.specs request.separator input old new result

-- it is refused for its first fault
abbrev pub RefusesRequest : Option (List ℕ) → Option (List ℕ) → Option (List ℕ) → Refusal → Request → Type 0
RefusesRequest input old new refused request = RefusesJob (table_of request.rows) request.specs request.separator input old new refused

-- A spec is at fault, and this is the first fault: one of the words, or else one of the input.
abbrev pub HasSpecFault : List (List ℕ) → Words → Option (List ℕ) → RequestFault → Type 0
HasSpecFault words environment input fault = HasFault words environment fault ⊎ AsksFor words environment (λ request. HasInputFault request.specs input fault)

-- It is told, and nothing before it occurred: the first fault of the words and the environment, and then of the job.
abbrev pub Refuses : List (List ℕ) → Words → Option (List ℕ) → Option (List ℕ) → Option (List ℕ) → Refusal → Type 0
Refuses words environment input old new refusal.Usage = HasFault words environment RequestFault.Usage × Keeps old new
Refuses words environment input old new (refusal.Environment error) = ((fault : Fault) × (fault_of error ≡ Some fault) × HasFault words environment (RequestFault.BadEnvironment fault)) × Keeps old new
Refuses words environment input old new (refusal.Spec number error) = ((fault : Fault) × (fault_of error ≡ Some fault) × HasSpecFault words environment input (RequestFault.BadSpec number fault)) × Keeps old new
Refuses words environment input old new refusal.Read = AsksFor words environment (RefusesRequest input old new refusal.Read)
Refuses words environment input old new refusal.Specs = AsksFor words environment (RefusesRequest input old new refusal.Specs)
Refuses words environment input old new (refusal.Line number) = AsksFor words environment (RefusesRequest input old new (refusal.Line number))
Refuses words environment input old new refusal.Write = AsksFor words environment (RefusesRequest input old new refusal.Write)
Refuses words environment input old new refusal.Memory = (options_of words ≢ Err RequestFault.Usage) × Keeps old new

-- What a run ends with, for these words and this environment, the bytes that its reader gives, and those that its writer held before and holds after it. Either what they ask for was done, or it is refused.
abbrev pub Ends : {A : Type 0} → List (List ℕ) → Words → Option (List ℕ) → Option (List ℕ) → Option (List ℕ) → Result A Refusal → Type 0
Ends words environment input old new (Ok done) = AsksFor words environment (EndsAsRequested input old new (Ok done))
Ends words environment input old new (Err refused) = Refuses words environment input old new refused
