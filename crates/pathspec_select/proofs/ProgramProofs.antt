-- What a job ends with whose listing is good.
use Rattle.std.proofs.Common.{◌≡◌, inl, ℕ, true, List, [], Option, Some, None, Ok, Err, Result, MatchResult, refl, subst, sym, ◌∙◌, ap}
use Rattle.pathspec_parts.specs.Attributes.{Table}
use Rattle.gix_pathspec.specs.Specs.{Spec}
use Rattle.pathspec_select.specs.declared.refusal.Refusal.{Refusal}
use Rattle.pathspec_select.specs.declared.refusal.Refusal.TheVariants as refusal
use Rattle.pathspec_parts.specs.Entries.{Entry}
use Rattle.pathspec_parts.specs.Records.{records, listing_entries}
use Rattle.pathspec_select.specs.Listing.{marks_from, written_entries}
use Rattle.pathspec_walk.specs.Walks.{IsWalk}
use Rattle.pathspec_select.proofs.RecordProofs.{output_by_walk}
use Rattle.std.specs.Io.KnownBytes.{Keeps, Appends}
use Rattle.gix_pathspec.specs.Search.{Numbered, specs_of}
use Rattle.pathspec_select.specs.RequestFaults.{RequestFault}
use Rattle.pathspec_pattern.specs.Environment.{Words}
use Rattle.pathspec_select.specs.Options.{options_of}
use Rattle.pathspec_select.specs.Refusals.{TellsRequestFault, refused_listing}
use Rattle.pathspec_select.specs.declared.listing.contents.ListingError.{ListingError}
use Rattle.pathspec_select.specs.declared.listing.contents.ListingError.TheVariants as listing_error
use Rattle.pathspec_select.specs.ListingAnswers.{RefusesRecords}
use Rattle.pathspec_select.specs.Input.{has_end_line, spec_text, listing_text}
use Rattle.pathspec_select.specs.Requests.{BuilderContents, JobSpecs, InputParts, built_specs, parts_of}
use Rattle.pathspec_select.specs.Requests.JobSpecs.{FromWords, FromInput}
use Rattle.pathspec_parts.specs.Writing.{AppendsFront}
use Rattle.pathspec_select.specs.Program.{IsAllOf, EndsOutput, OnParts, RefusesJob, EndsJob, HasFault, Refuses, HasGoodRecords, HasBadRecord, output_of}

-- the value of a result whose error was made into another
pub mapped_ok : {T E : Type 0} (D : Type 0) (r : Result T E) (y : T) → MatchResult r (λ x. ◌≡◌ {A = Result T D} (Ok y) (Ok x)) (λ e. ⊥) → r ≡ Ok y
mapped_ok D (Ok x) y h = cc
mapped_ok D (Err e) y h = absurd h

-- ---- the parts of an input

-- of a listing alone
on-listing : (ns : List Numbered) (listing : List ℕ) (P : List Spec → List ℕ → Type 0) → OnParts (FromWords ns) (Some listing) P → P (specs_of ns) listing
on-listing ns listing P (parts, e, p) =
    let same : record { specs = ns; listing = listing } ≡ parts = cc in
    subst (λ (q : InputParts). P (specs_of q.specs) q.listing) (sym same) p

-- of any input
on-parts : (specs : JobSpecs (List Numbered)) (input : Option (List ℕ)) (bytes : List ℕ) (parts : InputParts) (P : List Spec → List ℕ → Type 0) → IsAllOf input bytes → parts_of specs bytes ≡ Ok parts → P (specs_of parts.specs) parts.listing → OnParts specs input P
on-parts specs None bytes parts P all e p = tt
on-parts specs (Some known) bytes parts P all e p = (parts, ap (parts_of specs) (sym all) ∙ e, p)

-- the parts of an input, with the search of its specs
pub parts-built : (builder : BuilderContents) (bytes lines listing : List ℕ) (ns : List Numbered) → has_end_line bytes ≡ true → lines ≡ spec_text bytes → listing ≡ listing_text bytes → built_specs builder lines ≡ Ok ns
    → parts_of (FromInput builder) bytes ≡ Ok (record { specs = ns; listing = listing })
parts-built builder bytes lines listing ns divided l t built =
    let same : built_specs builder (spec_text bytes) ≡ Ok ns = subst (λ (x : List ℕ). built_specs builder x ≡ Ok ns) l built in
    rw (divided, same, t) refl

module _ (specs : JobSpecs (List Numbered)) (input : Option (List ℕ)) (bytes : List ℕ) (parts : InputParts) (all : IsAllOf input bytes) (e : parts_of specs bytes ≡ Ok parts) where
  -- what holds of the listing alone, with the specs, holds of the parts
  carried : (P : List Spec → List ℕ → Type 0) → OnParts (FromWords parts.specs) (Some parts.listing) P → OnParts specs input P
  carried P h = on-parts specs input bytes parts P all e (on-listing parts.specs parts.listing P h)

  module _ (table : Table) (separator : ℕ) (old new : Option (List ℕ)) where
    -- so a job ends with what it ends with for the listing alone
    pub ends-parts : {A : Type 0} (result : Result A Refusal) → EndsJob table (FromWords parts.specs) separator (Some parts.listing) old new result → EndsJob table specs separator input old new result
    ends-parts (Ok done) h = carried (λ given listing. HasGoodRecords separator listing × Appends old new (output_of table given separator listing)) h
    ends-parts (Err refusal.Usage) h = absurd h
    ends-parts (Err (refusal.Environment error)) h = absurd h
    ends-parts (Err (refusal.Spec number error)) h = absurd h.0.2
    ends-parts (Err refusal.Read) h = h
    ends-parts (Err refusal.Specs) h = absurd h.0
    ends-parts (Err (refusal.Line number)) h = (carried (λ given listing. HasBadRecord separator listing number) h.0, h.1)
    ends-parts (Err refusal.Write) h = carried (λ given listing. HasGoodRecords separator listing × AppendsFront old new (output_of table given separator listing)) h
    ends-parts (Err refusal.Memory) h = h

-- ---- a listing

module _ (table : Table) (ns : List Numbered) (separator : ℕ) where
  -- the output of a good listing
  pub ends-output : {A : Type 0} (old new : Option (List ℕ)) (listing bytes : List ℕ) → HasGoodRecords separator listing → bytes ≡ output_of table (specs_of ns) separator listing
      → (result : Result A Refusal) → EndsOutput old new bytes result → EndsJob table (FromWords ns) separator (Some listing) old new result
  ends-output old new listing bytes good is (Ok done) h = (record { specs = ns; listing = listing }, refl, (good, rw (← is) h))
  ends-output old new listing bytes good is (Err refusal.Usage) h = absurd h
  ends-output old new listing bytes good is (Err (refusal.Environment error)) h = absurd h
  ends-output old new listing bytes good is (Err (refusal.Spec number error)) h = absurd h
  ends-output old new listing bytes good is (Err refusal.Read) h = absurd h
  ends-output old new listing bytes good is (Err refusal.Specs) h = absurd h
  ends-output old new listing bytes good is (Err (refusal.Line number)) h = absurd h
  ends-output old new listing bytes good is (Err refusal.Write) h = (record { specs = ns; listing = listing }, refl, (good, rw (← is) h))
  ends-output old new listing bytes good is (Err refusal.Memory) h = h

  -- what is written for the entries of a walk
  pub output-is : (listing : List ℕ) (marks : List (Option (List ℕ))) (es : List Entry) (given entered : List ℕ) → marks ≡ marks_from [] (records separator listing) → es ≡ listing_entries (records separator listing)
      → IsWalk table (specs_of ns) es given entered → written_entries separator marks given ≡ output_of table (specs_of ns) separator listing
  output-is listing marks es given entered m e walk =
      ap (λ ms. written_entries separator ms given) m
      ∙ sym (output_by_walk table (specs_of ns) separator (records separator listing) given entered (subst (λ (xs : List Entry). IsWalk table (specs_of ns) xs given entered) e walk))

  -- the first bad record of a listing
  pub refuses-listing : (old new : Option (List ℕ)) (listing : List ℕ) (e : ListingError) (r : Refusal) → r ≡ refused_listing e → RefusesRecords (records separator listing) e → Keeps old new
      → RefusesJob table (FromWords ns) separator (Some listing) old new r
  refuses-listing old new listing (listing_error.BadLine number) r is bad keeps = rw is ((record { specs = ns; listing = listing }, refl, bad), keeps)
  refuses-listing old new listing listing_error.Memory r is bad keeps = rw is keeps

-- ---- a run

-- the fault of words or of the environment is the first of all
pub refuses-words : (words : List (List ℕ)) (environment : Words) (input old new : Option (List ℕ)) (r : Refusal) → Keeps old new → (options_of words ≡ Err RequestFault.Usage → r ≡ refusal.Usage)
    → TellsRequestFault r (HasFault words environment) → Refuses words environment input old new r
refuses-words words environment input old new refusal.Usage keeps right h = (h, keeps)
refuses-words words environment input old new (refusal.Environment error) keeps right h = (h, keeps)
refuses-words words environment input old new (refusal.Spec number error) keeps right h = ((h.0, h.1, inl h.2), keeps)
refuses-words words environment input old new refusal.Read keeps right h = absurd h
refuses-words words environment input old new refusal.Specs keeps right h = absurd h
refuses-words words environment input old new (refusal.Line number) keeps right h = absurd h
refuses-words words environment input old new refusal.Write keeps right h = absurd h
refuses-words words environment input old new refusal.Memory keeps right h = (λ o. let e = right o in let no : ⊥ = cc in no, keeps)
