-- What a command's filter ends with.
use Rattle.std.proofs.Common.{◌≡◌, ℕ, ◌+◌, Bool, true, false, cond, refl, sym, ◌∙◌, ap, List, [], ◌∷◌, ◌++◌, Option, Some, None, Result, Ok, Err, inl, inr}
use Rattle.std.proofs.lemmas.List.Elements.{All-nil, All-cons}
use Rattle.std.specs.Option.{option_to_list, is_some}
use Rattle.std.specs.List.{position_from}
use Rattle.pathspec_parts.specs.Attributes.{Table}
use Rattle.pathspec_parts.specs.Records.{records, is_bad}
use Rattle.pathspec_parts.specs.Outputs.{records_where, text_of, good_records}
use Rattle.pathspec_parts.proofs.TextProofs.{good_records-append}
use Rattle.pathspec_filter.specs.declared.answers.Counts.{Counts}
use Rattle.pathspec_filter.specs.FilterAnswers.{EndsEarly}
use Rattle.pathspec_commands.specs.declared.attributes.Attributes.{Attributes}
use Rattle.pathspec_commands.specs.declared.attributes.Attributes.TheVariants.{Rows, Directory}
use Rattle.pathspec_commands.specs.declared.filtering.Ended.{Ended}
use Rattle.pathspec_commands.specs.Filters.{EndsCounted, EndsWriting, TakesSome, TakesNone, TellsFirst, WithTable}

-- what holds of what is known of attributes follows from another such fact
pub with-table : (attributes : Attributes) (P Q : Table → Type 0) → ((table : Table) → P table → Q table) → WithTable attributes P → WithTable attributes Q
with-table (Rows rows) P Q f h = f _ h
with-table (Directory directory) P Q f h = tt

-- where no record is bad, all stand before the first bad one
all-good : (number : ℕ) (rs : List (List ℕ)) → position_from is_bad number rs ≡ None → good_records rs ≡ rs
all-good number [] h = refl
all-good number (r ∷ rs) h =
    elim (is_bad r) as (λ b. is_bad r ≡ b → cond b (Some number) (position_from is_bad (number + 1) rs) ≡ None → good_records (r ∷ rs) ≡ r ∷ rs) [
      | true ↦ λ here e. let no : ⊥ = cc in absurd no
      | false ↦ λ here e. good_records-append (r ∷ []) rs (All-cons (λ q. is_bad q ≡ false) r [] here (All-nil (λ q. is_bad q ≡ false))) ∙ ap (λ t. r ∷ t) (all-good (number + 1) rs e)
    ] refl h

-- only no records have no text
text-none : (separator : ℕ) (rs : List (List ℕ)) → text_of separator rs ≡ [] → rs ≡ []
text-none separator [] h = refl
text-none separator ([] ∷ rs) h = let no : ⊥ = cc in absurd no
text-none separator ((b ∷ r) ∷ rs) h = let no : ⊥ = cc in absurd no

module _ (takes : List ℕ → Bool → Bool) (separator : ℕ) where
  counted-some : (byte : ℕ) (counts : Option Counts) (input : List ℕ) → EndsCounted takes separator (Some []) (Some (byte ∷ [])) counts input → TakesSome takes separator input
  counted-some byte None input h = absurd h
  counted-some byte (Some counts) input h = λ e.
      let rs = records separator input in
      let none : byte ∷ [] ≡ [] = h.written ∙ ap (text_of separator) (ap (records_where takes) (sym (all-good 1 rs h.good)) ∙ e) in
      let no : ⊥ = cc in no

  early-some : (byte : ℕ) (input : List ℕ) → EndsEarly takes separator (Some []) (Some (byte ∷ [])) input → TakesSome takes separator input
  early-some byte input (rest, (front, whole, written)) = λ e.
      let none : byte ∷ rest ≡ [] = ap (λ t. t ++ rest) written ∙ (sym whole ∙ ap (text_of separator) e) in
      let no : ⊥ = cc in no

  -- a byte was written
  pub tells-met : (F : Type 0) (listing : Option (List ℕ)) (byte : Option ℕ) (r : Result Ended F) (done : Ended) → is_some byte ≡ true → done.status ≡ 0 → EndsWriting takes separator listing (Some []) (Some (option_to_list byte)) r → TellsFirst {F = F} takes separator listing (Ok done)
  tells-met F None byte r done m s h = tt
  tells-met F (Some input) None r done m s h = let no : ⊥ = cc in absurd no
  tells-met F (Some input) (Some byte) (Ok ended) done m s h = inl (s, counted-some byte ended.counts input h)
  tells-met F (Some input) (Some byte) (Err fault) done m s h = inl (s, early-some byte input h)

  counted-none : (counts : Option Counts) (input : List ℕ) → EndsCounted takes separator (Some []) (Some []) counts input → TakesNone takes separator input
  counted-none None input h = absurd h
  counted-none (Some counts) input h = record { good = h.good; none = text-none separator (records_where takes (records separator input)) (sym h.written) }

  -- all was read, and no byte was written
  pub tells-none : (F : Type 0) (listing : Option (List ℕ)) (byte : Option ℕ) (ended done : Ended) → is_some byte ≡ false → done.status ≡ 1 → EndsWriting {F = F} takes separator listing (Some []) (Some (option_to_list byte)) (Ok ended) → TellsFirst {F = F} takes separator listing (Ok done)
  tells-none F None byte ended done m s h = tt
  tells-none F (Some input) (Some byte) ended done m s h = let no : ⊥ = cc in absurd no
  tells-none F (Some input) None ended done m s h = inr (s, counted-none ended.counts input h)
