-- A `BuildError`, and the normal forms that a search is made of, as clauses see them.
use Rattle.std.specs.Prelude.{◌≡◌, ℕ, not, ◌&&◌, List, [], ◌∷◌, ◌++◌, length, if◌then◌else◌, Option, Some, MatchOption, unwrap_or, Result, Ok, Err, MatchResult}
use Rattle.std.specs.Option.{option_map}
use Rattle.bstr.specs.declared.BStr.{BStr}
use Rattle.bstr.specs.BStr.{bstr_bytes}
use Rattle.pathspec_pattern.specs.declared.error.Error.{Error}
use Rattle.gix_pathspec.specs.declared.search.init.BuildError.{BuildError}
use Rattle.gix_pathspec.specs.declared.search.init.BuildError.TheVariants as told
use Rattle.gix_pathspec.specs.Bytes.{is_empty}
use Rattle.gix_pathspec.specs.Faults.{Fault}
use Rattle.gix_pathspec.specs.Errors.{fault_of}
use Rattle.gix_pathspec.specs.Results.{◌>>=◌}
use Rattle.gix_pathspec.specs.Specs.{Spec, must_be_dir}
use Rattle.gix_pathspec.specs.Reading.{literal_spec}
use Rattle.gix_pathspec.specs.NormalForm.{normal_form}
use Rattle.gix_pathspec.specs.Search.{Numbered, at_number, numbered_from, in_search_order}

-- the prefix; none is the empty one
abbrev pub prefix_bytes : Option BStr → List ℕ
prefix_bytes prefix = unwrap_or (option_map bstr_bytes prefix) []

-- the normal form of the spec with this number
abbrev pub numbered_normal_form : ℕ → List ℕ → List ℕ → Spec → Result Numbered (ℕ × Fault)
numbered_normal_form number prefix root s = at_number number (normal_form prefix root s) >>= λ normal. Ok (record { number = number; spec = normal })

-- The error tells a fault and the number of its spec, of which P holds, or that memory ran out.
abbrev pub TellsFault : BuildError → (ℕ × Fault → Type 0) → Type 0
TellsFault (told.Spec number error) P = (fault : Fault) × (fault_of error ≡ Some fault) × P (number, fault)
TellsFault told.Memory P = Unit {0}

-- The result, seen by `view`, is what is computed; an error tells the computed fault, or that memory ran out.
abbrev pub Builds : {A B : Type 0} → (A → B) → Result B (ℕ × Fault) → Result A BuildError → Type 0
Builds view computed result = MatchResult result (λ x. computed ≡ Ok (view x)) (λ e. TellsFault e (λ fault. computed ≡ Err fault))

-- The build error is the one for an error of the spec with a number.
abbrev pub IsErrorAt : ℕ → Error → BuildError → Type 0
IsErrorAt number error given = MatchOption (fault_of error) (given ≡ told.Memory) (λ fault. given ≡ told.Spec number error)

-- `ns` are the normal forms of some specs, numbered from 0
abbrev pub AreNumbered : List ℕ → List ℕ → List Numbered → Type 0
AreNumbered prefix root ns = (specs : List Spec) × (numbered_from 0 prefix root specs ≡ Ok ns)

-- the normal forms with that of one more spec, under the next number, or its fault
abbrev pub with_next : List ℕ → List ℕ → Spec → List Numbered → Result (List Numbered) (ℕ × Fault)
with_next prefix root s ns = numbered_normal_form (length ns) prefix root s >>= λ n. Ok (ns ++ n ∷ [])

-- The normal forms are the computed ones, or where there is a fault, it is the computed one.
abbrev pub AreMade : List Numbered → Option BuildError → Result (List Numbered) (ℕ × Fault) → Type 0
AreMade ns fault computed = MatchOption fault (computed ≡ Ok ns) (λ e. TellsFault e (λ f. computed ≡ Err f))

-- `new` and `next` are the computed ones with the normal form of one more spec, where `old` and `fault` are the computed ones.
abbrev pub AddsNext : List ℕ → List ℕ → Spec → List Numbered → Option BuildError → List Numbered → Option BuildError → Type 0
AddsNext prefix root s old fault new next = (before : Result (List Numbered) (ℕ × Fault)) → AreMade old fault before → AreMade new next (before >>= with_next prefix root s)

-- the normal forms, or where there is none that of the prefix, if it isn't empty
abbrev pub default_numbered_to_prefix : List ℕ → List ℕ → List Numbered → Result (List Numbered) (ℕ × Fault)
default_numbered_to_prefix prefix root ns = if is_empty ns && not (is_empty prefix) then with_next prefix root (literal_spec must_be_dir []) [] else Ok ns

-- the search of normal forms, or of the prefix where there is none
abbrev pub search_of_numbered : List ℕ → List ℕ → List Numbered → Result (List Numbered) (ℕ × Fault)
search_of_numbered prefix root ns = default_numbered_to_prefix prefix root ns >>= λ given. Ok (in_search_order given)
