-- Which variables a reading of the environment asks for, and what it is told.
use Rattle.std.specs.Prelude.{◌≡◌, ◌⊎◌, ℕ, Bool, List, [], ◌∷◌, Option, Some, None, Result, Ok, Err, String, string_bytes}
use Rattle.std.specs.Option.{option_map}
use Rattle.std.specs.Borrow.{Bor}
use Rattle.std.specs.Fn.{Mut, CalledAt}
use Rattle.std.specs.declared.alloc.Global.{Global}
use Rattle.std.specs.declared.env.VarError.{VarError}
use Rattle.std.specs.declared.env.VarError.TheVariants as var
use Rattle.gix_pathspec.specs.Faults.{Fault}
use Rattle.pathspec_pattern.specs.Environment.{Words, Variable, asked_variables}
use Rattle.pathspec_select.specs.declared.refusal.Refusal.{Refusal}
use Rattle.pathspec_select.specs.declared.refusal.Refusal.TheVariants as refusal

-- how a value that is asked for variables, each by its name, is called
abbrev pub VariableAsker : Type 0 → Type 1
VariableAsker F = Mut F (Bor (List ℕ) × Unit {0}) (Result (String Global) VarError)

-- The word that an answer tells, where the variable is set. A word that is not UTF-8 is a wrong use.
abbrev pub word_told : Result (String Global) VarError → Result (Option (List ℕ)) Refusal
word_told (Ok text) = Ok (Some (string_bytes text))
word_told (Err var.NotPresent) = Ok None
word_told (Err var.NotUnicode) = Err refusal.Usage
word_told (Err var.OutOfMemory) = Err refusal.Memory

-- a word that was read, as its bytes
abbrev pub word_read : Result (Option (String Global)) Refusal → Result (Option (List ℕ)) Refusal
word_read (Ok word) = Ok (option_map string_bytes word)
word_read (Err refused) = Err refused

-- what a word says is a fault
abbrev pub IsNoTruth : Result Bool Fault → Type 0
IsNoTruth said = (fault : Fault) × (said ≡ Err fault)

-- f was asked for the variable with this name, told this word or refusal, and is f' now
pub record HasTold {F : Type 0} (g : VariableAsker F) (f : F) (name : List ℕ) (word : Result (Option (List ℕ)) Refusal) (f' : F) : Type 0 where
  pub answer : Result (String Global) VarError
  pub called : CalledAt g f name answer f'
  pub tells : word_told answer ≡ word

-- f was asked for just these variables, each once and in this order, told their words, and is f' now
abbrev pub HasToldAll : {F : Type 0} → VariableAsker F → F → List Variable → F → Type 0
HasToldAll g f [] f' = f' ≡ f
HasToldAll {F} g f (variable ∷ others) f' = (between : F) × HasTold g f variable.0 (Ok variable.1) between × HasToldAll g between others f'

-- f was asked for the first of these variables, up to one that it refused, each once and in this order, told the words before, and is f' now
abbrev pub HasRefused : {F : Type 0} → VariableAsker F → F → List Variable → F → Refusal → Type 0
HasRefused g f [] f' refused = ⊥
HasRefused {F} g f (variable ∷ others) f' refused = HasTold g f variable.0 (Err refused) f' ⊎ ((between : F) × HasTold g f variable.0 (Ok variable.1) between × HasRefused g between others f' refused)

-- f was asked only for variables that count, and refused one of them
abbrev pub HasRefusedOne : {F : Type 0} → VariableAsker F → F → F → Refusal → Type 0
HasRefusedOne g f f' refused = (words : Words) × HasRefused g f (asked_variables words) f' refused
