-- The defaults that the environment asks for (git, "GIT_LITERAL_PATHSPECS" and the variables after it).
use Rattle.std.specs.Prelude.{◌≡◌, ℕ, Bool, true, false, List, [], ◌∷◌, codes, if◌then◌else◌, Option, Some, None, Result, Ok, Err}
use Rattle.std.specs.Option.{option_copied}
use Rattle.std.specs.Borrow.{Bor}
use Rattle.std.specs.Fn.{Mut, CalledAt}
use Rattle.pathspec_parts.specs.Truth.{truth_of}
use Rattle.pathspec_pattern.specs.declared.SearchMode.{SearchMode}
use Rattle.pathspec_pattern.specs.declared.SearchMode.TheVariants.{ShellGlob, Literal, PathAwareGlob}
use Rattle.pathspec_pattern.specs.declared.MagicSignature.{MagicSignature}
use Rattle.pathspec_pattern.specs.declared.defaults.Defaults.{Defaults}
use Rattle.pathspec_pattern.specs.declared.error.Error.{Error}
use Rattle.pathspec_pattern.specs.Results.{◌>>=◌}
use Rattle.pathspec_pattern.specs.Faults.{Fault}
use Rattle.pathspec_pattern.specs.Faults.Fault.{NotTruth, GlobAndNoGlob}
use Rattle.pathspec_pattern.specs.Errors.{IsAnswerOrFault}
use Rattle.pathspec_pattern.specs.Signatures.{no_bits}
use Rattle.pathspec_pattern.specs.Specs.{icase}

-- the words of the four variables, where they are set
pub record Words : Type 0 where
  pub literal : Option (List ℕ)
  pub icase : Option (List ℕ)
  pub glob : Option (List ℕ)
  pub noglob : Option (List ℕ)

-- ---- what the words ask for

-- the truth, or the word as a fault
abbrev pub truth_or_fault : List ℕ → Option Bool → Result Bool Fault
truth_or_fault word None = Err (NotTruth word)
truth_or_fault word (Some value) = Ok value

-- an absent word is false
abbrev pub flag_of : Option (List ℕ) → Result Bool Fault
flag_of None = Ok false
flag_of (Some word) = truth_or_fault word (truth_of word)

-- the mode that the two flags ask for
abbrev pub mode_of : Bool → Bool → Result SearchMode Fault
mode_of true true = Err GlobAndNoGlob
mode_of true false = Ok PathAwareGlob
mode_of false true = Ok Literal
mode_of false false = Ok ShellGlob

-- the mode that the last two words ask for
abbrev pub mode_of_words : Words → Result SearchMode Fault
mode_of_words words = flag_of words.glob >>= λ glob. flag_of words.noglob >>= λ noglob. mode_of glob noglob

-- the signature where case counts or not
abbrev pub case_signature : Bool → MagicSignature
case_signature ignore_case = if ignore_case then record { 0 = icase } else no_bits

-- the defaults where the first two words have been read
abbrev pub defaults_after : Bool → Bool → Words → Result Defaults Fault
defaults_after true ignore_case words = Ok (record { signature = case_signature ignore_case; search_mode = Literal; literal = true })
defaults_after false ignore_case words = mode_of_words words >>= λ mode. Ok (record { signature = case_signature ignore_case; search_mode = mode; literal = false })

-- The defaults that the words ask for, or the first fault. Where literal specs are asked for, the last two words do not count.
abbrev pub defaults_of : Words → Result Defaults Fault
defaults_of words = flag_of words.literal >>= λ literal. flag_of words.icase >>= λ ignore_case. defaults_after literal ignore_case words

-- ---- which variables are asked for

-- a variable's name, and its word where it is set
abbrev pub Variable : Type 0
Variable = List ℕ × Option (List ℕ)

-- what is asked for after a word, which is nothing where that is no word of truth
abbrev pub asked_after : Result Bool Fault → (Bool → List Variable) → List Variable
asked_after (Err fault) after = []
asked_after (Ok flag) after = after flag

-- the variables of globs that are asked for
abbrev pub asked_globs : Words → List Variable
asked_globs words = (codes "GIT_GLOB_PATHSPECS", words.glob) ∷ asked_after (flag_of words.glob) (λ _. (codes "GIT_NOGLOB_PATHSPECS", words.noglob) ∷ [])

-- The variables that are asked for, in this order, with their words. Where literal specs are asked for, those of globs are not.
abbrev pub asked_variables : Words → List Variable
asked_variables words =
    (codes "GIT_LITERAL_PATHSPECS", words.literal) ∷ asked_after (flag_of words.literal) (λ literal.
    (codes "GIT_ICASE_PATHSPECS", words.icase) ∷ asked_after (flag_of words.icase) (λ _. if literal then [] else asked_globs words))

-- how a value that is asked for variables, each by its name, is called
abbrev pub Asker : Type 0 → Type 1
Asker F = Mut F (Bor (List ℕ) × Unit {0}) (Option (Bor (List ℕ)))

-- f was asked for just these variables, each once and in this order, had their words as answers, and is f' now
abbrev pub Asks : {F : Type 0} → Asker F → F → List Variable → F → Type 0
Asks g f [] f' = f' ≡ f
Asks {F} g f (variable ∷ others) f' = (word : Option (Bor (List ℕ))) × (between : F) × CalledAt g f variable.0 word between × (option_copied word ≡ variable.1) × Asks g between others f'

-- There are words as which f answered what it was asked for, and the call answers what they say.
pub record HasAsked {F W A : Type 0} (g : Asker F) (variables : W → List Variable) (said : W → Result A Fault) (f : F) (result : Result A Error) (f' : F) : Type 0 where
  pub words : W
  pub asked : Asks g f (variables words) f'
  pub answer : IsAnswerOrFault (said words) result

-- f answers by a table, whenever it is called
abbrev pub AnswersBy : {F : Type 0} → Asker F → (List ℕ → Option (List ℕ)) → Type 0
AnswersBy {F} g table = (f f' : F) (name : List ℕ) (word : Option (Bor (List ℕ))) → CalledAt g f name word f' → option_copied word ≡ table name

-- the four words of a table
abbrev pub words_of : (List ℕ → Option (List ℕ)) → Words
words_of table = record {
  literal = table (codes "GIT_LITERAL_PATHSPECS");
  icase = table (codes "GIT_ICASE_PATHSPECS");
  glob = table (codes "GIT_GLOB_PATHSPECS");
  noglob = table (codes "GIT_NOGLOB_PATHSPECS");
}

-- A word that was not asked for does not count.
abbrev pub UnaskedDoNotCount : Type 0
UnaskedDoNotCount = (words others : Words) → asked_variables words ≡ asked_variables others → defaults_of words ≡ defaults_of others
