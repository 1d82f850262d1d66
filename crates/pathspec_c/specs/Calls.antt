-- What C's numbers and bytes say.
use Rattle.std.specs.Prelude.{◌≡◌, ◌⊎◌, ℕ, Bool, true, false, not, ◌==◌, bit_and, if◌then◌else◌, List, Some, Result, Err}
use Rattle.pathspec_pattern.specs.declared.defaults.Defaults.{Defaults}
use Rattle.pathspec_pattern.specs.declared.SearchMode.{SearchMode}
use Rattle.pathspec_pattern.specs.declared.SearchMode.TheVariants.{ShellGlob, Literal, PathAwareGlob}
use Rattle.pathspec_pattern.specs.Environment.{Words, case_signature}
use Rattle.gix_pathspec.specs.Faults.{Fault}
use Rattle.gix_pathspec.specs.declared.search.MatchKind.{MatchKind}
use Rattle.gix_pathspec.specs.declared.search.MatchKind.TheVariants.{Always, Prefix, WildcardMatch, Verbatim}
use Rattle.pathspec_parts.specs.Records.{records}

-- ---- what a call is given

-- texts, each ended by the byte 0, which the last may lack
abbrev pub texts_in : List ℕ → List (List ℕ)
texts_in bytes = records 0 bytes

-- whether a bit is set
abbrev pub has_bit : ℕ → ℕ → Bool
has_bit bits bit = not (bit_and bits bit == 0)

-- the mode that three bits ask for
abbrev pub mode_from : Bool → Bool → Bool → SearchMode
mode_from literal glob noglob = if literal then Literal else if glob then PathAwareGlob else if noglob then Literal else ShellGlob

-- the defaults of four settings
abbrev pub defaults_by : Bool → Bool → Bool → Bool → Defaults
defaults_by literal ignore_case glob noglob = record { signature = case_signature ignore_case; search_mode = mode_from literal glob noglob; literal = literal }

-- the defaults that bits ask for: 1 literal, 2 without case, 4 globs aware of paths, 8 no globs
abbrev pub defaults_from : ℕ → Defaults
defaults_from bits = defaults_by (has_bit bits 1) (has_bit bits 2) (has_bit bits 4) (has_bit bits 8)

-- the words of the four variables, of which an empty one stands for a variable that isn't set
abbrev pub words_from : List ℕ → List ℕ → List ℕ → List ℕ → Words
words_from literal icase glob noglob = record { literal = Some literal; icase = Some icase; glob = Some glob; noglob = Some noglob }

-- ---- what a call answers

-- 1 for yes and 0 for no
abbrev pub yes_no : Bool → ℕ
yes_no true = 1
yes_no false = 0

-- the number of a kind
abbrev pub kind_number : MatchKind → ℕ
kind_number Always = 1
kind_number Prefix = 2
kind_number WildcardMatch = 3
kind_number Verbatim = 4

-- the number of a fault
abbrev pub fault_number : Fault → ℕ
fault_number Fault.Empty = 1
fault_number (Fault.UnimplementedShort byte) = 2
fault_number (Fault.MissingParen input) = 3
fault_number (Fault.InvalidKeyword piece) = 4
fault_number (Fault.LiteralWithGlob piece) = 5
fault_number (Fault.SecondAttributes piece) = 6
fault_number (Fault.InvalidPrefix piece) = 7
fault_number Fault.EmptyAttributes = 8
fault_number (Fault.InvalidName name) = 9
fault_number (Fault.InvalidValueByte byte) = 10
fault_number (Fault.TrailingEscape value) = 11
fault_number (Fault.OutsideRoot path) = 12
fault_number (Fault.LeavesRepository path) = 13
fault_number (Fault.NotTruth word) = 14
fault_number Fault.GlobAndNoGlob = 15

-- there is a fault, and this is its number
abbrev pub HasKind : {A : Type 0} → ℕ → Result A Fault → Type 0
HasKind kind said = (fault : Fault) × (kind ≡ fault_number fault) × (said ≡ Err fault)

-- ---- which numbers a call can answer

-- a question: no or yes
abbrev pub IsYesOrNo : ℕ → Type 0
IsYesOrNo status = (status ≡ 0) ⊎ (status ≡ 1)

-- a call that makes a search: done, no memory, a prefix that isn't clean, or a fault
abbrev pub IsMakingStatus : ℕ → Type 0
IsMakingStatus status = (status ≡ 0) ⊎ (status ≡ 3) ⊎ (status ≡ 4) ⊎ (status ≡ 5)

-- a call that gives a path attributes: done, an empty handle, no memory, a fault, or attribute files beside it
abbrev pub IsAssigningStatus : ℕ → Type 0
IsAssigningStatus status = (status ≡ 0) ⊎ (status ≡ 2) ⊎ (status ≡ 3) ⊎ (status ≡ 5) ⊎ (status ≡ 6)

-- a call that adds an attribute file: done, an empty handle, no memory, no place, or rows beside it
abbrev pub IsAddingStatus : ℕ → Type 0
IsAddingStatus status = (status ≡ 0) ⊎ (status ≡ 2) ⊎ (status ≡ 3) ⊎ (status ≡ 4) ⊎ (status ≡ 6)

-- a call that tells the message of a spec's fault: nothing at fault, a message, no memory, or a prefix that isn't clean
abbrev pub IsMessageStatus : ℕ → Type 0
IsMessageStatus status = (status ≡ 0) ⊎ (status ≡ 1) ⊎ (status ≡ 3) ⊎ (status ≡ 4)
