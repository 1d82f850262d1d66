-- What a clause reads of an `Error`.
use Rattle.std.specs.Prelude.{◌≡◌, ℕ, Bool, true, false, List, codes, Option, Some, None, IfSome, MatchOption, IsTrue, Result, Ok, Err, MatchResult, IsErrAnd}
use Rattle.pathspec_pattern.specs.declared.error.Error.{Error}
use Rattle.pathspec_pattern.specs.declared.error.Error.TheVariants as told
use Rattle.pathspec_pattern.specs.Faults.{Fault}

-- the fault that an error tells, which is none where memory ran out
abbrev pub fault_of : Error → Option Fault
fault_of told.Empty = Some Fault.Empty
fault_of (told.UnimplementedShort b) = Some (Fault.UnimplementedShort b)
fault_of (told.MissingParen input) = Some (Fault.MissingParen input.items)
fault_of (told.InvalidKeyword piece) = Some (Fault.InvalidKeyword piece.items)
fault_of (told.LiteralWithGlob piece) = Some (Fault.LiteralWithGlob piece.items)
fault_of (told.SecondAttributes piece) = Some (Fault.SecondAttributes piece.items)
fault_of (told.InvalidPrefix piece) = Some (Fault.InvalidPrefix piece.items)
fault_of told.EmptyAttributes = Some Fault.EmptyAttributes
fault_of (told.InvalidName name) = Some (Fault.InvalidName name.items)
fault_of (told.InvalidValueByte b) = Some (Fault.InvalidValueByte b)
fault_of (told.TrailingEscape value) = Some (Fault.TrailingEscape value.items)
fault_of (told.OutsideRoot path) = Some (Fault.OutsideRoot path.items)
fault_of (told.LeavesRepository path) = Some (Fault.LeavesRepository path.items)
fault_of (told.NotTruth word) = Some (Fault.NotTruth word.items)
fault_of told.GlobAndNoGlob = Some Fault.GlobAndNoGlob
fault_of told.Memory = None

-- Memory ran out, or P holds of the fault that the error tells.
abbrev pub IsMemoryOr : Error → (Fault → Type 0) → Type 0
IsMemoryOr e P = IfSome (fault_of e) P

-- memory ran out
abbrev pub IsMemory : Error → Type 0
IsMemory e = IsMemoryOr e (λ fault. ⊥)

-- The call answers what is computed: its value, as the view shows it, or its fault; or memory ran out.
abbrev pub Computes : {A B : Type 0} → (A → B) → Result B Fault → Result A Error → Type 0
Computes view computed result = MatchResult result (λ x. computed ≡ Ok (view x)) (λ e. IsMemoryOr e (λ fault. computed ≡ Err fault))

-- the same, where the value is shown as it is
abbrev pub IsAnswer : {A : Type 0} → Result A Fault → Result A Error → Type 0
IsAnswer computed result = Computes (λ x. x) computed result

-- whether the fault carries a text, which takes memory to tell
abbrev pub carries_text : Fault → Bool
carries_text Fault.Empty = false
carries_text (Fault.UnimplementedShort byte) = false
carries_text (Fault.MissingParen input) = true
carries_text (Fault.InvalidKeyword piece) = true
carries_text (Fault.LiteralWithGlob piece) = true
carries_text (Fault.SecondAttributes piece) = true
carries_text (Fault.InvalidPrefix piece) = true
carries_text Fault.EmptyAttributes = false
carries_text (Fault.InvalidName name) = true
carries_text (Fault.InvalidValueByte byte) = false
carries_text (Fault.TrailingEscape value) = true
carries_text (Fault.OutsideRoot path) = true
carries_text (Fault.LeavesRepository path) = true
carries_text (Fault.NotTruth word) = true
carries_text Fault.GlobAndNoGlob = false

-- The error tells the fault; or memory ran out, where the fault carries a text.
abbrev pub Tells : Error → Fault → Type 0
Tells e fault = MatchOption (fault_of e) (IsTrue (carries_text fault)) (λ told_fault. told_fault ≡ fault)

-- The same, where only the texts of faults take memory: the value that is computed, or where there is none its fault, or that memory ran out for its text.
abbrev pub IsAnswerOrFault : {A : Type 0} → Result A Fault → Result A Error → Type 0
IsAnswerOrFault computed result = MatchResult result (λ x. computed ≡ Ok x) (λ e. IsErrAnd computed (Tells e))

-- the name of the variant
abbrev pub kind_of : Error → List ℕ
kind_of told.Empty = codes "Empty"
kind_of (told.UnimplementedShort b) = codes "UnimplementedShort"
kind_of (told.MissingParen input) = codes "MissingParen"
kind_of (told.InvalidKeyword piece) = codes "InvalidKeyword"
kind_of (told.LiteralWithGlob piece) = codes "LiteralWithGlob"
kind_of (told.SecondAttributes piece) = codes "SecondAttributes"
kind_of (told.InvalidPrefix piece) = codes "InvalidPrefix"
kind_of told.EmptyAttributes = codes "EmptyAttributes"
kind_of (told.InvalidName name) = codes "InvalidName"
kind_of (told.InvalidValueByte b) = codes "InvalidValueByte"
kind_of (told.TrailingEscape value) = codes "TrailingEscape"
kind_of (told.OutsideRoot path) = codes "OutsideRoot"
kind_of (told.LeavesRepository path) = codes "LeavesRepository"
kind_of (told.NotTruth word) = codes "NotTruth"
kind_of told.GlobAndNoGlob = codes "GlobAndNoGlob"
kind_of told.Memory = codes "Memory"
