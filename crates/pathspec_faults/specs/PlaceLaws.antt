-- What the place of a fault holds.
use Rattle.std.specs.Prelude.{◌≡◌, ℕ, List, [], ◌∷◌, ◌++◌, length, Option, Some, None}
use Rattle.std.specs.declared.ops.Range.{Range}
use Rattle.pathspec_pattern.specs.declared.defaults.Defaults.{Defaults}
use Rattle.pathspec_pattern.specs.Faults.{Fault}
use Rattle.pathspec_pattern.specs.Faults.Fault.{Empty, UnimplementedShort, MissingParen, InvalidKeyword, LiteralWithGlob, SecondAttributes, InvalidPrefix, EmptyAttributes, InvalidName, InvalidValueByte, TrailingEscape, OutsideRoot, LeavesRepository, NotTruth, GlobAndNoGlob}
use Rattle.pathspec_pattern.specs.Specs.{Spec}
use Rattle.pathspec_pattern.specs.Reading.{Reads, IsRefused}
use Rattle.pathspec_faults.specs.Places.{bytes_from, place_of}

-- The text is cut in three, the range is the middle, and the middle is these bytes.
pub record HoldsBytes (text : List ℕ) (range : Range ℕ) (bytes : List ℕ) : Type 0 where
  pub before : List ℕ
  pub after : List ℕ
  pub text_is : text ≡ before ++ bytes ++ after
  pub range_is : range ≡ bytes_from (length before) (length bytes)

-- what a fault carries
abbrev pub carried : Fault → Option (List ℕ)
carried Empty = None
carried (UnimplementedShort byte) = Some (byte ∷ [])
carried (MissingParen input) = Some input
carried (InvalidKeyword piece) = Some piece
carried (LiteralWithGlob piece) = Some piece
carried (SecondAttributes piece) = Some piece
carried (InvalidPrefix piece) = Some piece
carried EmptyAttributes = None
carried (InvalidName name) = Some name
carried (InvalidValueByte byte) = Some (byte ∷ [])
carried (TrailingEscape value) = Some value
carried (OutsideRoot path) = Some path
carried (LeavesRepository path) = Some path
carried (NotTruth word) = Some word
carried GlobAndNoGlob = None

-- The place lies in the text, whatever the fault: it holds some of the text's bytes.
abbrev pub PlaceLiesInText : Type 0
PlaceLiesInText = (fault : Fault) (text : List ℕ) → (bytes : List ℕ) × HoldsBytes text (place_of fault text) bytes

-- Where a text is refused, the place holds what the fault carries.
abbrev pub PlaceHoldsCarried : Type 0
PlaceHoldsCarried = (d : Defaults) (text bytes : List ℕ) (fault : Fault) → IsRefused d text fault → carried fault ≡ Some bytes → HoldsBytes text (place_of fault text) bytes

-- Where a text says a spec that has no normal form, the place holds the spec's path.
abbrev pub PlaceHoldsPath : Type 0
PlaceHoldsPath = (d : Defaults) (text : List ℕ) (s : Spec) → Reads d text s → HoldsBytes text (place_of (OutsideRoot s.path) text) s.path × HoldsBytes text (place_of (LeavesRepository s.path) text) s.path

-- A word that is none of truth is held as a whole.
abbrev pub PlaceHoldsWord : Type 0
PlaceHoldsWord = (word : List ℕ) → HoldsBytes word (place_of (NotTruth word) word) word
