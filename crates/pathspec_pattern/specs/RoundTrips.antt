-- Which specs their long texts say.
use Rattle.std.specs.Prelude.{◌≡◌, ℕ, ◌<◌, Bool, true, false, not, ◌&&◌, ◌⊎◌, ◌↔◌, if◌then◌else◌, List, Ok, IsTrue, IsFalse}
use Rattle.std.specs.List.{list_all}
use Rattle.pathspec_pattern.specs.declared.defaults.Defaults.{Defaults}
use Rattle.pathspec_parts.specs.Bytes.{is_empty}
use Rattle.pathspec_parts.specs.Paths.{ends_with_slash}
use Rattle.pathspec_parts.specs.Attributes.{State, Assignment, is_attribute_name}
use Rattle.pathspec_parts.specs.Attributes.State.{Set, Value}
use Rattle.pathspec_pattern.specs.AttributeLists.{is_value_byte}
use Rattle.pathspec_pattern.specs.Signatures.{signature_bits}
use Rattle.pathspec_pattern.specs.Specs.{Spec, wants_directory, has_boundary}
use Rattle.pathspec_pattern.specs.Reading.{reading, nil_spec, no_defaults}
use Rattle.pathspec_pattern.specs.LongText.{long_text}
use Rattle.pathspec_pattern.specs.NormalForm.{normal_form}

-- a state that a list can hold
abbrev pub is_expressible_state : State → Bool
is_expressible_state (Value v) = list_all is_value_byte v
is_expressible_state _ = true

-- a name that stands alone
abbrev pub is_set : State → Bool
is_set Set = true
is_set _ = false

-- an assignment that a list can say: the names of states other than set may be empty
abbrev pub is_expressible_assignment : Assignment → Bool
is_expressible_assignment a = is_attribute_name a.name && is_expressible_state a.state && not (is_set a.state && is_empty a.name)

-- the same of an assignment whose name is known to be one
abbrev pub has_expressible_state : Assignment → Bool
has_expressible_state a = is_expressible_state a.state && not (is_set a.state && is_empty a.name)

-- The parts of a spec that a text can say, where the test tells which assignments a list can say: only known bits, no last slash in the path unless a directory is wanted, and where it is nil, nothing else.
pub record IsExpressibleBy (can_say : Assignment → Bool) (s : Spec) : Type 0 where
  pub bits : s.signature < 16
  pub assignments : IsTrue (list_all can_say s.attributes)
  pub path : IsTrue (wants_directory s) ⊎ IsFalse (ends_with_slash s.path)
  pub nil : IsTrue s.nil → s ≡ nil_spec

-- A spec that a text can say: its prefix length is a boundary of its path, as that of each pattern is.
pub record IsExpressible (s : Spec) : Type 0 where
  pub parts : IsExpressibleBy is_expressible_assignment s
  pub prefix : IsTrue (has_boundary s)

-- The spec of a pattern that a text can say: a pattern's attributes have valid names.
abbrev pub IsExpressiblePattern : Spec → Type 0
IsExpressiblePattern = IsExpressibleBy has_expressible_state

-- The long text of an expressible spec reads as the spec.
abbrev pub RoundTrip : Type 0
RoundTrip = (s : Spec) → IsExpressible s → reading no_defaults (long_text s) ≡ Ok s

-- Two expressible specs are equal exactly where their long texts are.
abbrev pub LongTextIsInjective : Type 0
LongTextIsInjective = (s t : Spec) → IsExpressible s → IsExpressible t → (s ≡ t) ↔ (long_text s ≡ long_text t)

-- Just the expressible specs come back from their long text.
abbrev pub RoundTripIsExact : Type 0
RoundTripIsExact = (s : Spec) → (reading no_defaults (long_text s) ≡ Ok s) ↔ IsExpressible s

-- What a text says is expressible, under any defaults of known bits that do not ask for literal specs.
abbrev pub ParsedIsExpressible : Type 0
ParsedIsExpressible = (d : Defaults) (text : List ℕ) (s : Spec) → IsFalse d.literal → signature_bits d.signature < 16 → reading d text ≡ Ok s → IsExpressible s

-- So what a text says comes back from its long text.
abbrev pub ParsedRoundTrips : Type 0
ParsedRoundTrips = (d : Defaults) (text : List ℕ) (s : Spec) → IsFalse d.literal → signature_bits d.signature < 16 → reading d text ≡ Ok s → reading no_defaults (long_text s) ≡ Ok s

-- A normal form is expressible unless it is nil, where a text can say the magic of its spec.
abbrev pub NormalFormIsExpressible : Type 0
NormalFormIsExpressible =
    (prefix root : List ℕ) (s n : Spec) → s.signature < 16 → IsTrue (list_all is_expressible_assignment s.attributes) → IsTrue (has_boundary s)
    → normal_form prefix root s ≡ Ok n → IsFalse n.nil → IsExpressible n

-- So the normal form of what a text says comes back from its long text, whatever prefix and root it has; where it is nil, its text is `:` and says the nil spec.
abbrev pub NormalFormRoundTrips : Type 0
NormalFormRoundTrips =
    (d : Defaults) (text prefix root : List ℕ) (s n : Spec) → signature_bits d.signature < 16 → reading d text ≡ Ok s
    → normal_form prefix root s ≡ Ok n → reading no_defaults (long_text n) ≡ Ok (if n.nil then nil_spec else n)
