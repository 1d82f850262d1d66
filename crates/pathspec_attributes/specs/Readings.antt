-- What a line of an attribute file says (gitattributes, "DESCRIPTION" and "DEFINING MACRO ATTRIBUTES").
use Rattle.std.specs.Prelude.{ℕ, Bool, ◌&&◌, ◌||◌, List, [], ◌∷◌, length, drop, map, codes, nat_lt, nat_le, ◌==◌, if◌then◌else◌, Option, Some, None}
use Rattle.std.specs.List.{list_any, before_first, after_first}
use Rattle.std.specs.Option.{option_map, option_map_or}
use Rattle.pathspec_glob.specs.Bytes.{bang, dash, equals_sign, is_empty, first_is, begins_with}
use Rattle.pathspec_parts.specs.Attributes.{State, Assignment, attribute_name_of}
use Rattle.pathspec_parts.specs.Attributes.State.{Set, Unset, Value, Unspecified}
use Rattle.pathspec_attributes.specs.declared.reasons.Reason.{Reason}
use Rattle.pathspec_attributes.specs.declared.reasons.Reason.TheVariants.{TooLong, InvalidName, MacroHere, Negative}
use Rattle.pathspec_attributes.specs.Lines.{is_blank, before_nul, behind_blanks, words}
use Rattle.pathspec_attributes.specs.Quoting.{Quoted, quote, unquoted}
use Rattle.pathspec_attributes.specs.Rules.{Rule, rule_of}

-- ---- assignments

-- the name that a text is for git, where it is one: the empty one is none
abbrev pub git_name_of : List ℕ → Option (List ℕ)
git_name_of text = if is_empty text then None else attribute_name_of text

-- a name with a state, where it is a name
abbrev pub named : List ℕ → State → Option Assignment
named name state = option_map (λ (n : List ℕ). record { name = n; state = state }) (git_name_of name)

-- what stands before the first `=`
abbrev pub before_equals : List ℕ → List ℕ
before_equals word = before_first (λ b. b == equals_sign) word

-- `name=value` gives it a value, and `name` sets it
abbrev pub plain_assignment : List ℕ → Option Assignment
plain_assignment word =
    if list_any (λ b. b == equals_sign) word then named (before_equals word) (Value (after_first (λ b. b == equals_sign) word))
    else named word Set

-- `-name` unsets it and `!name` leaves it unspecified, and each drops a value.
abbrev pub assignment_of : List ℕ → Option Assignment
assignment_of word =
    if first_is (λ b. b == dash) word then named (before_equals (drop 1 word)) Unset
    else if first_is (λ b. b == bang) word then named (before_equals (drop 1 word)) Unspecified
    else plain_assignment word

-- the values of a list, where it has no None
abbrev pub all_some : {X : Type 0} → List (Option X) → Option (List X)
all_some [] = Some []
all_some (None ∷ os) = None
all_some (Some x ∷ os) = option_map (λ xs. x ∷ xs) (all_some os)

-- the assignments that words write, or None where one has a bad name
abbrev pub assignments_of : List ℕ → Option (List Assignment)
assignments_of text = all_some (map assignment_of (words text))

-- ---- lines

-- What a line says: nothing, a rule, what a macro stands for, or something for which it is left out.
pub data Reading : Type 0 where
  Nothing : Reading
  Ruling : (rule : Rule) → Reading
  Defining : (name : List ℕ) (body : List Assignment) → Reading
  Refused : (reason : Reason) → Reading

-- a rule, unless its pattern begins with `!`
abbrev pub rule_reading : List ℕ → List Assignment → Reading
rule_reading pattern assignments = if first_is (λ b. b == bang) pattern then Refused Negative else Ruling (rule_of (before_nul pattern) assignments)

-- what assignments make, or the refusal of a bad name
abbrev pub with_assignments : Option (List Assignment) → (List Assignment → Reading) → Reading
with_assignments None make = Refused InvalidName
with_assignments (Some assignments) make = make assignments

-- what a pattern and the text behind it say, where it is no macro's
abbrev pub rule_item : List ℕ → List ℕ → Reading
rule_item pattern states = with_assignments (assignments_of states) (rule_reading pattern)

-- the name of a macro: it ends at a byte 0 or at a blank
abbrev pub macro_name : List ℕ → List ℕ
macro_name text = before_first is_blank (before_nul (behind_blanks text))

-- what the line of a macro says
abbrev pub macro_reading : List ℕ → List ℕ → Reading
macro_reading text states = option_map_or (λ (name : List ℕ). with_assignments (assignments_of states) (Defining name)) (git_name_of (macro_name text)) (Refused InvalidName)

-- a pattern that begins with `[attr]`, with something behind it, is a macro's
abbrev pub is_macro : List ℕ → Bool
is_macro pattern = begins_with pattern (codes "[attr]") && nat_lt 6 (length pattern)

-- what a pattern and the text behind it say
abbrev pub item_reading : Bool → List ℕ → List ℕ → Reading
item_reading may_define pattern states =
    if is_macro pattern then (if may_define then macro_reading (drop 6 pattern) states else Refused MacroHere)
    else rule_item pattern states

-- a pattern that isn't quoted ends at a blank
abbrev pub plain_reading : Bool → List ℕ → Reading
plain_reading may_define line = item_reading may_define (before_first is_blank line) (after_first is_blank line)

-- a quoted pattern, or one that stands as it is where the quote is bad
abbrev pub front_reading : Bool → List ℕ → Reading
front_reading may_define line =
    if first_is (λ b. b == quote) line then option_map_or (λ (quoted : Quoted). item_reading may_define quoted.text quoted.rest) (unquoted (drop 1 line)) (plain_reading may_define line)
    else plain_reading may_define line

-- nothing stands in the line, or a comment
abbrev pub is_comment : List ℕ → Bool
is_comment line = is_empty line || first_is (λ b. b == 35) line

-- git drops a line of so many bytes
abbrev pub longest : ℕ
longest = 2048

-- What a line says, in a file that may define macros or not.
abbrev pub reading : Bool → List ℕ → Reading
reading may_define line =
    if is_comment (behind_blanks line) then Nothing
    else if nat_le longest (length line) then Refused TooLong
    else front_reading may_define (behind_blanks line)
