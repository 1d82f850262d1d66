-- Rows on lines: what each says, as git reads it.
use Rattle.std.proofs.Common.{◌≡◌, ℕ, Bool, true, false, refl, List, [], ◌∷◌, ◌++◌, map, replicate}
use Rattle.std.specs.Prelude.{codes}
use Rattle.pathspec_glob.specs.declared.Mode.{Mode}
use Rattle.pathspec_glob.specs.declared.Mode.TheVariants.{Shell, PathAware}
use Rattle.pathspec_parts.specs.Attributes.{State, Assignment}
use Rattle.pathspec_parts.specs.Attributes.State.{Set, Unset, Value, Unspecified}
use Rattle.pathspec_attributes.specs.declared.reasons.Reason.TheVariants.{TooLong, InvalidName, MacroHere, Negative}
use Rattle.pathspec_attributes.specs.Lines.{lines_of}
use Rattle.pathspec_attributes.specs.Readings.{Reading, reading}
use Rattle.pathspec_attributes.specs.Readings.Reading.{Nothing, Ruling, Defining, Refused}

-- a name with a state
abbrev is : List ℕ → State → Assignment
is name state = record { name = name; state = state }

-- the name `x` set, alone
abbrev x : List Assignment
x = is (codes "x") Set ∷ []

-- a rule of this mode
abbrev rule : Mode → List ℕ → Bool → List Assignment → Reading
rule mode pattern only_directories assignments = Ruling (record { glob = record { mode = mode; pattern = pattern }; only_directories = only_directories; assignments = assignments })

-- a rule by the last name
abbrev by_name : List ℕ → List Assignment → Reading
by_name pattern assignments = rule Shell pattern false assignments

-- a rule by the path
abbrev by_path : List ℕ → List Assignment → Reading
by_path pattern assignments = rule PathAware pattern false assignments

-- ---- the lines of a text

-- a byte order mark, carriage returns, a byte 0 and no last line feed
text_has_lines : lines_of ((239 ∷ 187 ∷ 191 ∷ []) ++ codes "a" ++ (13 ∷ 10 ∷ []) ++ codes "b" ++ (0 ∷ []) ++ codes "c" ++ (10 ∷ 10 ∷ []) ++ codes "d" ++ (13 ∷ []))
    ≡ codes "a" ∷ codes "b" ∷ [] ∷ (codes "d" ++ 13 ∷ []) ∷ []
text_has_lines = refl

-- one carriage return before a line feed goes
one_return_goes : lines_of (codes "a" ++ 13 ∷ 13 ∷ 10 ∷ []) ≡ (codes "a" ++ 13 ∷ []) ∷ []
one_return_goes = refl

-- a mark counts only in front of the text
only_first_mark_goes : lines_of (10 ∷ 239 ∷ 187 ∷ 191 ∷ []) ≡ [] ∷ (239 ∷ 187 ∷ 191 ∷ []) ∷ []
only_first_mark_goes = refl

no_line : lines_of [] ≡ []
no_line = refl

-- ---- lines that any file may have

-- patterns and comments
abbrev patterns : List (List ℕ × Reading)
patterns =
    (codes "*.c x", by_name (codes "*.c") x)
    ∷ (codes "/*.c x", by_path (codes "*.c") x)
    ∷ (codes "sub/*.c x", by_path (codes "sub/*.c") x)
    ∷ (codes "sub/ x", rule Shell (codes "sub") true x)
    ∷ (codes "/sub/ x", rule PathAware (codes "sub") true x)
    ∷ (codes "sub/** x", by_path (codes "sub/**") x)
    ∷ (codes "/ x", rule Shell [] true x)
    ∷ (codes "// x", rule PathAware [] true x)
    ∷ (codes "!a x", Refused Negative)
    ∷ (codes "\\!a x", by_name (codes "\\!a") x)
    ∷ (codes "# a x", Nothing)
    ∷ (codes "  # a x", Nothing)
    ∷ (codes "\\#a x", by_name (codes "\\#a") x)
    ∷ (codes "*.c x #b", Refused InvalidName)
    ∷ (codes "   ", Nothing)
    ∷ ([], Nothing)
    ∷ (codes "  *.c   x  ", by_name (codes "*.c") x)
    ∷ (codes "*.c" ++ 9 ∷ codes "x" ++ 13 ∷ [], by_name (codes "*.c") x)
    ∷ (codes "*.c x" ++ 12 ∷ [], Refused InvalidName)
    ∷ (12 ∷ codes "*.c x", by_name (12 ∷ codes "*.c") x)
    ∷ (codes "a\\ b x", by_name (codes "a\\") (is (codes "b") Set ∷ x))
    ∷ (codes "*.c", by_name (codes "*.c") [])
    ∷ (codes "[attr] x", by_name (codes "[attr]") x)
    ∷ []

patterns_are_read : map (λ r. reading false r.0) patterns ≡ map (λ r. r.1) patterns
patterns_are_read = refl

-- patterns in quotes
abbrev quoted : List (List ℕ × Reading)
quoted =
    (codes "\"a\\tb\" x", by_name (codes "a" ++ 9 ∷ codes "b") x)
    ∷ (codes "\"a\"x", by_name (codes "a") x)
    ∷ (codes "\"a b\" x", by_name (codes "a b") x)
    ∷ (codes "\"a b x", by_name (codes "\"a") (is (codes "b") Set ∷ x))
    ∷ (codes "\"a\\\"b\" x", by_name (codes "a\"b") x)
    ∷ (codes "\"a\\303\\244\" x", by_name (codes "a" ++ 195 ∷ 164 ∷ []) x)
    ∷ (codes "\"a\\400\" x", by_name (codes "\"a\\400\"") x)
    ∷ (codes "\"a\\12\" x", by_name (codes "\"a\\12\"") x)
    ∷ (codes "\"a\\q\" x", by_name (codes "\"a\\q\"") x)
    ∷ (codes "\"\\a\\b\\f\\n\\r\\v\\\\\" x", by_name (7 ∷ 8 ∷ 12 ∷ 10 ∷ 13 ∷ 11 ∷ codes "\\") x)
    ∷ (codes "\"a\\000b\" x", by_name (codes "a") x)
    ∷ (codes "\"\" x", by_name [] x)
    ∷ (codes "\"!a\" x", Refused Negative)
    ∷ (codes "\"a\"x\"y\" z", Refused InvalidName)
    ∷ []

quotes_are_read : map (λ r. reading false r.0) quoted ≡ map (λ r. r.1) quoted
quotes_are_read = refl

-- states, with the last `=` in the value, and names that are none
abbrev states : List (List ℕ × Reading)
states =
    (codes "f a -b !c d=v e=", by_name (codes "f") (is (codes "a") Set ∷ is (codes "b") Unset ∷ is (codes "c") Unspecified ∷ is (codes "d") (Value (codes "v")) ∷ is (codes "e") (Value []) ∷ []))
    ∷ (codes "f a=b=c", by_name (codes "f") (is (codes "a") (Value (codes "b=c")) ∷ []))
    ∷ (codes "f -a=b !c=d", by_name (codes "f") (is (codes "a") Unset ∷ is (codes "c") Unspecified ∷ []))
    ∷ (codes "f a -a a=x", by_name (codes "f") (is (codes "a") Set ∷ is (codes "a") Unset ∷ is (codes "a") (Value (codes "x")) ∷ []))
    ∷ (codes "f a@b x", Refused InvalidName)
    ∷ (codes "f =v x", Refused InvalidName)
    ∷ (codes "f - x", Refused InvalidName)
    ∷ (codes "f ! x", Refused InvalidName)
    ∷ (codes "f -- x", Refused InvalidName)
    ∷ (codes "f -=v x", Refused InvalidName)
    ∷ (codes "f !-b", Refused InvalidName)
    ∷ (codes "f -!b", Refused InvalidName)
    ∷ (codes "f \"a\"", Refused InvalidName)
    ∷ (codes "!f a@b", Refused InvalidName)
    ∷ []

states_are_read : map (λ r. reading false r.0) states ≡ map (λ r. r.1) states
states_are_read = refl

-- ---- macros

abbrev macros : List (List ℕ × Reading)
macros =
    (codes "[attr]m x", Defining (codes "m") x)
    ∷ (codes "[attr]m", Defining (codes "m") [])
    ∷ (codes "\"[attr]m b\" x", Defining (codes "m") x)
    ∷ (codes "\"[attr]  m\" x", Defining (codes "m") x)
    ∷ (codes "\"[attr]m\\000b\" x", Defining (codes "m") x)
    ∷ (codes "\"[attr]\\000\" x", Refused InvalidName)
    ∷ (codes "[attr]-m x", Refused InvalidName)
    ∷ (codes "[attr]m=1 x", Refused InvalidName)
    ∷ (codes "[attr]m a@b", Refused InvalidName)
    ∷ (codes "[attr] m", by_name (codes "[attr]") (is (codes "m") Set ∷ []))
    ∷ []

macros_are_read : map (λ r. reading true r.0) macros ≡ map (λ r. r.1) macros
macros_are_read = refl

-- below the top a macro is refused, whatever stands behind it
macro_below : reading false (codes "[attr]m a@b") ≡ Refused MacroHere
macro_below = refl

-- ---- long lines

-- a comment may be long
long_comment : reading false (codes "#" ++ replicate 2100 35) ≡ Nothing
long_comment = refl

-- from 2,048 bytes on a line is left out
too_long : reading false (codes "* x" ++ replicate 2045 32) ≡ Refused TooLong
too_long = refl

just_fits : reading false (codes "* x" ++ replicate 2044 32) ≡ by_name (codes "*") x
just_fits = refl

-- the byte order mark, a carriage return before the line feed and what is behind a byte 0 don't count
uncounted : map (reading false) (lines_of ((239 ∷ 187 ∷ 191 ∷ []) ++ (codes "* x" ++ (replicate 2044 32 ++ (13 ∷ 10 ∷ (codes "* x" ++ (replicate 2044 32 ++ (0 ∷ codes "zzz")))))))) ≡ by_name (codes "*") x ∷ by_name (codes "*") x ∷ []
uncounted = refl
