-- Without a piece `prefix:` a text has no prefix directory, and is not refused for one.
use Rattle.std.proofs.Common.{◌≡◌, ℕ, Bool, true, false, cond, refl, sym, ◌∙◌, ap, subst, List, [], ◌∷◌, drop, map, ◌==◌, Some, None, unwrap_or, Result, Ok, Err}
use Rattle.std.proofs.lemmas.Bool.{both_ways, or_parts}
use Rattle.std.specs.Prelude.{bytes_eq, codes}
use Rattle.std.specs.List.{list_any, before_first, after_first}
use Rattle.pathspec_pattern.specs.declared.SearchMode.TheVariants.{Literal, PathAwareGlob}
use Rattle.pathspec_pattern.specs.declared.defaults.Defaults.{Defaults}
use Rattle.pathspec_parts.specs.Bytes.{bang, dash, equals_sign, first_is, is_empty, begins_with}
use Rattle.pathspec_parts.specs.Attributes.{State, Assignment, is_attribute_name}
use Rattle.pathspec_parts.specs.Attributes.State.{Set, Unset, Value, Unspecified}
use Rattle.pathspec_pattern.specs.Results.{all_ok, ◌>>=◌}
use Rattle.pathspec_pattern.specs.Faults.{Fault}
use Rattle.pathspec_pattern.specs.Faults.Fault.{InvalidPrefix, InvalidName, InvalidValueByte, LiteralWithGlob, SecondAttributes, EmptyAttributes}
use Rattle.pathspec_pattern.specs.Specs.{Spec, top, icase, exclude}
use Rattle.pathspec_pattern.specs.AttributeLists.{WrittenByte, name_of, is_value_byte, byte_of_written, value_of, written_bytes, assignment_with_state, assignment_with_value, assignment_of, assignments_of, parts}
use Rattle.pathspec_pattern.specs.AttributeLists.WrittenByte.{Plain, Escaped, LoneBackslash}
use Rattle.pathspec_pattern.specs.Reading.{Keyword, keyword_of, Magic, with_piece, with_pieces, same_mode, long_pieces, short_bits, Cut, magic_of, spec_of, body_spec, no_magic, Reads, IsRefused, is_prefix_piece, AsksNoPrefix, PrefixIsAsked}
use Rattle.pathspec_pattern.specs.Reading.Keyword.{Flag, Mode, Ignored, Attributes, PrefixLength, Unknown}
use Rattle.pathspec_pattern.specs.Reading.Reads.{verbatim, nothing, plain, magic}
use Rattle.pathspec_pattern.specs.Reading.IsRefused.{empty, short, paren, piece as piece_fault, boundary}
use Rattle.pathspec_pattern.proofs.ReadingProofs.{reading_is_exact}

-- ---- results that do not tell of a prefix length

-- the fault is that of a prefix length
abbrev is_prefix_fault : Fault → Bool
is_prefix_fault (InvalidPrefix text) = true
is_prefix_fault _ = false

-- the result is such a fault
abbrev tells_prefix : {A : Type 0} → Result A Fault → Bool
tells_prefix (Ok x) = false
tells_prefix (Err fault) = is_prefix_fault fault

bind_tells : {A B : Type 0} (r : Result A Fault) (f : A → Result B Fault) → tells_prefix r ≡ false → ((x : A) → tells_prefix (f x) ≡ false) → tells_prefix (r >>= f) ≡ false
bind_tells (Ok x) f h k = k x
bind_tells (Err fault) f h k = h

cond_tells : {A : Type 0} (b : Bool) (x y : Result A Fault) → tells_prefix x ≡ false → tells_prefix y ≡ false → tells_prefix (cond b x y) ≡ false
cond_tells true x y h k = h
cond_tells false x y h k = k

more_tell : {A : Type 0} (r : Result A Fault) (rs : List (Result A Fault)) → tells_prefix r ≡ false → tells_prefix (all_ok rs) ≡ false → tells_prefix (all_ok (r ∷ rs)) ≡ false
more_tell (Ok y) rs h k = bind_tells (all_ok rs) (λ ys. Ok (y ∷ ys)) k (λ ys. refl)
more_tell (Err fault) rs h k = h

all_tell : {X A : Type 0} (f : X → Result A Fault) (xs : List X) → ((x : X) → tells_prefix (f x) ≡ false) → tells_prefix (all_ok (map f xs)) ≡ false
all_tell f [] h = refl
all_tell f (x ∷ xs) h = more_tell (f x) (map f xs) (h x) (all_tell f xs h)

-- ---- lists of attributes

unit_tells : (written : List ℕ) (unit : WrittenByte) → tells_prefix (byte_of_written written unit) ≡ false
unit_tells written (Plain b) = cond_tells (is_value_byte b) (Ok b) (Err (InvalidValueByte b)) refl refl
unit_tells written (Escaped b) = cond_tells (is_value_byte b) (Ok b) (Err (InvalidValueByte b)) refl refl
unit_tells written LoneBackslash = refl

state_tells : (state : State) (name : List ℕ) → tells_prefix (assignment_with_state state name) ≡ false
state_tells state name = bind_tells (name_of name) (λ n. Ok (record { name = n; state = state })) (cond_tells (is_attribute_name name) (Ok name) (Err (InvalidName name)) refl refl) (λ n. refl)

value_tells : (name written : List ℕ) → tells_prefix (assignment_with_value name written) ≡ false
value_tells name written = bind_tells (value_of written) (λ v. assignment_with_state (Value v) name) (all_tell (byte_of_written written) (written_bytes false written) (unit_tells written)) (λ v. state_tells (Value v) name)

assignment_tells : (part : List ℕ) → tells_prefix (assignment_of part) ≡ false
unfolding assignment_of
assignment_tells part =
    let front = before_first (λ b. b == equals_sign) part in
    let rest = after_first (λ b. b == equals_sign) part in
    let valued = cond (list_any (λ b. b == equals_sign) part) (assignment_with_value front rest) (assignment_with_state Set part) in
    let unset = cond (first_is (λ b. b == dash) part) (assignment_with_state Unset (drop 1 part)) valued in
    cond_tells (first_is (λ b. b == bang) part) (assignment_with_state Unspecified (drop 1 part)) unset (state_tells Unspecified (drop 1 part))
    (cond_tells (first_is (λ b. b == dash) part) (assignment_with_state Unset (drop 1 part)) valued (state_tells Unset (drop 1 part))
    (cond_tells (list_any (λ b. b == equals_sign) part) (assignment_with_value front rest) (assignment_with_state Set part) (value_tells front rest) (state_tells Set part)))

list_tells : (list : List ℕ) → tells_prefix (assignments_of list) ≡ false
unfolding assignments_of
list_tells list = cond_tells (is_empty list) (Err EmptyAttributes) (all_ok (map assignment_of (parts list))) refl (all_tell assignment_of (parts list) assignment_tells)

-- ---- pieces

-- the keyword asks for a prefix length
abbrev asks_prefix : Keyword → Bool
asks_prefix (PrefixLength digits) = true
asks_prefix _ = false

-- what holds of each keyword that a piece may be holds of the one that it is
pub keyword_by : (P : Keyword → Type 0) (piece : List ℕ) → P (Flag top) → P (Flag icase) → P (Flag exclude) → P (Mode Literal) → P (Mode PathAwareGlob) → P Ignored → P (Attributes (drop 5 piece))
    → P (cond (begins_with piece (codes "prefix:")) (PrefixLength (drop 7 piece)) Unknown) → P (keyword_of piece)
keyword_by P piece top_holds icase_holds exclude_holds literal_holds glob_holds ignored_holds attributes_hold last =
    by (bytes_eq piece (codes "top")) (Flag top) _ top_holds
    (by (bytes_eq piece (codes "icase")) (Flag icase) _ icase_holds
    (by (bytes_eq piece (codes "exclude")) (Flag exclude) _ exclude_holds
    (by (bytes_eq piece (codes "literal")) (Mode Literal) _ literal_holds
    (by (bytes_eq piece (codes "glob")) (Mode PathAwareGlob) _ glob_holds
    (by (bytes_eq piece (codes "attr")) Ignored _ ignored_holds
    (by (begins_with piece (codes "attr:")) (Attributes (drop 5 piece)) _ attributes_hold last))))))
  where
    by : (b : Bool) (x y : Keyword) → P x → P y → P (cond b x y)
    by true x y h k = h
    by false x y h k = k

-- only a piece that begins with `prefix:` does
keyword_asks : (piece : List ℕ) → is_prefix_piece piece ≡ false → asks_prefix (keyword_of piece) ≡ false
keyword_asks piece none_asks = keyword_by (λ k. asks_prefix k ≡ false) piece refl refl refl refl refl refl refl (rw none_asks refl)

-- what other pieces leave of magic asks for the same prefix length, and their faults are others
abbrev LeavesPrefix : Magic → Result Magic Fault → Type 0
LeavesPrefix m (Ok n) = n.prefix ≡ m.prefix
LeavesPrefix m (Err fault) = is_prefix_fault fault ≡ false

cond_leaves : (m : Magic) (b : Bool) (x y : Result Magic Fault) → LeavesPrefix m x → LeavesPrefix m y → LeavesPrefix m (cond b x y)
cond_leaves m true x y h k = h
cond_leaves m false x y h k = k

list_leaves : (m : Magic) (r : Result (List Assignment) Fault) → tells_prefix r ≡ false → LeavesPrefix m (r >>= λ assignments. Ok (record m { attributes = assignments }))
list_leaves m (Ok assignments) h = refl
list_leaves m (Err fault) h = h

piece_leaves : (m : Magic) (text : List ℕ) (k : Keyword) → asks_prefix k ≡ false → LeavesPrefix m (with_piece m text k)
piece_leaves m text (Flag flag) h = refl
piece_leaves m text (Mode mode) h = cond_leaves m (same_mode (unwrap_or m.mode mode) mode) (Ok (record m { mode = Some mode })) (Err (LiteralWithGlob text)) refl refl
piece_leaves m text Ignored h = refl
piece_leaves m text (Attributes list) h =
    cond_leaves m (is_empty m.attributes) (assignments_of list >>= λ assignments. Ok (record m { attributes = assignments })) (Err (SecondAttributes text))
    (list_leaves m (assignments_of list) (list_tells list)) refl
piece_leaves m text (PrefixLength digits) h = cc
piece_leaves m text Unknown h = refl

-- the same of one piece and of those after it
then_leaves : (m : Magic) (r : Result Magic Fault) (f : Magic → Result Magic Fault) → LeavesPrefix m r → ((n : Magic) → LeavesPrefix n (f n)) → LeavesPrefix m (r >>= f)
then_leaves m (Ok n) f h k = onto (f n) (k n)
  where
    onto : (r : Result Magic Fault) → LeavesPrefix n r → LeavesPrefix m r
    onto (Ok o) e = e ∙ h
    onto (Err fault) e = e
then_leaves m (Err fault) f h k = h

pieces_leave : (m : Magic) (pieces : List (List ℕ)) → list_any is_prefix_piece pieces ≡ false → LeavesPrefix m (with_pieces m pieces)
pieces_leave m [] h = refl
pieces_leave m (text ∷ pieces) h =
    let p = or_parts (is_prefix_piece text) (list_any is_prefix_piece pieces) h in
    then_leaves m (with_piece m text (keyword_of text)) (λ next. with_pieces next pieces) (piece_leaves m text (keyword_of text) (keyword_asks text p.0)) (λ n. pieces_leave n pieces p.1)

-- so the magic of a cut asks for none
magic_leaves : (cut : Cut) → list_any is_prefix_piece (long_pieces (unwrap_or cut.long [])) ≡ false → LeavesPrefix no_magic (magic_of cut)
unfolding magic_of
magic_leaves cut h = at (with_pieces start (long_pieces (unwrap_or cut.long []))) (pieces_leave start (long_pieces (unwrap_or cut.long [])) h)
  where
    start : Magic
    start = record { signature = short_bits cut.short; mode = None; attributes = []; prefix = None }

    at : (r : Result Magic Fault) → LeavesPrefix start r → LeavesPrefix no_magic r
    at (Ok n) e = e
    at (Err fault) e = e

leaves_none : (r : Result Magic Fault) (said : Magic) → LeavesPrefix no_magic r → r ≡ Ok said → said.prefix ≡ None
leaves_none r said h e = let k : LeavesPrefix no_magic (Ok said) = subst (LeavesPrefix no_magic) e h in k

leaves_other : (r : Result Magic Fault) (fault : Fault) → LeavesPrefix no_magic r → r ≡ Err fault → is_prefix_fault fault ≡ false
leaves_other r fault h e = let k : LeavesPrefix no_magic (Err fault) = subst (LeavesPrefix no_magic) e h in k

-- ---- texts

-- magic that asks for none says a spec without a prefix directory
said_none : (d : Defaults) (said : Magic) (body : List ℕ) (s : Spec) → said.prefix ≡ None → spec_of d said body ≡ Ok s → s.prefix_length ≡ 0
unfolding spec_of
said_none d said body s p h = let k = rw p at h in let same : body_spec d said body 0 ≡ s = cc in sym (ap (λ t. t.prefix_length) same)

read_none : (d : Defaults) (text : List ℕ) (s : Spec) → AsksNoPrefix text → Reads d text s → s.prefix_length ≡ 0
read_none d text s none_asks (verbatim l n e) = ap (λ t. t.prefix_length) e
read_none d text s none_asks (nothing l t e) = ap (λ t. t.prefix_length) e
read_none d text s none_asks (plain l n f e) = said_none d no_magic text s refl e
read_none d text s none_asks (magic l n cut c t said g e) = said_none d said cut.body s (leaves_none (magic_of cut) said (magic_leaves cut (none_asks cut c t)) g) e

-- the test of a fault that is known
other : (fault : Fault) (text : List ℕ) → is_prefix_fault fault ≡ false → fault ≡ InvalidPrefix text → ⊥
other fault text h e = both_ways (is_prefix_fault fault) h (ap is_prefix_fault e)

refused_other : (d : Defaults) (text : List ℕ) (fault : Fault) → AsksNoPrefix text → IsRefused d text fault → is_prefix_fault fault ≡ false
refused_other d text fault none_asks (empty t e) = ap is_prefix_fault e
refused_other d text fault none_asks (short l front b rest t a u e) = ap is_prefix_fault e
refused_other d text fault none_asks (paren l front ended rest t a n e) = ap is_prefix_fault e
refused_other d text fault none_asks (piece_fault l cut c t e) = leaves_other (magic_of cut) fault (magic_leaves cut (none_asks cut c t)) e
refused_other d text fault none_asks (boundary l cut c t said g word p h e) =
    let none = leaves_none (magic_of cut) said (magic_leaves cut (none_asks cut c t)) g in
    let clash : None ≡ Some word = sym none ∙ p in cc

-- A text without a piece `prefix:` has no prefix directory, and is not refused for one.
pub prefix_is_asked : PrefixIsAsked
prefix_is_asked d text none_asks = (
  λ s h. read_none d text s none_asks (((reading_is_exact d text).0 s).1 h),
  λ word h. other (InvalidPrefix word) word (refused_other d text (InvalidPrefix word) none_asks (((reading_is_exact d text).1 (InvalidPrefix word)).1 h)) refl,
)
