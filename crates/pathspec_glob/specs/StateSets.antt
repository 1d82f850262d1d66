-- Sets of states of a glob: a state is before a token that has just been entered, or within one that has taken bytes and may take more.
use Rattle.std.specs.Prelude.{◌≡◌, ◌<◌, ◌≤◌, nat_lt, ℕ, zero, suc, ◌+◌, ◌-◌, ◌*◌, ◌^◌, Bool, true, false, not, ◌&&◌, ◌||◌, List, [], ◌∷◌, ◌++◌, drop, ◌==◌, length}
use Rattle.pathspec_glob.specs.declared.Mode.{Mode}
use Rattle.pathspec_glob.specs.declared.Case.{Case}
use Rattle.pathspec_glob.specs.declared.state_set.StateSet.{StateSet}
use Rattle.pathspec_glob.specs.declared.state_set.moves.EmptyMoves.{EmptyMoves}
use Rattle.pathspec_glob.specs.Bytes.{slash, is_empty}
use Rattle.pathspec_glob.specs.Tokens.{Token}
use Rattle.pathspec_glob.specs.Tokens.Token.{One, Star, Deep}
use Rattle.pathspec_glob.specs.GlobRelation.{matches, takes_first, some_suffix, takes}
use Rattle.pathspec_glob.specs.GlobCells.{has}
use Rattle.pathspec_glob.specs.BitVecs.{holds}
use Rattle.pathspec_glob.specs.GlobSteps.{TokenList, is_wide_at, may_pass_over_at, token_takes}

-- The tokens match from within the first one: a deep token that has been come to before is no longer left out together with its slash.
abbrev pub matches_within : Mode → Case → List Token → List ℕ → Bool
matches_within mode case [] text = is_empty text
matches_within mode case (One single ∷ ts) text = takes_first (takes mode case single) (matches mode case ts) text
matches_within mode case (Star ∷ ts) text = some_suffix (λ b. not (b == slash)) (matches mode case ts) text
matches_within mode case (Deep ∷ ts) text = some_suffix (λ b. true) (matches mode case ts) text

-- one of two sets holds the first state, and from there the tokens match the text
abbrev pub accepts_at : Mode → Case → List Token → Bool → Bool → List ℕ → Bool
accepts_at mode case ts entered staying text = (entered && matches mode case ts text) || (staying && matches_within mode case ts text)

-- From some state that was entered, or whose token stays, the tokens match the text.
abbrev pub accepts : Mode → Case → List Token → (ℕ → Bool) → (ℕ → Bool) → List ℕ → Bool
accepts mode case [] entered staying text = entered 0 && is_empty text
accepts mode case (t ∷ ts) entered staying text =
    accepts_at mode case (t ∷ ts) (entered 0) (staying 0) text || accepts mode case ts (λ i. entered (suc i)) (λ i. staying (suc i)) text

-- ---- moves without a byte

-- each state that one before `end` leads to without a byte was entered
pub record IsClosedBefore (end : ℕ) (mode : Mode) (ts : List Token) (entered staying : ℕ → Bool) : Type 0 where
  pub next : (i : ℕ) → i < end → (entered i || staying i) ≡ true → is_wide_at (drop i ts) ≡ true → entered (suc i) ≡ true
  pub over : (i : ℕ) → i < end → entered i ≡ true → may_pass_over_at mode (drop i ts) ≡ true → entered (suc (suc i)) ≡ true

-- each state that others lead to without a byte was entered
abbrev pub IsClosed : Mode → List Token → (ℕ → Bool) → (ℕ → Bool) → Type 0
IsClosed mode ts entered staying = IsClosedBefore (length ts) mode ts entered staying

-- the states of so many tokens that one set holds are held by the other
abbrev pub Includes : ℕ → (ℕ → Bool) → (ℕ → Bool) → Type 0
Includes tokens more set = (i : ℕ) → i ≤ tokens → set i ≡ true → more i ≡ true

-- Each set that has the entered states, and what its own lead to without a byte, has all of the closure.
abbrev pub IsLeast : Mode → List Token → (ℕ → Bool) → (ℕ → Bool) → (ℕ → Bool) → Type 0
IsLeast mode ts entered staying closure =
    (all : ℕ → Bool) → Includes (length ts) all entered → IsClosed mode ts all staying → Includes (length ts) all closure

-- each state of a word that others of it lead to without a byte is active: the next state, or the one behind that
pub record IsClosedWord (staying wide skippable : ℕ) (states : ℕ → Bool) : Type 0 where
  pub next : (i : ℕ) → suc i < 64 → (states i || has staying i) ≡ true → has wide i ≡ true → states (suc i) ≡ true
  pub over : (i : ℕ) → suc (suc i) < 64 → states i ≡ true → has skippable i ≡ true → states (suc (suc i)) ≡ true

-- ---- sets of states in bit vectors

-- no state before the first word or from the end on is active, in bit vectors for so many tokens
pub record HoldsWithin (tokens first end : ℕ) (entered staying : List Bool) : Type 0 where
  pub order : first ≤ end
  pub within : end * 64 ≤ tokens + 64
  pub before_entered : (i : ℕ) → i < first * 64 → holds entered i ≡ false
  pub before_staying : (i : ℕ) → i < first * 64 → holds staying i ≡ false
  pub after_entered : (i : ℕ) → end * 64 ≤ i → i ≤ tokens → holds entered i ≡ false
  pub after_staying : (i : ℕ) → end * 64 ≤ i → i < tokens → holds staying i ≡ false

-- a bit vector, with states of a carry besides, the first of which stands where this word begins
abbrev pub with_carry : ℕ → ℕ → List Bool → ℕ → Bool
with_carry index carry bits i = holds bits i || (not (nat_lt i (index * 64)) && has carry (i - index * 64))

-- ---- sets of states as they are held

-- there is a state more than tokens, and there are no more than memory holds
pub record IsPaired (states : StateSet) : Type 0 where
  pub pair : length states.entered ≡ length states.staying + 1
  pub small : length states.entered < 2 ^ 63

-- the set is made for just so many tokens
pub record IsMadeFor (tokens : ℕ) (states : StateSet) : Type 0 where
  pub staying : length states.staying ≡ tokens
  pub entered : length states.entered ≡ tokens + 1
  pub small : tokens < 2 ^ 62

-- the set has room for the states of so many tokens
pub record HasRoom (tokens : ℕ) (states : StateSet) : Type 0 where
  pub entered : tokens < length states.entered
  pub staying : tokens ≤ length states.staying
  pub small : length states.entered < 2 ^ 63

-- the set has the room that it had
pub record KeepsRoom (old new : StateSet) : Type 0 where
  pub entered : length new.entered ≡ length old.entered
  pub staying : length new.staying ≡ length old.staying

-- the set holds no state before its first word or from its end on
abbrev pub IsBounded : ℕ → StateSet → Type 0
IsBounded tokens states = HoldsWithin tokens states.first states.end states.entered states.staying

-- the set holds the state
abbrev pub is_active : StateSet → ℕ → Bool
is_active states place = holds states.entered place || holds states.staying place

-- the set holds none of the states of so many tokens
abbrev pub HoldsNone : ℕ → StateSet → Type 0
HoldsNone tokens states = (i : ℕ) → i < tokens → is_active states i ≡ false

-- from some state of the set, the tokens match the text
abbrev pub states_accept : TokenList → Case → StateSet → List ℕ → Bool
states_accept parts case states text = accepts parts.mode case parts.tokens (holds states.entered) (holds states.staying) text

-- the states lead to just what the tokens match
abbrev pub AcceptsFromStart : TokenList → StateSet → Type 0
AcceptsFromStart parts states =
    (case : Case) (text : List ℕ) → states_accept parts case states text ≡ matches parts.mode case parts.tokens text

-- the states lead no text to an end
abbrev pub AcceptsNothing : TokenList → Case → StateSet → Type 0
AcceptsNothing parts case states = (text : List ℕ) → states_accept parts case states text ≡ false

-- after a byte, the new states lead to what the old ones lead to before it
abbrev pub AcceptsAfterByte : TokenList → Case → StateSet → StateSet → ℕ → Type 0
AcceptsAfterByte parts case old new b =
    (bs : List ℕ) → states_accept parts case new bs ≡ states_accept parts case old (b ∷ bs)

-- after a text, where some state is left, the new states lead to what the old ones lead to before it; where none is, the old ones lead no text that begins with it to an end
abbrev pub AcceptsAfterText : TokenList → Case → StateSet → StateSet → List ℕ → Bool → Type 0
AcceptsAfterText parts case old new text some =
    (rest : List ℕ) → states_accept parts case old (text ++ rest) ≡ (some && states_accept parts case new rest)

-- the moves are those of the tokens: which take any number of bytes, and which may be skipped with the next
pub record IsMovesOf (parts : TokenList) (moves : EmptyMoves) : Type 0 where
  pub len : length moves.wide ≡ length parts.tokens
  pub wide : (i : ℕ) → i < length parts.tokens → holds moves.wide i ≡ is_wide_at (drop i parts.tokens)
  pub skippable : (i : ℕ) → i < length parts.tokens → holds moves.skippable i ≡ may_pass_over_at parts.mode (drop i parts.tokens)

-- The new set has the states of the old one, those that they lead to without a byte, and no other.
pub record IsClosureOf (parts : TokenList) (old new : StateSet) : Type 0 where
  pub includes : Includes (length parts.tokens) (holds new.entered) (holds old.entered)
  pub closed : IsClosed parts.mode parts.tokens (holds new.entered) (holds old.staying)
  pub least : IsLeast parts.mode parts.tokens (holds old.entered) (holds old.staying) (holds new.entered)
  pub staying : new.staying ≡ old.staying

-- one word of the new set has the states of the old one, those that the words before lead to, and those that states lead to without a byte; it leads to the carry in the next word
pub record ClosesWord (parts : TokenList) (index before after : ℕ) (old new : StateSet) : Type 0 where
  pub includes : Includes (length parts.tokens) (with_carry (suc index) after new.entered) (with_carry index before old.entered)
  pub closed : IsClosedBefore (index * 64) parts.mode parts.tokens (with_carry index before old.entered) (holds old.staying)
      → IsClosedBefore (suc index * 64) parts.mode parts.tokens (with_carry (suc index) after new.entered) (holds old.staying)
  pub least : IsLeast parts.mode parts.tokens (with_carry index before old.entered) (holds old.staying) (with_carry (suc index) after new.entered)

-- the two sets are the same, but for which states of one word were entered
pub record IsSameBut (index : ℕ) (old new : StateSet) : Type 0 where
  pub before : (i : ℕ) → i < index * 64 → holds new.entered i ≡ holds old.entered i
  pub behind : (i : ℕ) → suc index * 64 ≤ i → holds new.entered i ≡ holds old.entered i
  pub entered : length new.entered ≡ length old.entered
  pub staying : new.staying ≡ old.staying
  pub first : new.first ≡ old.first
  pub end : new.end ≡ old.end

-- the byte leads to this state from the one before
abbrev pub arrives : TokenList → Case → StateSet → ℕ → ℕ → Bool
arrives parts case states b zero = false
arrives parts case states b (suc i) = (is_active states i && token_takes parts case i b) && not (is_wide_at (drop i parts.tokens))

-- after the byte, the token at the state may take more
abbrev pub stays : TokenList → Case → StateSet → ℕ → ℕ → Bool
stays parts case states b i = (is_active states i && token_takes parts case i b) && is_wide_at (drop i parts.tokens)

-- the new set has the states that the byte leads to from those of the old one
pub record TakesByte (parts : TokenList) (case : Case) (old new : StateSet) (b : ℕ) : Type 0 where
  pub entered : (i : ℕ) → i ≤ length parts.tokens → holds new.entered i ≡ arrives parts case old b i
  pub staying : (i : ℕ) → i < length parts.tokens → holds new.staying i ≡ stays parts case old b i

-- a word of the set has the states that its taken ones lead to, and the one that the word before leads to
pub record PutsTaken (index taken wide carry : ℕ) (old new : StateSet) : Type 0 where
  pub first : index * 64 < length old.entered → holds new.entered (index * 64) ≡ has carry 0
  pub entered : (i : ℕ) → suc i < 64 → index * 64 + suc i < length old.entered
      → holds new.entered (index * 64 + suc i) ≡ (has taken i && not (has wide i))
  pub staying : (i : ℕ) → i < 64 → index * 64 + i < length old.staying
      → holds new.staying (index * 64 + i) ≡ (has taken i && has wide i)
  pub before_entered : (i : ℕ) → i < index * 64 → holds new.entered i ≡ holds old.entered i
  pub before_staying : (i : ℕ) → i < index * 64 → holds new.staying i ≡ holds old.staying i
  pub behind_entered : (i : ℕ) → suc index * 64 ≤ i → holds new.entered i ≡ holds old.entered i
  pub behind_staying : (i : ℕ) → suc index * 64 ≤ i → holds new.staying i ≡ holds old.staying i
  pub room : KeepsRoom old new
  pub from : new.first ≡ old.first
  pub end : new.end ≡ old.end
