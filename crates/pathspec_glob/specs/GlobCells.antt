-- The tokens of a glob as cells, each a token for one byte and what may be taken before it, and sets of states as numbers.
use Rattle.std.specs.Prelude.{ℕ, zero, suc, Bool, true, false, not, ◌&&◌, ◌||◌, List, [], ◌∷◌, ◌≡◌, ◌==◌, ◌<◌, ◌/◌, length, get_or, if◌then◌else◌}
use Rattle.std.specs.List.{list_all}
use Rattle.std.specs.Int.{bit_at}
use Rattle.pathspec_glob.specs.declared.Mode.{Mode}
use Rattle.pathspec_glob.specs.declared.Case.{Case}
use Rattle.pathspec_glob.specs.declared.Case.TheVariants.{Sensitive}
use Rattle.pathspec_glob.specs.declared.tokens.word.Question.{Question}
use Rattle.pathspec_glob.specs.declared.tokens.word.Question.TheVariants.{Takes, Loops, Skips}
use Rattle.pathspec_glob.specs.declared.tokens.word.step.LoopKind.{LoopKind}
use Rattle.pathspec_glob.specs.declared.tokens.word.step.LoopKind.TheVariants.{Ends, Plain, Any}
use Rattle.pathspec_glob.specs.Bytes.{slash}
use Rattle.pathspec_glob.specs.Tokens.{OneByte, Token}
use Rattle.pathspec_glob.specs.Tokens.Token.{One, Star, Deep}
use Rattle.pathspec_glob.specs.GlobRelation.{takes, matches, passes_over}
use Rattle.pathspec_glob.specs.GlobSteps.{TokenList, is_wide, is_wide_at, may_pass_over_at, takes_at}

-- the bytes at which a state loops
pub data SelfLoop : Type 0 where
  Nothing : SelfLoop
  Names : SelfLoop
  Anything : SelfLoop

abbrev pub keeps : SelfLoop → ℕ → Bool
keeps Nothing b = false
keeps Names b = not (b == slash)
keeps Anything b = true

-- one token for one byte, the bytes that may be taken before it, and whether it may be left out with them
pub record Cell : Type 0 where
  pub loop : SelfLoop
  pub over : Bool
  pub single : OneByte

-- bytes that are kept, then one that is taken, and the rest passes
abbrev pub after_kept : (ℕ → Bool) → (ℕ → Bool) → (List ℕ → Bool) → List ℕ → Bool
after_kept keep take rest [] = false
after_kept keep take rest (b ∷ bs) = (take b && rest bs) || (keep b && after_kept keep take rest bs)

-- whether the cells, and the loop behind them, match the whole text
abbrev pub cells_match : Mode → Case → List Cell → SelfLoop → List ℕ → Bool
cells_match mode case [] last text = list_all (keeps last) text
cells_match mode case (c ∷ cs) last text =
    after_kept (keeps c.loop) (takes mode case c.single) (cells_match mode case cs last) text || (c.over && cells_match mode case cs last text)

-- from some state of the set, the cells match the text
abbrev pub set_leads : Mode → Case → List Cell → SelfLoop → (ℕ → Bool) → List ℕ → Bool
set_leads mode case [] last f text = f 0 && list_all (keeps last) text
set_leads mode case (c ∷ cs) last f text =
    (f 0 && after_kept (keeps c.loop) (takes mode case c.single) (cells_match mode case cs last) text) || set_leads mode case cs last (λ i. f (suc i)) text

-- the sets of states whose tokens take the byte, that loop at it, and that may be skipped
abbrev pub Rules : Mode → Case → List Cell → SelfLoop → (ℕ → Bool) → (ℕ → Bool) → (ℕ → Bool) → ℕ → Type 0
Rules mode case [] last t l p b = l 0 ≡ keeps last b
Rules mode case (c ∷ cs) last t l p b =
    (t 0 ≡ takes mode case c.single b) × (l 0 ≡ keeps c.loop b) × (p 0 ≡ c.over) × Rules mode case cs last (λ i. t (suc i)) (λ i. l (suc i)) (λ i. p (suc i)) b

-- the states that a number holds
abbrev pub has : ℕ → ℕ → Bool
has n i = bit_at n i == 1

-- rows of words for the cells: the states whose tokens don't take each byte, those that loop, and those that may be skipped, of which no two stand side by side
pub record Masked (mode : Mode) (case : Case) (cs : List Cell) (last : SelfLoop) (row : List ℕ) (self_loops slash_loops skippable : ℕ) : Type 0 where
  pub few : length cs < 64
  pub rules : (b : ℕ) → b < 256 → Rules mode case cs last (λ i. not (has (get_or row b 0) i)) (has (if b == slash then slash_loops else self_loops)) (has skippable) b
  pub apart : (i : ℕ) → i < length cs → (has skippable i && has skippable (suc i)) ≡ false

-- The first state loops at every byte, the last as the two flags say, and none between; only the first may be skipped.
pub record LoopAtEnds (self_loops slash_loops skippable last : ℕ) (last_loops last_loops_at_slash : Bool) : Type 0 where
  pub first : has self_loops 0 ≡ true
  pub first_at_slash : has slash_loops 0 ≡ true
  pub between : (i : ℕ) → 0 < i → i < last → has self_loops i ≡ false
  pub between_at_slash : (i : ℕ) → 0 < i → i < last → has slash_loops i ≡ false
  pub at_last : last_loops ≡ has self_loops last
  pub at_last_at_slash : last_loops_at_slash ≡ has slash_loops last
  pub passed : skippable / 2 ≡ 0

-- An automaton can go over any text by a loop of this kind.
abbrev pub IsLoopKind : ℕ → ℕ → ℕ → ℕ → LoopKind → Type 0
IsLoopKind self_loops slash_loops skippable last (Ends last_loops last_loops_at_slash) = LoopAtEnds self_loops slash_loops skippable last last_loops last_loops_at_slash
IsLoopKind self_loops slash_loops skippable last Plain = skippable / 2 ≡ 0
IsLoopKind self_loops slash_loops skippable last Any = Unit {0}

-- The answer is whether the states lead to the last by the text, for cells whose words have these rows and of which only the ends loop.
abbrev pub LeadsToLast : List ℕ → Bool → Bool → ℕ → ℕ → List ℕ → Bool → Type 0
LeadsToLast rows last_loops last_loops_at_slash last states text answer = (mode : Mode) (case : Case) (cells : List Cell) (end : SelfLoop) (self_loops slash_loops skippable : ℕ)
    → Masked mode case cells end rows self_loops slash_loops skippable → length cells ≡ last → LoopAtEnds self_loops slash_loops skippable last last_loops last_loops_at_slash
    → has states 0 ≡ true → answer ≡ set_leads mode case cells end (has states) text

-- the states that aren't free, where a word of its own says of the last whether it is
abbrev pub not_free : ℕ → ℕ → ℕ → ℕ → Bool
not_free free end last i = not (has (if i == last then end else free) i)

-- ---- tokens as cells

-- the cells of tokens that stand behind this loop, and the loop behind them all
abbrev pub over_at : Mode → SelfLoop → OneByte → Bool
over_at mode Nothing single = false
over_at mode Names single = false
over_at mode Anything single = passes_over mode (One single)

abbrev pub cells_of : Mode → SelfLoop → List Token → List Cell
cells_of mode loop [] = []
cells_of mode loop (One single ∷ ts) = record { loop = loop; over = over_at mode loop single; single = single } ∷ cells_of mode Nothing ts
cells_of mode loop (Star ∷ ts) = cells_of mode Names ts
cells_of mode loop (Deep ∷ ts) = cells_of mode Anything ts

abbrev pub loop_behind : SelfLoop → List Token → SelfLoop
loop_behind loop [] = loop
loop_behind loop (One single ∷ ts) = loop_behind Nothing ts
loop_behind loop (Star ∷ ts) = loop_behind Names ts
loop_behind loop (Deep ∷ ts) = loop_behind Anything ts

-- No token that takes any number of bytes stands directly behind another, nor behind a loop.
abbrev pub alternates : SelfLoop → List Token → Bool
alternates loop [] = true
alternates loop (One single ∷ ts) = alternates Nothing ts
alternates Nothing (Star ∷ ts) = alternates Names ts
alternates Nothing (Deep ∷ ts) = alternates Anything ts
alternates loop (t ∷ ts) = false

-- the tokens match, with this loop before them
abbrev pub looped : Mode → Case → SelfLoop → List Token → List ℕ → Bool
looped mode case Nothing ts text = matches mode case ts text
looped mode case Names ts text = matches mode case (Star ∷ ts) text
looped mode case Anything ts text = matches mode case (Deep ∷ ts) text

-- how many cells the tokens have
abbrev pub cell_count : List Token → ℕ
cell_count [] = 0
cell_count (One single ∷ ts) = suc (cell_count ts)
cell_count (Star ∷ ts) = cell_count ts
cell_count (Deep ∷ ts) = cell_count ts

-- no token that takes any number of bytes stands directly behind another, nor first where one stands before
abbrev pub alternates_behind : Bool → List Token → Bool
alternates_behind wide [] = true
alternates_behind wide (t ∷ ts) = not (wide && is_wide t) && alternates_behind (is_wide t) ts

-- ---- the states of tokens

-- a set with each state one further, and the first active or not
abbrev pub further : Bool → (ℕ → Bool) → ℕ → Bool
further first f zero = first
further first f (suc i) = f i

-- a set with its first state besides, or not
abbrev pub with_first : Bool → (ℕ → Bool) → ℕ → Bool
with_first more f zero = f 0 || more
with_first more f (suc i) = f (suc i)

-- The answer for the first token: whether it takes one byte, and this one; any number, and this one; or may be left out with the next.
abbrev pub answers : Mode → Question → List Token → Bool
answers mode (Takes b case) ts = not (is_wide_at ts) && takes_at mode case ts b
answers mode (Loops b) ts = is_wide_at ts && takes_at mode Sensitive ts b
answers mode Skips ts = may_pass_over_at mode ts

-- the states at whose tokens the answer is yes, where a token for any number of bytes shares its state with the next
abbrev pub set_of : Mode → Question → List Token → ℕ → Bool
set_of mode question [] i = false
set_of mode question (t ∷ ts) i =
    if is_wide t then with_first (answers mode question (t ∷ ts)) (set_of mode question ts) i else further (answers mode question (t ∷ ts)) (set_of mode question ts) i

-- a row for each byte, of the states whose tokens don't take it
abbrev pub IsTable : TokenList → Case → List ℕ → Type 0
IsTable parts case rows = (b i : ℕ) → b < 256 → i < 64 → has (get_or rows b 0) i ≡ not (set_of parts.mode (Takes b case) parts.tokens i)
