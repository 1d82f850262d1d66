-- The parts of a glob: its head and its tail, whose tokens take one byte each, and what stands between.
use Rattle.std.specs.Prelude.{◌≡◌, ◌<◌, ℕ, suc, ◌-◌, ◌^◌, Bool, true, false, not, ◌&&◌, List, [], ◌∷◌, ◌==◌, length, map, take, drop, if◌then◌else◌}
use Rattle.std.specs.List.{list_all, prefix_len}
use Rattle.pathspec_glob.specs.declared.Mode.{Mode}
use Rattle.pathspec_glob.specs.declared.Case.{Case}
use Rattle.pathspec_glob.specs.Bytes.{slash, is_empty}
use Rattle.pathspec_glob.specs.Tokens.{Token}
use Rattle.pathspec_glob.specs.Tokens.OneByte.{Byte}
use Rattle.pathspec_glob.specs.Tokens.Token.{One, Star, Deep}
use Rattle.pathspec_glob.specs.GlobRelation.{matches}
use Rattle.pathspec_glob.specs.GlobSteps.{TokenList, is_wide, may_pass_over_at, takes_byte}
use Rattle.pathspec_glob.specs.ByteSets.{listed_tokens}

-- how many tokens stand before the first that takes any number of bytes
abbrev pub head_size : List Token → ℕ
head_size ts = prefix_len (λ t. not (is_wide t)) ts

-- the count of the first token, where it takes any number of bytes, with a slash that it may be left out with; else 0
abbrev pub own_size : Mode → List Token → ℕ
own_size mode [] = 0
own_size mode (t ∷ ts) = if is_wide t then (if may_pass_over_at mode (t ∷ ts) then 2 else 1) else 0

-- how many tokens stand up to the last that takes any number of bytes, with a slash that this one may be left out with
abbrev pub wide_size : Mode → List Token → ℕ
wide_size mode [] = 0
wide_size mode (t ∷ ts) = if wide_size mode ts == 0 then own_size mode (t ∷ ts) else suc (wide_size mode ts)

-- the tokens before the first that takes any number of bytes, and those from that one on
abbrev pub head_of : List Token → List Token
head_of ts = take (head_size ts) ts

abbrev pub behind_head : List Token → List Token
behind_head ts = drop (head_size ts) ts

-- The middle: the tokens behind the head, up to the last that takes any number of bytes, with a slash that this one may be left out with.
abbrev pub middle_of : Mode → List Token → List Token
middle_of mode ts = take (wide_size mode (behind_head ts)) (behind_head ts)

-- the tail: the tokens behind the middle
abbrev pub tail_of : Mode → List Token → List Token
tail_of mode ts = drop (wide_size mode (behind_head ts)) (behind_head ts)

-- the tokens take the bytes of the text one by one, and there are as many
abbrev pub takes_each : Mode → Case → List Token → List ℕ → Bool
takes_each mode case [] text = is_empty text
takes_each mode case (t ∷ ts) [] = false
takes_each mode case (t ∷ ts) (b ∷ bs) = takes_byte mode case t b && takes_each mode case ts bs

-- how many tokens are tested on the text, one a byte, up to one that doesn't take its byte
abbrev pub tests_each : Mode → Case → List Token → List ℕ → ℕ
tests_each mode case [] text = 0
tests_each mode case (t ∷ ts) [] = 0
tests_each mode case (t ∷ ts) (b ∷ bs) = suc (if takes_byte mode case t b then tests_each mode case ts bs else 0)

-- tokens that want some bytes, one each
abbrev pub plain_tokens : List ℕ → List Token
plain_tokens bytes = map (λ b. One (Byte b)) bytes

-- the tokens take the front of the text, or its end
abbrev pub takes_front : TokenList → Case → List ℕ → Bool
takes_front parts case text = takes_each parts.mode case parts.tokens (take (length parts.tokens) text)

abbrev pub takes_end : TokenList → Case → List ℕ → Bool
takes_end parts case text = takes_each parts.mode case parts.tokens (drop (length text - length parts.tokens) text)

-- the text behind the front that the tokens take, or before the end that they take
abbrev pub behind_front : TokenList → List ℕ → List ℕ
behind_front parts text = drop (length parts.tokens) text

abbrev pub before_end : TokenList → List ℕ → List ℕ
before_end parts text = take (length text - length parts.tokens) text

-- the first token, which takes any number of bytes, takes all of the text
abbrev pub first_token_takes : List Token → List ℕ → Bool
first_token_takes [] text = false
first_token_takes (One single ∷ ts) text = false
first_token_takes (Star ∷ ts) text = list_all (λ b. not (b == slash)) text
first_token_takes (Deep ∷ ts) text = true

-- how many bytes of the text that token is tested on, up to one that it doesn't take
abbrev pub first_token_tests : List Token → List ℕ → ℕ
first_token_tests (Star ∷ ts) (b ∷ bs) = suc (if b == slash then 0 else first_token_tests (Star ∷ ts) bs)
first_token_tests (Deep ∷ ts) (b ∷ bs) = suc (first_token_tests (Deep ∷ ts) bs)
first_token_tests ts text = 0

-- the tokens match just the texts of which the first of them takes all
abbrev pub MatchAsFirst : TokenList → Type 0
MatchAsFirst parts = (case : Case) (text : List ℕ) → matches parts.mode case parts.tokens text ≡ first_token_takes parts.tokens text

-- The tokens of a pattern, in their parts; the pattern has fewer than 2^64 bytes.
pub record IsParted (mode : Mode) (pattern : List ℕ) (head middle tail : TokenList) : Type 0 where
  pub head_is : head ≡ record { mode = mode; tokens = head_of (listed_tokens mode pattern) }
  pub middle_is : middle ≡ record { mode = mode; tokens = middle_of mode (listed_tokens mode pattern) }
  pub tail_is : tail ≡ record { mode = mode; tokens = tail_of mode (listed_tokens mode pattern) }
  pub fits : length pattern < 2 ^ 64
