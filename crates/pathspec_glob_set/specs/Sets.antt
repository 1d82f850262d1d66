-- Sets of globs, and which of them match a text.
use Rattle.std.specs.Prelude.{◌≡◌, ◌+◌, ◌<◌, ◌≤◌, ℕ, suc, Bool, false, List, [], length, get_or}
use Rattle.std.specs.List.{sum_by}
use Rattle.pathspec_glob.specs.GlobRelation.{matches}
use Rattle.pathspec_glob.specs.BitVecs.{holds}
use Rattle.pathspec_glob_set.specs.declared.table.moves.Moves.{Moves}
use Rattle.pathspec_glob_set.specs.declared.member.Member.{Member}
use Rattle.pathspec_glob_set.specs.Meanings.{is_over_before, is_settled_by, is_wide_before, may_cut, stands, takes_before}
use Rattle.pathspec_glob_set.specs.Moves.{takes_of}

-- the count of a glob's tokens
abbrev pub size_of : Member → ℕ
size_of glob = length glob.tokens.tokens

-- the count of places of globs: one for each token, and one more for each glob
abbrev pub count_places : List Member → ℕ
count_places globs = sum_by (λ glob. size_of glob + 1) globs

-- whether a glob of a set matches a text
abbrev pub member_matches : Member → List ℕ → Bool
member_matches glob text = matches glob.tokens.mode glob.case glob.tokens.tokens text

-- the glob at a place of a list
pub record IsAt (globs : List Member) (g : ℕ) (glob : Member) : Type 0 where
  pub within : g < length globs
  pub is : get_or globs g glob ≡ glob

-- The last place of each glob, where globs stand one behind the other, each with a place for each token and one more.
pub record AreEnds (globs : List Member) (ends : List ℕ) : Type 0 where
  pub len : length ends ≡ length globs
  pub first : (glob : Member) → IsAt globs 0 glob → get_or ends 0 0 ≡ size_of glob
  pub next : (g : ℕ) (glob : Member) → IsAt globs (suc g) glob → get_or ends (suc g) 0 ≡ suc (get_or ends g 0 + size_of glob)

-- a row holds the places of globs for which something is so
abbrev pub IsColumn : List Member → List ℕ → (Member → ℕ → Bool) → List Bool → Type 0
IsColumn globs ends is_so row = (g : ℕ) (glob : Member) (i k : ℕ) → IsAt globs g glob → i ≤ size_of glob → k + i ≡ get_or ends g 0 → holds row k ≡ is_so glob i

-- The moves are those of the globs.
pub record AreMovesOf (globs : List Member) (moves : Moves) : Type 0 where
  pub ends : AreEnds globs moves.ends.items
  pub places : length moves.wide ≡ count_places globs
  pub wide : IsColumn globs moves.ends.items (λ glob i. is_wide_before glob.tokens i) moves.wide
  pub over : IsColumn globs moves.ends.items (λ glob i. is_over_before glob.tokens i) moves.over
  pub cuts : IsColumn globs moves.ends.items may_cut moves.cuts
  pub takes : (b : ℕ) → b < 256 → IsColumn globs moves.ends.items (λ glob i. takes_before glob.tokens glob.case i b) (takes_of moves b)
  pub start : IsColumn globs moves.ends.items (λ glob i. stands glob.tokens glob.case i []) moves.start

-- A row says of each place of a glob what stands there of a text.
abbrev pub SaysOf : List ℕ → List ℕ → List Bool → ℕ → Member → Type 0
SaysOf ends text row g glob = (i k : ℕ) → i ≤ size_of glob → k + i ≡ get_or ends g 0 → holds row k ≡ stands glob.tokens glob.case i text

-- no glob before a number cuts and matches whatever stands before a text
abbrev pub IsUnsettled : List Member → List ℕ → ℕ → Type 0
IsUnsettled globs text g = (c : ℕ) (cutter : Member) → c < g → IsAt globs c cutter → is_settled_by cutter text ≡ false
