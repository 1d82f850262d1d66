-- What a place of a glob says of a text that was read from its end.
use Rattle.std.specs.Prelude.{ℕ, zero, suc, Bool, false, ◌&&◌, ◌==◌, List, drop, if◌then◌else◌}
use Rattle.pathspec_glob.specs.declared.Case.{Case}
use Rattle.pathspec_glob.specs.Bytes.{slash}
use Rattle.pathspec_glob.specs.GlobRelation.{matches}
use Rattle.pathspec_glob.specs.GlobSteps.{TokenList, is_wide_at, may_pass_over_at, token_takes}
use Rattle.pathspec_glob.specs.StateSets.{matches_within}
use Rattle.pathspec_glob_set.specs.declared.member.Member.{Member}

-- Place i of a glob stands behind its first i tokens. Reading backward, token i - 1 is the next to take a byte there.

-- the next token takes any number of bytes
abbrev pub is_wide_before : TokenList → ℕ → Bool
is_wide_before parts zero = false
is_wide_before parts (suc i) = is_wide_at (drop i parts.tokens)

-- the next token takes the byte
abbrev pub takes_before : TokenList → Case → ℕ → ℕ → Bool
takes_before parts case zero b = false
takes_before parts case (suc i) b = token_takes parts case i b

-- the next two tokens may stand for nothing
abbrev pub is_over_before : TokenList → ℕ → Bool
is_over_before parts zero = false
is_over_before parts (suc zero) = false
is_over_before parts (suc (suc i)) = may_pass_over_at parts.mode (drop i parts.tokens)

-- the next token is the first of a glob that cuts, and takes any bytes
abbrev pub may_cut : Member → ℕ → Bool
may_cut glob i = (i == 1) && (glob.cuts && (is_wide_before glob.tokens i && takes_before glob.tokens glob.case i slash))

-- The tokens behind the place match the text; where the next is wide, it and they do, as from within it.
abbrev pub stands : TokenList → Case → ℕ → List ℕ → Bool
stands parts case zero text = matches parts.mode case parts.tokens text
stands parts case (suc i) text =
    if is_wide_at (drop i parts.tokens) then matches_within parts.mode case (drop i parts.tokens) text else matches parts.mode case (drop (suc i) parts.tokens) text

-- the glob cuts, and matches whatever stands before the text
abbrev pub is_settled_by : Member → List ℕ → Bool
is_settled_by glob text = may_cut glob 1 && stands glob.tokens glob.case 1 text
