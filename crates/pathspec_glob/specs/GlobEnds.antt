-- The ends of a glob as they are held.
use Rattle.pathspec_glob.specs.declared.ends.EndTokens.{EndTokens}
use Rattle.pathspec_glob.specs.declared.ends.EndTokens.TheVariants.{Bytes, Any}
use Rattle.pathspec_glob.specs.GlobParts.{plain_tokens}
use Rattle.pathspec_glob.specs.GlobSteps.{TokenList}

-- the tokens of an end
abbrev pub end_view : EndTokens → TokenList
end_view (Bytes bytes mode) = record { mode = mode; tokens = plain_tokens bytes.all.items }
end_view (Any tokens) = tokens
