use Rattle.std.proofs.Common.{◌≡◌, take}
use Rattle.pathspec_glob.specs.GlobForms.{tokens_view}
use Rattle.pathspec_glob.specs.GlobParts.{plain_tokens}
use Rattle.pathspec_glob.proofs.tokens.bytes_of.Given as goal

abbrev pub invariant-loop-token : goal.invariant-loop-token
invariant-loop-token l = tokens_view (take l.token-index l.tokens) ≡ plain_tokens l.bytes.items
