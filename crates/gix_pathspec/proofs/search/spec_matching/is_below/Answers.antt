-- Byte by byte: the path goes on after the directory with a slash, or it doesn't lie below.
use Rattle.std.proofs.Common.{◌∙◌}
use Rattle.gix_pathspec.proofs.MatchingProofs.{below-folded_slash, below-folded_other, below-folded_short}
use Rattle.gix_pathspec.proofs.search.spec_matching.is_below.Goals.{else-n-path-via-then-n-path+else-path-n-eq47, else-n-path-via-else-n-path}
use Rattle.gix_pathspec.proofs.search.spec_matching.is_below.Goals as goal

pub returns-then-path-n-eq47 : goal.returns-then-path-n-eq47
returns-then-path-n-eq47 c = c.is_same_text.ensures ∙ below-folded_slash c.args.ignore_case c.args.path.now c.args.directory.now c.if-n-path.true c.if-path-n-eq47.true

pub returns-else-n-path : goal.returns-else-n-path
returns-else-n-path c = elim c.else-n-path.branch [
  | else-n-path-via-then-n-path+else-path-n-eq47 w ↦ below-folded_other c.args.ignore_case c.args.path.now c.args.directory.now w.if-n-path.true w.if-path-n-eq47.false
  | else-n-path-via-else-n-path w ↦ below-folded_short c.args.ignore_case c.args.path.now c.args.directory.now w.if-n-path.false
]
