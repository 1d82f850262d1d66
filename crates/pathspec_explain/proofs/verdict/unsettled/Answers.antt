-- The path parts from the common prefix, or it doesn't.
use Rattle.std.proofs.Common.{◌∙◌}
use Rattle.pathspec_explain.proofs.PartingProofs.{parts-same}
use Rattle.pathspec_explain.proofs.verdict.unsettled.Goals as goal

pub returns-in-Some-clause-verdict : goal.returns-in-Some-clause-verdict
returns-in-Some-clause-verdict c = λ table is_dir none. (none, parts-same _ _ _ _ c.in-Some.at (c.as_bytes.ensures ∙ c.common_prefix.ensures.value) c.as_bytes-2.ensures c.in-Some.ensures)

pub returns-in-None-clause-verdict : goal.returns-in-None-clause-verdict
returns-in-None-clause-verdict c = λ table is_dir none. none
