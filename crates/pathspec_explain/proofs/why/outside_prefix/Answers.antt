-- The path parts from the prefix directory and a slash, or lies below it.
use Rattle.std.proofs.Common.{sym, ◌∙◌}
use Rattle.bstr.specs.BStr.{bstr_bytes}
use Rattle.gix_pathspec.specs.Patterns.{pattern_spec}
use Rattle.pathspec_explain.proofs.ReasonProofs.{outside-told}
use Rattle.pathspec_explain.proofs.why.outside_prefix.Goals as goal

pub returns : goal.returns
returns c =
    outside-told (pattern_spec c.args.pattern.now) (bstr_bytes c.args.path) c.args.is_dir _ _ _ (c.as_bytes.ensures ∙ c.prefix_directory.ensures.directory) c.as_bytes-2.ensures (sym c.if-is_in_prefix_directory.ensures) c.parting_below.ensures
