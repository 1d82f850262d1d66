-- The path parts from the pattern's path and a slash: it isn't below that path.
use Rattle.std.proofs.Common.{◌∙◌}
use Rattle.bstr.specs.BStr.{bstr_bytes}
use Rattle.gix_pathspec.specs.Patterns.{pattern_spec}
use Rattle.pathspec_explain.proofs.ReasonProofs.{parts-text, never-below}
use Rattle.pathspec_explain.proofs.why.where_text_parts.Goals as goal

pub returns : goal.returns
returns c = λ table is_dir n.
    (n, parts-text (pattern_spec c.args.pattern.now) (bstr_bytes c.args.path) c.in-Some.at _ _ _ c.ignores_case.ensures c.requires.text (c.as_bytes-own.ensures ∙ c.path.ensures.path) c.as_bytes.ensures c.in-Some.ensures)

pub unreachable-requires : goal.unreachable-requires
unreachable-requires c =
    never-below (pattern_spec c.args.pattern.now) (bstr_bytes c.args.path) _ _ _ c.requires.unfit c.requires.inside c.ignores_case.ensures (c.as_bytes-own.ensures ∙ c.path.ensures.path) c.as_bytes.ensures c.in-None.ensures
