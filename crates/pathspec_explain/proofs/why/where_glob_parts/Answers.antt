-- The path parts from the stem, or the glob fails.
use Rattle.bstr.specs.BStr.{bstr_bytes}
use Rattle.gix_pathspec.specs.Patterns.{pattern_spec}
use Rattle.pathspec_explain.proofs.ReasonProofs.{parts-glob, glob-fails}
use Rattle.pathspec_explain.proofs.why.where_glob_parts.Goals as goal

pub returns-in-Some : goal.returns-in-Some
returns-in-Some c = λ table is_dir n.
    (n, parts-glob (pattern_spec c.args.pattern.now) (bstr_bytes c.args.path) c.in-Some.at _ _ _ c.ignores_case.ensures c.requires.glob c.stem.ensures c.as_bytes.ensures c.in-Some.ensures)

pub returns-in-None : goal.returns-in-None
returns-in-None c = λ table is_dir n. (c.requires.glob, n, glob-fails (pattern_spec c.args.pattern.now) (bstr_bytes c.args.path) c.requires.unfit c.requires.inside c.requires.glob)
