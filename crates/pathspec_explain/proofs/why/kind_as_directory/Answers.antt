-- A directory is asked about already.
use Rattle.std.proofs.Common.{◌≡◌, Bool, None, sym, subst}
use Rattle.bstr.specs.BStr.{bstr_bytes}
use Rattle.gix_pathspec.specs.Patterns.{pattern_spec}
use Rattle.gix_pathspec.specs.Matching.{fit}
use Rattle.pathspec_explain.proofs.why.kind_as_directory.Goals as goal

pub returns-then-is_dir-clause-kind : goal.returns-then-is_dir-clause-kind
returns-then-is_dir-clause-kind c = subst (λ (d : Bool). None ≡ fit (pattern_spec c.args.pattern.now) (bstr_bytes c.args.path) d) c.if-is_dir.true (sym c.requires.unfit)
