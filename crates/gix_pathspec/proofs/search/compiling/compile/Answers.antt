-- One more spec is ready; or the error tells why there is no normal form.
use Rattle.std.proofs.Common.{rules}
use Rattle.gix_pathspec.specs.Paths.{IsBytes}
use Rattle.gix_pathspec.proofs.SearchProofs.{of_push}
use Rattle.gix_pathspec.proofs.BuildingProofs.{tells-on, tells-refused, next-refused}
use Rattle.gix_pathspec.proofs.search.compiling.compile.Goals as goal

pub returns-in-Err-clause-specs : goal.returns-in-Err-clause-specs
returns-in-Err-clause-specs c =
    tells-on c.error_at.result _ _ (λ fault h. next-refused _ _ _ c.args.specs.now.items c.len-number.result fault (search rules) h) (tells-refused c.len-number.result c.in-Err.error c.error_at.result _ c.in-Err.ensures.form c.error_at.ensures)

pub returns-clause-bytes : goal.returns-clause-bytes
returns-clause-bytes c = of_push (λ s. IsBytes s.path) c.args.specs.now.items _ c.in_ok-new.field-0 c.requires.bytes c.in_ok-new.ensures.bytes c.in_ok-push.ensures.items
