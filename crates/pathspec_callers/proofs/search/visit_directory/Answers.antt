-- What isn't entered is skipped, and so not chosen.
use Rattle.std.proofs.Common.{sym, ◌∙◌, Ok, Err, Result}
use Rattle.std.proofs.lemmas.Bool.{not-false}
use Rattle.std.specs.Prelude.{IfOk}
use Rattle.bstr.specs.BStr.{bstr_bytes}
use Rattle.gix_pathspec.specs.Search.{specs_of}
use Rattle.gix_pathspec.specs.Skipping.{may_skip}
use Rattle.pathspec_callers.proofs.search.visit_directory.Goals as goal

-- what follows from what holds of a value
if_ok : {A E : Type 0} (P Q : A → Type 0) (r : Result A E) → ((a : A) → P a → Q a) → IfOk r P → IfOk r Q
if_ok P Q (Ok x) f h = f x h
if_ok P Q (Err e) f h = h

pub returns-clause-skipped : goal.returns-clause-skipped
returns-clause-skipped g c =
    let d = bstr_bytes c.args.directory in
    if_ok _ _ c.visit.result (λ visit entered left table path is_dir below. c.visit.ensures.safe table d (not-false (may_skip (specs_of c.args.search.now.specs) d) (sym entered ∙ left)) path is_dir below) c.visit.ensures.entered
