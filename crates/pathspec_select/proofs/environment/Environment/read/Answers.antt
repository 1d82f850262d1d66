-- One variable after the other.
use Rattle.std.proofs.Common.{subst, false, Bool, ◌≡◌, Ok, Option, List, ℕ}
use Rattle.std.proofs.lemmas.Result.{err_from_is_err_and}
use Rattle.pathspec_pattern.specs.Environment.{flag_of}
use Rattle.pathspec_select.proofs.VariableProofs.{flag-found, flag-none, literal_ends, icase_is_last, icase_ends, glob_ends, literal_refused, icase_refused, glob_refused, noglob_refused, all_told}
use Rattle.pathspec_select.proofs.environment.Environment.read.Goals as goal

-- a flag that is false
says_false : (word : Option (List ℕ)) (flag : Bool) → flag_of word ≡ Ok flag → flag ≡ false → flag_of word ≡ Ok false
says_false word flag said off = subst (λ b. flag_of word ≡ Ok b) off said

pub returns-in_err-literal-clause-refused : goal.returns-in_err-literal-clause-refused
returns-in_err-literal-clause-refused g c =
    let p = err_from_is_err_and c.from_residual.result c.from_residual.ensures.1 in
    rw (p.1, p.2) (literal_refused g.F.FnMut _ _ _ c.in_err-literal.ensures.told)

pub returns-in_err-icase-clause-refused : goal.returns-in_err-icase-clause-refused
returns-in_err-icase-clause-refused g c =
    let p = err_from_is_err_and c.from_residual-in_err-icase.result c.from_residual-in_err-icase.ensures.1 in
    rw (p.1, p.2) (icase_refused g.F.FnMut _ _ _ _ _ c.in_ok-literal.ensures.told c.in-Some.ensures _ c.in_err-icase.ensures.told)

pub returns-in_err-glob-clause-refused : goal.returns-in_err-glob-clause-refused
returns-in_err-glob-clause-refused g c =
    let p = err_from_is_err_and c.from_residual-in_err-glob.result c.from_residual-in_err-glob.ensures.1 in
    let said = says_false _ _ c.in-Some.ensures c.if-is_literal.false in
    let icase = flag-found _ _ _ _ c.is_none.ensures c.if-is_none.false c.truth_of-else-is_literal.ensures in
    rw (p.1, p.2) (glob_refused g.F.FnMut _ _ _ _ _ _ _ c.in_ok-literal.ensures.told said c.in_ok-icase.ensures.told icase.1 _ c.in_err-glob.ensures.told)

pub returns-in_err-noglob-clause-refused : goal.returns-in_err-noglob-clause-refused
returns-in_err-noglob-clause-refused g c =
    let p = err_from_is_err_and c.from_residual-in_err-noglob.result c.from_residual-in_err-noglob.ensures.1 in
    let said = says_false _ _ c.in-Some.ensures c.if-is_literal.false in
    let icase = flag-found _ _ _ _ c.is_none.ensures c.if-is_none.false c.truth_of-else-is_literal.ensures in
    let glob = flag-found _ _ _ _ c.is_none-2.ensures c.if-is_none-2.false c.truth_of-2.ensures in
    rw (p.1, p.2) (noglob_refused g.F.FnMut _ _ _ _ _ _ _ c.in_ok-literal.ensures.told said c.in_ok-icase.ensures.told icase.1 _ _ _ c.in_ok-glob.ensures.told glob.1 _ c.in_err-noglob.ensures.told)

pub returns-clause-asked : goal.returns-clause-asked
returns-clause-asked g c =
    let said = says_false _ _ c.in-Some.ensures c.if-is_literal.false in
    let icase = flag-found _ _ _ _ c.is_none.ensures c.if-is_none.false c.truth_of-else-is_literal.ensures in
    let glob = flag-found _ _ _ _ c.is_none-2.ensures c.if-is_none-2.false c.truth_of-2.ensures in
    all_told g.F.FnMut _ _ _ _ _ _ _ c.in_ok-literal.ensures.told said c.in_ok-icase.ensures.told icase.1 _ _ _ c.in_ok-glob.ensures.told glob.1 _ c.in_ok-noglob.ensures.told

pub returns-in_default-clause-asked : goal.returns-in_default-clause-asked
returns-in_default-clause-asked g c = literal_ends g.F.FnMut _ _ _ c.in_ok-literal.ensures.told c.in_default.ensures

pub returns-then-is_literal-clause-asked : goal.returns-then-is_literal-clause-asked
returns-then-is_literal-clause-asked g c = elim c.then-is_literal.branch [
  | goal.then-is_literal-via-then-is_literal w ↦
      icase_is_last g.F.FnMut _ _ _ _ _ _ c.in_ok-literal.ensures.told c.in-Some.ensures c.in_ok-icase.ensures.told w.if-is_literal.true
  | goal.then-is_literal-via-else-is_literal+then-is_none w ↦
      let fault = flag-none _ _ _ _ w.is_none.ensures w.if-is_none.true w.truth_of-else-is_literal.ensures in
      icase_ends g.F.FnMut _ _ _ _ _ _ c.in_ok-literal.ensures.told c.in-Some.ensures c.in_ok-icase.ensures.told fault
]

pub returns-then-is_none-2-clause-asked : goal.returns-then-is_none-2-clause-asked
returns-then-is_none-2-clause-asked g c =
    let said = says_false _ _ c.in-Some.ensures c.if-is_literal.false in
    let icase = flag-found _ _ _ _ c.is_none.ensures c.if-is_none.false c.truth_of-else-is_literal.ensures in
    let fault = flag-none _ _ _ _ c.is_none-2.ensures c.if-is_none-2.true c.truth_of-2.ensures in
    glob_ends g.F.FnMut _ _ _ _ _ _ _ c.in_ok-literal.ensures.told said c.in_ok-icase.ensures.told icase.1 _ c.in_ok-glob.ensures.told fault
