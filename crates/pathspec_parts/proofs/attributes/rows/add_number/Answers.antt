-- A path that has numbers gets one more, or a list of its own.
use Rattle.std.proofs.Common.{◌≡◌, ◌∙◌, sym, ap, subst, rules, ℕ, [], ◌∷◌, ◌++◌, Vec, Some}
use Rattle.std.specs.Global.{Global}
use Rattle.std.specs.Ordering.{nat_cmp}
use Rattle.std.specs.Cmp.Lexicographic.{slice_cmp}
use Rattle.std.specs.BTreeMap.{UpdatesBy}
use Rattle.std.proofs.lemmas.Result.{err_from_is_err_and}
use Rattle.pathspec_parts.specs.RowNumbers.{numbers_at, AddsNumber}
use Rattle.pathspec_parts.proofs.RowNumberProofs.{key_cmp, items_of, adds-number, keeps-numbers}
use Rattle.pathspec_parts.proofs.attributes.rows.add_number.Goals as goal

pub returns-in_err-push-clause-err : goal.returns-in_err-push-clause-err
returns-in_err-push-clause-err c =
    let p = err_from_is_err_and c.from_residual.result c.from_residual.ensures.1 in
    rw p.1 (keeps-numbers c.args.numbers.now (c.get_mut.follows.lender c.push.new.self) c.args.path.now c.in-Some.own.now.items c.push.new.self (sym (ap items_of c.in-Some.ensures.value)) c.in_err-push.ensures.items ((c.get_mut.follows.holds c.push.new.self).3 (search rules)))

pub returns-in-Some-clause-ok : goal.returns-in-Some-clause-ok
returns-in-Some-clause-ok c =
    adds-number c.args.numbers.now (c.get_mut.follows.lender c.push.new.self) c.args.path.now c.args.number c.in-Some.own.now.items c.push.new.self (sym (ap items_of c.in-Some.ensures.value)) c.in_ok-push.ensures.items ((c.get_mut.follows.holds c.push.new.self).3 (search rules))

pub returns-clause-ok : goal.returns-clause-ok
returns-clause-ok c =
    let before = c.get_mut.follows.lender-at-none in
    let kept = c.get_mut.follows.holds-at-none in
    let has : numbers_at c.args.numbers.now c.args.path.now ≡ [] = sym (ap items_of c.in_default.ensures.value) in
    let path_is : c.in_ok-from_slice.field-0.items ≡ c.args.path.now = c.in_ok-from_slice.ensures.items in
    let changed : UpdatesBy key_cmp (λ key. slice_cmp nat_cmp c.args.path.now key.items) before c.insert.new.self (Some c.push-2.new.self) =
    subst (λ p. UpdatesBy key_cmp (λ (key : Vec ℕ Global). slice_cmp nat_cmp p key.items) before c.insert.new.self (Some c.push-2.new.self)) path_is c.in_ok-insert.ensures.updates in
    let first : c.push-2.new.self.items ≡ c.args.number ∷ [] = c.in_ok-push-2.ensures.items ∙ ap (λ t. t ++ c.args.number ∷ []) c.new-own.ensures.items in
    subst (λ old. AddsNumber old c.insert.new.self c.args.path.now c.args.number) kept
    (adds-number before c.insert.new.self c.args.path.now c.args.number [] c.push-2.new.self (ap (λ m. numbers_at m c.args.path.now) kept ∙ has) first changed)
