use Rattle.std.proofs.Common.{◌≡◌, ℕ, ◌+◌, ◌<◌, true, false, cond, not, List, [], ◌∷◌, ◌++◌, arith, sym, ap, subst, ◌∙◌}
use Rattle.std.specs.Prelude.{Contains, is_ok}
use Rattle.pathspec_glob.specs.Bytes.{is_one_of}
use Rattle.pathspec_parts.specs.Cursors.{append_if}
use Rattle.pathspec_parts.proofs.tree.steps.push_once.Goals as goal

pub has_last-requires-clause-below : goal.has_last-requires-clause-below
has_last-requires-clause-below c = subst (λ (xs : List ℕ). (m : ℕ) → Contains xs m → m < c.args.number + 1) (sym c.deref.ensures.value) c.requires.below

pub returns-clause-items : goal.returns-clause-items
returns-clause-items c =
    let xs : List ℕ = c.args.numbers.now.items in
    let f : is_one_of xs c.args.number ≡ false = ap (λ (t : List ℕ). is_one_of t c.args.number) (sym c.deref.ensures.value) ∙ (sym c.has_last.ensures ∙ c.if-has_last.false) in
    let room = c.requires.room f in
    let ok : is_ok c.push.result ≡ true = c.push.ensures.succeeds (omega (arith, room, c.args.numbers.now.ok.0)) in
    c.push.ensures.items ∙ (ap (λ b. cond b (xs ++ c.args.number ∷ []) xs) ok ∙ ap (λ b. append_if (not b) c.args.number xs) (sym f))
