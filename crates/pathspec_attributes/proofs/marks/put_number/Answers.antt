-- A name that has a number gets another, or a first one.
use Rattle.std.proofs.Common.{◌≡◌, subst, rules, ℕ, List, Vec, Some, cond}
use Rattle.std.specs.Global.{Global}
use Rattle.std.specs.Ordering.{nat_cmp}
use Rattle.std.specs.Prelude.{bytes_eq}
use Rattle.std.specs.Cmp.Lexicographic.{slice_cmp}
use Rattle.std.specs.BTreeMap.{UpdatesBy}
use Rattle.pathspec_attributes.specs.Marks.{Numbers, number_of}
use Rattle.pathspec_attributes.proofs.KeyProofs.{key_cmp, value-updates}
use Rattle.pathspec_attributes.proofs.marks.put_number.Goals as goal

-- a name has this number from now on
abbrev Puts : Numbers → Numbers → List ℕ → ℕ → Type 0
Puts old new name number = (other : List ℕ) → number_of new other ≡ cond (bytes_eq name other) (Some number) (number_of old other)

pub returns-in-Some-clause-ok : goal.returns-in-Some-clause-ok
returns-in-Some-clause-ok c = value-updates c.args.numbers.now (c.get_mut.follows.lender c.args.number) c.args.name.now (Some c.args.number) ((c.get_mut.follows.holds c.args.number).3 (search rules))

pub returns-clause-ok : goal.returns-clause-ok
returns-clause-ok c =
    let before = c.get_mut.follows.lender-at-none in
    let kept = c.get_mut.follows.holds-at-none in
    let changed : UpdatesBy key_cmp (λ key. slice_cmp nat_cmp c.args.name.now key.items) before c.insert.new.self (Some c.args.number) =
    subst (λ (p : List ℕ). UpdatesBy key_cmp (λ (key : Vec ℕ Global). slice_cmp nat_cmp p key.items) before c.insert.new.self (Some c.args.number)) c.in_ok-from_slice.ensures.items c.in_ok-insert.ensures.updates in
    subst (λ (old : Numbers). Puts old c.insert.new.self c.args.name.now c.args.number) kept (value-updates before c.insert.new.self c.args.name.now (Some c.args.number) changed)
