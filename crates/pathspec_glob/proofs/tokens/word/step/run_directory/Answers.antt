use Rattle.std.proofs.Common.{◌≡◌, ℕ, List, false, inl, inr, [], ◌∷◌, ◌++◌, ◌<◌, ◌-◌, ◌*◌, ◌%◌, not, refl, sym, ◌∙◌, ap, arith, get_or, drop, length, bit_and}
use Rattle.std.proofs.lemmas.Bool.{cases_lt}
use Rattle.std.proofs.Math.ListN.{drop_of_length-le}
use Rattle.pathspec_glob.proofs.Words.{slash, Mode, Case}
use Rattle.pathspec_glob.specs.GlobCells.{has, set_leads, cells_match, Cell, SelfLoop, Masked}
use Rattle.pathspec_glob.proofs.BitProofs.{has_not, has-zero}
use Rattle.pathspec_glob.proofs.CellProofs.{leads-end, leads-none, rules-same, set-begins}
use Rattle.pathspec_glob.proofs.tokens.word.step.run_directory.Goals.{After-reach-reached}
use Rattle.pathspec_glob.proofs.tokens.word.step.run_directory.Goals as goal

-- the places behind the directory lead by the slash to what the cells match
decides : (c : After-reach-reached) (mode : Mode) (case : Case) (cells : List Cell) (end : SelfLoop) → Masked mode case cells end c.args.table.now.rows.items c.args.self_loops c.args.slash_loops c.args.skippable
    → set_leads mode case cells end (has c.reach-reached.result.states) (drop c.reach-reached.result.tests.count c.args.directory.now ++ slash ∷ []) ≡ cells_match mode case cells end (c.args.directory.now ++ slash ∷ [])
decides c mode case cells end masked =
    c.reach-reached.ensures.leads mode case cells end c.args.skippable (slash ∷ []) masked refl
    ∙ set-begins mode case cells end (λ i. not (has (get_or c.args.table.now.rows.items 0 0) i)) c.args.self_loops c.args.skippable (bit_and 1 c.args.skippable * 2 % 18446744073709551616) c.enter-from.result 0
    (c.args.directory.now ++ slash ∷ []) masked.few (masked.rules 0 (omega arith)) masked.apart refl c.enter-from.ensures

pub returns-then-states-eq0-clause-answer : goal.returns-then-states-eq0-clause-answer
returns-then-states-eq0-clause-answer c mode case cells end masked size =
    let states = c.reach-reached.result.states in
    let none : (i : ℕ) → has states i ≡ false = λ i. rw c.if-states-eq0.true (has-zero i) in
    sym (leads-none mode case cells end (has states) _ none) ∙ decides (goal.at.returns-then-states-eq0-clause-answer c).After-reach-reached mode case cells end masked

-- where a place is left, the whole directory was read
all-read : (c : After-reach-reached) → (c.reach-reached.result.states ≡ 0 → ⊥) → c.reach-reached.result.tests.count ≡ length c.args.directory.now
all-read c some = elim (cases_lt c.reach-reached.result.tests.count (length c.args.directory.now)) [
  | inl h ↦ absurd (some (c.reach-reached.ensures.halted h))
  | inr h ↦ omega (arith, h, c.reach-reached.ensures.most)
]

pub returns-clause-answer : goal.returns-clause-answer
returns-clause-answer c mode case cells end masked size =
    let here = (goal.at.returns-clause-answer c).After-reach-reached in
    let directory = c.args.directory.now in
    let states = c.reach-reached.result.states in
    let row = c.refused-taken.result in
    let read = all-read here (λ none. omega (arith, none, c.if-states-eq0.false)) in
    let ended : drop c.reach-reached.result.tests.count directory ≡ [] = drop_of_length-le directory {i = c.reach-reached.result.tests.count} (omega (arith, read)) in
    let taken : (i : ℕ) → i < length cells → not (has row i) ≡ has (18446744073709551615 - row) i =
    λ i h. sym (has_not row i c.refused-taken.type_inv (omega (arith, h, masked.few))) in
    let rules = rules-same mode case cells end (λ i. not (has row i)) (has (18446744073709551615 - row)) (has c.args.slash_loops) (has c.args.skippable) slash taken
    (rw (sym c.refused-taken.ensures.answer) at (masked.rules slash (omega arith))) in
    c.holds.ensures ∙ rw (sym size) (sym (leads-end mode case cells end (has c.advance-states.result)))
    ∙ c.advance-states.ensures mode case cells end c.args.skippable slash [] masked.few rules masked.apart refl
    ∙ ap (λ behind. set_leads mode case cells end (has states) (behind ++ slash ∷ [])) (sym ended)
    ∙ decides here mode case cells end masked
