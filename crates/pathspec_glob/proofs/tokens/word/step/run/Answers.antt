use Rattle.std.proofs.Common.{◌≡◌, ◌<◌, ◌*◌, ◌/◌, ◌%◌, ◌++◌, [], true, not, refl, sym, ◌∙◌, arith, get_or, drop, length, bit_and}
use Rattle.std.proofs.lemmas.List.{append-nil}
use Rattle.pathspec_glob.specs.GlobCells.{has, set_leads, LoopAtEnds}
use Rattle.pathspec_glob.proofs.BitProofs.{has-or}
use Rattle.pathspec_glob.proofs.CellProofs.{leads-rest, set-begins}
use Rattle.pathspec_glob.proofs.tokens.word.step.run.Goals.{in-Plain, in-Plain-2, in-Any}
use Rattle.pathspec_glob.proofs.tokens.word.step.run.Goals as goal

pub returns-in-Ends-clause-answer : goal.returns-in-Ends-clause-answer
returns-in-Ends-clause-answer c mode case cells end loop_kind masked size =
    let skippable = c.args.skippable in
    let over = bit_and 1 skippable * 2 % 18446744073709551616 in
    let ends : LoopAtEnds c.args.self_loops c.args.slash_loops skippable c.args.last c.in-Ends.last_loops c.in-Ends.last_loops_at_slash = rw c.in-Ends.is at loop_kind in
    let first : has c.enter-from.result 0 ≡ true = rw c.enter-from.ensures (has-or 1 over 0) in
    c.accepts.ensures.leads mode case cells end c.args.self_loops c.args.slash_loops skippable masked size ends first
    ∙ set-begins mode case cells end (λ i. not (has (get_or c.args.table.now.rows.items 0 0) i)) c.args.self_loops skippable over c.enter-from.result 0 c.args.text.now masked.few (masked.rules 0 (omega arith)) masked.apart refl c.enter-from.ensures

pub returns-clause-answer : goal.returns-clause-answer
returns-clause-answer c mode case cells end loop_kind masked size =
    let text = c.args.text.now in
    let reached = c.match-loop_kind.states in
    let halted : reached.tests.count < length text → reached.states ≡ 0 = elim c.match-loop_kind.branch [
      | in-Plain w ↦ rw w.states-is w.reach.ensures.halted
      | in-Plain-2 w ↦ rw w.states-is w.reach-in-Plain-2.ensures.halted
      | in-Any w ↦ rw w.states-is w.reach-in-Any.ensures.halted
    ] in
    let leads_on : set_leads mode case cells end (has reached.states) (drop reached.tests.count text ++ []) ≡ set_leads mode case cells end (has c.enter-from.result) (text ++ []) = elim c.match-loop_kind.branch [
      | in-Plain w ↦
          let passed : c.args.skippable / 2 ≡ 0 = rw w.in-Plain.is at loop_kind in
          rw w.states-is (w.reach.ensures.leads mode case cells end c.args.skippable [] (rw w.if-self_loops-slash_loops.true (rw w.if-self_loops-slash_loops.true at masked)) (sym passed))
      | in-Plain-2 w ↦
          let passed : c.args.skippable / 2 ≡ 0 = rw w.in-Plain-2.is at loop_kind in
          rw w.states-is (w.reach-in-Plain-2.ensures.leads mode case cells end c.args.skippable [] masked (sym passed))
      | in-Any w ↦ rw w.states-is (w.reach-in-Any.ensures.leads mode case cells end c.args.skippable [] masked refl)
    ] in
    let leads : set_leads mode case cells end (has reached.states) (drop reached.tests.count text) ≡ set_leads mode case cells end (has c.enter-from.result) text =
    rw (append-nil (drop reached.tests.count text), append-nil text) at leads_on in
    let begins = set-begins mode case cells end (λ i. not (has (get_or c.args.table.now.rows.items 0 0) i)) c.args.self_loops c.args.skippable (bit_and 1 c.args.skippable * 2 % 18446744073709551616) c.enter-from.result 0 text masked.few (masked.rules 0 (omega arith)) masked.apart refl c.enter-from.ensures in
    c.holds.ensures ∙ rw (sym size) (sym (leads-rest mode case cells end reached.states reached.tests.count text halted) ∙ leads ∙ begins)
