use Rattle.std.proofs.Common.{◌≡◌, ◌<◌, ◌-◌, ◌*◌, ◌%◌, ◌==◌, [], ◌∷◌, not, refl, sym, ◌∙◌, ap, arith, get_or, drop, length, ◌+◌, bit_and, bit_or, if◌then◌else◌}
use Rattle.std.proofs.lemmas.Bool.{eq-eqb}
use Rattle.std.proofs.lemmas.List.{drop_more}
use Rattle.std.proofs.Math.ListN.{drop_of_length-le}
use Rattle.pathspec_glob.specs.Bytes.{slash}
use Rattle.pathspec_glob.specs.GlobCells.{has, not_free, set_leads}
use Rattle.pathspec_glob.proofs.CellProofs.{begins-held, first-held, first-self_loops, follows-plain, last-self_loops, leads-end, leads-same, next-held, none-passed, none-self_loops}
use Rattle.pathspec_glob.proofs.tokens.word.step.leads_to_last.Goals.{then-choose_by_slash, else-choose_by_slash}
use Rattle.pathspec_glob.proofs.tokens.word.step.leads_to_last.Goals as goal

pub loop-position-init : goal.loop-position-init
loop-position-init c = record {
  bytes = c.no_tests-tests.ensures.count;
  tokens = c.no_tests-tests.ensures.tokens;
  leads = λ mode case cells end self_loops slash_loops skippable masked size ends held.
      let states = c.args.states in
      let free = 18446744073709551615 - states in
      record {
        first = begins-held states c.args.last 0 c.ranges.states.fits (omega arith) ∙ held;
        leads = leads-same mode case cells end (not_free free free c.args.last) (has states) c.args.text.now
            (λ i h. begins-held states c.args.last i c.ranges.states.fits (omega (arith, h, size, c.requires)));
      };
}

pub loop-position-preserved : goal.loop-position-preserved
loop-position-preserved c = record {
  bytes = omega (arith, c.refused.ensures.count, c.loop-position.invariant.bytes);
  tokens = c.refused.ensures.tokens ∙ c.loop-position.invariant.tokens;
  leads = λ mode case cells end self_loops slash_loops skippable masked size ends held.
      let position = c.loop-position.position in
      let text = c.args.text.now in
      let last = c.args.last in
      let byte = get_or text position 0 in
      let row = c.refused.result in
      let free = c.loop-position.free in
      let freed = bit_or free row * 2 % 18446744073709551616 in
      let kept = if byte == slash then slash_loops else self_loops in
      let next : drop position text ≡ byte ∷ drop (position + 1) text = drop_more text position 0 c.loop-position-test.true in
      let fits : byte < 256 = omega (arith, c.type_inv.text position) in
      let before = c.loop-position.invariant.leads mode case cells end self_loops slash_loops skippable masked size ends held in
      let at_last : c.choose_by_slash.result ≡ has kept last = c.choose_by_slash.ensures ∙ last-self_loops self_loops slash_loops skippable last byte c.args.last_loops c.args.last_loops_at_slash ends in
      let ended : c.if-choose_by_slash.end ≡ (if c.choose_by_slash.result then bit_and c.loop-position.end freed else freed) = elim c.if-choose_by_slash.branch [
        | then-choose_by_slash w ↦ rw w.if-choose_by_slash.true w.end-is
        | else-choose_by_slash w ↦ rw w.if-choose_by_slash.false w.end-is
      ] in
      let first = first-held c.loop-position.end (bit_or free row) last c.choose_by_slash.result in
      let between = none-self_loops self_loops slash_loops skippable last byte c.args.last_loops c.args.last_loops_at_slash ends in
      rw ended record {
        first = first;
        leads = follows-plain mode case cells end (not_free free c.loop-position.end last) (λ i. not (has row i)) (has kept) (has skippable)
            (not_free freed (if c.choose_by_slash.result then bit_and c.loop-position.end freed else freed) last) byte (drop (position + 1) text)
            (rw (sym c.refused.ensures.answer) at (masked.rules byte fits))
            (rw (before.first, first-self_loops self_loops slash_loops skippable last byte c.args.last_loops c.args.last_loops_at_slash ends) first)
            (λ i h. next-held free c.loop-position.end row last c.choose_by_slash.result (has kept) c.requires between at_last i (omega (arith, h, size)))
            (λ i h. none-passed skippable i ends.passed)
            ∙ ap (set_leads mode case cells end (not_free free c.loop-position.end last)) (sym next)
            ∙ before.leads;
      };
}

pub returns-clause-leads : goal.returns-clause-leads
returns-clause-leads c mode case cells end self_loops slash_loops skippable masked size ends held =
    let text = c.args.text.now in
    let last = c.args.last in
    let states = not_free c.loop-position.free c.loop-position.end last in
    let before = c.loop-position.invariant.leads mode case cells end self_loops slash_loops skippable masked size ends held in
    let ended : drop c.loop-position.position text ≡ [] = drop_of_length-le text {i = c.loop-position.position} c.loop-position-test.false in
    let held_last : not (has c.loop-position.end last) ≡ states (length cells) = rw (size, eq-eqb last last refl) refl in
    ap not c.holds.ensures ∙ held_last ∙ sym (leads-end mode case cells end states) ∙ ap (set_leads mode case cells end states) (sym ended) ∙ before.leads
