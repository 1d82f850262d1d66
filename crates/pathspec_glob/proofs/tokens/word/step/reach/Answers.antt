use Rattle.std.proofs.Common.{◌≡◌, ℕ, ◌<◌, ◌-◌, ◌==◌, not, if◌then◌else◌, ◌∷◌, ◌++◌, sym, ◌∙◌, ap, arith, get_or, drop, length, ◌+◌}
use Rattle.std.proofs.lemmas.List.{drop_more}
use Rattle.pathspec_glob.specs.Bytes.{slash}
use Rattle.pathspec_glob.specs.GlobCells.{has, set_leads}
use Rattle.pathspec_glob.proofs.BitProofs.{has_not}
use Rattle.pathspec_glob.proofs.CellProofs.{rules-same}
use Rattle.pathspec_glob.proofs.tokens.word.step.reach.Goals as goal

pub loop-position-preserved : goal.loop-position-preserved
loop-position-preserved c = record {
  bytes = omega (arith, c.refused.ensures.count, c.loop-position.invariant.bytes);
  tokens = c.refused.ensures.tokens ∙ c.loop-position.invariant.tokens;
  leads = λ mode case cells end all rest masked same.
      let position = c.loop-position.position in
      let text = c.args.text.now in
      let byte = get_or text position 0 in
      let next : drop position text ≡ byte ∷ drop (position + 1) text = drop_more text position 0 c.loop-position-test.true in
      let fits : byte < 256 = omega (arith, c.type_inv.text position) in
      let row = c.refused.result in
      let taken : (i : ℕ) → i < length cells → not (has row i) ≡ has (18446744073709551615 - row) i =
      λ i h. sym (has_not row i c.refused.type_inv (omega (arith, h, masked.few))) in
      let kept = has (if byte == slash then c.args.slash_loops else c.args.self_loops) in
      let rules = rules-same mode case cells end (λ i. not (has row i)) (has (18446744073709551615 - row)) kept (has all) byte taken (rw (sym c.refused.ensures.answer) at (masked.rules byte fits)) in
      c.advance-states.ensures mode case cells end all byte (drop (position + 1) text ++ rest) masked.few (rw c.choose_by_slash.ensures rules) masked.apart same
      ∙ ap (λ behind. set_leads mode case cells end (has c.loop-position.states) (behind ++ rest)) (sym next)
      ∙ c.loop-position.invariant.leads mode case cells end all rest masked same;
}

pub returns-clause-leads : goal.returns-clause-leads
returns-clause-leads c mode case cells end all rest masked same =
    rw c.loop-position.invariant.bytes (c.loop-position.invariant.leads mode case cells end all rest masked same)
