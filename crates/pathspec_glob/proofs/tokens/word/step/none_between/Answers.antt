use Rattle.std.proofs.Common.{◌≡◌, ◌-◌, ◌*◌, ◌^◌, ◌%◌, ◌==◌, sym, ◌∙◌, ap, arith, bit_and, w64}
use Rattle.std.specs.Int.{bit_at}
use Rattle.std.proofs.lemmas.Bool.{eqb-true}
use Rattle.std.proofs.lemmas.Nat.Bits.{bit_at_clear_other}
use Rattle.pathspec_glob.proofs.BitProofs.{has-zero}
use Rattle.pathspec_glob.proofs.tokens.word.step.none_between.Goals as goal

pub returns : goal.returns
returns c empty i some below =
    let word = c.args.word in
    let last = c.args.last in
    let behind = bit_and word 18446744073709551614 in
    let none : bit_and behind (18446744073709551615 - 1 * 2 ^ last % 18446744073709551616) ≡ 0 = eqb-true (bit_and behind (18446744073709551615 - 1 * 2 ^ last % 18446744073709551616)) 0 empty in
    let clear_first = bit_at_clear_other w64 word 0 (omega arith) i (omega (arith, below, c.requires)) (λ e. omega (arith, e, some)) in
    let clear_last = bit_at_clear_other w64 behind last c.requires i (omega (arith, below, c.requires)) (λ e. omega (arith, e, below)) in
    ap (λ x. x == 1) (sym clear_first ∙ sym clear_last ∙ ap (λ n. bit_at n i) none) ∙ has-zero i
