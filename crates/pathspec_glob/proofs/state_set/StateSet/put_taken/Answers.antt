use Rattle.std.proofs.Common.{◌≡◌, ◌+◌, ◌-◌, ◌*◌, ◌∙◌, refl, sym, ap, arith, bit_and, suc}
use Rattle.pathspec_glob.specs.BitVecs.{holds}
use Rattle.pathspec_glob.proofs.BitProofs.{has-and, has-shr}
use Rattle.pathspec_glob.proofs.StepProofs.{has-but, carried-first, carried-further}
use Rattle.pathspec_glob.proofs.state_set.StateSet.put_taken.Goals as goal

pub returns-clause-puts : goal.returns-clause-puts
returns-clause-puts c =
    let place = c.args.index * 64 in
    let moved = bit_and c.args.taken (18446744073709551615 - c.args.wide) in
    let staying = c.set_word.ensures in
    let entered = c.set_word-2.ensures in
    let same : place + 0 ≡ place = omega arith in
    record {
      first = λ within. sym (ap (holds c.set_word-2.new.self) same) ∙ entered.there 0 (omega arith) (omega (arith, within)) ∙ carried-first moved c.args.carry;
      entered = λ i h within. entered.there (suc i) h within ∙ carried-further moved c.args.carry i c.requires.carry h
          ∙ has-but c.args.taken c.args.wide i (omega (arith, c.ranges.wide.fits)) (omega (arith, h));
      staying = λ i h within. staying.there i h within ∙ has-and c.args.taken c.args.wide i;
      before_entered = entered.before;
      before_staying = staying.before;
      behind_entered = entered.behind;
      behind_staying = staying.behind;
      room = record { entered = entered.len; staying = staying.len };
      from = refl;
      end = refl;
    }

pub returns-clause-next : goal.returns-clause-next
returns-clause-next c =
    let moved = bit_and c.args.taken (18446744073709551615 - c.args.wide) in
    has-shr moved 63 0 ∙ has-but c.args.taken c.args.wide 63 (omega (arith, c.ranges.wide.fits)) (omega arith)
