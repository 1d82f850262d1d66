-- A comma, where pieces stand already, and the length.
use Rattle.std.proofs.lemmas.Bool.{ne_eqb}
use Rattle.std.proofs.lemmas.Result.{on_ok_weaker}
use Rattle.pathspec_pattern.proofs.LongTextProofs.{prefix-after}
use Rattle.pathspec_pattern.proofs.pattern.long_text.write_prefix.Goals as goal

pub returns : goal.returns
returns c words h =
    on_ok_weaker c.write_number.result
    (λ written. prefix-after c.args.length c.args.text.now.items c.write_comma.new.text.items c.extend_from_slice.new.self.items c.write_number.new.text.items words h (ne_eqb c.args.length 0 c.if-length-eq0.false) c.in_ok-write_comma.ensures c.in_ok-extend_from_slice.ensures.items written)
    c.write_number.ensures
