use Rattle.std.proofs.Common.{◌*◌, ◌%◌, bit_and, bit_or, refl, ap}
use Rattle.pathspec_glob.proofs.CellProofs.{word-follows}
use Rattle.pathspec_glob.proofs.tokens.word.step.advance.Goals as goal

pub returns : goal.returns
returns c mode case cells last all b bs few rules apart same =
    let come = bit_and c.args.states c.args.taken * 2 % 18446744073709551616 in
    let over = bit_and come c.args.skippable * 2 % 18446744073709551616 in
    word-follows mode case cells last c.args.states c.args.taken c.args.self_loops c.args.skippable all come over (bit_or c.enter.result (bit_and c.args.states c.args.self_loops)) b bs few rules apart same refl refl (ap (λ x. bit_or x (bit_and c.args.states c.args.self_loops)) c.enter.ensures)
