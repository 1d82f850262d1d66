-- The refusal tells the fault of the reading.
use Rattle.pathspec_select.proofs.WordProofs.{tells-refused, reading-is}
use Rattle.pathspec_select.proofs.words.parse_word.Goals as goal

pub returns-in-Err : goal.returns-in-Err
returns-in-Err c =
    let read = reading-is c.args.defaults _ c.as_bytes.result.now c.as_bytes.ensures.value in
    tells-refused c.args.number c.in-Err.error c.of_spec.result _ _ read c.in-Err.ensures.exact c.of_spec.ensures
