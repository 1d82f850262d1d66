use Rattle.std.proofs.Common.{arith, bit_or}
use Rattle.pathspec_glob.specs.declared.state_set.StateSet.{StateSet}
use Rattle.pathspec_glob.proofs.ClosureProofs.{word-closes, closes-word}
use Rattle.pathspec_glob.proofs.state_set.StateSet.close_word.Goals as goal

pub returns-clause-closes : goal.returns-clause-closes
returns-clause-closes c parts moves =
    let old = c.args.self.now in
    let new : StateSet = record { entered = c.set_word.new.self; staying = old.staying; first = old.first; end = old.end } in
    let rows = c.args.moves.now in
    let closure = c.closure-states.ensures in
    let put = c.set_word.ensures in
    closes-word parts c.args.index c.args.carry (bit_or c.word.result c.args.carry) c.word-staying.result c.word-wide.result c.word-skippable.result c.closure-states.result old new
    (word-closes parts c.args.index c.args.carry c.word.result c.word-staying.result c.word-wide.result c.word-skippable.result c.closure-states.result
    old.entered c.set_word.new.self old.staying rows.wide rows.skippable
    (omega (arith, moves.len, c.requires.room.entered)) (omega (arith, moves.len, c.requires.room.staying)) moves.len rows.one_size
    c.ranges.carry.fits c.word-wide.type_inv c.word-skippable.type_inv
    moves.wide moves.skippable
    c.word.ensures c.word-staying.ensures c.word-wide.ensures c.word-skippable.ensures
    closure.includes closure.closed closure.least
    put.there put.before put.behind)
