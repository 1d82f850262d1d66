use Rattle.std.proofs.Common.{◌<◌, ◌∙◌, sym, arith, false, length}
use Rattle.std.proofs.lemmas.List.{get_or_default}
use Rattle.pathspec_glob_set.proofs.table.Table.is_sink.Goals as goal

pub returns-clause-sink : goal.returns-clause-sink
returns-clause-sink c known =
    let table = c.args.self.now in
    let was = c.requires.table in
    let low : c.args.row < length table.sinks.items = omega (arith, c.requires.row, was.rows.within, was.sinks.alike) in
    was.sinks.stay c.args.row c.requires.row (sym (c.index.ensures ∙ get_or_default table.sinks.items c.args.row _ false low) ∙ known)
