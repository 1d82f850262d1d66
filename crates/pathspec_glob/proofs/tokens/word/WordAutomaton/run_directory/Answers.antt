use Rattle.std.proofs.Common.{◌<◌, [], ◌∷◌, ◌++◌, sym, ◌∙◌, arith}
use Rattle.pathspec_glob.specs.Bytes.{slash}
use Rattle.pathspec_glob.specs.GlobCells.{cells_of, loop_behind, cell_count}
use Rattle.pathspec_glob.specs.GlobCells.SelfLoop.{Nothing}
use Rattle.pathspec_glob.proofs.TokenCells.{cells-match}
use Rattle.pathspec_glob.proofs.WordProofs.{masked, length-cells_of, alternates-loop}
use Rattle.pathspec_glob.proofs.tokens.word.WordAutomaton.run_directory.Goals as goal

pub returns-clause-answer : goal.returns-clause-answer
returns-clause-answer c parts is =
    let word = c.args.self.now in
    let rows = c.table.result.now.rows.items in
    let few : cell_count parts.tokens < 64 = omega (arith, is.last, word.last_within) in
    c.run_directory.ensures.answer parts.mode c.args.case (cells_of parts.mode Nothing parts.tokens) (loop_behind Nothing parts.tokens)
    (masked parts c.args.case rows word.self_loops word.slash_loops word.skippable few is.alternate (c.table.ensures.table parts is) is.self_loops is.slash_loops is.skippable is.apart)
    (length-cells_of parts.mode Nothing parts.tokens ∙ sym is.last)
    ∙ sym (cells-match parts.mode c.args.case Nothing parts.tokens (alternates-loop Nothing parts.tokens is.alternate) (c.args.directory.now ++ slash ∷ []))
