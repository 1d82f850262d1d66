-- One more name is written; there is one at each index of the stack.
use Rattle.std.proofs.Common.{sym, ◌∙◌, ap, [], arith}
use Rattle.std.proofs.lemmas.Option.{slice_get-get_or}
use Rattle.bstr.specs.BStr.{bstr_bytes}
use Rattle.pathspec_pattern.proofs.JoinProofs.{join_names-more}
use Rattle.pathspec_pattern.proofs.pattern.normalize.write_names.Goals.{in-Some+in_ok-write_name, in_default}
use Rattle.pathspec_pattern.proofs.pattern.normalize.write_names.Goals as goal

pub loop-index-preserved : goal.loop-index-preserved
loop-index-preserved c = elim c.match-get.branch [
  | in-Some+in_ok-write_name w ↦
      ap (λ path. path.items) w.path-is ∙ join_names-more c.args.stack.now.names c.loop-index.index (bstr_bytes w.in-Some.name) _ _ c.loop-index.invariant w.in_ok-write_name.ensures (sym w.in-Some.ensures)
  | in_default w ↦ let none = w.in_default.ensures in let some = slice_get-get_or c.args.stack.now.names c.loop-index.index [] (omega (arith, c.loop-index-test.true, c.requires.within)) in cc
]
