use Rattle.std.proofs.Common.{arith}
use Rattle.std.proofs.lemmas.List.Sums.{prefix_len-le-length}
use Rattle.pathspec_attributes.specs.Lines.{is_blank}
use Rattle.pathspec_attributes.proofs.lines.behind_blanks.Goals as goal

pub split_at-requires : goal.split_at-requires
split_at-requires c = omega (arith, prefix_len-le-length is_blank c.args.text.now)
