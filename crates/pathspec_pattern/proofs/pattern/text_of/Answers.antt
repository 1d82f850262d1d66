-- The type of a slice of bytes says so.
use Rattle.std.proofs.Common.{◌<◌, arith}
use Rattle.std.proofs.lemmas.List.Elements.{All-from_get_or}
use Rattle.pathspec_pattern.proofs.pattern.text_of.Goals as goal

pub returns-clause-bytes : goal.returns-clause-bytes
returns-clause-bytes c = All-from_get_or (λ b. b < 256) c.args.bytes.now 0 (λ i l. let fits = c.type_inv.bytes i in omega (arith, fits))
