use Rattle.std.proofs.Common.{◌<◌, arith}
use Rattle.std.proofs.lemmas.List.Elements.{All-from_get_or}
use Rattle.pathspec_parts.specs.Paths.{IsBytes}
use Rattle.pathspec_select.proofs.OutlineProofs.{outline_of_none}
use Rattle.pathspec_select.proofs.listing.outline.Outline.new.Goals as goal

all_bytes : (c : goal.After-new-2) → IsBytes c.args.bytes.now
all_bytes c = All-from_get_or (λ b. b < 256) c.args.bytes.now 0 (λ i l. let fits = c.type_inv.bytes i in omega (arith, fits))

pub invariant_of-result : goal.invariant_of-result
invariant_of-result c = (outline_of_none c.args.bytes.now c.args.separator (all_bytes c) c.new.result c.new-2.result c.new.ensures c.new-2.ensures.stack c.new-2.ensures.directories).0

pub returns : goal.returns
returns c = (outline_of_none c.args.bytes.now c.args.separator (all_bytes c) c.new.result c.new-2.result c.new.ensures c.new-2.ensures.stack c.new-2.ensures.directories).1
