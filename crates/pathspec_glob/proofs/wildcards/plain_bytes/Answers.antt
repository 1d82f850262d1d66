use Rattle.std.proofs.Common.{◌≤◌, ◌-◌, arith, length}
use Rattle.std.proofs.lemmas.List.Sums.{prefix_len-le-length}
use Rattle.std.specs.List.{position_or_len}
use Rattle.pathspec_glob.specs.Bytes.{is_wildcard}
use Rattle.pathspec_glob.proofs.BracketProofs.{first-drop}
use Rattle.pathspec_glob.proofs.wildcards.plain_bytes.Goals as goal

pub returns-then-plain-lt-LANES : goal.returns-then-plain-lt-LANES
returns-then-plain-lt-LANES c =
    omega (arith, first-drop is_wildcard c.args.text.now c.loop-at.at c.loop-at.invariant, c.plain_lanes-plain.ensures)

pub loop-at-preserved : goal.loop-at-preserved
loop-at-preserved c =
    omega (arith, first-drop is_wildcard c.args.text.now c.loop-at.at c.loop-at.invariant, c.plain_lanes-plain.ensures)

pub returns : goal.returns
returns c =
    let text = c.args.text.now in
    let within : position_or_len is_wildcard text ≤ length text = prefix_len-le-length _ text in
    omega (arith, first-drop is_wildcard text (length text - 16) (omega arith), c.plain_lanes.ensures)
