use Rattle.std.proofs.Common.{sym}
use Rattle.pathspec_glob.specs.Bytes.{is_wildcard}
use Rattle.pathspec_glob.proofs.StemProofs.{none_before}
use Rattle.pathspec_glob.proofs.matcher.split_at_star.Goals as goal

pub returns-in-42-clause-plain : goal.returns-in-42-clause-plain
returns-in-42-clause-plain c =
    rw c.split_at.ensures.front (none_before is_wildcard c.args.pattern.now c.in_ok-first_wildcard.field-0 (sym c.in_ok-first_wildcard.ensures.place))
