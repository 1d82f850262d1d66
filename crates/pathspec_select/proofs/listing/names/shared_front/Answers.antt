use Rattle.pathspec_select.proofs.NameProofs.{shares_none, shares_up_to}
use Rattle.pathspec_select.proofs.listing.names.shared_front.Goals as goal

pub returns-in-Some : goal.returns-in-Some
returns-in-Some c = shares_up_to c.args.directory.now c.args.wanted.now c.common_front.result c.in-Some.end c.common_front.ensures c.in-Some.ensures

pub returns-in-None : goal.returns-in-None
returns-in-None c = shares_none c.args.directory.now c.args.wanted.now
