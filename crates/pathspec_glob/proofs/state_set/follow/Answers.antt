use Rattle.pathspec_glob.proofs.ClosureProofs.{has_follow, follow_more}
use Rattle.pathspec_glob.proofs.state_set.follow.Goals as goal

pub returns-clause-follow : goal.returns-clause-follow
returns-clause-follow c i h = has_follow c.args.states c.args.staying c.args.wide c.args.skippable i h

pub returns-clause-more : goal.returns-clause-more
returns-clause-more c = follow_more c.args.states _ _
