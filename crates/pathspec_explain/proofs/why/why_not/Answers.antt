-- What is left is where the path parts.
use Rattle.pathspec_explain.proofs.why.why_not.Goals as goal

pub returns-clause-reason : goal.returns-clause-reason
returns-clause-reason c = λ table. c.where_it_parts.ensures table c.args.is_dir c.requires.unfit
