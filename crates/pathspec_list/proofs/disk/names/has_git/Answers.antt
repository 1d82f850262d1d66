-- The pieces that the split gives are those between the ends.
use Rattle.std.proofs.Common.{rules, tests}
use Rattle.std.proofs.lemmas.Iterator.Search.{any_from_yields_List}
use Rattle.std.proofs.lemmas.Iterator.Splits.{YieldsList-from_slice_split}
use Rattle.pathspec_list.specs.Names.{is_git, is_end}
use Rattle.pathspec_list.proofs.disk.names.has_git.Goals as goal

pub returns : goal.returns
returns c =
    any_from_yields_List is_git _ _ c.any.result c.any.ensures.ran (YieldsList-from_slice_split _ is_end c.args.names.now c.split.ensures.rest c.split.ensures.done c.split.ensures.closure (λ x b q k. search (rules, tests)))
    (λ x b q k. search (rules, tests))
