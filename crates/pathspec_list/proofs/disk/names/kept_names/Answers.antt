-- Once the split gives no more, its pieces so far are all of those between the ends.
use Rattle.std.proofs.Common.{rules, tests, ◌∙◌, ap}
use Rattle.std.specs.List.{filter}
use Rattle.std.specs.Slice.Iter.{split_rest, split_done, split_callee}
use Rattle.std.proofs.lemmas.Iterator.Consumers.{YieldsList-end}
use Rattle.std.proofs.lemmas.Iterator.Splits.{YieldsList-from_slice_split}
use Rattle.pathspec_list.specs.Names.{is_end, is_kept}
use Rattle.pathspec_list.proofs.disk.names.kept_names.Goals as goal

pub returns : goal.returns
returns c =
    let end = YieldsList-end (YieldsList-from_slice_split _ is_end c.args.bytes.now (ap (λ s. split_rest s) c.into_iter-name-iterator.ensures.into_iter_gives ∙ c.split-name-items.ensures.rest) (ap (λ s. split_done s) c.into_iter-name-iterator.ensures.into_iter_gives ∙ c.split-name-items.ensures.done) (ap (λ s. split_callee s) c.into_iter-name-iterator.ensures.into_iter_gives ∙ c.split-name-items.ensures.closure) (λ x b q k. search (rules, tests))) c.loop-name.yielded _ c.loop-name.yielded_by _ _ c.in-None.is c.next.ensures.steps in
    c.loop-name.invariant ∙ ap (filter is_kept) end.0
