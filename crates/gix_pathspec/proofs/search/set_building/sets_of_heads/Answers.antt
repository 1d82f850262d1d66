-- No wildcard byte stands in the heads of specs, and where no four specs share a head there is no set.
use Rattle.std.proofs.Common.{◌<◌, ◌∙◌, arith, sym, subst}
use Rattle.gix_pathspec.specs.HeadSets.{AreHeadSetsOf}
use Rattle.gix_pathspec.specs.SetSources.{all_sources, ArePlain}
use Rattle.gix_pathspec.proofs.KeptSetsProofs.{all-plain}
use Rattle.gix_pathspec.proofs.LargestGroupProofs.{no-sets-made}
use Rattle.gix_pathspec.proofs.search.set_building.sets_of_heads.Goals as goal

pub returns-then-largest_group-lt-FEWEST-clause-own : goal.returns-then-largest_group-lt-FEWEST-clause-own
returns-then-largest_group-lt-FEWEST-clause-own c =
    let few : c.largest_group.result < 4 = omega (arith, c.if-largest_group-lt-FEWEST.true) in
    subst (AreHeadSetsOf (all_sources c.args.specs.now)) (sym c.new.ensures.items)
    (no-sets-made c.args.specs.now c.args.heads.now c.requires c.largest_group.ensures.order c.largest_group.result c.largest_group.ensures.largest few)

pub head_sets-requires : goal.head_sets-requires
head_sets-requires c = record { plain = subst ArePlain (sym (c.deref.ensures.value ∙ c.in_ok-sources.ensures)) (all-plain c.args.specs.now) }
