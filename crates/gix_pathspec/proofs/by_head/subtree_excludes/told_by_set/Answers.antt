-- The set tells only of a directory that no wildcard byte begins.
use Rattle.std.proofs.Common.{◌+◌, ◌*◌, not, sym, ◌∙◌, subst, length}
use Rattle.std.proofs.lemmas.Bool.{and_parts, not-true}
use Rattle.gix_pathspec.specs.EndBytes.{has_wildcard_at}
use Rattle.gix_pathspec.specs.SetCounts.{set_total, GrowsBy}
use Rattle.gix_pathspec.specs.Sets.{places_of}
use Rattle.gix_pathspec.proofs.ExcludeMadeProofs.{few-steps}
use Rattle.gix_pathspec.proofs.SetCountsProofs.{grows-few}
use Rattle.gix_pathspec.proofs.by_head.subtree_excludes.told_by_set.Goals as goal

pub returns-clause-answer : goal.returns-clause-answer
returns-clause-answer c excludes own bytes = c.covers_by_set.ensures.answer excludes (own c.in-Some-set.set c.in-Some-set.is) bytes

pub returns-clause-plain : goal.returns-clause-plain
returns-clause-plain c told =
    let d = c.args.directory.now in
    not-true (has_wildcard_at d 0) (and_parts (not (has_wildcard_at d 0)) (not c.covers_by_set.new.gave_up) (sym c.covers_by_set.ensures.told ∙ told)).0

pub returns-clause-few : goal.returns-clause-few
returns-clause-few c sources own =
    let is = own c.in-Some-set.set c.in-Some-set.is in
    let new = c.covers_by_set.new.scratch in
    let most = (length c.args.directory.now + 1) * (places_of sources + 2) + length sources in
    subst (λ set. GrowsBy most (set_total set) new.total) (sym c.in-Some-set.is)
    (grows-few _ most c.in-Some-set.set.total new.total (few-steps c.args.directory.now sources c.in-Some-set.set is) c.covers_by_set.ensures.few)
