use Rattle.std.proofs.Common.{rules, ltb}
use Rattle.std.proofs.lemmas.List.Sorted.{IsPartitionPoint-from_clause, IsPartitionedBy-ltb}
use Rattle.pathspec_heads.proofs.NextProofs.{next-found, next-none}
use Rattle.pathspec_heads.proofs.places.next_of_any.Goals as goal

pub returns-then-at-places : goal.returns-then-at-places
returns-then-at-places c =
    next-found c.args.places.now c.args.from c.partition_point-at.result c.requires
    (IsPartitionPoint-from_clause (λ y. ltb y c.args.from) c.args.places.now c.partition_point-at.result c.partition_point-at.ensures.partitioned (IsPartitionedBy-ltb (λ x. x) c.args.places.now c.args.from c.requires) (λ a r q k. search rules))
    c.if-at-places.true

pub returns-else-at-places : goal.returns-else-at-places
returns-else-at-places c =
    next-none c.args.places.now c.args.from c.partition_point-at.result c.requires
    (IsPartitionPoint-from_clause (λ y. ltb y c.args.from) c.args.places.now c.partition_point-at.result c.partition_point-at.ensures.partitioned (IsPartitionedBy-ltb (λ x. x) c.args.places.now c.args.from c.requires) (λ a r q k. search rules))
    c.if-at-places.false
