-- the place that the search finds
use Rattle.std.proofs.Common.{leb, rules, arith, true, false, ◌≡◌, length}
use Rattle.std.proofs.lemmas.List.Sorted.{IsPartitionPoint-from_clause, IsPartitionedBy-leb}
use Rattle.hs_replica.proofs.RunLemmas.{ends_rise, found_at, none_at}
use Rattle.hs_replica.proofs.stamps.view_at.Goals as goal

pub returns-then-place-runs : goal.returns-then-place-runs
returns-then-place-runs c =
    let parted = IsPartitionedBy-leb (λ run. run.end) _ c.args.index (ends_rise _ c.requires) in
    let point = IsPartitionPoint-from_clause (λ run. leb run.end c.args.index) _ _ c.partition_point-place.ensures.partitioned parted (λ a r q k. search rules) in
    found_at _ _ c.args.index c.requires point c.if-place-runs.true _

pub returns-else-place-runs : goal.returns-else-place-runs
returns-else-place-runs c =
    let parted = IsPartitionedBy-leb (λ run. run.end) _ c.args.index (ends_rise _ c.requires) in
    let point = IsPartitionPoint-from_clause (λ run. leb run.end c.args.index) _ _ c.partition_point-place.ensures.partitioned parted (λ a r q k. search rules) in
    none_at _ _ c.args.index c.requires point (omega (arith, c.if-place-runs.false))
