use Rattle.std.proofs.Common.{is_none, sym, rules}
use Rattle.std.proofs.lemmas.List.Sorted.{IsPartitionPoint-from_clause}
use Rattle.hs_roots.specs.declared.root.RootRecord.{RootRecord}
use Rattle.hs_roots.specs.ByKey.{is_upto}
use Rattle.hs_roots.proofs.ByKeyLemmas.{count_front, standing_from, upto_is_front}
use Rattle.hs_roots.proofs.root_set.count_upto.Goals as goal

pub returns : goal.returns
returns c =
    let roots = c.args.records.now in
    let key = c.args.key.now in
    let parted = upto_is_front (λ (root : RootRecord). root.key) (λ (root : RootRecord). is_none root.dropped) key roots (standing_from (λ (root : RootRecord). root.key) (λ (root : RootRecord). is_none root.dropped) roots c.requires) in
    let point = IsPartitionPoint-from_clause (λ (root : RootRecord). is_upto root.key key) _ _ c.partition_point.ensures.partitioned parted (λ a r q k. search rules) in
    sym (count_front (λ (root : RootRecord). is_upto root.key key) roots c.partition_point.result c.partition_point.ensures.bound point.0 point.1)
