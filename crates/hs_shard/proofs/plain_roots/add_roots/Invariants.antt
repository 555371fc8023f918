use Rattle.std.proofs.Common.{◌≡◌, drop}
use Rattle.hs_shard.specs.Adding.{RiseInOrder, listed_roots}
use Rattle.hs_shard.specs.Plain.{add_roots}
use Rattle.hs_shard.proofs.plain_roots.add_roots.Given as goal

abbrev pub invariant-loop-record : goal.invariant-loop-record
invariant-loop-record l = record {
  value : add_roots (drop l.record-index l.records) (listed_roots l.placed.items) ≡ add_roots l.records (listed_roots l.initial.placed.items);
  ordered : RiseInOrder l.placed.items;
}
