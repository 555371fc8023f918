use Rattle.std.proofs.Common.{◌≡◌, ◌≤◌, ◌*◌, take}
use Rattle.std.specs.Prelude.{length, sum_by}
use Rattle.hs_load.proofs.counting.blocks_in.Given as goal

abbrev pub invariant-loop-shard : goal.invariant-loop-shard
invariant-loop-shard l = record {
  sum : l.sum ≡ sum_by (λ c. length c.blocks) (take l.shard l.core.catalogues);
  fits : l.sum ≤ l.shard * 4294967296;
}
