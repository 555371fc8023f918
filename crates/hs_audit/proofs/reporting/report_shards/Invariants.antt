-- So far, the lines of the first shards are written.
use Rattle.std.proofs.Common.{◌≡◌, ◌++◌}
use Rattle.std.specs.List.{flat_map, range_with_len}
use Rattle.hs_audit.specs.Text.{shard_line}
use Rattle.hs_model.specs.Plain.{plain_of}
use Rattle.hs_audit.proofs.reporting.report_shards.Given as goal

abbrev pub invariant-loop-shard : goal.invariant-loop-shard
invariant-loop-shard l = l.text.items ≡ l.initial.text.items ++ flat_map (shard_line (plain_of l.store)) (range_with_len 0 l.shard)
