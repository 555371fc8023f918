use Rattle.std.proofs.Common.{◌≡◌, drop}
use Rattle.std.specs.Prelude.{find}
use Rattle.hs_shard.specs.Facts.{is_stored_by}
use Rattle.hs_cluster.proofs.work.is_stored.Given as goal

abbrev pub invariant-loop-place : goal.invariant-loop-place
invariant-loop-place l = find (is_stored_by l.number) (drop l.place l.catalogue.blocks) ≡ find (is_stored_by l.number) l.catalogue.blocks
