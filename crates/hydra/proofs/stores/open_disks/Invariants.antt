use Rattle.std.proofs.Common.{◌≡◌, false, vec_len}
use Rattle.std.specs.List.{list_any}
use Rattle.hydra.proofs.stores.open_disks.Given as goal

abbrev pub invariant-loop-peer : goal.invariant-loop-peer
invariant-loop-peer g l = (vec_len l.disks ≡ l.peer) × (list_any (λ disk. disk.is_taken) l.disks.items ≡ false)
