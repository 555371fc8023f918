use Rattle.std.proofs.Common.{◌≡◌, true, vec_len}
use Rattle.std.specs.List.{list_all}
use Rattle.hydra.proofs.stores.taken_disks.Given as goal

abbrev pub invariant-loop : goal.invariant-loop
invariant-loop l = (vec_len l.disks ≡ l.counter) × (list_all (λ disk. disk.is_taken) l.disks.items ≡ true)
