-- So far, the front of the addresses is read.
use Rattle.std.proofs.Common.{◌≡◌, ◌-◌, ◌*◌, ◌++◌, length}
use Rattle.hs_limits.specs.Reading.{addresses}
use Rattle.hs_shard.proofs.catalogue.clients.addresses_of.Given as goal

abbrev pub invariant-loop : goal.invariant-loop
invariant-loop l = record {
  items : l.pointers.items ++ addresses (l.count - l.counter) l.rest ≡ addresses l.count l.bytes;
  whole : length l.rest ≡ 32 * (l.count - l.counter);
}
