-- So far, the front of the deltas is written.
use Rattle.std.proofs.Common.{◌≡◌, ◌+◌, ◌-◌, ◌*◌, ◌≤◌, ◌++◌, length, take, vec_len, vec_capacity}
use Rattle.std.specs.List.{flat_map}
use Rattle.hs_entry.specs.Payload.{delta_field}
use Rattle.hs_entry.proofs.field.put_deltas.Given as goal

abbrev pub invariant-loop-delta : goal.invariant-loop-delta
invariant-loop-delta l = record {
  items : l.out.items ≡
      l.initial.out.items ++ flat_map delta_field (take l.delta-index l.deltas);
  room : vec_len l.out + 36 * (length l.deltas - l.delta-index) ≤ vec_capacity l.out;
}
