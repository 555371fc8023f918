-- So far, the front of the pointers is written.
use Rattle.std.proofs.Common.{◌≡◌, ◌+◌, ◌*◌, ◌≤◌, ◌++◌, take, vec_len, vec_capacity}
use Rattle.std.specs.List.{flat_map}
use Rattle.hs_block.proofs.block.write_pointers.Given as goal

abbrev pub invariant-loop-pointer : goal.invariant-loop-pointer
invariant-loop-pointer l = record {
  items : l.out.items ≡
      l.initial.out.items ++ flat_map (λ pointer. pointer.0) (take l.pointer-index l.pointers);
  len : vec_len l.out ≡ vec_len l.initial.out + 32 * l.pointer-index;
  capacity : vec_capacity l.initial.out ≤ vec_capacity l.out;
}
