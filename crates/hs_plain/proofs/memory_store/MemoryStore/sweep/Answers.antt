use Rattle.std.proofs.Common.{ap, arith, length, not, slice_index}
use Rattle.hs_limits.specs.declared.address.Address.{Address}
use Rattle.hs_model.specs.declared.store.StoredBlock.{StoredBlock}
use Rattle.hs_model.specs.Reach.{is_swept}
use Rattle.hs_model.specs.Store.{Store}
use Rattle.hs_model.proofs.PeelLemmas.{filter_le}
use Rattle.hs_plain.proofs.memory_store.MemoryStore.sweep.Goals as goal

pub overflow_sub-before : goal.overflow_sub-before
overflow_sub-before c =
    let s = c.args.self.now in
    let after = ap (λ (z : Store). length z.blocks) c.in_ok-remove.ensures in
    omega (arith, after, c.block_count.ensures, c.block_count-before.ensures, filter_le (λ (e : Address × StoredBlock). not (is_swept s (slice_index s.epochs c.args.shard) c.args.shard e)) s.blocks)
