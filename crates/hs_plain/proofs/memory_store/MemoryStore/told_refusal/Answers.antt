use Rattle.hs_model.specs.Deeds.{refusals_told}
use Rattle.hs_plain.proofs.memory_store.MemoryStore.told_refusal.Goals as goal

pub returns-in-Write : goal.returns-in-Write
returns-in-Write c = rw (c.in-Write.is, ← c.as_slice.ensures) c.told_write_refusal.ensures

pub returns-in-Root : goal.returns-in-Root
unfolding refusals_told
returns-in-Root c = rw c.in-Root.is c.root_refusal.ensures
