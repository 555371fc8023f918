use Rattle.std.proofs.Common.{◌∙◌, refl, sym}
use Rattle.hs_cluster.proofs.CountLemmas.{calm_still, outside_memory}
use Rattle.hs_cluster.proofs.JobLemmas.{numbered_nowhere, tells_found}
use Rattle.hs_cluster.proofs.work.read_block.Goals as goal

pub returns-in-Some-clause-told : goal.returns-in-Some-clause-told
returns-in-Some-clause-told g c = λ told list waiting kept.
    tells_found list c.args.number c.in-Some.entry _ c.block_of.result (sym (c.in_ok-entry.ensures.found told list waiting kept) ∙ c.in-Some.is) c.block_of.ensures.some

pub returns-else-is_stored-clause-told : goal.returns-else-is_stored-clause-told
returns-else-is_stored-clause-told g c = λ told list waiting kept.
    numbered_nowhere list c.args.number (sym (c.in_ok-entry.ensures.found told list waiting kept) ∙ c.in-None.is)

-- what was read there is gone from the disk, and the shard still has it
pub returns-then-is_stored-clause-refused : goal.returns-then-is_stored-clause-refused
returns-then-is_stored-clause-refused g c = λ told list waiting kept stored.
    let there = stored c.args.number refl (sym c.is_stored.ensures ∙ c.if-is_stored.true) in
    absurd (numbered_nowhere list c.args.number (sym (c.in_ok-entry.ensures.found told list waiting kept) ∙ c.in-None.is) there.0 there.1)

pub returns-in-Some-clause-refused : goal.returns-in-Some-clause-refused
returns-in-Some-clause-refused g c = λ told list waiting kept stored. outside_memory c.block_of.result c.block_of.ensures.not_disk

-- what was read is no block: want of memory, where the count stands
pub returns-in-Some-clause-calm : goal.returns-in-Some-clause-calm
returns-in-Some-clause-calm g c = calm_still _ _ c.block_of.result c.in_ok-entry.ensures.calm
