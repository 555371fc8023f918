use Rattle.hs_awaiting.proofs.table.Table.new.Goals as goal

pub returns-clause-index : goal.returns-clause-index
returns-clause-index c = record {
  index = record { sessions = rw c.new.ensures.empty c.new-2.ensures; waits = rw c.new.ensures.empty c.new-3.ensures };
  stored = rw c.new.ensures.empty c.new-4.ensures;
  shards = rw c.new.ensures.empty c.new-5.ensures;
}
