use Rattle.hs_awaiting.proofs.RestartLemmas.{first_sharded}
use Rattle.hs_awaiting.proofs.table.Table.first_of.Goals as goal

pub returns-clause-first : goal.returns-clause-first
returns-clause-first c = first_sharded c.args.self.now.map.entries c.args.self.now.shards c.args.shard c.args.from c.first.result c.requires.shards c.first.ensures
