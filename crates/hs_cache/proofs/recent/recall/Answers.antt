use Rattle.hs_cache.proofs.RecentLemmas.{found_there, promoted_fewer}
use Rattle.hs_cache.proofs.recent.recall.Goals as goal

pub returns-in_default-get-clause-fewer : goal.returns-in_default-get-clause-fewer
returns-in_default-get-clause-fewer c = promoted_fewer c.args.cache.now c.in-Some.kept c.get.new.self c.args.shard c.args.number c.in-Some.is c.in_default-get.ensures.kept

pub returns-clause-found : goal.returns-clause-found
returns-clause-found c = found_there c.args.cache.now c.in-Some.kept c.args.shard c.args.number c.in-Ok.found c.in-Some.is c.in-Ok.ensures.value

pub returns-clause-fewer : goal.returns-clause-fewer
returns-clause-fewer c = promoted_fewer c.args.cache.now c.in-Some.kept c.get.new.self c.args.shard c.args.number c.in-Some.is c.in-Ok.ensures.kept
