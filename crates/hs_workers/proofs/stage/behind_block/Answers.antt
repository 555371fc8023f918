use Rattle.hs_workers.proofs.StageLemmas.{behind_leaf}
use Rattle.hs_workers.proofs.stage.behind_block.Goals as goal

pub returns : goal.returns
returns g c w named planned =
    let found = c.in-Some.ensures.lookup in
    behind_leaf w c.args.plan.now (g.A.Addresser.name c.args.naming.now) c.args.file c.args.handle c.in-Some.leaf.now c.len.result c.as_slice.result.now c.args.leaves c.push.new.self c.in_ok-address.address
    named planned c.len.ensures c.as_slice.ensures found.3.0 (found.3.1 0) c.in_ok-address.ensures c.in_ok-push.ensures.ok
