-- what the others lack is sent first, and then the View
use Rattle.std.proofs.Common.{rules}
use Rattle.hs_replica.proofs.SendLemmas.{view_sent}
use Rattle.hs_replica.proofs.group.Group.on_view.Goals as goal

pub returns-clause-sends : goal.returns-clause-sends
returns-clause-sends c =
    view_sent c.args.members.now c.args.self.now c.renew.new.self c.args.pool.now c.send_since.new.pool c.propose_view.new.pool c.renew.new.self.view (search rules) (search rules) (search rules) (search rules)
