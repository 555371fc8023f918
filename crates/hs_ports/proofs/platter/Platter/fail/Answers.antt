use Rattle.std.proofs.Common.{rules}
use Rattle.hs_ports.proofs.PlatterLemmas.{replayed_failed}
use Rattle.hs_ports.proofs.platter.Platter.fail.Goals as goal

pub invariant_of-self : goal.invariant_of-self
invariant_of-self c =
    replayed_failed _ _ _ _ _ _ (record { moment = c.args.moment; deed = c.args.deed }) c.keep_failed.result c.self.invariant c.requires
    (search rules) (search rules)
