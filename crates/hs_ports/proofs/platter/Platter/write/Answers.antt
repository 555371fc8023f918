use Rattle.std.proofs.Common.{rules}
use Rattle.hs_ports.specs.declared.change.Deed.TheVariants as deed
use Rattle.hs_ports.proofs.PlatterLemmas.{replayed_kept}
use Rattle.hs_ports.proofs.platter.Platter.write.Goals as goal

pub invariant_of-self-2 : goal.invariant_of-self-2
invariant_of-self-2 c =
    replayed_kept _ _ _ _ _ _ _ _ (record { moment = c.args.moment; deed = deed.Wrote c.args.at c.args.bytes.now }) c.self.invariant
    (search rules) (search rules) (search rules) (search rules)
