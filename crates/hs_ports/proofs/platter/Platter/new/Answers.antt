use Rattle.std.proofs.Common.{rules}
use Rattle.hs_ports.proofs.PlatterLemmas.{replayed_first}
use Rattle.hs_ports.proofs.platter.Platter.new.Goals as goal

pub invariant_of-result : goal.invariant_of-result
invariant_of-result c = replayed_first c.args.bytes.items _ _ (search rules) (search rules)
