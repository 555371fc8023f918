use Rattle.std.proofs.Common.{sym, map}
use Rattle.std.specs.Prelude.{string_bytes}
use Rattle.hs_top.proofs.LoadLemmas.{asked_is}
use Rattle.hs_top.proofs.words.served_on.Goals as goal

pub returns-then-is_served-clause-load : goal.returns-then-is_served-clause-load
returns-then-is_served-clause-load c = asked_is (map (λ word. string_bytes word) c.args.words.now) c.args.disks c.in_ok-asked.asked (sym c.in_ok-asked.ensures.exact)
