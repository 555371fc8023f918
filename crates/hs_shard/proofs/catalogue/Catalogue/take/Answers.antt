use Rattle.std.proofs.Common.{◌≡◌, sym, subst}
use Rattle.std.specs.Prelude.{IfOk}
use Rattle.hs_shard.specs.Apply.{apply}
use Rattle.hs_shard.specs.Clients.{applied}
use Rattle.hs_shard.proofs.catalogue.Catalogue.take.Goals as goal

pub returns-in-Enter-clause-ok : goal.returns-in-Enter-clause-ok
returns-in-Enter-clause-ok c =
    subst (λ e. IfOk c.enter.result (λ effect. applied c.enter.new.self effect ≡ apply c.args.number e c.args.named c.args.self.now)) (sym c.in-Enter.is) c.enter.ensures.ok
