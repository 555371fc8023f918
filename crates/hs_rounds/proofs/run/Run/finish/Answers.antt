use Rattle.std.proofs.Common.{◌+◌}
use Rattle.hs_rounds.specs.Rounds.{Run}
use Rattle.hs_rounds.proofs.RunLemmas.{finished_is_run}
use Rattle.hs_rounds.proofs.run.Run.finish.Goals as goal

pub invariant_of-self : goal.invariant_of-self
invariant_of-self c =
    let run : Run = record { shape = c.self.inside.shape; shard = c.self.inside.shard; opened = c.self.inside.opened; gots = c.self.inside.gots; sent = c.self.inside.sent.items } in
    rw c.forget_before.ensures (finished_is_run run c.in-Some.epoch (c.from.result + 1) c.self.invariant.0, c.new.ensures.items)
