use Rattle.std.proofs.Common.{◌≡◌, ◌+◌, ◌<◌, ◌≤◌, length, arith}
use Rattle.std.proofs.lemmas.Grind.{common_steps}
use Rattle.hs_replica.proofs.KindLemmas.{counts_cut}
use Rattle.hs_replica.proofs.waiting.Waiting.drop_last.Goals as goal

pub invariant_of-self-in-Some-4 : goal.invariant_of-self-in-Some-4
invariant_of-self-in-Some-4 c =
    let within : c.self.inside.gone ≤ length c.pop.new.self.items = grind (arith, common_steps) in
    record {
      gone = within;
      kinds = counts_cut c.self.inside.items.items c.pop.new.self.items c.self.inside.gone c.in-Some.entry c.self.inside.kinds c.remove.new.self c.in-Some.ensures.items within c.self.invariant.kinds c.remove.ensures;
    }

pub invariant_of-self-in-Some-8 : goal.invariant_of-self-in-Some-8
invariant_of-self-in-Some-8 c =
    let within : c.self.inside.gone ≤ length c.pop.new.self.items = grind (arith, common_steps) in
    record {
      gone = within;
      kinds = counts_cut c.self.inside.items.items c.pop.new.self.items c.self.inside.gone c.in-Some.entry c.self.inside.kinds c.remove.new.self c.in-Some.ensures.items within c.self.invariant.kinds c.remove.ensures;
    }
