use Rattle.std.proofs.Common.{◌≡◌, ◌+◌, ◌<◌, ◌≤◌, length, get_or, set, arith}
use Rattle.std.proofs.lemmas.Grind.{common_steps}
use Rattle.hs_replica.proofs.KindLemmas.{counts_popped}
use Rattle.hs_replica.proofs.waiting.Waiting.pop_front.Goals as goal

pub invariant_of-self : goal.invariant_of-self
invariant_of-self c =
    let items = c.self.inside.items.items in
    let gone = c.self.inside.gone in
    let entry = c.replace-entry.result in
    let less : gone < length items = grind (arith, common_steps) in
    let at : get_or items gone entry ≡ entry = grind (arith, common_steps) in
    record {
      gone = grind (arith, common_steps);
      kinds = counts_popped items gone entry c.replace-entry.new.dest c.self.inside.kinds c.remove.new.self less at c.self.invariant.kinds c.remove.ensures;
    }
