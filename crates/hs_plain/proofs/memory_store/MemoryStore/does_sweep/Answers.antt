use Rattle.std.proofs.Common.{arith}
use Rattle.std.proofs.lemmas.Grind.{common_steps}
use Rattle.hs_plain.proofs.DoesLemmas.{sweep_does}
use Rattle.hs_plain.proofs.memory_store.MemoryStore.does_sweep.Goals as goal

pub returns : goal.returns
returns c = λ limits before.
    let a = c.args in
    let may = c.may_sweep.ensures.found (grind (arith, common_steps)) in
    sweep_does limits a.self.now a.shard c.sweep.new.self c.is_same.result c.in_ok-answer.answer.reply a.told.now may.0 may.1 (c.in_ok-answer.ensures.reply limits) c.in_ok-answer.ensures.store c.is_same.ensures.0 c.is_same.ensures.1 before
