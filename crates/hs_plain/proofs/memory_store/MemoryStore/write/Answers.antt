use Rattle.std.proofs.Common.{refl}
use Rattle.hs_model.specs.declared.op.Op.TheVariants.{Write}
use Rattle.hs_model.proofs.JudgeLemmas.{judge_refused, judge_wrote}
use Rattle.hs_plain.proofs.memory_store.MemoryStore.write.Goals as goal

pub returns-in-Refused : goal.returns-in-Refused
returns-in-Refused c =
    let a = c.args in
    let refusal = rw c.in-Refused.is at c.in_ok-refusal.ensures in
    rw (judge_refused a.limits a.self.now (Write a.session a.payload a.handles a.address) c.in-Refused.refusal refusal) (record { reply = c.refused.ensures.reply; deed = rw (← c.len.ensures) c.refused.ensures.deed; store = refl })

pub returns-in-Taken : goal.returns-in-Taken
returns-in-Taken c =
    let a = c.args in
    let taken = rw c.in-Taken.is at c.in_ok-refusal.ensures in
    rw (judge_wrote a.limits a.self.now a.session a.payload a.handles a.address c.given_address-place.result c.in-Taken.pointers taken.0 c.given_address-place.ensures taken.1) c.grant_write.ensures
