use Rattle.std.proofs.Common.{◌≡◌, ◌∙◌, sym, ap, refl, None}
use Rattle.hs_model.specs.declared.op.Op.TheVariants.{Delete}
use Rattle.hs_model.specs.declared.reply.Reply.TheVariants as reply
use Rattle.hs_model.specs.Judge.{refusals}
use Rattle.hs_model.specs.Refusals.{first}
use Rattle.hs_model.proofs.JudgeLemmas.{judge_refused, judge_deleted}
use Rattle.hs_plain.proofs.memory_store.MemoryStore.delete.Goals as goal

pub returns-in-Some : goal.returns-in-Some
returns-in-Some c =
    rw (judge_refused c.args.limits c.args.self.now Delete c.in-Some.refusal (sym c.delete_refusal.ensures.value ∙ c.in-Some.is)) (record { reply = c.refused.ensures.reply; deed = c.refused.ensures.deed; store = refl })

pub returns : goal.returns
returns c =
    let none : first (refusals c.args.limits c.args.self.now Delete) ≡ None = sym c.delete_refusal.ensures.value ∙ c.in_default.is in
    rw (judge_deleted c.args.limits c.args.self.now none) (record { reply = ap (λ epoch. reply.Run epoch) c.in_ok-epoch.ensures.next; deed = refl; store = c.in_ok-epoch.ensures.store })
