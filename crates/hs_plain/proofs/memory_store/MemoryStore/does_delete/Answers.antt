use Rattle.std.proofs.Common.{◌∙◌, arith, refl, sym}
use Rattle.std.proofs.lemmas.Grind.{common_steps}
use Rattle.hs_plain.proofs.DeedLemmas.{none_told}
use Rattle.hs_model.specs.declared.deed.Deed.TheVariants.{Entered}
use Rattle.hs_model.specs.declared.op.Op.TheVariants.{Delete}
use Rattle.hs_model.specs.declared.reply.Reply.TheVariants.{Run}
use Rattle.hs_plain.proofs.DoesLemmas.{does_not, run_does}
use Rattle.hs_plain.proofs.memory_store.MemoryStore.does_delete.Goals as goal

pub returns-then-shard-ne0 : goal.returns-then-shard-ne0
returns-then-shard-ne0 c = λ before.
    let a = c.args in
    does_not a.limits a.self.now before (Entered a.shard) (Run a.epoch) a.self.now (λ h. grind (arith, common_steps, h.0))

pub returns-in-Some : goal.returns-in-Some
returns-in-Some c = λ before.
    let a = c.args in
    does_not a.limits a.self.now before (Entered a.shard) (Run a.epoch) a.self.now (λ h. grind (arith, common_steps, none_told a.limits a.self.now Delete refl h.1))

pub returns : goal.returns
returns c =
    let a = c.args in
    run_does a.limits a.self.now a.shard c.delete.new.self c.is_run.result a.epoch c.in_ok-answer.answer.reply (grind (arith, common_steps)) (sym c.delete_refusal.ensures.value ∙ c.in_default.is) c.in_ok-answer.ensures.reply c.in_ok-answer.ensures.store c.is_run.ensures.0 c.is_run.ensures.1
