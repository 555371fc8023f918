use Rattle.std.proofs.Common.{◌≡◌, ◌∙◌, sym, ap, refl, arith, None}
use Rattle.std.proofs.lemmas.Grind.{common_steps}
use Rattle.hs_limits.specs.declared.address.Held.{Held}
use Rattle.hs_model.specs.declared.op.Op.TheVariants.{Read}
use Rattle.hs_model.specs.Judge.{judge, refusals, read}
use Rattle.hs_model.specs.Refusals.{first}
use Rattle.hs_model.proofs.JudgeLemmas.{judge_refused, judge_read}
use Rattle.hs_model.proofs.RefusalLemmas.{open-from_read}
use Rattle.hs_plain.proofs.memory_store.MemoryStore.read.Goals as goal

pub returns-in-Some : goal.returns-in-Some
returns-in-Some c =
    rw (judge_refused c.args.limits c.args.self.now (Read c.args.session c.args.handle) c.in-Some.refusal (sym c.in_ok-refusal.ensures ∙ c.in-Some.is)) (record { reply = c.refused.ensures.reply; deed = c.refused.ensures.deed; store = refl })

pub grant_read-requires : goal.grant_read-requires
grant_read-requires c =
    let none : first (refusals c.args.limits c.args.self.now (Read c.args.session c.args.handle)) ≡ None = grind (arith, common_steps) in
    open-from_read c.args.limits c.args.self.now c.args.session c.args.handle none

pub returns : goal.returns
returns c =
    let s = c.args.self.now in
    let none : first (refusals c.args.limits s (Read c.args.session c.args.handle)) ≡ None = grind (arith, common_steps) in
    let e : judge c.args.limits s (Read c.args.session c.args.handle) ≡ read s c.args.session c.held_or-held.result =
    judge_read c.args.limits s c.args.session c.args.handle none ∙ ap (λ (held : Held). read s c.args.session held) (sym c.held_or-held.ensures) in
    rw e c.grant_read.ensures
