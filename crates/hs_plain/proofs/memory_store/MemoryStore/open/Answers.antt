use Rattle.std.proofs.Common.{◌≡◌, ◌∙◌, sym, arith, None}
use Rattle.std.proofs.lemmas.Grind.{common_steps}
use Rattle.hs_model.specs.declared.op.Op.TheVariants.{Open}
use Rattle.hs_model.specs.Judge.{refusals}
use Rattle.hs_model.specs.Refusals.{first}
use Rattle.hs_model.proofs.JudgeLemmas.{judge_refused, judge_opened}
use Rattle.hs_plain.proofs.memory_store.MemoryStore.open.Goals as goal

pub returns-in-Some-clause-reply : goal.returns-in-Some-clause-reply
returns-in-Some-clause-reply c =
    rw (judge_refused c.args.limits c.args.self.now (Open c.args.session) c.in-Some.refusal (sym c.in_ok-refusal.ensures ∙ c.in-Some.is)) c.refused.ensures.reply

pub returns-in-Some-clause-deed : goal.returns-in-Some-clause-deed
returns-in-Some-clause-deed c =
    rw (judge_refused c.args.limits c.args.self.now (Open c.args.session) c.in-Some.refusal (sym c.in_ok-refusal.ensures ∙ c.in-Some.is)) c.refused.ensures.deed

pub returns-in-Some-clause-store : goal.returns-in-Some-clause-store
returns-in-Some-clause-store c =
    rw (judge_refused c.args.limits c.args.self.now (Open c.args.session) c.in-Some.refusal (sym c.in_ok-refusal.ensures ∙ c.in-Some.is))

pub returns-clause-reply : goal.returns-clause-reply
returns-clause-reply c =
    let none : first (refusals c.args.limits c.args.self.now (Open c.args.session)) ≡ None = grind (arith, common_steps) in
    rw (judge_opened c.args.limits c.args.self.now c.args.session none)

pub returns-clause-deed : goal.returns-clause-deed
returns-clause-deed c =
    let none : first (refusals c.args.limits c.args.self.now (Open c.args.session)) ≡ None = grind (arith, common_steps) in
    rw (judge_opened c.args.limits c.args.self.now c.args.session none)

pub returns-clause-store : goal.returns-clause-store
returns-clause-store c =
    let none : first (refusals c.args.limits c.args.self.now (Open c.args.session)) ≡ None = grind (arith, common_steps) in
    rw (judge_opened c.args.limits c.args.self.now c.args.session none) (grind (arith, common_steps))
