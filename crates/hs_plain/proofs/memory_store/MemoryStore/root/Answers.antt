use Rattle.std.proofs.Common.{◌≡◌, ◌∙◌, sym, ap, refl, arith, None}
use Rattle.std.proofs.lemmas.Grind.{common_steps}
use Rattle.hs_limits.specs.declared.address.Held.{Held}
use Rattle.hs_model.specs.Refusals.{first}
use Rattle.hs_model.proofs.JudgeLemmas.{root_refusals, root_refused, judge_rooted}
use Rattle.hs_plain.proofs.memory_store.MemoryStore.root.Goals as goal

pub returns-in-Some : goal.returns-in-Some
returns-in-Some c =
    let e = sym c.in_ok-refusal.ensures ∙ c.in-Some.is in
    rw (root_refused c.args.limits c.args.self.now c.args.session c.args.key c.args.handle c.in-Some.refusal e) (record { reply = c.refused.ensures.reply; deed = c.refused.ensures.deed; store = refl })

pub returns : goal.returns
returns c =
    let none : first (root_refusals c.args.limits c.args.self.now c.args.session c.args.key c.args.handle) ≡ None = grind (arith, common_steps) in
    rw (judge_rooted c.args.limits c.args.self.now c.args.session c.args.key c.args.handle c.held_or.result.address none (ap (λ (held : Held). held.address) c.held_or.ensures)) c.grant_root.ensures
