use Rattle.std.proofs.Common.{◌≡◌, ◌∙◌, [], ◌∷◌, sym, ap, arith, None}
use Rattle.std.proofs.lemmas.Grind.{common_steps}
use Rattle.hs_limits.specs.declared.address.Held.{Held}
use Rattle.hs_model.specs.Refusals.{first, no_session, no_handle}
use Rattle.hs_model.proofs.JudgeLemmas.{name_refused, judge_named}
use Rattle.hs_plain.proofs.memory_store.MemoryStore.name.Goals as goal

pub returns-in-Some : goal.returns-in-Some
returns-in-Some c =
    let e = sym c.in_ok-refusal.ensures ∙ c.in-Some.is in
    record {
      reply = λ limits. rw (name_refused limits c.args.self.now c.args.session c.args.handle c.in-Some.refusal e) c.refused.ensures.reply;
      deed = λ limits. rw (name_refused limits c.args.self.now c.args.session c.args.handle c.in-Some.refusal e) c.refused.ensures.deed;
      same = λ limits. rw (name_refused limits c.args.self.now c.args.session c.args.handle c.in-Some.refusal e);
    }

pub returns : goal.returns
returns c =
    let none : first (no_session c.args.self.now c.args.session ∷ no_handle c.args.self.now c.args.session (c.args.handle ∷ []) ∷ []) ≡ None = grind (arith, common_steps) in
    let address = ap (λ (held : Held). held.address) c.held_or.ensures in
    record {
      reply = λ limits. rw (judge_named limits c.args.self.now c.args.session c.args.handle c.held_or.result.address none address);
      deed = λ limits. rw (judge_named limits c.args.self.now c.args.session c.args.handle c.held_or.result.address none address);
      same = λ limits. rw (judge_named limits c.args.self.now c.args.session c.args.handle c.held_or.result.address none address);
    }
