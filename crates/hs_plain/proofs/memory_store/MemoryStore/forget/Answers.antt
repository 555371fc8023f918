use Rattle.std.proofs.Common.{◌≡◌, ◌∙◌, [], ◌∷◌, sym, arith, None}
use Rattle.std.proofs.lemmas.Grind.{common_steps}
use Rattle.hs_model.specs.Refusals.{first, no_session, no_handle}
use Rattle.hs_model.proofs.JudgeLemmas.{forget_refused, judge_forgot}
use Rattle.hs_plain.proofs.memory_store.MemoryStore.forget.Goals as goal

pub returns-in-Some : goal.returns-in-Some
returns-in-Some c =
    let e = sym c.in_ok-refusal.ensures ∙ c.in-Some.is in
    record {
      reply = λ limits. rw (forget_refused limits c.args.self.now c.args.session c.args.handle c.in-Some.refusal e) c.refused.ensures.reply;
      deed = λ limits. rw (forget_refused limits c.args.self.now c.args.session c.args.handle c.in-Some.refusal e) c.refused.ensures.deed;
      store = λ limits. rw (forget_refused limits c.args.self.now c.args.session c.args.handle c.in-Some.refusal e);
    }

pub returns : goal.returns
returns c =
    let none : first (no_session c.args.self.now c.args.session ∷ no_handle c.args.self.now c.args.session (c.args.handle ∷ []) ∷ []) ≡ None = grind (arith, common_steps) in
    record {
      reply = λ limits. rw (judge_forgot limits c.args.self.now c.args.session c.args.handle none) c.grant_forget.ensures.reply;
      deed = λ limits. rw (judge_forgot limits c.args.self.now c.args.session c.args.handle none) c.grant_forget.ensures.deed;
      store = λ limits. rw (judge_forgot limits c.args.self.now c.args.session c.args.handle none) c.grant_forget.ensures.store;
    }
