use Rattle.std.proofs.Common.{◌≡◌, ◌∙◌, [], ◌∷◌, sym, arith, None}
use Rattle.std.proofs.lemmas.Grind.{common_steps}
use Rattle.hs_model.specs.Refusals.{first, no_session}
use Rattle.hs_model.proofs.JudgeLemmas.{close_refused, judge_closed}
use Rattle.hs_plain.proofs.memory_store.MemoryStore.close.Goals as goal

pub returns-in-Some : goal.returns-in-Some
returns-in-Some c =
    let e = sym c.in_ok-refusal.ensures ∙ c.in-Some.is in
    record {
      reply = λ limits. rw (close_refused limits c.args.self.now c.args.session c.in-Some.refusal e) c.refused.ensures.reply;
      deed = λ limits. rw (close_refused limits c.args.self.now c.args.session c.in-Some.refusal e) c.refused.ensures.deed;
      store = λ limits. rw (close_refused limits c.args.self.now c.args.session c.in-Some.refusal e);
    }

pub returns : goal.returns
returns c =
    let none : first (no_session c.args.self.now c.args.session ∷ []) ≡ None = grind (arith, common_steps) in
    record {
      reply = λ limits. rw (judge_closed limits c.args.self.now c.args.session none);
      deed = λ limits. rw (judge_closed limits c.args.self.now c.args.session none);
      store = λ limits. rw (judge_closed limits c.args.self.now c.args.session none) (grind (arith, common_steps));
    }
