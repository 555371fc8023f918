use Rattle.std.proofs.Common.{◌≡◌, ◌∙◌, sym, arith, None}
use Rattle.std.proofs.lemmas.Grind.{common_steps}
use Rattle.hs_model.specs.Refusals.{no_key}
use Rattle.hs_model.proofs.JudgeLemmas.{drop_refused, judge_dropped}
use Rattle.hs_plain.proofs.memory_store.MemoryStore.drop_root.Goals as goal

pub returns-in-Some : goal.returns-in-Some
returns-in-Some c =
    let e = sym c.in_ok-refusal.ensures ∙ c.in-Some.is in
    record {
      reply = λ limits. rw (drop_refused limits c.args.self.now c.args.key c.in-Some.refusal e) c.refused.ensures.reply;
      deed = λ limits. rw (drop_refused limits c.args.self.now c.args.key c.in-Some.refusal e) c.refused.ensures.deed;
      store = λ limits. rw (drop_refused limits c.args.self.now c.args.key c.in-Some.refusal e);
    }

pub returns : goal.returns
returns c =
    let none : no_key c.args.self.now c.args.key ≡ None = grind (arith, common_steps) in
    record {
      reply = λ limits. rw (judge_dropped limits c.args.self.now c.args.key none);
      deed = λ limits. rw (judge_dropped limits c.args.self.now c.args.key none);
      store = λ limits. rw (judge_dropped limits c.args.self.now c.args.key none) (grind (arith, common_steps));
    }
