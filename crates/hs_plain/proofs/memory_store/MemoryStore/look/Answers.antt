use Rattle.std.proofs.Common.{◌≡◌, ◌∙◌, [], ◌∷◌, sym, refl, arith, None}
use Rattle.std.proofs.lemmas.Grind.{common_steps}
use Rattle.hs_model.specs.Refusals.{first, no_session, handles_full, no_key}
use Rattle.hs_model.proofs.JudgeLemmas.{look_refused, judge_looked}
use Rattle.hs_plain.proofs.memory_store.MemoryStore.look.Goals as goal

pub returns-in-Some : goal.returns-in-Some
returns-in-Some c =
    let e = sym c.in_ok-refusal.ensures ∙ c.in-Some.is in
    rw (look_refused c.args.limits c.args.self.now c.args.session c.args.key c.in-Some.refusal e) (record { reply = c.refused.ensures.reply; deed = c.refused.ensures.deed; store = refl })

pub returns : goal.returns
returns c =
    let none : first (no_session c.args.self.now c.args.session ∷ handles_full c.args.limits c.args.self.now c.args.session 1 ∷ no_key c.args.self.now c.args.key ∷ []) ≡ None = grind (arith, common_steps) in
    rw (judge_looked c.args.limits c.args.self.now c.args.session c.args.key none) c.grant_look.ensures
