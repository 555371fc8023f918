use Rattle.std.proofs.Common.{◌≡◌, ◌∙◌, sym, arith, None, Some}
use Rattle.std.proofs.lemmas.Grind.{common_steps}
use Rattle.hs_model.specs.Refusals.{handles_full_in}
use Rattle.hs_model.specs.Store.{session_at}
use Rattle.hs_model.proofs.RefusalLemmas.{look_full, look_key}
use Rattle.hs_plain.proofs.memory_store.MemoryStore.look_refusal.Goals as goal

pub returns-in-Some-handles_full : goal.returns-in-Some-handles_full
returns-in-Some-handles_full c =
    let found : session_at c.args.self.now c.args.session.now ≡ Some c.in-Some.seat.now = grind (arith, common_steps) in
    sym (look_full c.args.limits c.args.self.now c.args.session.now c.args.key.now c.in-Some.seat.now c.in-Some-handles_full.refusal found (sym c.handles_full.ensures ∙ c.in-Some-handles_full.is))

pub returns : goal.returns
returns c =
    let found : session_at c.args.self.now c.args.session.now ≡ Some c.in-Some.seat.now = grind (arith, common_steps) in
    let none : handles_full_in c.args.limits (Some c.in-Some.seat.now) 1 ≡ None = sym c.handles_full.ensures ∙ c.in_default-handles_full.is in
    rw (look_key c.args.limits c.args.self.now c.args.session.now c.args.key.now c.in-Some.seat.now found none) c.no_key.ensures
