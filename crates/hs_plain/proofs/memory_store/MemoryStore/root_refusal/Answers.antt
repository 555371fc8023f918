use Rattle.std.proofs.Common.{◌≡◌, ◌∙◌, sym, ap, arith, Some}
use Rattle.std.proofs.lemmas.Grind.{common_steps}
use Rattle.hs_limits.specs.declared.address.Held.{Held}
use Rattle.hs_model.specs.Store.{session_at}
use Rattle.hs_model.proofs.RefusalLemmas.{root_unused, root_used}
use Rattle.hs_plain.proofs.memory_store.MemoryStore.root_refusal.Goals as goal

pub returns-in-Some-use_refusal : goal.returns-in-Some-use_refusal
returns-in-Some-use_refusal c =
    let found : session_at c.args.self.now c.args.session.now ≡ Some c.in-Some.seat.now = grind (arith, common_steps) in
    sym (root_unused c.args.limits c.args.self.now c.args.session.now c.args.key.now c.args.handle c.root_epoch.result c.in-Some.seat.now c.in-Some-use_refusal.refusal found c.root_epoch.ensures (sym c.use_refusal.ensures ∙ c.in-Some-use_refusal.is))

pub returns : goal.returns
returns c =
    let found : session_at c.args.self.now c.args.session.now ≡ Some c.in-Some.seat.now = grind (arith, common_steps) in
    rw (root_used c.args.limits c.args.self.now c.args.session.now c.args.key.now c.args.handle c.root_epoch.result c.in-Some.seat.now c.held_or.result.address found c.root_epoch.ensures (ap (λ (held : Held). held.address) c.held_or.ensures) (sym c.use_refusal.ensures ∙ c.in_default-use_refusal.is)) c.key_refusal.ensures
