use Rattle.std.proofs.Common.{◌≡◌, ◌∙◌, sym, ap, Some, length}
use Rattle.hs_limits.specs.declared.address.Held.{Held}
use Rattle.hs_model.specs.Judge.{pointers_at}
use Rattle.hs_model.specs.Store.{session_at, epoch_at}
use Rattle.hs_model.proofs.RefusalLemmas.{read_of_open}
use Rattle.hs_plain.proofs.memory_store.MemoryStore.read_refusal.Goals as goal

pub returns : goal.returns
returns c =
    let s = c.args.self.now in
    let found : session_at s c.args.session.now ≡ Some c.in-Some.seat.now = rw (← c.self.view_is) (sym c.in-Some.ensures.value) in
    let now = c.epoch_at-now.ensures ∙ ap (λ (held : Held). epoch_at s held.address) c.held_or-held.ensures in
    let more = c.pointer_count-more.ensures ∙ ap (λ (held : Held). length (pointers_at s held.address)) c.held_or-held.ensures in
    rw (read_of_open c.args.limits s c.args.session.now c.args.handle c.in-Some.seat.now _ _ found now more) c.read_refusal.ensures
