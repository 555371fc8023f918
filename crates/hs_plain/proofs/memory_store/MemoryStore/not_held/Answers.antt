use Rattle.std.proofs.Common.{◌≡◌, [], ◌∷◌, arith, Some}
use Rattle.std.proofs.lemmas.Grind.{common_steps}
use Rattle.hs_model.specs.Store.{session_at}
use Rattle.hs_model.proofs.RefusalLemmas.{held_of_open}
use Rattle.hs_plain.proofs.memory_store.MemoryStore.not_held.Goals as goal

pub returns : goal.returns
returns c =
    let found : session_at c.args.self.now c.args.session.now ≡ Some c.in-Some.seat.now = grind (arith, common_steps) in
    rw (held_of_open c.args.self.now c.args.session.now (c.args.handle ∷ []) c.in-Some.seat.now found) (grind (arith, common_steps))
