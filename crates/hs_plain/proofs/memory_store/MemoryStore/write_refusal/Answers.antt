use Rattle.std.proofs.Common.{◌≡◌, arith, Some}
use Rattle.std.proofs.lemmas.Grind.{common_steps}
use Rattle.hs_model.specs.Store.{session_at, epoch_at}
use Rattle.hs_plain.proofs.FirstLemmas.{write_told}
use Rattle.hs_plain.proofs.memory_store.MemoryStore.write_refusal.Goals as goal

pub returns : goal.returns
returns c =
    let found : session_at c.args.self.now c.args.session.now ≡ Some c.in-Some.seat.now = grind (arith, common_steps) in
    let rest = write_told c.args.limits c.args.self.now c.args.session.now c.args.length c.args.handles.now (epoch_at c.args.self.now c.args.address.now) c.in-Some.seat.now found in
    rw rest (grind (arith, common_steps))
