-- What sessions hold, and for how long it may be used.
use Rattle.std.specs.Prelude.{ℕ, List, Contains}
use Rattle.hs_limits.specs.declared.address.Held.{Held}
use Rattle.hs_limits.specs.Epoch.{IsFresh}
use Rattle.hs_model.specs.Store.{Store, Session, epoch_at}

-- an open session holds it under a handle
pub record IsHeld (s : Store) (held : Held) : Type 0 where
  pub name : List ℕ
  pub session : Session
  pub handle : ℕ
  pub opened : Contains s.sessions (name, session)
  pub holds : Contains session.handles (handle, held)

-- it may still be used where the shard of its own address is now
abbrev pub IsFreshHeld : Store → Held → Type 0
IsFreshHeld s held = IsFresh held.epoch (epoch_at s held.address)
