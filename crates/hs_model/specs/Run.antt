-- Runs: the events of a store one after another, and which lists of them are legal.
use Rattle.std.specs.Prelude.{ℕ, ◌-◌, List, [], ◌∷◌, length, IsTrue, slice_index}
use Rattle.hs_limits.specs.declared.limits.Limits.{Limits}
use Rattle.hs_model.specs.declared.op.Op.{Op}
use Rattle.hs_model.specs.declared.reply.Reply.TheVariants as reply
use Rattle.hs_model.specs.declared.deed.Deed.TheVariants as deed
use Rattle.hs_model.specs.Inner.{may_enter, enter, may_sweep, sweep}
use Rattle.hs_model.specs.Judge.{Judged, judge}
use Rattle.hs_model.specs.Store.{Store}

-- a client asks, a shard enters its next epoch, or a shard sweeps its epoch
pub data Event : Type 0 where
  asks : Op → Event
  enters : ℕ → Event
  sweeps : ℕ → Event

-- what an event answers and does, and what it leaves
abbrev pub step : Limits → Store → Event → Judged
step limits s (asks o) = judge limits s o
step limits s (enters shard) = record { reply = reply.Enter (slice_index (enter s shard).epochs shard); deed = deed.Entered shard; store = enter s shard }
step limits s (sweeps shard) = record {
  reply = reply.Sweep (slice_index s.epochs shard) (length s.blocks - length (sweep s shard).blocks);
  deed = deed.Swept shard;
  store = sweep s shard;
}

-- a client may always ask
abbrev pub IsAllowed : Store → Event → Type 0
IsAllowed s (asks o) = Unit {0}
IsAllowed s (enters shard) = IsTrue (may_enter s shard)
IsAllowed s (sweeps shard) = IsTrue (may_sweep s shard)

-- the store after some events
abbrev pub run : Limits → Store → List Event → Store
run limits s [] = s
run limits s (event ∷ events) = run limits (step limits s event).store events

-- each event was allowed when it came
abbrev pub IsLegal : Limits → Store → List Event → Type 0
IsLegal limits s [] = Unit {0}
IsLegal limits s (event ∷ events) = IsAllowed s event × IsLegal limits (step limits s event).store events
