-- What an ask does to the plain store.
use Rattle.std.specs.List.{AllByRecursion}
use Rattle.std.specs.Prelude.{◌≡◌, List}
use Rattle.hs_limits.specs.declared.limits.Limits.{Limits}
use Rattle.hs_model.specs.Judge.{judge}
use Rattle.hs_model.specs.Run.{Event, IsLegal, asks, enters, run, sweeps}
use Rattle.hs_model.specs.Store.{Store}
use Rattle.hs_model.specs.declared.op.Op.{Op}
use Rattle.hs_model.specs.declared.reply.Reply.{Reply}

-- what a shard does by itself where shard 0 enters for a line alone
abbrev pub IsInner : Event → Type 0
IsInner (asks o) = ⊥
IsInner (enters shard) = shard ≡ 0 → ⊥
IsInner (sweeps shard) = Unit {0}

-- shards lead from one store to another
pub record Drifts (limits : Limits) (s t : Store) : Type 0 where
  pub events : List Event
  pub inner : AllByRecursion IsInner events
  pub legal : IsLegal limits s events
  pub leaves : run limits s events ≡ t

-- shards do what they do, the operation is judged as it is told, and shards go on
pub record IsJudged (limits : Limits) (s t : Store) (o : Op) (told : Reply) : Type 0 where
  pub at : Store
  pub before : Drifts limits s at
  pub reply : (judge limits at o).reply ≡ told
  pub behind : Drifts limits (judge limits at o).store t
