-- What one operation does to an asker.
use Rattle.std.specs.List.{AllByRecursion}
use Rattle.std.specs.Prelude.{Err, List, Ok, Result, [], drop, length, ℕ, ◌++◌, ◌+◌, ◌∷◌, ◌≡◌}
use Rattle.hs_asking.specs.Telling.{MayBeTold}
use Rattle.hs_cluster.specs.declared.fault.ClusterFault.{ClusterFault}
use Rattle.hs_cluster.specs.declared.fault.ClusterFault.TheVariants as cluster
use Rattle.hs_desk.specs.declared.fault.CoreFault.{CoreFault}
use Rattle.hs_desk.specs.declared.fault.CoreFault.TheVariants as core
use Rattle.hs_limits.specs.declared.address.Address.{Address}
use Rattle.hs_model.specs.declared.command.Command.{Command}
use Rattle.hs_model.specs.declared.command.Command.TheVariants as command
use Rattle.hs_model.specs.declared.op.Op.{Op}
use Rattle.hs_model.specs.declared.reply.Reply.{Reply}
use Rattle.hs_run.specs.Between.{Point}
use Rattle.hs_asker.specs.Answer.{HasAnswer}
use Rattle.hs_asker.specs.Driven.{Drives, HasDriven}
use Rattle.hs_asker.specs.Going.{RunsAlone}
use Rattle.hs_asker.specs.Lines.{IsDriving}

-- the fault of a core that a cluster has; a core never finds a disk of another store
abbrev pub core_of : ClusterFault → CoreFault
core_of (cluster.WrongShape peer found) = core.NoMemory
core_of (cluster.ShardLost shard) = core.ShardLost shard
core_of cluster.OpsFull = core.OpsFull
core_of cluster.NoMemory = core.NoMemory

-- an operation's line was run and these behind it, and then its answer was found; or it stopped before
pub data DoesAsk (tells : Type 0) (name : List ℕ → Address) (o : Op) (old new : Point) (more : List Command) (result : Result Reply CoreFault) : Type 0 where
  -- there was no number for its line
  Unasked : new ≡ old → result ≡ Err core.NoMemory → DoesAsk tells name o old new more result
  Broken : (fault : ClusterFault) → RunsAlone tells name (command.Client o) old new (Err fault) → result ≡ Err (core_of fault) → DoesAsk tells name o old new more result
  Undriven : (mid : Point) → (fault : ClusterFault) → RunsAlone tells name (command.Client o) old mid (Ok tt) → HasDriven tells name mid new more (Err fault) → result ≡ Err (core_of fault) → DoesAsk tells name o old new more result
  -- there was no memory for what was answered
  Unheard : (mid : Point) → RunsAlone tells name (command.Client o) old mid (Ok tt) → Drives tells name mid more new → (told : Reply) → result ≡ Err core.NoMemory
      → HasAnswer (drop (length old.cluster.core.journal) new.cluster.core.journal) (old.line + 1) told → MayBeTold o told → DoesAsk tells name o old new more result
  Heard : (mid : Point) → RunsAlone tells name (command.Client o) old mid (Ok tt) → Drives tells name mid more new → (told : Reply) → result ≡ Ok told
      → HasAnswer (drop (length old.cluster.core.journal) new.cluster.core.journal) (old.line + 1) told → MayBeTold o told → DoesAsk tells name o old new more result

-- the lines so far are some, the operation's, and those behind it
pub record Asks (tells : Type 0) (name : List ℕ → Address) (o : Op) (old new : Point) (was is : List Command) (result : Result Reply CoreFault) : Type 0 where
  pub more : List Command
  pub driving : AllByRecursion IsDriving more
  pub said : is ≡ (was ++ command.Client o ∷ []) ++ more
  pub does : DoesAsk tells name o old new more result
