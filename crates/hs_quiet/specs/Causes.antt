-- What operations without an answer wait for, and that it is there.
use Rattle.std.specs.Prelude.{◌≡◌, ◌⊎◌, ℕ, ◌+◌, ◌<◌, Bool, true, false, List, [], length, Some, slice_get, slice_index_or}
use Rattle.hs_awaiting.specs.declared.wait.Wait.{Wait}
use Rattle.hs_awaiting.specs.declared.wait.Wait.TheVariants as wait
use Rattle.hs_awaiting.specs.declared.waiting.Waiting.{Waiting}
use Rattle.hs_awaiting.specs.Kinds.{puts_root, writes_block}
use Rattle.hs_core_words.specs.declared.task.Task.{Task}
use Rattle.hs_core_words.specs.Looking.{front_of, group_of, home, operation_of, shape_of, status_of, tasks_of}
use Rattle.hs_core_words.specs.State.{Core}
use Rattle.hs_desk.specs.declared.job.Job.TheVariants as job
use Rattle.hs_effects.specs.Logged.{asked_by}
use Rattle.hs_entry.specs.declared.entry.Entry.{Entry}
use Rattle.hs_entry.specs.declared.entry.Entry.TheVariants as kind
use Rattle.hs_limits.specs.declared.address.Address.{Address}
use Rattle.hs_limits.specs.declared.limits.PeerStatus.TheVariants.{Good}
use Rattle.hs_memory.specs.Forget.{named}
use Rattle.hs_model.specs.Op.{written_address}
use Rattle.hs_model.specs.declared.op.Op.{Op}
use Rattle.hs_model.specs.declared.op.Op.TheVariants as op
use Rattle.hs_replica.specs.Kinds.{is_block, is_root}

-- ---- what operations speak of

-- whether it may have to read a block's bytes: a write compares them with its own
abbrev pub reads_bytes : Op → Bool
reads_bytes (op.Open name) = false
reads_bytes (op.Close name) = false
reads_bytes (op.Write name payload handles address) = true
reads_bytes (op.Read name handle) = true
reads_bytes (op.Look name key) = false
reads_bytes (op.Root name key handle) = false
reads_bytes (op.Drop key) = false
reads_bytes (op.Forget name handle) = false
reads_bytes (op.Name name handle) = false
reads_bytes op.Delete = false
reads_bytes op.Stat = false

-- an entry stores the block of the address that an operation writes
pub record StoresFor (name : List ℕ → Address) (o : Op) (entry : Entry) : Type 0 where
  pub address : Address
  pub wanted : written_address o ≡ Some address
  pub stores : named name entry ≡ Some address

-- it takes the room that an operation needs: a Block that of a write, a Root that of a root
abbrev pub TakesRoomFor : Op → Entry → Type 0
TakesRoomFor o entry = ((writes_block o ≡ true) × (is_block entry ≡ true)) ⊎ ((puts_root o ≡ true) × (is_root entry ≡ true))

-- ---- what is there

-- an entry of which this is so stands in a shard's list and has not taken effect
pub record SomeWaits (core : Core) (shard : ℕ) (P : Entry → Type 0) : Type 0 where
  pub place : ℕ
  pub entry : Entry
  pub at : slice_get (group_of shard core).waiting place ≡ Some entry
  pub is : P entry

-- so does the entry of this number, and it was asked for by a line
pub record OwnWaits (core : Core) (shard number line : ℕ) : Type 0 where
  pub place : ℕ
  pub entry : Entry
  pub at : slice_get (group_of shard core).waiting place ≡ Some entry
  pub numbered : number ≡ front_of shard core + 1 + place
  pub asked : asked_by entry ≡ Some line

-- the Read of an entry for the operation of a line
abbrev pub read_of : ℕ → ℕ → Task
read_of number line = record { job = job.Read number; line = line }

-- a job is among those of a peer
pub record IsAmongJobs (core : Core) (peer : ℕ) (task : Task) : Type 0 where
  pub place : ℕ
  pub at : slice_get (tasks_of peer core) place ≡ Some task

-- or of some good peer that keeps a copy of a shard
pub record IsToBeRead (core : Core) (shard : ℕ) (task : Task) : Type 0 where
  pub peer : ℕ
  pub own : home peer core ≡ shard
  pub good : status_of peer core ≡ Good
  pub jobs : IsAmongJobs core peer task

-- ---- why an operation waits

-- its line, its shard, and what it asks
pub record Asker : Type 0 where
  pub line : ℕ
  pub shard : ℕ
  pub asks : Op

abbrev pub asker_of : ℕ → Waiting → Asker
asker_of line w = record { line = line; shard = w.shard; asks = w.operation.op }

-- it waits for a View that has not taken effect; for a Block of its address; for an entry that takes its room; for bytes that some good peer of its shard is to read for it; or for its own entry
abbrev pub HasCause : (List ℕ → Address) → Core → Asker → Wait → Type 0
HasCause name core a wait.View = slice_index_or core.progress.viewed a.shard false ≡ false
HasCause name core a wait.Address = SomeWaits core a.shard (StoresFor name a.asks)
HasCause name core a wait.Room = SomeWaits core a.shard (TakesRoomFor a.asks)
HasCause name core a (wait.Bytes number) = (reads_bytes a.asks ≡ true) × IsToBeRead core a.shard (read_of number a.line)
HasCause name core a (wait.Entry number) = OwnWaits core a.shard number a.line

-- so it is of each operation without an answer; and while a shard's current View has not taken effect, it stands in its list
pub record AreCaused (name : List ℕ → Address) (core : Core) : Type 0 where
  pub views : length core.progress.viewed ≡ (shape_of core).shards
  pub viewing : (shard : ℕ) → shard < (shape_of core).shards → slice_index_or core.progress.viewed shard false ≡ false
      → SomeWaits core shard (λ entry. entry ≡ kind.View (group_of shard core).view)
  pub caused : (line : ℕ) (w : Waiting) → operation_of line core ≡ Some w → HasCause name core (asker_of line w) w.wait

-- ---- nothing left to do

-- no operation is without an answer, and all entries have taken effect
pub record NothingWaits (core : Core) : Type 0 where
  pub operations : core.operations ≡ []
  pub lists : (shard : ℕ) → shard < (shape_of core).shards → (group_of shard core).waiting ≡ []
