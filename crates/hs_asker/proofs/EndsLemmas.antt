-- How a run ended whose asker has ended so, or goes on.
use Rattle.std.proofs.Common.{◌≡◌, ℕ, false, Option, Some, None, Err, refl}
use Rattle.std.proofs.lemmas.Bool.{false≢true, true≢false}
use Rattle.std.specs.Prelude.{⊤}
use Rattle.hs_cluster.specs.Calls.{outcome_by, ran_out}
use Rattle.hs_cluster.specs.declared.fault.ClusterFault.{ClusterFault}
use Rattle.hs_cluster.specs.declared.fault.ClusterFault.TheVariants as cluster
use Rattle.hs_desk.specs.declared.fault.CoreFault.{CoreFault}
use Rattle.hs_desk.specs.declared.fault.CoreFault.TheVariants as core
use Rattle.hs_promise.specs.declared.status.Status.TheVariants as status
use Rattle.hs_promise.specs.Ending.{ending_of}
use Rattle.hs_promise.specs.Machine.{EndsAs}
use Rattle.hs_side.specs.declared.header.Header.{Header}
use Rattle.hs_run.proofs.EndsLemmas.{no_shape}
use Rattle.hs_asker.specs.Asked.{core_of}
use Rattle.hs_asker.specs.Silent.{status_by}

-- ---- it ends as a run of a script alone does

pub never_shape : (why : Option CoreFault) (peer : ℕ) (found : Header) → status_by why ≡ status.WrongShape peer found → ⊥
never_shape None peer found e = cc
never_shape (Some core.OpsFull) peer found e = cc
never_shape (Some (core.ShardLost shard)) peer found e = cc
never_shape (Some core.NoMemory) peer found e = cc

pub never_read : (why : Option CoreFault) → status_by why ≡ status.ReadFault → ⊥
never_read None e = cc
never_read (Some core.OpsFull) e = cc
never_read (Some (core.ShardLost shard)) e = cc
never_read (Some core.NoMemory) e = cc

pub never_write : (why : Option CoreFault) → status_by why ≡ status.WriteFault → ⊥
never_write None e = cc
never_write (Some core.OpsFull) e = cc
never_write (Some (core.ShardLost shard)) e = cc
never_write (Some core.NoMemory) e = cc

-- where it has ended, its last line was not gone past
pub none_past : (fault : CoreFault) → (ending_of (status_by (Some fault))).past ≡ false
none_past core.OpsFull = refl
none_past (core.ShardLost shard) = refl
none_past core.NoMemory = refl

-- where all was put, memory did not run out
pub told_out : (fault : ClusterFault) → (ending_of (status_by (Some (core_of fault)))).short ≡ false → ran_out {T = ⊤} (Err fault) ≡ false
told_out (cluster.WrongShape peer found) whole = refl
told_out (cluster.ShardLost shard) whole = refl
told_out cluster.OpsFull whole = refl
told_out cluster.NoMemory whole = absurd (true≢false whole)

-- ---- between two lines

-- it goes on, or memory was wanting
abbrev pub IsBetween : Option CoreFault → Type 0
IsBetween None = ⊤
IsBetween (Some core.OpsFull) = ⊥
IsBetween (Some (core.ShardLost shard)) = ⊥
IsBetween (Some core.NoMemory) = ⊤

pub ends_between : (why : Option CoreFault) (ended : Option CoreFault) → IsBetween why → ended ≡ None → EndsAs (ending_of (status_by why)) ended
ends_between None ended h none = record { scripted = refl; opened = refl; past = λ past. none; full = λ full. absurd (false≢true full); lost = tt }
ends_between (Some core.OpsFull) ended h none = absurd h
ends_between (Some (core.ShardLost shard)) ended h none = absurd h
ends_between (Some core.NoMemory) ended h none = record { scripted = refl; opened = refl; past = λ past. absurd (false≢true past); full = λ full. absurd (false≢true full); lost = tt }

-- ---- within one

shard_ended : (o : Option CoreFault) (shard : ℕ) → Err (cluster.ShardLost shard) ≡ outcome_by o → o ≡ Some (core.ShardLost shard)
shard_ended None shard e = absurd cc
shard_ended (Some core.OpsFull) shard e = absurd cc
shard_ended (Some (core.ShardLost s)) shard e = cc
shard_ended (Some core.NoMemory) shard e = absurd cc

full_ended : (o : Option CoreFault) → Err cluster.OpsFull ≡ outcome_by o → o ≡ Some core.OpsFull
full_ended None e = absurd cc
full_ended (Some core.OpsFull) e = refl
full_ended (Some (core.ShardLost s)) e = absurd cc
full_ended (Some core.NoMemory) e = absurd cc

pub ends_within : (fault : ClusterFault) (ended : Option CoreFault) → (ran_out {T = ⊤} (Err fault) ≡ false → Err fault ≡ outcome_by ended) → EndsAs (ending_of (status_by (Some (core_of fault)))) ended
ends_within (cluster.WrongShape peer found) ended told = absurd (no_shape ended peer found (told refl))
ends_within (cluster.ShardLost shard) ended told = record { scripted = refl; opened = refl; past = λ past. absurd (false≢true past); full = λ full. absurd (false≢true full); lost = shard_ended ended shard (told refl) }
ends_within cluster.OpsFull ended told = record { scripted = refl; opened = refl; past = λ past. absurd (false≢true past); full = λ full. full_ended ended (told refl); lost = tt }
ends_within cluster.NoMemory ended told = record { scripted = refl; opened = refl; past = λ past. absurd (false≢true past); full = λ full. absurd (false≢true full); lost = tt }
