-- The causes of the statuses that need no contents, and that of a full journal.
use Rattle.std.specs.Prelude.{All, [], length, ℕ, ◌++◌, ◌<◌, ◌≡◌}
use Rattle.hs_events.specs.Taken.{peer_count}
use Rattle.hs_model.specs.Store.{Store}
use Rattle.hs_ports.specs.Fault.{HasRisen}
use Rattle.hs_promise.specs.Answers.{Answers, IsEntry}
use Rattle.hs_promise.specs.Lost.{LostCause}
use Rattle.hs_promise.specs.Run.{Ran, Script}
use Rattle.hs_promise.specs.declared.status.Status.{Status}
use Rattle.hs_promise.specs.declared.status.Status.TheVariants as status

-- a run ends so only there, and never as only a command ends that runs no script; where it ends otherwise nothing was refused. Lost: what is said of a shard that is lost
abbrev pub CauseBy : (ℕ → Type 0) → Script → Ran → Status → Type 0
CauseBy Lost S r status.Done = r.refused ≡ []
CauseBy Lost S r status.Usage = r.refused ≡ []
CauseBy Lost S r (status.BadLine line) = r.refused ≡ []
CauseBy Lost S r (status.ShardLost shard) = (r.refused ≡ []) × Lost shard
CauseBy Lost S r status.ReadFault = (r.refused ≡ []) × HasRisen r.old.source_faults r.new.source_faults
CauseBy Lost S r status.WriteFault = (r.refused ≡ []) × HasRisen r.old.sink_faults r.new.sink_faults
CauseBy Lost S r status.NoMemory = r.refused ≡ []
CauseBy Lost S r (status.WrongShape peer found) = (r.refused ≡ []) × (r.journal ≡ []) × (r.course ≡ []) × (peer < peer_count S.set.shape)
CauseBy Lost S r (status.Mismatch session place told kept) = ⊥
CauseBy Lost S r status.OpsFull = (S.set.limits.ops < length (r.journal ++ r.refused)) × All (IsEntry S r.line) r.refused
CauseBy Lost S r (status.Torn peer place told kept) = ⊥
CauseBy Lost S r (status.NotEmpty blocks roots) = ⊥
CauseBy Lost S r status.InputFull = r.refused ≡ []
CauseBy Lost S r (status.Refused reply) = ⊥
CauseBy Lost S r (status.NotATree address) = ⊥
CauseBy Lost S r (status.NoSource peer) = ⊥
CauseBy Lost S r (status.CopyFull blocks) = ⊥

-- with why a shard is lost
abbrev pub Cause : Script → Ran → Status → Type 0
Cause S r ending = CauseBy (LostCause S r) S r ending

-- without: it is one of the store
abbrev pub CauseButLoss : Script → Ran → Status → Type 0
CauseButLoss S r ending = CauseBy (λ shard. shard < S.set.shape.shards) S r ending

-- where a run ended since the journal was full, its entries and those that were refused would have answered as the plain store does
abbrev pub FullCause : Script → Store → Ran → Type 0
FullCause S entry r = r.ending ≡ status.OpsFull → Answers S entry (r.journal ++ r.refused)
