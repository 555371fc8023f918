-- What the command `audit` promises.
use Rattle.std.specs.Prelude.{List, [], length, ℕ, ◌<◌, ◌≡◌, ◌⊎◌}
use Rattle.hs_audit.specs.Audited.{Audits, CanBeAudited, IsLostShard}
use Rattle.hs_audit.specs.declared.fault.AuditFault.{AuditFault}
use Rattle.hs_audit.specs.declared.fault.AuditFault.TheVariants as fault
use Rattle.hs_fold.specs.Shards.Setting.{Setting}
use Rattle.hs_limits.specs.Limits.{greatest_limits}
use Rattle.hs_limits.specs.declared.address.Address.{Address}
use Rattle.hs_limits.specs.declared.shape.Shape.{Shape}
use Rattle.hs_ports.specs.Fault.{HasRisen}
use Rattle.hs_ports.specs.Putting.{PutsFront}
use Rattle.hs_ports.specs.Sink.{bytes_of, followed}
use Rattle.hs_promise.specs.Run.{Ran}
use Rattle.hs_promise.specs.declared.status.Status.{Status}
use Rattle.hs_promise.specs.declared.status.Status.TheVariants as status
use Rattle.hs_run.specs.Machine.{AreHanded}
use Rattle.hs_taking.specs.Disks.{DiskSeen, seen_at}
use Rattle.hs_taking.specs.Viewed.{IsFirstOther, IsOnlyRead}
use Rattle.hs_checks.specs.Silent.{RunsNoScript}

-- how it ends where an audit can't be given
abbrev pub audit_status : AuditFault → Status
audit_status (fault.WrongShape peer found) = status.WrongShape peer found
audit_status (fault.ShardLost shard) = status.ShardLost shard
audit_status fault.NoMemory = status.NoMemory

-- a text of the store was put, whole
pub record PutsAudit (tells : Type 0) (set : Setting) (old new : List DiskSeen) (r : Ran) : Type 0 where
  pub text : List ℕ
  pub audits : Audits tells set old new [] text
  pub put : bytes_of r.new.got ≡ followed (bytes_of r.old.got) text

-- or a front of it, since the sink failed
pub record PutsAuditFront (tells : Type 0) (set : Setting) (old new : List DiskSeen) (r : Ran) : Type 0 where
  pub text : List ℕ
  pub audits : Audits tells set old new [] text
  pub put : PutsFront (bytes_of r.old.got) text (bytes_of r.new.got)
  pub failed : HasRisen r.old.sink_faults r.new.sink_faults

-- how it ends, each with its cause, and what was put
abbrev pub EndsAudit : Type 0 → Setting → List DiskSeen → List DiskSeen → Ran → Status → Type 0
EndsAudit tells set old new r status.Done = PutsAudit tells set old new r
EndsAudit tells set old new r status.WriteFault = PutsAuditFront tells set old new r
EndsAudit tells set old new r (status.WrongShape peer found) = (r.new.got ≡ r.old.got) × IsFirstOther tells set.shape old new peer found
EndsAudit tells set old new r (status.ShardLost shard) = (r.new.got ≡ r.old.got) × IsLostShard tells set.shape old new shard
EndsAudit tells set old new r status.NoMemory = r.new.got ≡ r.old.got
EndsAudit tells set old new r other = ⊥

-- what the disks that were handed amount to was put, under the default limits; each disk is as it was, at each moment
pub record IsAudited (tells : Type 0) (name : List ℕ → Address) (shape : Shape) (r : Ran) : Type 0 where
  pub silent : RunsNoScript r
  pub old : List DiskSeen
  pub new : List DiskSeen
  pub before : AreHanded r.old old
  pub behind : AreHanded r.new new
  pub ends : EndsAudit tells (record { name = name; limits = greatest_limits; shape = shape }) old new r r.ending
  pub read : (peer : ℕ) → peer < length old → IsOnlyRead tells r.old.moment r.new.moment (seen_at old peer) (seen_at new peer)
  -- where each shard has a log, no disk is of another store, and nothing failed
  pub complete : tells → CanBeAudited shape old new → (HasRisen r.old.sink_faults r.new.sink_faults → ⊥) → (r.ending ≡ status.Done) ⊎ (r.ending ≡ status.NoMemory)
