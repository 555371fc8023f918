-- What an audit reads, and what it says.
use Rattle.std.specs.Prelude.{◌≡◌, ◌⊎◌, ◌++◌, ◌*◌, ◌<◌, ℕ, ⊤, List, length, Option, None, Some, IsSome}
use Rattle.hs_audit.specs.declared.fault.AuditFault.{AuditFault}
use Rattle.hs_audit.specs.declared.fault.AuditFault.TheVariants.{WrongShape, ShardLost, NoMemory}
use Rattle.hs_audit.specs.Text.{audit_text, lists_by, report}
use Rattle.hs_fold.specs.Runs.Opened.{catalogues, store_of}
use Rattle.hs_fold.specs.Shards.Setting.{Numbered, Setting}
use Rattle.hs_limits.specs.declared.shape.Shape.{Shape}
use Rattle.hs_limits.specs.Shape.{peer_of}
use Rattle.hs_peerlog.specs.declared.fault.LogFault.TheVariants as log
use Rattle.hs_peerlog.specs.Opening.{refusal_in}
use Rattle.hs_ports.specs.Fault.{HasRisen}
use Rattle.hs_side.specs.Current.{list_in}
use Rattle.hs_side.specs.declared.header.Header.{Header}
use Rattle.hs_taking.specs.declared.fault.TakeFault.{TakeFault}
use Rattle.hs_taking.specs.declared.fault.TakeFault.TheVariants as take
use Rattle.hs_taking.specs.Disks.{DiskSeen, seen_at}
use Rattle.hs_taking.specs.Viewed.{IsFirstOther, IsUnread}

-- the log of a peer's disk as it counts: what the disk reads as, or none, where its count rose in the call; and no call failed on one that counts
pub record CountsAs (tells : Type 0) (old new : DiskSeen) (log : Option Numbered) : Type 0 where
  pub read : tells → (log ≡ list_in old.stands.seen) ⊎ ((log ≡ None) × HasRisen old.faults new.faults)
  pub calm : IsSome log → new.faults ≡ old.faults

-- each disk of another store failed
abbrev pub HaveOthersFailed : Type 0 → Shape → List DiskSeen → List DiskSeen → Type 0
HaveOthersFailed tells shape old new =
    tells → (peer : ℕ) (found : Header) → peer < length old → refusal_in shape peer (seen_at old peer).stands.seen ≡ Some (log.WrongShape found)
    → HasRisen (seen_at old peer).faults (seen_at new peer).faults

-- a copy of a shard whose disk is a log or blank, and on which no call failed
pub record HasGoodCopy (tells : Type 0) (shape : Shape) (old new : List DiskSeen) (shard : ℕ) : Type 0 where
  pub copy : ℕ
  pub within : copy < shape.copies
  pub listed : tells → IsSome (list_in (seen_at old (peer_of shape shard copy)).stands.seen)
  pub calm : (seen_at new (peer_of shape shard copy)).faults ≡ (seen_at old (peer_of shape shard copy)).faults

-- what was put is the text of the store at which the lists that count open, where the disks tell; and whatever they tell, that of some lists, one for each shard
pub record Audits (tells : Type 0) (set : Setting) (old new : List DiskSeen) (before after : List ℕ) : Type 0 where
  pub log : ℕ → Option Numbered
  pub read : (peer : ℕ) → peer < length old → CountsAs tells (seen_at old peer) (seen_at new peer) (log peer)
  pub others : HaveOthersFailed tells set.shape old new
  pub shards : (shard : ℕ) → shard < set.shape.shards → HasGoodCopy tells set.shape old new shard
  pub told : tells → after ≡ before ++ audit_text set (lists_by (length old) log)
  pub lists : List Numbered
  pub one_each : length lists ≡ set.shape.shards
  pub said : after ≡ before ++ report (store_of (catalogues set 0 lists))

-- no disk of a shard counts: each one's count rose, or its sides are no log; each shard before it has one that counts, and each disk of another store failed
pub record IsLostShard (tells : Type 0) (shape : Shape) (old new : List DiskSeen) (shard : ℕ) : Type 0 where
  pub within : shard < shape.shards
  pub each : (copy : ℕ) → copy < shape.copies → IsUnread tells (seen_at old (peer_of shape shard copy)) (seen_at new (peer_of shape shard copy))
  pub first : (before : ℕ) → before < shard → HasGoodCopy tells shape old new before
  pub others : HaveOthersFailed tells shape old new

-- why an audit is refused: the first disk of another store whose count stands, and where there is none the first shard that is lost; want of memory needs no cause
abbrev pub IsAuditRefused : Type 0 → Shape → List DiskSeen → List DiskSeen → AuditFault → Type 0
IsAuditRefused tells shape old new (WrongShape peer found) = IsFirstOther tells shape old new peer found
IsAuditRefused tells shape old new (ShardLost shard) = IsLostShard tells shape old new shard
IsAuditRefused tells shape old new NoMemory = ⊤

-- the fault of an audit where the disks can't be viewed
abbrev pub of_viewing : TakeFault → AuditFault
of_viewing (take.WrongShape peer found) = WrongShape peer found
of_viewing take.NoMemory = NoMemory

-- disks that are audited where there is memory: none is of another store, each shard has one that is a log or blank, and none failed
pub record CanBeAudited (shape : Shape) (old new : List DiskSeen) : Type 0 where
  pub own : (peer : ℕ) (found : Header) → peer < shape.shards * shape.copies → refusal_in shape peer (seen_at old peer).stands.seen ≡ Some (log.WrongShape found) → ⊥
  pub read : (shard : ℕ) → shard < shape.shards → (copy : ℕ) × (copy < shape.copies) × IsSome (list_in (seen_at old (peer_of shape shard copy)).stands.seen)
  pub calm : (peer : ℕ) → peer < shape.shards * shape.copies → HasRisen (seen_at old peer).faults (seen_at new peer).faults → ⊥
