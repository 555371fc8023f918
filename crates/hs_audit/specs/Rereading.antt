-- What the calls of an audit leave behind the views of all disks.
use Rattle.std.specs.List.{range_with_len}
use Rattle.std.specs.Prelude.{◌≡◌, ◌≤◌, ◌<◌, ◌⊎◌, ◌*◌, ℕ, Bool, true, false, List, [], length, map, if◌then◌else◌, Option, None, Some, IsSome, IfSome, is_some, Result, Ok, Err, slice_index_or, unwrap_or}
use Rattle.hs_audit.specs.declared.fault.AuditFault.{AuditFault}
use Rattle.hs_audit.specs.declared.fault.AuditFault.TheVariants.{WrongShape, ShardLost, NoMemory}
use Rattle.hs_fold.specs.Opened.{chosen}
use Rattle.hs_fold.specs.Runs.Opened.{catalogues}
use Rattle.hs_fold.specs.Shards.Setting.{Numbered, Setting}
use Rattle.hs_limits.specs.declared.shape.Shape.{Shape}
use Rattle.hs_limits.specs.Shape.{peer_of}
use Rattle.hs_memory.specs.Forget.{apply_all}
use Rattle.hs_memory.specs.Whole.{add_folds}
use Rattle.hs_model.specs.declared.plain.PlainStore.{PlainStore}
use Rattle.hs_model.specs.Plain.{plain_of}
use Rattle.hs_model.specs.Store.{empty_store}
use Rattle.hs_peerlog.specs.Views.{Viewing}
use Rattle.hs_ports.specs.declared.disk.Side.{Side}
use Rattle.hs_ports.specs.Fault.{HasRisen}
use Rattle.hs_shard.specs.Facts.{Catalogue, empty_catalogue}
use Rattle.hs_side.specs.Current.{list_in}
use Rattle.hs_taking.specs.Disks.{DiskSeen, seen_at}
use Rattle.hs_taking.specs.Viewed.{IsViewOf}

-- whether memory ran out
abbrev pub ran_out : {T : Type 0} → Result T AuditFault → Bool
ran_out (Ok x) = false
ran_out (Err (WrongShape peer found)) = false
ran_out (Err (ShardLost shard)) = false
ran_out (Err NoMemory) = true

-- the view of a peer
abbrev pub viewing_at : List (Option Viewing) → ℕ → Option Viewing
viewing_at views peer = slice_index_or views peer None

-- each view is of its disk as it stands
abbrev pub AreViewsOf : Type 0 → Shape → List DiskSeen → List (Option Viewing) → Type 0
AreViewsOf tells shape disks views = (peer : ℕ) → peer < shape.shards * shape.copies → IfSome (viewing_at views peer) (IsViewOf tells shape peer (seen_at disks peer))

-- reads of a disk leave it as it is, and its count never falls
pub record IsStill (tells : Type 0) (old new : DiskSeen) : Type 0 where
  pub same : tells → new.stands ≡ old.stands
  pub size : (side : Side) → new.size side ≡ old.size side
  pub counted : old.faults ≤ new.faults

-- a view stays, and so does its disk's count; or it is given up, since its disk failed
abbrev pub IsReread : Type 0 → DiskSeen → DiskSeen → Option Viewing → Option Viewing → Type 0
IsReread tells old new before after = ((after ≡ before) × (new.faults ≡ old.faults)) ⊎ ((after ≡ None) × (tells → HasRisen old.faults new.faults))

-- so for each peer
abbrev pub AreStill : Type 0 → ℕ → List DiskSeen → List DiskSeen → Type 0
AreStill tells peers old new = (peer : ℕ) → peer < peers → IsStill tells (seen_at old peer) (seen_at new peer)

abbrev pub AreReread : Type 0 → ℕ → List DiskSeen → List DiskSeen → List (Option Viewing) → List (Option Viewing) → Type 0
AreReread tells peers old new before after = (peer : ℕ) → peer < peers → IsReread tells (seen_at old peer) (seen_at new peer) (viewing_at before peer) (viewing_at after peer)

-- the list of a disk that has a view
abbrev pub viewed_list : List DiskSeen → List (Option Viewing) → ℕ → Numbered
viewed_list disks views peer = if is_some (viewing_at views peer) then unwrap_or (list_in (seen_at disks peer).stands.seen) [] else []

-- those of a shard
abbrev pub shard_lists : Shape → List DiskSeen → List (Option Viewing) → ℕ → List Numbered
shard_lists shape disks views shard = map (viewed_list disks views) (range_with_len (peer_of shape shard 0) shape.copies)

-- a copy of a shard has a view
pub record HasShardView (shape : Shape) (views : List (Option Viewing)) (shard : ℕ) : Type 0 where
  pub copy : ℕ
  pub within : copy < shape.copies
  pub there : IsSome (viewing_at views (peer_of shape shard copy))

-- no copy has one
abbrev pub HasNoShardView : Shape → List (Option Viewing) → ℕ → Type 0
HasNoShardView shape views shard = (copy : ℕ) → copy < shape.copies → viewing_at views (peer_of shape shard copy) ≡ None

-- a view of a shard was given up, and no other
pub record HasGivenUp (shape : Shape) (shard : ℕ) (before after : List (Option Viewing)) : Type 0 where
  pub copy : ℕ
  pub within : copy < shape.copies
  pub had : IsSome (viewing_at before (peer_of shape shard copy))
  pub gone : viewing_at after (peer_of shape shard copy) ≡ None
  pub others : (peer : ℕ) → (peer ≡ peer_of shape shard copy → ⊥) → viewing_at after peer ≡ viewing_at before peer

-- some list was folded: where the disk tells the one that it reads as
pub record IsLogOf (tells : Type 0) (fold : Numbered → Catalogue) (disk : DiskSeen) (catalogue : Catalogue) : Type 0 where
  pub list : Numbered
  pub folded : catalogue ≡ fold list
  pub told : tells → list_in disk.stands.seen ≡ Some list

-- some list was folded: where the disks tell that of greatest rank of a shard
pub record IsTakenOf (tells : Type 0) (fold : Numbered → Catalogue) (shape : Shape) (disks : List DiskSeen) (views : List (Option Viewing)) (shard : ℕ) (catalogue : Catalogue) : Type 0 where
  pub list : Numbered
  pub folded : catalogue ≡ fold list
  pub told : tells → list ≡ chosen (shard_lists shape disks views shard)
  pub viewed : HasShardView shape views shard

-- how a log is folded
abbrev pub fold_in : Setting → ℕ → Numbered → Catalogue
fold_in set shard = apply_all set.name (empty_catalogue set.shape shard)

-- the first shards were folded, and put into a plain store
pub record IsGathered (tells : Type 0) (set : Setting) (disks : List DiskSeen) (views : List (Option Viewing)) (shards : ℕ) (store : PlainStore) : Type 0 where
  pub lists : List Numbered
  pub one_each : length lists ≡ shards
  pub folded : plain_of store ≡ add_folds set.shape 0 (catalogues set 0 lists) (empty_store set.shape.shards)
  pub told : tells → (shard : ℕ) → shard < shards → slice_index_or lists shard [] ≡ chosen (shard_lists set.shape disks views shard)
  pub viewed : (shard : ℕ) → shard < shards → HasShardView set.shape views shard

-- this shard has no view, each one before it has one
pub record IsWithoutView (shape : Shape) (views : List (Option Viewing)) (shard : ℕ) : Type 0 where
  pub within : shard < shape.shards
  pub none : HasNoShardView shape views shard
  pub first : (before : ℕ) → before < shard → HasShardView shape views before

-- of a fault: there is no view
abbrev pub IsNotViewed : ℕ → Option Viewing → AuditFault → Type 0
IsNotViewed shard view (WrongShape peer found) = ⊥
IsNotViewed shard view (ShardLost lost) = (lost ≡ shard) × (view ≡ None)
IsNotViewed shard view NoMemory = Unit {0}

-- of a fault: the shard has no view
abbrev pub IsUnviewed : Shape → List (Option Viewing) → ℕ → AuditFault → Type 0
IsUnviewed shape views shard (WrongShape peer found) = ⊥
IsUnviewed shape views shard (ShardLost lost) = (lost ≡ shard) × HasNoShardView shape views shard
IsUnviewed shape views shard NoMemory = Unit {0}

-- the first shard without one
abbrev pub IsFirstUnviewed : Shape → List (Option Viewing) → AuditFault → Type 0
IsFirstUnviewed shape views (WrongShape peer found) = ⊥
IsFirstUnviewed shape views (ShardLost shard) = IsWithoutView shape views shard
IsFirstUnviewed shape views NoMemory = Unit {0}
