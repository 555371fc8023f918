-- What opening found: which disks were read as what, and which peers were set aside.
use Rattle.std.specs.Prelude.{All, AllPairs, Bool, Contains, IsSome, None, false, length, slice_index_or, true, ℕ, ◌+◌, ◌-◌, ◌<◌, ◌^◌, ◌≡◌, ◌≤◌, ◌⊎◌}
use Rattle.hs_members.specs.Members.{home_of}
use Rattle.hs_ports.specs.declared.disk.Side.{Side}
use Rattle.hs_ports.specs.Moments.{disk_at}
use Rattle.hs_side.specs.Current.{list_in}
use Rattle.hs_events.specs.Reports.{failures}
use Rattle.hs_events.specs.Taken.{is_taken}
use Rattle.hs_promise.specs.Run.{DiskRose, Ran, Script}
use Rattle.hs_events.specs.Found.{first_core, starts_good}
use Rattle.hs_promise.specs.Story.{Story, all_events}
use Rattle.hs_events.specs.Taken.{peer_count}

-- a peer of a taken log whose disk failed before the core was opened, and when
pub record IsLostBefore (S : Script) (r : Ran) (story : Story) (lost : ℕ × ℕ) : Type 0 where
  pub taken : is_taken S.set.shape story.found.logs lost.0 ≡ true
  pub bad : starts_good story.found lost.0 ≡ false
  pub later : r.old.moment ≤ lost.1
  pub before : lost.1 ≤ story.found.opened

-- the taken log of a peer's shard was lost so
pub record IsLeftBehind (S : Script) (story : Story) (peer : ℕ) : Type 0 where
  pub lost : ℕ × ℕ
  pub among : Contains story.found.lost lost
  pub same_shard : home_of S.set.shape lost.0 ≡ home_of S.set.shape peer

-- how often the core was told that a disk failed; of a disk that tells its contents a read that fails is counted too
abbrev pub told_failures : Bool → Script → Story → ℕ → ℕ
told_failures tells S story disk = failures tells disk (first_core S.set story.found) (all_events story)

-- why a peer was not good when the core was opened: its disk failed, beside all that is told later; or is no log; or it was not yet made equal to a log that was lost
abbrev pub IsSetAside : Script → Ran → Story → ℕ → Type 0
IsSetAside S r story peer = DiskRose r (1 + told_failures false S story peer) peer ⊎ ((slice_index_or story.found.logs peer None ≡ None) ⊎ IsLeftBehind S story peer)

-- what was found
pub record HasFound (S : Script) (r : Ran) (story : Story) : Type 0 where
  pub logs : length story.found.logs ≡ peer_count S.set.shape
  pub goods : length story.found.good ≡ peer_count S.set.shape
  pub later : r.old.moment ≤ story.found.opened
  pub lost : All (IsLostBefore S r story) story.found.lost
  pub once : AllPairs (λ one other. (one.1 ≤ other.1) × (one.0 ≡ other.0 → ⊥)) story.found.lost
  pub all_lost : (peer : ℕ) → peer < peer_count S.set.shape → is_taken S.set.shape story.found.logs peer ≡ true → starts_good story.found peer ≡ false → (moment : ℕ) × Contains story.found.lost (peer, moment)
  pub kept : (peer : ℕ) → starts_good story.found peer ≡ true → IsSome (slice_index_or story.found.logs peer None)
  pub aside : (peer : ℕ) → peer < peer_count S.set.shape → starts_good story.found peer ≡ false → IsSetAside S r story peer

-- and so where the disks tell their contents
abbrev pub IsToldAside : Script → Ran → Story → ℕ → Type 0
IsToldAside S r story peer =
    DiskRose r (1 + told_failures true S story peer) peer
    ⊎ ((slice_index_or story.found.logs peer None ≡ None) × (list_in (disk_at r.old.disks peer).seen ≡ None) ⊎ IsLeftBehind S story peer)

-- where the disks tell their contents no call changed its disk from then on until the core was opened
abbrev pub IsStillBehind : Ran → Story → ℕ × ℕ → Type 0
IsStillBehind r story lost =
    (m : ℕ) (side : Side) → lost.1 < m → m ≤ story.found.opened → m < 2 ^ 64 - 1
    → (disk_at r.new.disks lost.0).past m side ≡ (disk_at r.new.disks lost.0).past (lost.1 + 1) side

-- and there a peer's log is that of its disk, or its disk failed and counts as having none
abbrev pub IsReadAs : Ran → Story → ℕ → Type 0
IsReadAs r story peer =
    (slice_index_or story.found.logs peer None ≡ list_in (disk_at r.old.disks peer).seen)
    ⊎ (slice_index_or story.found.logs peer None ≡ None) × DiskRose r 1 peer
