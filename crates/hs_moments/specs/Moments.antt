-- What stops leave of the disks while a machine runs.
use Rattle.std.specs.Prelude.{◌≡◌, ◌≢◌, ℕ, ◌-◌, ◌^◌, ◌<◌, ◌≤◌, true, List, length, Some}
use Rattle.hs_ports.specs.declared.disk.Side.{Side}
use Rattle.hs_ports.specs.Disk.{IsImage, Standing}
use Rattle.hs_ports.specs.Moments.{disk_at}
use Rattle.hs_entry.specs.declared.entry.Entry.{Entry}
use Rattle.hs_side.specs.Current.{list_in}
use Rattle.hs_fold.specs.Images.{IsLeft}
use Rattle.hs_moments.specs.Machine.{Machine, state_at}
use Rattle.hs_moments.specs.WholeMachine.{IsFrontOf, last_of}

-- both sides as a crash may leave them from now on
pub record IsStanding (disk : Standing) (image : Side → List ℕ) : Type 0 where
  pub sides : (side : Side) → IsImage (disk.loose side) (image side)

-- calls on one disk of several, from the moment before to now: whatever a crash leaves of it has P
pub record EachImageOfOne (before now i : ℕ) (old new : List Standing) (P : (Side → List ℕ) → Type 0) : Type 0 where
  pub later : before ≤ now
  pub count : length new ≡ length old
  pub last : (disk_at new i).last ≤ now
  pub earlier : (side : Side) (m : ℕ) → m ≤ before → m < 2 ^ 64 - 1 → (disk_at new i).past m side ≡ (disk_at old i).past m side
  pub each : (m : ℕ) → before < m → m < 2 ^ 64 - 1 → (image : Side → List ℕ) → IsLeft (disk_at new i) m image → P image
  pub standing : (image : Side → List ℕ) → IsStanding (disk_at new i) image → P image
  pub others : (k : ℕ) → k ≢ i → disk_at new k ≡ disk_at old k

-- a stretch of a run: the moments behind `before` and up to `now`, and the disks then
pub record Stretch : Type 0 where
  pub before : ℕ
  pub now : ℕ
  pub disks : List Standing

-- at a moment behind its last call a disk has what it may leave now
abbrev pub Since : List Standing → Type 0
Since disks = (k : ℕ) (side : Side) (m : ℕ) → (disk_at disks k).last < m → (disk_at disks k).past m side ≡ (disk_at disks k).loose side

module _ {State Event : Type 0} (M : Machine State Event) where
  -- the image's list is a prefix of the peer's, and not too short
  pub record GivesFine (c : State) (peer : ℕ) (image : Side → List ℕ) : Type 0 where
    pub list : List (ℕ × Entry)
    pub read : list_in image ≡ Some list
    pub front : IsFrontOf peer list (M.reach c peer)
    pub long : M.floor c peer ≤ last_of list

  -- what the cluster keeps between two events
  pub record Keeps (c : State) (now : ℕ) (disks : List Standing) : Type 0 where
    pub called : (peer : ℕ) → (disk_at disks peer).last ≤ now
    pub fine : (peer : ℕ) → M.counts c peer ≡ true → (image : Side → List ℕ) → IsStanding (disk_at disks peer) image → GivesFine c peer image

  -- lists at each moment of a stretch of a run
  pub record ListsAtMoments (c : State) (events : List (Event × ℕ)) (stretch : Stretch) : Type 0 where
    pub fine : (m peer : ℕ) → stretch.before < m → m ≤ stretch.now → m < 2 ^ 64 - 1 → M.counts (state_at M c events m) peer ≡ true
        → (image : Side → List ℕ) → IsLeft (disk_at stretch.disks peer) m image → GivesFine (state_at M c events m) peer image

  -- what an event does to a peer whose disk it does not speak of: the list grows, and no more of it is sealed
  pub record Grows (c c' : State) (peer : ℕ) : Type 0 where
    pub counted : M.counts c' peer ≡ true → M.counts c peer ≡ true
    pub front : (list : List (ℕ × Entry)) → IsFrontOf peer list (M.reach c peer) → IsFrontOf peer list (M.reach c' peer)
    pub long : M.floor c' peer ≤ M.floor c peer
