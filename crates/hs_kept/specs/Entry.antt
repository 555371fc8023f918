-- What is asked of the disks that a client's store is handed over on.
use Rattle.std.specs.Prelude.{List, Some, ℕ, ◌<◌, ◌≡◌, ◌≤◌, ◌⊎◌}
use Rattle.hs_asker.specs.Going.{AtEntry}
use Rattle.hs_asker.specs.Shows.{entry_lists}
use Rattle.hs_cluster.specs.Disks.{stands_of}
use Rattle.hs_events.specs.Taken.{peer_count, taken_lists}
use Rattle.hs_fold.specs.Shards.Setting.{Numbered}
use Rattle.hs_founded.specs.Spelled.{HoldBytes}
use Rattle.hs_limits.specs.declared.shape.Shape.{Shape}
use Rattle.hs_members.specs.Members.{home_of}
use Rattle.hs_ports.specs.Disk.{Standing}
use Rattle.hs_ports.specs.Moments.{disk_at}
use Rattle.hs_side.specs.Current.{list_in}
use Rattle.hs_sound.specs.Stay.{AreSoundAlong}

-- the disks at entry hold bytes, and have sound lists
pub record IsSoundEntry (e : AtEntry) : Type 0 where
  pub bytes : HoldBytes (stands_of e.disks)
  pub sound : AreSoundAlong e.set (taken_lists e.set.shape (entry_lists e))

-- no call of a disk was ahead; and those disks of a shard that have a log have the same one
pub record AreCopiesAlike (shape : Shape) (moment : ℕ) (disks : List Standing) : Type 0 where
  pub called : (peer : ℕ) → (disk_at disks peer).last ≤ moment
  pub same : (peer other : ℕ) (one its : Numbered) → peer < peer_count shape → other < peer_count shape → home_of shape peer ≡ home_of shape other
      → list_in (disk_at disks peer).seen ≡ Some one → list_in (disk_at disks other).seen ≡ Some its → its ≡ one

-- there is one copy of each shard, or it is so of its copies
abbrev pub OpensAlike : Shape → ℕ → List Standing → Type 0
OpensAlike shape moment disks = (shape.copies ≡ 1) ⊎ AreCopiesAlike shape moment disks
