-- What a peer's first job asks for, beside the machine of its shard's copies.
use Rattle.std.specs.Prelude.{◌≡◌, ℕ, ◌+◌, ◌≤◌, Some, length, slice_get}
use Rattle.hs_copies.specs.Lists.{Item}
use Rattle.hs_copies.specs.Machine.{Clearing, Copies, Following}
use Rattle.hs_core_words.specs.Looking.{group_of, lead_of, status_of}
use Rattle.hs_core_words.specs.State.{Core}
use Rattle.hs_desk.specs.declared.job.Job.{Job}
use Rattle.hs_desk.specs.declared.job.Job.TheVariants as job
use Rattle.hs_entry.specs.declared.entry.Entry.{Entry}
use Rattle.hs_limits.specs.declared.limits.PeerStatus.TheVariants.{Good, Joining}
use Rattle.hs_replica.specs.Group.{copy_of}

-- the entry of this number is the next of a good peer's list that it has not sealed
pub record IsNextToSeal (shard : ℕ) (core : Core) (copies : Copies Entry) (peer number : ℕ) (entry : Entry) : Type 0 where
  pub good : status_of peer core ≡ Good
  pub next : number ≡ (copy_of (group_of shard core) peer).sealed + 1
  pub view : ℕ
  pub there : slice_get (copies.peers peer).list (copy_of (group_of shard core) peer).sealed ≡ Some (record { view = view; what = entry })

-- it is the next of the lead's list that a joining peer has not got, and the lead has sealed it
pub record IsNextToCopy (shard : ℕ) (core : Core) (copies : Copies Entry) (peer number : ℕ) : Type 0 where
  pub joins : status_of peer core ≡ Joining
  pub follows : (copies.peers peer).stage ≡ Following
  pub next : number ≡ length (copies.peers peer).list + 1
  pub lead : ℕ
  pub leads : lead_of shard core ≡ Some lead
  pub sealed : number ≤ (copy_of (group_of shard core) lead).sealed
  pub item : Item Entry
  pub there : slice_get (copies.peers lead).list (length (copies.peers peer).list) ≡ Some item

-- a joining peer is to be emptied
pub record IsNextToEmpty (core : Core) (copies : Copies Entry) (peer : ℕ) : Type 0 where
  pub joins : status_of peer core ≡ Joining
  pub clears : (copies.peers peer).stage ≡ Clearing

abbrev pub IsNextFor : ℕ → Core → Copies Entry → ℕ → Job → Type 0
IsNextFor shard core copies peer (job.Append number entry) = IsNextToSeal shard core copies peer number entry
IsNextFor shard core copies peer (job.Seal number) = (entry : Entry) × IsNextToSeal shard core copies peer number entry
IsNextFor shard core copies peer (job.Read number) = status_of peer core ≡ Good
IsNextFor shard core copies peer job.Reset = IsNextToEmpty core copies peer
IsNextFor shard core copies peer (job.Copy from number) = IsNextToCopy shard core copies peer number
IsNextFor shard core copies peer job.Reclaim = ⊥
