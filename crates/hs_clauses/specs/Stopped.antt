-- A run of any number of copies that may be stopped: what its disks show from entry to its end, and that each shard keeps a good peer.
use Rattle.std.specs.List.{list_any}
use Rattle.std.specs.Prelude.{IsSome, List, None, Option, Some, [], false, length, true, ℕ, ◌++◌, ◌+◌, ◌-◌, ◌<◌, ◌^◌, ◌≡◌, ◌≢◌, ◌≤◌, ◌⊎◌}
use Rattle.hs_clauses.specs.Shown.{HasItsDisks, IsToldAs}
use Rattle.hs_events.specs.Course.{happened}
use Rattle.hs_events.specs.Found.{first_core, opened_list, starts_good}
use Rattle.hs_events.specs.Taken.{is_taken, peer_count, taken_list}
use Rattle.hs_events.specs.Whole.{open_whole}
use Rattle.hs_fold.specs.Good.{is_good}
use Rattle.hs_fold.specs.Images.{IsLeft}
use Rattle.hs_fold.specs.Shards.Course.{is_good_of}
use Rattle.hs_fold.specs.Shards.Images.{Image}
use Rattle.hs_fold.specs.Shards.Setting.{Numbered}
use Rattle.hs_members.specs.Members.{home_of}
use Rattle.hs_model.specs.declared.course.CourseItem.{CourseItem}
use Rattle.hs_moments.specs.Moments.{ListsAtMoments}
use Rattle.hs_moments.specs.WholeMachine.{whole_machine}
use Rattle.hs_peerlog.specs.Images.{GivesList, LeavesOnly}
use Rattle.hs_ports.specs.Moments.{disk_at}
use Rattle.hs_ports.specs.Objects.{IsDuring}
use Rattle.hs_promise.specs.declared.status.Status.TheVariants as status
use Rattle.hs_promise.specs.Ending.{ending_of}
use Rattle.hs_promise.specs.Machine.{NeverOpened}
use Rattle.hs_promise.specs.Run.{Ran, Script}
use Rattle.hs_promise.specs.Story.{Story, all_events}
use Rattle.hs_side.specs.Current.{list_in}
use Rattle.hs_standing.specs.Opening.{OpensSoundly}
use Rattle.hs_taking.specs.Copies.{IsOwnOrFront}

-- ---- what its disks show

-- a moment of a run up to the opening of its core
pub record IsEarly (r : Ran) (story : Story) (moment : ℕ) : Type 0 where
  pub above : r.old.moment < moment
  pub up_to : moment ≤ story.found.opened
  pub early : moment < 2 ^ 64 - 1

-- at a moment of opening the disk of a peer, of which a stop at entry left this list alone, leaves it still, or a front of that which its shard takes; and of the taken log just this
pub record LeavesAt (S : Script) (r : Ran) (story : Story) (peer : ℕ) (own : Numbered) (m : ℕ) : Type 0 where
  pub each : (image : Image) → IsLeft (disk_at r.new.disks peer) m image → GivesList (IsOwnOrFront own (taken_list S.set.shape story.found.logs (home_of S.set.shape peer))) image
  pub taken : is_taken S.set.shape story.found.logs peer ≡ true → (image : Image) → IsLeft (disk_at r.new.disks peer) m image → list_in image ≡ Some own

-- with any number of copies it went as a story says, whose logs are those of its disks, and its reports tell what the lists have; and this its disks leave.
-- early, lists: where its core opens over sound lists and goes on, up to the opening and behind it
-- ended, opened: where its core ended with its opening, at each moment; and of a peer that was good as it opened the list of its shard from then on
-- answered: a sink failed there only where something was answered
-- called: no call of a disk is ahead at its end, where a core that goes on opens over sound lists
pub record IsShownOf (S : Script) (r : Ran) (story : Story) : Type 0 where
  pub told : IsToldAs S r story
  pub early : OpensSoundly S.set story.found → (first_core S.set story.found).ended ≡ None → (peer : ℕ) → peer < peer_count S.set.shape → (own : Numbered) → LeavesOnly (disk_at r.old.disks peer) own
      → (m : ℕ) → IsEarly r story m → LeavesAt S r story peer own m
  pub lists : OpensSoundly S.set story.found → (first_core S.set story.found).ended ≡ None
      → ListsAtMoments whole_machine (open_whole S.set story.found) (happened (first_core S.set story.found) (all_events story)) (record { before = story.found.opened; now = r.new.moment; disks = r.new.disks })
  pub ended : IsSome (first_core S.set story.found).ended → (peer : ℕ) → peer < peer_count S.set.shape → (own : Numbered) → LeavesOnly (disk_at r.old.disks peer) own → (m : ℕ) → IsDuring r.old r.new m → LeavesAt S r story peer own m
  pub opened : IsSome (first_core S.set story.found).ended → (peer : ℕ) → peer < peer_count S.set.shape → starts_good story.found peer ≡ true → (m : ℕ) → story.found.opened < m
      → (image : Image) → IsLeft (disk_at r.new.disks peer) m image → list_in image ≡ Some (opened_list S.set story.found (home_of S.set.shape peer))
  pub answered : r.ending ≡ status.WriteFault → story.lines ≡ [] → 0 < length r.journal
  pub called : ((first_core S.set story.found).ended ≡ None → OpensSoundly S.set story.found) → (peer : ℕ) → peer < peer_count S.set.shape → (disk_at r.new.disks peer).last ≤ r.new.moment

-- or no core was opened
abbrev pub ShownOf : Script → Ran → Option Story → Type 0
ShownOf S r None = NeverOpened r
ShownOf S r (Some story) = IsShownOf S r story

-- all of it
pub record IsShownByMoments (S : Script) (r : Ran) : Type 0 where
  pub on : HasItsDisks S r
  pub left : length r.new.disks ≡ peer_count S.set.shape
  pub how : Option Story
  pub shown : ShownOf S r how

-- ---- that each shard keeps a good peer

-- a shard that has no good peer any more has none again: so it is at each place of the course, behind the Goods and Tooks that begin it
abbrev pub NoneReturns : Script → Ran → Type 0
NoneReturns S r =
    (front rest : List CourseItem) (shard : ℕ) → r.course ≡ front ++ rest → S.set.shape.shards + S.set.shape.shards ≤ length front
    → ((peer : ℕ) → home_of S.set.shape peer ≡ shard → is_good front (2 ^ 64) peer ≡ false)
    → (peer : ℕ) → home_of S.set.shape peer ≡ shard → list_any (is_good_of peer) rest ≡ false

-- and where memory was wanting it was so behind the reading of the logs, and the journal has room for a note of each peer
pub record KeepsCopies (S : Script) (r : Ran) : Type 0 where
  pub returns : NoneReturns S r
  pub memory : (ending_of r.ending).wanting ≡ true → (r.course ≢ []) × (peer_count S.set.shape ≤ S.set.limits.ops)

-- so it is; with one copy of each shard nothing is asked
abbrev pub MayLosePeers : Script → Ran → Type 0
MayLosePeers S r = (S.set.shape.copies ≡ 1) ⊎ KeepsCopies S r
