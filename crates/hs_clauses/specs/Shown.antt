-- A run over sound lists; one on disks that tell their contents, for any number of copies; and with one copy of each shard what is shown of its disks at each moment.
use Rattle.std.specs.Prelude.{IsSome, None, Option, Some, length, true, ℕ, ◌<◌, ◌≡◌, ◌≤◌, ◌⊎◌}
use Rattle.hs_clauses.specs.Asked.{start_of}
use Rattle.hs_cluster.specs.Kept.{AreTold}
use Rattle.hs_cluster.specs.Rooms.{HaveRecordRoom}
use Rattle.hs_events.specs.Course.{happened}
use Rattle.hs_events.specs.Found.{first_core}
use Rattle.hs_events.specs.Taken.{peer_count}
use Rattle.hs_events.specs.Whole.{open_whole}
use Rattle.hs_fold.specs.Images.{IsLeft}
use Rattle.hs_fold.specs.Shards.Images.{Image}
use Rattle.hs_fold.specs.Shards.Setting.{Numbered}
use Rattle.hs_standing.specs.Held.{GivesAddresses}
use Rattle.hs_journal.specs.Events.{client_op}
use Rattle.hs_limits.specs.Shape.{IsShape}
use Rattle.hs_moments.specs.Moments.{ListsAtMoments}
use Rattle.hs_moments.specs.WholeMachine.{whole_machine}
use Rattle.hs_peerlog.specs.Images.{LeavesOnly}
use Rattle.hs_ports.specs.Moments.{disk_at}
use Rattle.hs_ports.specs.Objects.{IsDuring}
use Rattle.hs_promise.specs.Ending.{ending_of}
use Rattle.hs_promise.specs.Entry.{entry_store}
use Rattle.hs_promise.specs.Found.{IsReadAs}
use Rattle.hs_promise.specs.Machine.{NeverOpened, Went}
use Rattle.hs_promise.specs.Run.{Ran, Script}
use Rattle.hs_promise.specs.Story.{Story, all_events}
use Rattle.hs_side.specs.Current.{list_in}
use Rattle.hs_standing.specs.Answered.{TellTheirBlocks}
use Rattle.hs_standing.specs.Opening.{OpensSoundly}
use Rattle.hs_standing.specs.Run.{RunBegins}
use Rattle.hs_standing.specs.Standing.{judging_of}

-- ---- disks

-- no disk had a call at a later moment than the watch shows, and whatever a stop leaves of one that reads as a log has that list
pub record HaveOneList (r : Ran) : Type 0 where
  pub called : (peer : ℕ) → (disk_at r.old.disks peer).last ≤ r.old.moment
  pub only : (peer : ℕ) (list : Numbered) → list_in (disk_at r.old.disks peer).seen ≡ Some list → LeavesOnly (disk_at r.old.disks peer) list

-- whatever a stop leaves of a disk in a run has the list that whatever it left at entry had
abbrev pub KeepsList : Ran → ℕ → Type 0
KeepsList r peer =
    (list : Numbered) → LeavesOnly (disk_at r.old.disks peer) list
    → (m : ℕ) → IsDuring r.old r.new m → (image : Image) → IsLeft (disk_at r.new.disks peer) m image → list_in image ≡ Some list

-- so does each disk, where none had a call ahead
abbrev pub KeepLists : Script → Ran → Type 0
KeepLists S r = ((peer : ℕ) → (disk_at r.old.disks peer).last ≤ r.old.moment) → (peer : ℕ) → peer < S.set.shape.shards → KeepsList r peer

-- ---- a run

-- for any number of copies it went as a story says, and begins over sound lists, at the store at entry; a core that goes on has room for root records, and its
-- reports tell the bytes of their blocks
pub record RunsSoundly (S : Script) (r : Ran) (story : Story) : Type 0 where
  pub went : Went S r story
  pub begins : RunBegins (start_of S r) story.found
  pub rooms : HaveRecordRoom (first_core S.set story.found) (all_events story)
  pub blocks : TellTheirBlocks (judging_of (start_of S r)) (entry_store S r) (first_core S.set story.found) (all_events story)

-- so it is too where each report tells what the list of the peer that was asked has
pub record RunsTold (S : Script) (r : Ran) (story : Story) : Type 0 where
  pub went : Went S r story
  pub begins : RunBegins (start_of S r) story.found
  pub rooms : HaveRecordRoom (first_core S.set story.found) (all_events story)
  pub told : (first_core S.set story.found).ended ≡ None → AreTold (open_whole S.set story.found) (all_events story)

-- ---- on disks that tell their contents, for any number of copies

-- a shape that is served, on a disk for each peer; blocks are named by addresses of 32 bytes, and line 0 is nobody's
pub record HasItsDisks (S : Script) (r : Ran) : Type 0 where
  pub shape : IsShape S.set.shape
  pub names : GivesAddresses S.set.name
  pub nobody : client_op (S.commands 0) ≡ None
  pub disks : length r.old.disks ≡ peer_count S.set.shape

-- it went as a story says, whose logs are those of its disks; a core that goes on has room for root records, and its reports tell of blocks what the lists have,
-- where it opens over sound lists
pub record IsToldAs (S : Script) (r : Ran) (story : Story) : Type 0 where
  pub went : Went S r story
  pub read : (peer : ℕ) → peer < peer_count S.set.shape → IsReadAs r story peer
  pub rooms : HaveRecordRoom (first_core S.set story.found) (all_events story)
  pub told : OpensSoundly S.set story.found → (first_core S.set story.found).ended ≡ None → AreTold (open_whole S.set story.found) (all_events story)

-- or no core was opened
abbrev pub ToldAs : Script → Ran → Option Story → Type 0
ToldAs S r None = NeverOpened r
ToldAs S r (Some story) = IsToldAs S r story

-- all of it
pub record IsToldRun (S : Script) (r : Ran) : Type 0 where
  pub on : HasItsDisks S r
  pub how : Option Story
  pub told : ToldAs S r how

-- with one copy of each shard, or where no call of a disk was ahead of the watch at entry: then reports tell what the lists have
abbrev pub IsBehindAtEntry : Script → Ran → Type 0
IsBehindAtEntry S r = (S.set.shape.copies ≡ 1) ⊎ ((peer : ℕ) → (disk_at r.old.disks peer).last ≤ r.old.moment)

-- ---- with one copy of each shard

-- it went as a story says, whose logs are those of its disks; a core that goes on has room for root records, and its reports tell of blocks what the lists have;
-- and of the lists at each moment, whether the core goes on behind its opening or has ended with it
pub record IsShown (S : Script) (r : Ran) (story : Story) : Type 0 where
  pub went : Went S r story
  pub read : (peer : ℕ) → peer < peer_count S.set.shape → IsReadAs r story peer
  pub rooms : HaveRecordRoom (first_core S.set story.found) (all_events story)
  pub told : (first_core S.set story.found).ended ≡ None → AreTold (open_whole S.set story.found) (all_events story)
  pub lists : HaveOneList r → (first_core S.set story.found).ended ≡ None
      → ListsAtMoments whole_machine (open_whole S.set story.found) (happened (first_core S.set story.found) (all_events story)) (record { before = r.old.moment; now = r.new.moment; disks = r.new.disks })
  pub ended : IsSome (first_core S.set story.found).ended → KeepLists S r

-- no core was opened; where memory was wanting each disk keeps its list
pub record IsUnopened (S : Script) (r : Ran) : Type 0 where
  pub never : NeverOpened r
  pub kept : (ending_of r.ending).wanting ≡ true → KeepLists S r

abbrev pub ShownAs : Script → Ran → Option Story → Type 0
ShownAs S r None = IsUnopened S r
ShownAs S r (Some story) = IsShown S r story

-- one copy of each shard, on a disk for each; blocks are named by addresses of 32 bytes, and line 0 is nobody's
pub record OnDisks (S : Script) (r : Ran) : Type 0 where
  pub shape : IsShape S.set.shape
  pub one : S.set.shape.copies ≡ 1
  pub names : GivesAddresses S.set.name
  pub nobody : client_op (S.commands 0) ≡ None
  pub disks : length r.old.disks ≡ S.set.shape.shards
  pub left : length r.new.disks ≡ S.set.shape.shards

-- all of it
pub record IsShownRun (S : Script) (r : Ran) : Type 0 where
  pub on : OnDisks S r
  pub how : Option Story
  pub shown : ShownAs S r how
