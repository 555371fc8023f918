-- The store at entry: which logs count of the disks as they were.
use Rattle.std.specs.List.{list_any}
use Rattle.std.specs.Prelude.{Bool, List, None, Option, [], false, filter, if◌then◌else◌, length, not, true, ℕ, ◌&&◌, ◌++◌, ◌+◌, ◌==◌, ◌∷◌, ◌≡◌}
use Rattle.hs_fold.specs.Runs.Opened.{opened}
use Rattle.hs_fold.specs.Shards.Course.{begins, was_good}
use Rattle.hs_fold.specs.Shards.Images.{Image}
use Rattle.hs_fold.specs.Shards.Setting.{Numbered}
use Rattle.hs_model.specs.Store.{Store}
use Rattle.hs_model.specs.declared.course.CourseItem.{CourseItem}
use Rattle.hs_model.specs.declared.course.CourseItem.TheVariants as item
use Rattle.hs_ports.specs.Disk.{IsImage, Standing}
use Rattle.hs_ports.specs.Moments.{disk_at}
use Rattle.hs_ports.specs.declared.disk.Side.{Side}
use Rattle.hs_side.specs.Current.{list_in}
use Rattle.hs_sound.specs.Stay.{AreSoundAlong}
use Rattle.hs_promise.specs.Ending.{ending_of}
use Rattle.hs_journal.specs.declared.entry.JournalEntry.{JournalEntry}
use Rattle.hs_journal.specs.Notes.{is_first_note}
use Rattle.hs_events.specs.Taken.{or_blank, taken_items, taken_lists}
use Rattle.hs_promise.specs.Run.{Ran, Script}
use Rattle.hs_ports.specs.Objects.{NoneAhead, faults_at}

-- ---- which disks count at entry

-- whether an entry tells that a peer is down before any line had an event, where no Good of it stands at an earlier moment
abbrev pub tells_aside : List CourseItem → ℕ → JournalEntry → Bool
tells_aside course peer entry = is_first_note peer entry && not (was_good course entry.moment peer)

-- opening set a peer aside: it is told so, and its Good does not begin the course. A peer that was good as the core opened and failed in a turn of opening is told to be down too, but behind its Good
abbrev pub is_aside : Script → Ran → ℕ → Bool
is_aside S r peer = list_any (tells_aside r.course peer) (r.journal ++ r.refused) && not (begins S.set.shape.shards r.course peer)

-- the logs of the disks as they were, from a peer on; the disk of a peer that was set aside counts as blank
abbrev pub logs_from : Script → Ran → ℕ → List Standing → List (Option Numbered)
logs_from S r peer [] = []
logs_from S r peer (disk ∷ disks) = (if is_aside S r peer then None else list_in disk.seen) ∷ logs_from S r (peer + 1) disks

abbrev pub entry_logs : Script → Ran → List (Option Numbered)
entry_logs S r = logs_from S r 0 r.old.disks

-- the store at entry
abbrev pub entry_store : Script → Ran → Store
entry_store S r = opened S.set (or_blank (entry_logs S r))

-- ---- what may be asked of them

-- they are sound
abbrev pub IsSoundAtEntry : Script → Ran → Type 0
IsSoundAtEntry S r = AreSoundAlong S.set (taken_lists S.set.shape (entry_logs S r))

-- whatever a disk that counts may have left at entry has the list that is read of it
abbrev pub OneListAtEntry : Script → Ran → Type 0
OneListAtEntry S r =
    (peer : ℕ) → is_aside S r peer ≡ false → (image : Image) → ((side : Side) → IsImage ((disk_at r.old.disks peer).loose side) (image side))
    → list_in image ≡ list_in (disk_at r.old.disks peer).seen

-- what is asked at entry of a run that may be stopped: sound disks, one list in all images of each, and no call ahead of the watch
pub record MayStop (S : Script) (r : Ran) : Type 0 where
  pub sound : IsSoundAtEntry S r
  pub one : OneListAtEntry S r
  pub none : NoneAhead r.old

-- ---- the course that counts

-- the Good of a peer whose disk failed in this call does not
abbrev pub still_counts : Ran → CourseItem → Bool
still_counts r (item.Good peer moment) = faults_at r.new.disk_faults peer == faults_at r.old.disk_faults peer
still_counts r (item.Bad peer moment) = true
still_counts r (item.Begun line moment) = true
still_counts r (item.Took shard number moment) = true

-- that of the run; where memory was wanting before there was one, that of the logs which the disks have
abbrev pub counted_course : Script → Ran → List CourseItem
counted_course S r =
    if (ending_of r.ending).wanting && length r.course == 0 then filter (still_counts r) (taken_items S.set.shape (entry_logs S r) r.old.moment) else r.course
