-- What a job leaves of a log, and of its disk at each moment.
use Rattle.std.specs.Option.{option_map_or}
use Rattle.std.specs.Prelude.{◌≡◌, ◌≢◌, ◌⊎◌, ◌≤◌, ◌+◌, ◌++◌, ◌∷◌, ℕ, ⊤, Bool, true, false, is_some, slice_index, ◌<◌, Contains, List, [], length, Option, Some, None, Result, IfOk}
use Rattle.hs_cluster.specs.Disks.{DiskSeen, log_at, seen_at, stands_of}
use Rattle.hs_desk.specs.Answers.{is_copy_from}
use Rattle.hs_desk.specs.declared.done.Done.{Done}
use Rattle.hs_desk.specs.declared.done.Done.TheVariants as done
use Rattle.hs_desk.specs.declared.job.Job.{Job}
use Rattle.hs_desk.specs.declared.job.Job.TheVariants as job
use Rattle.hs_entry.specs.declared.entry.Entry.{Entry}
use Rattle.hs_events.specs.Asked.{failed_disk}
use Rattle.hs_events.specs.Reports.{TellsOf}
use Rattle.hs_fold.specs.Shards.Setting.{Numbered}
use Rattle.hs_peerlog.specs.Heads.{KeepsHeader, LeavesHeader}
use Rattle.hs_peerlog.specs.Images.{IsAny, IsOne, LeavesAll, LeavesAny, LeavesEach}
use Rattle.hs_peerlog.specs.Lists.{HasLog, IsKept, Keeping, last_of, numbered_entry, with_waiting}
use Rattle.hs_ports.specs.Disk.{Standing}
use Rattle.hs_ports.specs.Moments.{disk_at}
use Rattle.hs_side.specs.declared.header.Header.{Header}
use Rattle.hs_taking.specs.Headed.{OwnsLog}
use Rattle.hs_taking.specs.Past.{PastStays}
use Rattle.hs_shard.specs.Facts.{BlockList, pointers_at}

-- ---- the list behind a job

-- with the entry that waits, where one does
abbrev pub sealed_list : Numbered → Option Entry → Numbered
sealed_list list None = list
sealed_list list (Some entry) = with_waiting list entry

abbrev pub list_after : Job → Numbered → Option Entry → Numbered
list_after (job.Append number entry) list waiting = list
list_after (job.Seal number) list waiting = sealed_list list waiting
list_after (job.Read number) list waiting = list
list_after job.Reset list waiting = []
list_after (job.Copy from number) list waiting = list
list_after job.Reclaim list waiting = list

-- the entry that waits behind it
abbrev pub waiting_after : Job → Option Entry → Option Entry
waiting_after (job.Append number entry) waiting = Some entry
waiting_after (job.Seal number) waiting = None
waiting_after (job.Read number) waiting = waiting
waiting_after job.Reset waiting = None
waiting_after (job.Copy from number) waiting = waiting
waiting_after job.Reclaim waiting = waiting

-- whether a job needs the log of its peer, and no other; so where there is none
abbrev pub is_own : Option Job → Bool
is_own None = true
is_own (Some (job.Append number entry)) = true
is_own (Some (job.Seal number)) = true
is_own (Some (job.Read number)) = true
is_own (Some job.Reset) = false
is_own (Some (job.Copy from number)) = false
is_own (Some job.Reclaim) = true

-- whether a job reads the disk of a peer beside its own
abbrev pub reads_from : ℕ → Option Job → Bool
reads_from peer todo = option_map_or (is_copy_from peer) todo false

-- each other disk stays as it is, but of one that is read the count
pub record StandsBeside (tells : Type 0) (peer : ℕ) (todo : Option Job) (old new : List DiskSeen) : Type 0 where
  pub same : (disk : ℕ) → disk ≢ peer → reads_from disk todo ≡ false → seen_at new disk ≡ seen_at old disk
  pub stands : tells → (disk : ℕ) → disk ≢ peer → (seen_at new disk).stands ≡ (seen_at old disk).stands

-- bytes, and not just numbers
abbrev pub AreBytes : List ℕ → Type 0
AreBytes bytes = (i : ℕ) → slice_index bytes i < 256

-- what a Read tells is bytes
abbrev pub TellsBytes : Done → Type 0
TellsBytes (done.Stored number) = ⊤
TellsBytes (done.Sealed number) = ⊤
TellsBytes (done.Bytes number bytes) = AreBytes bytes
TellsBytes (done.Gone number) = ⊤
TellsBytes done.Emptied = ⊤
TellsBytes (done.Copied number) = ⊤
TellsBytes (done.Stepped switched) = ⊤
TellsBytes (done.Failed disk) = ⊤

-- a list has an entry of the number that is to be read, where one of the blocks was stored by that
abbrev pub HasStored : Option Job → BlockList → Numbered → Type 0
HasStored todo blocks list = (number : ℕ) → todo ≡ Some (job.Read number) → is_some (pointers_at number blocks) ≡ true → (entry : Entry) × Contains list (number, entry)

-- ---- a job that was tried on the disk of a peer

-- the moment, the log where the disk is in use, and what the disk holds, before it and behind it
pub record Try : Type 0 where
  pub before : ℕ
  pub now : ℕ
  pub slot : Option Keeping
  pub kept : Option Keeping
  pub old : Standing
  pub new : Standing

-- what was done is on the disk; a disk whose call failed is out of use
abbrev pub LeavesLog : Option ℕ → Try → Job → Numbered → Option Entry → Type 0
LeavesLog None t j list waiting =
    (keeping : Keeping) × (t.kept ≡ Some keeping) × HasLog keeping t.new (list_after j list waiting) (waiting_after j waiting)
LeavesLog (Some disk) t j list waiting = t.kept ≡ None

-- each moment leaves the list before the job or the one behind it
pub record Leaves {E : Type 0} (t : Try) (j : Job) (list : Numbered) (waiting : Option Entry) (result : Result Done E) : Type 0 where
  pub moments : LeavesEach t.before t.now t.old t.new (IsOne list (list_after j list waiting))
  pub log : IfOk result (λ done. LeavesLog (failed_disk done) t j list waiting)

-- what reads of a log give behind a job: what was done is on the disk; a disk whose call failed is out of use
abbrev pub ReadsLog : Option ℕ → Option Keeping → Standing → Job → Numbered → Option Entry → Type 0
ReadsLog None slot disk j list waiting =
    (keeping : Keeping) × (slot ≡ Some keeping) × IsKept keeping (disk.seen keeping.log.side) (list_after j list waiting) (waiting_after j waiting)
ReadsLog (Some failed) slot disk j list waiting = slot ≡ None

pub record ReadsOn (slot : Option Keeping) (disk : Standing) (j : Job) (list : Numbered) (waiting : Option Entry) (done : Done) : Type 0 where
  pub log : ReadsLog (failed_disk done) slot disk j list waiting
  pub told : TellsOf done (Some list)

-- so with the list that the log has; without a job, or without a log, nothing is done, and the disk stays as it is
pub record Tries {E : Type 0} (t : Try) (todo : Option Job) (result : Result Done E) : Type 0 where
  pub idle : (todo ≡ None) ⊎ (t.slot ≡ None) → LeavesAll t.before t.now t.old t.new
  pub cut : (todo ≡ None) ⊎ (t.slot ≡ None) → IfOk result (λ done. ⊥)
  pub each : (j : Job) (keeping : Keeping) → todo ≡ Some j → t.slot ≡ Some keeping
      → (list : Numbered) (waiting : Option Entry) → HasLog keeping t.old list waiting → Leaves t j list waiting result

-- ---- on one disk of several

-- the peer, the moment, the logs and the disks, before it and behind it
pub record Working : Type 0 where
  pub peer : ℕ
  pub before : ℕ
  pub now : ℕ
  pub logs : List (Option Keeping)
  pub after : List (Option Keeping)
  pub disks : List DiskSeen
  pub left : List DiskSeen

abbrev pub try_of : Working → Try
try_of w = record {
  before = w.before;
  now = w.now;
  slot = log_at w.logs w.peer;
  kept = log_at w.after w.peer;
  old = disk_at (stands_of w.disks) w.peer;
  new = disk_at (stands_of w.left) w.peer;
}

-- a job that needs the log of its peer alone was tried there, and every other disk stays, with its log
pub record WorksAlone {E : Type 0} (w : Working) (todo : Option Job) (result : Result Done E) : Type 0 where
  pub tries : (disk_at (stands_of w.disks) w.peer).last ≤ w.before → Tries (try_of w) todo result
  pub count : length w.left ≡ length w.disks
  pub logs : (p : ℕ) → p ≢ w.peer → log_at w.after p ≡ log_at w.logs p
  pub others : (p : ℕ) → p ≢ w.peer → disk_at (stands_of w.left) p ≡ disk_at (stands_of w.disks) p

-- the call that is told to have failed, where one is, was of this disk
abbrev pub FailsAlone : ℕ → Done → Type 0
FailsAlone peer done = (disk : ℕ) → failed_disk done ≡ Some disk → disk ≡ peer

-- ---- an emptying

-- one of these lists, or the empty one
abbrev pub IsAnyOrNone : (ℕ → Numbered) → Numbered → Type 0
IsAnyOrNone lists list = IsAny lists list ⊎ (list ≡ [])

-- its log is in use, and has the empty list, whatever a stop leaves; a disk whose call failed is out of use
abbrev pub LeavesEmpty : Option ℕ → Try → Type 0
LeavesEmpty None t = (keeping : Keeping) × (t.kept ≡ Some keeping) × HasLog keeping t.new [] None
LeavesEmpty (Some disk) t = t.kept ≡ None

-- so behind it, whatever the disk held, under its peer's header; what is past of the disk stays. Where a stop left no other peer's header, no moment leaves one; and where whatever it left had one of some lists too, each moment leaves one of these, or the empty one
pub record Empties {E : Type 0} (head : Header) (t : Try) (result : Result Done E) : Type 0 where
  pub log : IfOk result (λ done. LeavesEmpty (failed_disk done) t)
  pub own : IfOk result (λ done. OwnsLog head t.kept)
  pub moments : (lists : ℕ → Numbered) → LeavesAny t.old lists → LeavesHeader t.old head → LeavesEach t.before t.now t.old t.new (IsAnyOrNone lists)
  pub headed : LeavesHeader t.old head → KeepsHeader t.before t.new head
  pub past : PastStays t.before t.now t.old t.new

-- ---- a copying step

-- a list with an entry that another list has by this number, behind it
pub record WithCopy (number : ℕ) (source list longer : Numbered) : Type 0 where
  pub entry : Entry
  pub found : numbered_entry source number ≡ Some entry
  pub behind : number ≡ last_of list + 1
  pub same : longer ≡ list ++ (number, entry) ∷ []

-- its peer's log has the copy behind its list; where the lead's call failed nothing was done, and a peer whose own call failed is out of use
abbrev pub LeavesCopy : Option ℕ → Try → ℕ → ℕ → ℕ → Numbered → Numbered → Type 0
LeavesCopy None t peer from number source list = (keeping : Keeping) × (longer : Numbered) × (t.kept ≡ Some keeping) × WithCopy number source list longer × HasLog keeping t.new longer None
LeavesCopy (Some disk) t peer from number source list = ((disk ≡ from) × (t.kept ≡ t.slot) × (t.new ≡ t.old)) ⊎ ((disk ≡ peer) × (t.kept ≡ None))

-- each moment leaves the list before it, or that with the copy
pub record HasCopied {E : Type 0} (t : Try) (peer from number : ℕ) (source list : Numbered) (result : Result Done E) : Type 0 where
  pub log : IfOk result (λ done. LeavesCopy (failed_disk done) t peer from number source list)
  pub moments : LeavesEach t.before t.now t.old t.new (λ l. (l ≡ list) ⊎ WithCopy number source list l)

-- so with the list that the lead's log reads as, and that of its own
abbrev pub Copies : {E : Type 0} → Working → ℕ → ℕ → Result Done E → Type 0
Copies w from number result =
    (lead keeping : Keeping) (source list : Numbered) (ahead waiting : Option Entry)
    → log_at w.logs from ≡ Some lead → IsKept lead ((disk_at (stands_of w.disks) from).seen lead.log.side) source ahead
    → log_at w.logs w.peer ≡ Some keeping → HasLog keeping (disk_at (stands_of w.disks) w.peer) list waiting
    → HasCopied (try_of w) w.peer from number source list result

-- ---- any job

-- a job was tried on the disk of its peer, which has this header, and every other disk stays; of the logs only that of a disk falls whose failed call is told
pub record Works {E : Type 0} (head : Header) (w : Working) (todo : Option Job) (result : Result Done E) : Type 0 where
  pub alone : is_own todo ≡ true → WorksAlone w todo result
  pub empties : todo ≡ Some job.Reset → (disk_at (stands_of w.disks) w.peer).last ≤ w.before → Empties head (try_of w) result
  pub copies : (from number : ℕ) → todo ≡ Some (job.Copy from number) → from ≢ w.peer → (disk_at (stands_of w.disks) w.peer).last ≤ w.before → Copies w from number result
  pub count : length w.left ≡ length w.disks
  pub others : (p : ℕ) → p ≢ w.peer → disk_at (stands_of w.left) p ≡ disk_at (stands_of w.disks) p
  pub logs : IfOk result (λ done. (p : ℕ) → p ≢ w.peer → (failed_disk done ≢ Some p → log_at w.after p ≡ log_at w.logs p) × (failed_disk done ≡ Some p → log_at w.after p ≡ None))
