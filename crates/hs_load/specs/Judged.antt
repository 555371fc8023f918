-- Whether what those that worked hand back is the book's, and why not.
use Rattle.std.specs.Fmt.{decimal}
use Rattle.std.specs.List.{list_any}
use Rattle.std.specs.Option.{option_map_or}
use Rattle.std.specs.Prelude.{◌≡◌, ℕ, ◌+◌, ◌<◌, ◌≤◌, ◌||◌, Bool, true, false, All, List, [], ◌++◌, Option, Some, None, Result, codes, length, slice_get, slice_index_or}
use Rattle.std.specs.Result.{result_err}
use Rattle.hs_book.specs.Book.{Book}
use Rattle.hs_desk.specs.declared.fault.CoreFault.{CoreFault}
use Rattle.hs_desk.specs.declared.fault.CoreFault.TheVariants as core
use Rattle.hs_entry.specs.declared.entry.Entry.{Entry}
use Rattle.hs_fold.specs.Shards.Setting.{Setting}
use Rattle.hs_journal.specs.declared.entry.JournalEntry.{JournalEntry}
use Rattle.hs_peerlog.specs.Lists.{IsKept, Keeping}
use Rattle.hs_promise.specs.declared.load.Kept.{Kept}
use Rattle.hs_promise.specs.declared.load.Stored.{Stored}
use Rattle.hs_promise.specs.declared.status.Status.{Status}
use Rattle.hs_promise.specs.declared.status.Status.TheVariants as status
use Rattle.hs_promise.specs.declared.told.Told.{Told}
use Rattle.hs_promise.specs.declared.told.Told.TheVariants as told
use Rattle.hs_script.specs.declared.sums.WriterSum.{WriterSum}
use Rattle.hs_taking.specs.Disks.{DiskSeen, log_at, seen_at}
use Rattle.hs_workers.specs.Asks.{KeptAnswer}
use Rattle.hs_workers.specs.Work.{GoesOnBy}
use Rattle.hs_workers.specs.declared.fault.WorkFault.{WorkFault}
use Rattle.hs_workers.specs.declared.fault.WorkFault.TheVariants as work
use Rattle.hs_load.specs.Compared.{PartAt, own_answers}
use Rattle.hs_load.specs.Owners.{is_of}
use Rattle.hs_load.specs.Team.{AskerEnds, PeerEnds, Task, bench_at, sessions_of}

-- what is asked for: what the store is set up with, the seed, how many writers there are, and how many files each has
pub record Load : Type 0 where
  pub set : Setting
  pub seed : ℕ
  pub writers : ℕ
  pub files : ℕ

-- what its team works by
abbrev pub task_of : Load → Task
task_of load = record { name = load.set.name; seed = load.seed; writers = load.writers; files = load.files }

-- ---- the team

-- by peer what it did, why its worker stopped, if it did, and its log, where that is in use; what each writer was answered, and last the deleter, and how each ended
pub record Team : Type 0 where
  pub stored : List Stored
  pub stops : List (Option WorkFault)
  pub logs : List (Option Keeping)
  pub kept : List Kept
  pub ends : List (Result WriterSum WorkFault)

-- with these logs on these disks each did its own work, of which it has the end
pub record HaveWorked (tells : Type 0) (task : Task) (slots : List (Option Keeping)) (disks left : List DiskSeen) (team : Team) : Type 0 where
  pub count : length left ≡ length disks
  pub stored : length team.stored ≡ length disks
  pub stops : length team.stops ≡ length disks
  pub logs : length team.logs ≡ length disks
  pub peers : (peer : ℕ) (given : Stored) (stop : Option WorkFault) → peer < length disks
      → PeerEnds tells peer (log_at slots peer) (seen_at disks peer) (seen_at left peer) (log_at team.logs peer) (slice_index_or team.stored peer given) (slice_index_or team.stops peer stop)
  pub kept : length team.kept ≡ task.writers + 1
  pub ends : length team.ends ≡ task.writers + 1
  pub askers : (number : ℕ) (given : Kept) (end : Result WriterSum WorkFault) → number ≤ task.writers
      → AskerEnds task number (slice_index_or team.kept number given) (slice_index_or team.ends number end)

-- where the disks tell: of each peer whose log is in use behind the joins the list is the one that it had, gone on by the entries of the numbers that are handed back, and the blocks that are handed back stand in it
abbrev pub HaveStored : Type 0 → List (Option Keeping) → List DiskSeen → List DiskSeen → Team → Type 0
HaveStored tells slots disks left team = tells → (peer : ℕ) (log after : Keeping) (list : List (ℕ × Entry)) (waiting : Option Entry) (given : Stored)
    → log_at slots peer ≡ Some log → log_at team.logs peer ≡ Some after → IsKept log ((seen_at disks peer).stands.seen log.log.side) list waiting
    → GoesOnBy (bench_at after (seen_at left peer)) list (slice_index_or team.stored peer given).numbers (slice_index_or team.stored peer given).shown

-- ---- why work stopped

-- for want of memory; since the number of a job was not the next one of the log
abbrev pub is_wanting : WorkFault → Bool
is_wanting (work.Core fault) = false
is_wanting (work.Torn place number next) = false
is_wanting work.NoMemory = true

abbrev pub is_torn : WorkFault → Bool
is_torn (work.Core fault) = false
is_torn (work.Torn place number next) = true
is_torn work.NoMemory = false

-- whether it stopped so, if it did
abbrev pub stopped_by : (WorkFault → Bool) → Option WorkFault → Bool
stopped_by why stop = option_map_or why stop false

-- whether memory was wanting to one of a team
abbrev pub wants_memory : Team → Bool
wants_memory team = list_any (λ stop. stopped_by is_wanting stop) team.stops || list_any (λ end. stopped_by is_wanting (result_err end)) team.ends

-- no worker stopped with a job of another number
abbrev pub NoneTorn : List (Option WorkFault) → Type 0
NoneTorn stops = All (λ stop. stopped_by is_torn stop ≡ false) stops

-- ---- what was kept, beside the book

-- the numbers of each peer are those that the book has of its reports
abbrev pub AreReported : List Stored → Book → Type 0
AreReported stored book = (peer : ℕ) (given : Stored) → peer < length stored → (slice_index_or stored peer given).numbers ≡ slice_index_or book.reported peer []

-- the answers of each who asked are its own in the journal, and no more
abbrev pub AreAnswered : ℕ → List JournalEntry → List Kept → Type 0
AreAnswered writers journal kept = (owner : ℕ) (given : Kept) → owner < length kept → (slice_index_or kept owner given).answers ≡ own_answers (is_of (sessions_of writers) owner) journal

-- nobody was told a fault
abbrev pub NoFault : Team → Type 0
NoFault team = All (λ (given : Stored). given.fault ≡ None) team.stored × All (λ (given : Kept). given.fault ≡ None) team.kept

-- all this was found so, and the book goes on; nobody stopped for want of memory, and no worker with a job of another number
pub record AreSame (load : Load) (book : Book) (team : Team) : Type 0 where
  pub rested : wants_memory team ≡ false
  pub in_turn : NoneTorn team.stops
  pub stored : AreReported team.stored book
  pub going : book.ended ≡ None
  pub kept : AreAnswered load.writers book.core.journal team.kept
  pub calm : NoFault team

-- ---- where it was not

-- what stands at a place of a list of answers
abbrev pub told_at : Option KeptAnswer → Told
told_at None = told.Absent
told_at (Some item) = told.Item item.0 item.1 item.2

-- the answers of the one at a place among those who asked, by the journal
abbrev pub answers_by : ℕ → ℕ → List JournalEntry → List KeptAnswer
answers_by writers owner journal = own_answers (is_of (sessions_of writers) owner) journal

-- a worker's job was of another number than the next one of its log, or the numbers of a peer part from those that the book has
pub data IsTorn (book : Book) (stored : List Stored) (stops : List (Option WorkFault)) (s : Status) : Type 0 where
  Job : (peer place number next : ℕ) → slice_get stops peer ≡ Some (Some (work.Torn place number next)) → s ≡ status.Torn peer place (Some number) (Some next) → IsTorn book stored stops s
  Numbers : (peer place : ℕ) (given : Stored) → slice_get stored peer ≡ Some given → PartAt place given.numbers (slice_index_or book.reported peer [])
      → s ≡ status.Torn peer place (slice_get given.numbers place) (slice_get (slice_index_or book.reported peer []) place) → IsTorn book stored stops s

-- a difference: the session, the place in its list, and what stands there on both sides
pub record Difference : Type 0 where
  pub session : List ℕ
  pub place : ℕ
  pub said : Told
  pub had : Told

-- that which a status tells
abbrev pub difference_in : Status → Option Difference
difference_in (status.Mismatch session place said had) = Some (record { session = session; place = place; said = said.value; had = had.value })
difference_in other = None

-- the answers of one part from its own in the journal, or one was told a fault that the book has not
pub data IsMismatch (writers : ℕ) (journal : List JournalEntry) (kept : List Kept) (stored : List Stored) (d : Difference) : Type 0 where
  Answers : (owner place : ℕ) (given : Kept) → slice_get kept owner ≡ Some given → PartAt place given.answers (answers_by writers owner journal)
      → d ≡ record { session = given.session; place = place; said = told_at (slice_get given.answers place); had = told_at (slice_get (answers_by writers owner journal) place) } → IsMismatch writers journal kept stored d
  Asker : (owner : ℕ) (given : Kept) (f : CoreFault) → slice_get kept owner ≡ Some given → given.fault ≡ Some f → d ≡ record { session = given.session; place = length given.answers; said = told.Fault f; had = told.Absent }
      → IsMismatch writers journal kept stored d
  Worker : (peer : ℕ) (given : Stored) (f : CoreFault) → slice_get stored peer ≡ Some given → given.fault ≡ Some f
      → d ≡ record { session = codes "peer" ++ decimal peer; place = length given.numbers; said = told.Fault f; had = told.Absent } → IsMismatch writers journal kept stored d

-- how it ends where the book has ended
abbrev pub core_status : CoreFault → Status
core_status core.OpsFull = status.OpsFull
core_status (core.ShardLost shard) = status.ShardLost shard
core_status core.NoMemory = status.NoMemory

-- why the last deletions are not begun, the first of these: a worker's numbers are not the book's; the book has ended; an answer is not the journal's
pub data IsJudged (load : Load) (book : Book) (team : Team) (s : Status) : Type 0 where
  TornAt : IsTorn book team.stored team.stops s → IsJudged load book team s
  Ended : (f : CoreFault) → book.ended ≡ Some f → s ≡ core_status f → NoneTorn team.stops → AreReported team.stored book → IsJudged load book team s
  Mismatched : (d : Difference) → difference_in s ≡ Some d → book.ended ≡ None → NoneTorn team.stops → AreReported team.stored book → IsMismatch load.writers book.core.journal team.kept team.stored d → IsJudged load book team s
