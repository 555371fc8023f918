-- What the command `load` promises.
use Rattle.std.specs.Prelude.{◌≡◌, ◌≢◌, ◌⊎◌, ℕ, ◌+◌, ◌*◌, ◌^◌, ◌<◌, ◌≤◌, ⊤, Bool, false, true, All, IfSome, List, [], ◌∷◌, ◌++◌, Option, Some, None, Result, Ok, Err, codes, if◌then◌else◌, length, map, slice_get, slice_index_or}
use Rattle.hs_book.specs.Book.{Book}
use Rattle.hs_book.specs.History.{IsBook}
use Rattle.hs_cluster.specs.Begins.{HasOpened, IsClosed}
use Rattle.hs_cluster.specs.Calls.{RunsLine}
use Rattle.hs_cluster.specs.Counts.{NoneFalls}
use Rattle.hs_cluster.specs.Growing.{GoesOn}
use Rattle.hs_taking.specs.Disks.{DiskSeen, log_at, seen_at}
use Rattle.hs_cluster.specs.Kept.{Shows, Span}
use Rattle.hs_cluster.specs.Resuming.{EndAsSealed}
use Rattle.hs_cluster.specs.Running.{Running}
use Rattle.hs_cluster.specs.declared.fault.ClusterFault.{ClusterFault}
use Rattle.hs_cluster.specs.declared.fault.ClusterFault.TheVariants as cluster
use Rattle.hs_core_words.specs.State.{Core}
use Rattle.hs_fold.specs.Shards.Setting.{Setting}
use Rattle.hs_journal.specs.declared.entry.JournalEntry.{JournalEntry}
use Rattle.hs_limits.specs.Limits.{greatest_limits}
use Rattle.hs_limits.specs.declared.address.Address.{Address}
use Rattle.hs_limits.specs.declared.shape.Shape.{Shape}
use Rattle.hs_model.specs.declared.command.Command.{Command}
use Rattle.hs_model.specs.declared.command.Command.TheVariants as command
use Rattle.hs_model.specs.declared.op.Op.TheVariants as op
use Rattle.hs_peerlog.specs.Lists.{Keeping}
use Rattle.hs_ports.specs.Fault.{HasRisen}
use Rattle.hs_ports.specs.Objects.{CountsStand}
use Rattle.hs_ports.specs.Putting.{PutsFront}
use Rattle.hs_ports.specs.Sink.{bytes_of, followed}
use Rattle.hs_promise.specs.Ending.{ending_of}
use Rattle.hs_promise.specs.Run.{Ran}
use Rattle.hs_promise.specs.declared.load.Kept.{Kept}
use Rattle.hs_promise.specs.declared.load.Stored.{Stored}
use Rattle.hs_promise.specs.declared.outcome.Outcome.{Outcome}
use Rattle.hs_promise.specs.declared.status.Status.{Status}
use Rattle.hs_promise.specs.declared.status.Status.TheVariants as status
use Rattle.hs_run.specs.Machine.{AreHanded}
use Rattle.hs_script.specs.Summary.{summary_text}
use Rattle.hs_script.specs.declared.sums.WriterSum.{WriterSum}
use Rattle.hs_workers.specs.declared.fault.WorkFault.{WorkFault}
use Rattle.hs_load.specs.Judged.{AreSame, HaveStored, HaveWorked, IsJudged, Load, Team, task_of, wants_memory}
use Rattle.hs_load.specs.Tallied.{HasTallied, blocks_in, roots_in}

-- at a moment: the cluster, its disks, and the number of the last line that was begun
pub record Stand : Type 0 where
  pub now : ℕ
  pub cluster : Running
  pub disks : List DiskSeen
  pub line : ℕ

-- ---- the last deletions

-- from one to another
abbrev pub span_between : Stand → Stand → Span
span_between old new = record { before = old.now; now = new.now; old = old.cluster; new = new.cluster; disks = old.disks; left = new.disks }

-- the list of each peer that is in use goes on, where the disks tell it
abbrev pub ListsGoOn : Type 0 → Stand → Stand → Type 0
ListsGoOn tells old new = tells → (peer : ℕ) → GoesOn old.cluster.logs old.disks new.cluster.logs new.disks peer

-- one line, up to its end or to what cut it short: the events that are due for it and no others
pub record RunsNext (tells : Type 0) (name : List ℕ → Address) (asked : Command) (old new : Stand) (did : Result ⊤ ClusterFault) : Type 0 where
  pub next : new.line ≡ old.line + 1
  pub runs : RunsLine name (old.line + 1) asked old.now new.now old.cluster new.cluster did (Shows tells (span_between old new) did)
  pub on : ListsGoOn tells old new

-- some lines, one after another, up to the end of the last or to what cut one short
abbrev pub RunsAll : Type 0 → (List ℕ → Address) → List Command → Stand → Stand → Result ⊤ ClusterFault → Type 0
RunsAll tells name [] old new did = (new ≡ old) × (did ≡ Ok tt)
RunsAll tells name (asked ∷ more) old new (Ok x) = (mid : Stand) × RunsNext tells name asked old mid (Ok tt) × RunsAll tells name more mid new (Ok x)
RunsAll tells name (asked ∷ more) old new (Err f) = RunsNext tells name asked old new (Err f) ⊎ ((mid : Stand) × RunsNext tells name asked old mid (Ok tt) × RunsAll tells name more mid new (Err f))

-- whether a line starts a peer
abbrev pub starts_one : Command → Bool
starts_one (command.Client o) = false
starts_one (command.Turn peer) = false
starts_one (command.Nudge peer) = false
starts_one (command.Deliver message) = false
starts_one (command.Lose message) = false
starts_one (command.Repeat message) = false
starts_one (command.Fail peer) = false
starts_one (command.Start peer) = true
starts_one command.Settle = false
starts_one (command.Reclaim peer) = false

-- a deletion, a deletion, and what waits before, between and behind them
abbrev pub last_lines : List Command
last_lines = command.Settle ∷ command.Client op.Delete ∷ command.Settle ∷ command.Client op.Delete ∷ command.Settle ∷ []

-- ---- how it ends

-- what each writer counted
abbrev pub AreSums : List WriterSum → ℕ → List (Result WriterSum WorkFault) → Type 0
AreSums sums writers ends = (length sums ≡ writers) × ((number : ℕ) (sum : WriterSum) → number < writers → slice_get ends number ≡ Some (Ok (slice_index_or sums number sum)))

-- how it ended; what the sink had got before and has got, and how often it had failed and has
pub record Close : Type 0 where
  pub ending : Status
  pub old : Option (List (ℕ × ℕ))
  pub new : Option (List (ℕ × ℕ))
  pub old_faults : ℕ
  pub new_faults : ℕ

abbrev pub close_of : Ran → Close
close_of r = record { ending = r.ending; old = r.old.got; new = r.new.got; old_faults = r.old.sink_faults; new_faults = r.new.sink_faults }

-- nothing was put, nor was it tried
abbrev pub PutsNothing : Close → Type 0
PutsNothing c = (c.new ≡ c.old) × (c.new_faults ≡ c.old_faults)

-- what is handed back: a journal, what was refused of it, what each session was answered and what each peer did
pub record Handed : Type 0 where
  pub journal : List JournalEntry
  pub refused : List JournalEntry
  pub kept : List Kept
  pub stored : List Stored

abbrev pub handed_of : Ran → Handed
handed_of r = record { journal = r.journal; refused = r.refused; kept = r.kept; stored = r.stored }

abbrev pub nothing_handed : Handed
nothing_handed = record { journal = []; refused = []; kept = []; stored = [] }

-- how it ends where the cluster can't go on
abbrev pub cluster_status : ClusterFault → Status
cluster_status (cluster.WrongShape peer found) = status.WrongShape peer found
cluster_status (cluster.ShardLost shard) = status.ShardLost shard
cluster_status cluster.OpsFull = status.OpsFull
cluster_status cluster.NoMemory = status.NoMemory

-- the entries of the event that the journal had no room for, where it ended so
abbrev pub refused_when : Status → Core → List JournalEntry
refused_when s core = if (ending_of s).full then core.refused else []

-- ---- behind the joins

-- the summary of what a core counts was put, which agrees with what the writers kept, or a front of it, since the sink failed; or memory was wanting, or it does not agree, and nothing was put; line: that before the last ones
pub data PutsSummary (writers : ℕ) (ends : List (Result WriterSum WorkFault)) (core : Core) (line : ℕ) (c : Close) : Type 0 where
  Unsummed : c.ending ≡ status.NoMemory → PutsNothing c → PutsSummary writers ends core line c
  Unagreed : (sums : List WriterSum) → AreSums sums writers ends → (HasTallied sums core line → ⊥) → c.ending ≡ status.NoMemory → PutsNothing c → PutsSummary writers ends core line c
  Put : (sums : List WriterSum) → AreSums sums writers ends → HasTallied sums core line → c.ending ≡ status.Done → bytes_of c.new ≡ followed (bytes_of c.old) (summary_text sums (roots_in core) (blocks_in core))
      → c.old_faults ≤ c.new_faults → PutsSummary writers ends core line c
  Unput : (sums : List WriterSum) → AreSums sums writers ends → HasTallied sums core line → c.ending ≡ status.WriteFault
      → PutsFront (bytes_of c.old) (summary_text sums (roots_in core) (blocks_in core)) (bytes_of c.new) → HasRisen c.old_faults c.new_faults → c.old_faults ≤ c.new_faults → PutsSummary writers ends core line c

-- the last lines can't begin though the book goes on: the log of a peer that is not down is out of use or does not end with what the peer is known to have sealed, or the number of a line would be too great
abbrev pub IsUnfit : Core → List (Option Keeping) → Type 0
IsUnfit core logs = EndAsSealed core logs → core.progress.last_line < 2 ^ 62 → ⊥

-- where the last lines begin: with the core of the book and the logs that are in use, over the disks as those that worked left them
abbrev pub begun_at : Book → Team → List DiskSeen → ℕ → Stand
begun_at book team left now = record { now = now; cluster = record { core = book.core; logs = team.logs; course = []; cache = None }; disks = left; line = book.core.progress.last_line }

-- they were run from there, at a moment that is not before the book's, to their end or to what cut one short; as they begin each peer that is not down has a log in use, which ends with what it is known to have sealed; this is the core behind them, and these the disks
pub record RunsLast (tells : Type 0) (load : Load) (book : Book) (team : Team) (left new : List DiskSeen) (core : Core) (did : Result ⊤ ClusterFault) : Type 0 where
  pub now : ℕ
  pub later : book.core.moment ≤ now
  pub fit : EndAsSealed book.core team.logs
  pub end : Stand
  pub runs : RunsAll tells load.set.name last_lines (begun_at book team left now) end did
  pub on : ListsGoOn tells (begun_at book team left now) end
  pub last : core ≡ end.cluster.core
  pub disks : new ≡ end.disks

-- how it ends behind the joins, each with its cause, and what was put; left: the disks as those that worked left them; new: at the end; core: the last one
pub data EndsWork (tells : Type 0) (load : Load) (book : Book) (team : Team) (left new : List DiskSeen) (core : Core) (c : Close) : Type 0 where
  -- memory was wanting
  Wanting : c.ending ≡ status.NoMemory → PutsNothing c → core ≡ book.core → new ≡ left → EndsWork tells load book team left new core c
  -- they can't be begun
  Unfit : AreSame load book team → IsUnfit book.core team.logs → c.ending ≡ status.NoMemory → PutsNothing c → core ≡ book.core → new ≡ left → EndsWork tells load book team left new core c
  -- the last deletions are not begun
  Judged : wants_memory team ≡ false → IsJudged load book team c.ending → PutsNothing c → core ≡ book.core → new ≡ left → EndsWork tells load book team left new core c
  -- or one of their lines was cut short
  Cut : (f : ClusterFault) → AreSame load book team → RunsLast tells load book team left new core (Err f) → c.ending ≡ cluster_status f → PutsNothing c → EndsWork tells load book team left new core c
  -- all was done, up to the summary
  Summed : AreSame load book team → RunsLast tells load book team left new core (Ok tt) → PutsSummary load.writers team.ends core book.core.progress.last_line c → EndsWork tells load book team left new core c

-- what is handed back then
abbrev pub handed_behind : Team → Core → Status → Handed
handed_behind team core s = record { journal = core.journal; refused = refused_when s core; kept = team.kept; stored = team.stored }

-- writers and workers worked over a core, with these logs on these disks, in a book whose events led from there; left: the disks behind the joins
pub record Works (tells : Type 0) (load : Load) (start : Core) (slots : List (Option Keeping)) (disks new : List DiskSeen) (h : Handed) (c : Close) : Type 0 where
  pub book : Book
  pub team : Team
  pub last : Core
  pub left : List DiskSeen
  -- there is a disk for each peer
  pub count : length disks ≡ start.members.shape.shards * start.members.shape.copies
  pub led : IsBook start book
  pub worked : HaveWorked tells (task_of load) slots disks left team
  pub stored : HaveStored tells slots disks left team
  pub hands : h ≡ handed_behind team last c.ending
  pub ends : EndsWork tells load book team left new last c

-- they did, or memory was wanting, and then no list is handed back
pub data EndsTeam (tells : Type 0) (load : Load) (start : Core) (slots : List (Option Keeping)) (disks new : List DiskSeen) (h : Handed) (c : Close) : Type 0 where
  Unworked : c.ending ≡ status.NoMemory → PutsNothing c → h.kept ≡ [] → h.stored ≡ [] → EndsTeam tells load start slots disks new h c
  Worked : Works tells load start slots disks new h c → EndsTeam tells load start slots disks new h c

-- ---- all of it

-- how it ends, each with its cause, and what was put
pub data EndsLoad (tells : Type 0) (load : Load) (before : ℕ) (old new : List DiskSeen) (h : Handed) (c : Close) : Type 0 where
  -- the store could not be opened
  Unopened : (f : ClusterFault) → IsClosed tells load.set.shape old new f → NoneFalls old new → c.ending ≡ cluster_status f → PutsNothing c → h ≡ nothing_handed → EndsLoad tells load before old new h c
  -- its core ended as it was opened, or memory ran out on the first turns
  Shut : (now : ℕ) (cluster : Running) (f : ClusterFault) → HasOpened tells load.set (record { before = before; now = now; old = old; new = new }) cluster (Err f) → c.ending ≡ cluster_status f
      → PutsNothing c → h ≡ record { journal = cluster.core.journal; refused = refused_when c.ending cluster.core; kept = []; stored = [] } → EndsLoad tells load before old new h c
  -- it has blocks or retained roots
  Full : (now : ℕ) (cluster : Running) → HasOpened tells load.set (record { before = before; now = now; old = old; new = new }) cluster (Ok tt) → 0 < blocks_in cluster.core + roots_in cluster.core
      → c.ending ≡ status.NotEmpty (blocks_in cluster.core) (roots_in cluster.core) → PutsNothing c
      → h ≡ record { journal = cluster.core.journal; refused = refused_when c.ending cluster.core; kept = []; stored = [] } → EndsLoad tells load before old new h c
  -- it has none, and writers and workers worked over it, from these disks on
  Empty : (now : ℕ) (cluster : Running) (disks : List DiskSeen) → HasOpened tells load.set (record { before = before; now = now; old = old; new = disks }) cluster (Ok tt)
      → blocks_in cluster.core ≡ 0 → roots_in cluster.core ≡ 0 → EndsTeam tells load cluster.core cluster.logs disks new h c → EndsLoad tells load before old new h c

abbrev pub load_of : (List ℕ → Address) → Shape → ℕ → ℕ → ℕ → Load
load_of name shape seed writers files = record { set = record { name = name; limits = greatest_limits; shape = shape }; seed = seed; writers = writers; files = files }

-- each disk is handed back, and no count of faults fell
pub record IsHandedBack (r : Ran) : Type 0 where
  pub count : length r.new.disks ≡ length r.old.disks
  pub counts : CountsStand r.old r.new

-- a load of so many writers, with so many files each
pub record IsLoaded (tells : Type 0) (name : List ℕ → Address) (shape : Shape) (seed writers files : ℕ) (r : Ran) : Type 0 where
  pub old : List DiskSeen
  pub new : List DiskSeen
  pub before : AreHanded r.old old
  pub behind : AreHanded r.new new
  pub ends : EndsLoad tells (load_of name shape seed writers files) r.old.moment old new (handed_of r) (close_of r)
  -- the watch never falls; and the disks come back, but for want of memory
  pub time : r.old.moment ≤ r.new.moment
  pub back : r.ending ≢ status.NoMemory → IsHandedBack r
  -- nothing is read from the source, no line is a script's, and nothing stands in the course
  pub left : r.new.left ≡ r.old.left
  pub line : r.line ≡ 0
  pub course : r.course ≡ []

-- what an outcome hands back
abbrev pub handed_out : Outcome → Handed
handed_out o = record { journal = o.journal.entries; refused = o.refused; kept = o.kept; stored = o.stored }
