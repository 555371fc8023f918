-- What a worker does on the disk of its peer, and what its slip tells of it.
use Rattle.std.specs.Prelude.{◌≡◌, ◌≢◌, ◌⊎◌, ◌≤◌, ℕ, ◌+◌, ⊤, Bool, true, false, All, List, [], ◌∷◌, ◌++◌, if◌then◌else◌, length, map, is_some, unwrap_or, Option, Some, None, Result, Ok, Err}
use Rattle.std.specs.List.{range_with_len}
use Rattle.std.specs.Option.{option_map}
use Rattle.hs_ports.specs.declared.disk.Side.{Side}
use Rattle.hs_ports.specs.Disk.{Standing}
use Rattle.hs_ports.specs.Fault.{HasRisen}
use Rattle.hs_entry.specs.declared.entry.Entry.{Entry}
use Rattle.hs_entry.specs.declared.entry.Entry.TheVariants as entry
use Rattle.hs_peerlog.specs.Lists.{IsKept, IsReady, Keeping, numbered_entry}
use Rattle.hs_desk.specs.Slips.{is_own_job, shown_by, stored_by, work_of}
use Rattle.hs_desk.specs.declared.done.Done.{Done}
use Rattle.hs_desk.specs.declared.done.Done.TheVariants as done
use Rattle.hs_desk.specs.declared.job.Job.{Job}
use Rattle.hs_desk.specs.declared.job.Work.{Work}
use Rattle.hs_desk.specs.declared.job.Work.TheVariants as work
use Rattle.hs_desk.specs.declared.slip.Slip.{Slip}
use Rattle.hs_workers.specs.declared.fault.WorkFault.{WorkFault}
use Rattle.hs_workers.specs.declared.fault.WorkFault.TheVariants as fault

-- ---- a log beside its disk

-- what the log keeps, the length of each side, what the disk gives, and how often it has failed
pub record Bench : Type 0 where
  pub log : Keeping
  pub size : Side → ℕ
  pub disk : Standing
  pub faults : ℕ

abbrev pub bench_of : {D : Type 0} → (D → Side → ℕ) → (D → Standing) → (D → ℕ) → Keeping → D → Bench
bench_of size stands faults log disk = record { log = log; size = size disk; disk = stands disk; faults = faults disk }

-- the disk stands as the last call of the log left it
abbrev pub IsInPlace : Type 0 → Bench → Type 0
IsInPlace tells b = IsReady tells b.log (b.size b.log.log.side) b.disk

-- the log has this list on its disk, and this entry waits
abbrev pub Has : Bench → List (ℕ × Entry) → Option Entry → Type 0
Has b list waiting = IsKept b.log (b.disk.seen b.log.log.side) list waiting

-- ---- numbers

-- the number that a log has next to append; 0 while an entry waits to be sealed
abbrev pub next_to_append : Keeping → ℕ
next_to_append log = if is_some log.waits then 0 else log.rank.number + 1

-- the number that it has to seal; 0 where none waits
abbrev pub next_to_seal : Keeping → ℕ
next_to_seal log = unwrap_or (option_map (λ rank. rank.number) log.waits) 0

-- a work was to append or to seal a number that is not the one that the log has next
abbrev pub IsTorn : Work → Keeping → ℕ → ℕ → Type 0
IsTorn (work.Append number) log told kept = (told ≡ number) × (kept ≡ next_to_append log) × (told ≢ kept)
IsTorn (work.Seal number) log told kept = (told ≡ number) × (kept ≡ next_to_seal log) × (told ≢ kept)
IsTorn (work.Read number) log told kept = ⊥

-- why a work was not done; what was stored before tells the place. The log stays as it was, and behind a wrong number the whole bench
abbrev pub RefusesWork : Work → Bench → Bench → List ℕ → WorkFault → Type 0
RefusesWork w a b stored (fault.Core f) = ⊥
RefusesWork w a b stored (fault.Torn place told kept) = (b ≡ a) × (place ≡ length stored) × IsTorn w a.log told kept
RefusesWork w a b stored fault.NoMemory = b.log ≡ a.log

-- ---- what was done

-- what is told of an entry that was read: the bytes of its block, or that it has none
unfoldable pub shown_of : ℕ → Entry → Done
shown_of number (entry.View view) = done.Gone number
shown_of number (entry.Block op least bytes) = done.Bytes number bytes
shown_of number (entry.Mark op least block address) = done.Gone number
shown_of number (entry.Root op held address key) = done.Gone number
shown_of number (entry.Drop op key) = done.Gone number
shown_of number (entry.Enter op epoch) = done.Gone number
shown_of number (entry.Got sender epoch round total deltas) = done.Gone number
shown_of number (entry.Base view epoch swept round frames) = done.Gone number
shown_of number (entry.KeptBlock born mark flags count bytes) = done.Gone number
shown_of number (entry.KeptRoot created dropped counted address key) = done.Gone number
shown_of number (entry.KeptRound way other epoch round total deltas) = done.Gone number

-- the list has an entry of this number, and these are the bytes of its block
pub record ShowsBlock (list : List (ℕ × Entry)) (pair : ℕ × List ℕ) : Type 0 where
  pub op : ℕ
  pub least : ℕ
  pub entry : numbered_entry list pair.0 ≡ Some (entry.Block op least pair.1)

-- the list has no entry of this number, or none with a block
abbrev pub ShowsNoBlock : List (ℕ × Entry) → ℕ → Type 0
ShowsNoBlock list number = (bytes : List ℕ) → ShowsBlock list (number, bytes) → ⊥

-- from this list a log went on by the entries of the numbers that were sealed, and the blocks that were read stand in it
pub record GoesOnBy (b : Bench) (list : List (ℕ × Entry)) (stored : List ℕ) (shown : List (ℕ × List ℕ)) : Type 0 where
  pub more : List (ℕ × Entry)
  pub numbers : map (λ e. e.0) more ≡ stored
  pub waiting : Option Entry
  pub has : Has b (list ++ more) waiting
  pub shows : All (ShowsBlock (list ++ more)) shown

-- on the way from one bench to another the entries of these numbers were sealed, one after another, and these blocks were read; the disk did not fail
pub record WorksOn (tells : Type 0) (a b : Bench) (stored : List ℕ) (shown : List (ℕ × List ℕ)) : Type 0 where
  pub last : b.log.rank.number ≡ a.log.rank.number + length stored
  pub numbers : stored ≡ range_with_len (a.log.rank.number + 1) (length stored)
  pub calm : b.faults ≡ a.faults
  pub list : tells → (list : List (ℕ × Entry)) (waiting : Option Entry) → Has a list waiting → GoesOnBy b list stored shown

-- the disk failed, or what a read of it gave is no entry of the log, which a disk that tells its contents never gives
abbrev pub DiskFailed : Type 0 → Bench → Bench → Type 0
DiskFailed tells a b = HasRisen a.faults b.faults ⊎ (tells → ⊥)

-- the log has sealed what it had, and what waits is as it was
abbrev pub KeepsRanks : Bench → Bench → Type 0
KeepsRanks a b = (b.log.rank ≡ a.log.rank) × (b.log.waits ≡ a.log.waits)

-- what is reported of one job is what was done
abbrev pub HasDone : Type 0 → Bench → Bench → Done → Type 0
HasDone tells a b (done.Stored number) = WorksOn tells a b (stored_by (done.Stored number)) []
HasDone tells a b (done.Sealed number) = WorksOn tells a b (stored_by (done.Sealed number)) []
HasDone tells a b (done.Bytes number bytes) = WorksOn tells a b [] (shown_by (done.Bytes number bytes))
HasDone tells a b (done.Gone number) = WorksOn tells a b [] [] × (tells → (list : List (ℕ × Entry)) (waiting : Option Entry) → Has a list waiting → ShowsNoBlock list number)
HasDone tells a b done.Emptied = ⊥
HasDone tells a b (done.Copied number) = ⊥
HasDone tells a b (done.Stepped switched) = ⊥
HasDone tells a b (done.Failed disk) = DiskFailed tells a b × KeepsRanks a b

-- whether a report tells that a disk failed
abbrev pub is_failed : Done → Bool
is_failed (done.Stored number) = false
is_failed (done.Sealed number) = false
is_failed (done.Bytes number bytes) = false
is_failed (done.Gone number) = false
is_failed done.Emptied = false
is_failed (done.Copied number) = false
is_failed (done.Stepped switched) = false
is_failed (done.Failed disk) = true

-- ---- what the slip tells

-- a job of the peer's own was taken, or the peer is idle, or the book has ended, or another has ended with a fault of its own
abbrev pub GivesJob : Slip → Slip → Result (Option Job) WorkFault → Type 0
GivesJob old new (Ok (Some j)) = (new ≡ record old { work = work_of j; idle = false }) × (is_own_job j ≡ true)
GivesJob old new (Ok None) = new ≡ record old { work = None; idle = true }
GivesJob old new (Err (fault.Core f)) = new ≡ record old { work = None; idle = false; fault = Some f }
GivesJob old new (Err (fault.Torn place told kept)) = ⊥
GivesJob old new (Err fault.NoMemory) = new ≡ record old { work = new.work; idle = new.idle }

-- a slip grew by what was done on the way from one bench to another: by the numbers that were sealed, in order, and by the blocks that were read
pub record Grows (tells : Type 0) (slip slip' : Slip) (a b : Bench) : Type 0 where
  pub stored : List ℕ
  pub shown : List (ℕ × List ℕ)
  pub peer : slip'.peer ≡ slip.peer
  pub noted_stored : slip'.stored ≡ slip.stored ++ stored
  pub noted_shown : slip'.shown ≡ slip.shown ++ shown
  pub done : WorksOn tells a b stored shown

-- the peer is idle, and its log has nothing unsealed
pub record RestsSealed (tells : Type 0) (slip' : Slip) (b : Bench) : Type 0 where
  pub idle : slip'.idle ≡ true
  pub sealed : b.log.waits ≡ None
  pub in_place : IsInPlace tells b

-- a slip grew so up to a slip and a bench, and then by a 0, as the disk failed, which left the log's ranks
pub record GrowsAndFails (tells : Type 0) (slip slip' : Slip) (a b : Bench) : Type 0 where
  pub before : Slip
  pub between : Bench
  pub grows : Grows tells slip before a between
  pub peer : slip'.peer ≡ before.peer
  pub stored : slip'.stored ≡ before.stored ++ 0 ∷ []
  pub shown : slip'.shown ≡ before.shown
  pub later : between.faults ≤ b.faults
  pub cause : DiskFailed tells between b
  pub kept : KeepsRanks between b

-- why a peer's work stopped, and what it did since the last report that was taken: of a fault that the slip has, behind nothing or a job whose report was not taken;
-- of a number that was not the next one, in the work in hand, behind nothing; or for want of memory, behind nothing, or with a work in hand that left the log as it was
abbrev pub WorkStops : Type 0 → Slip → Bench → Bench → WorkFault → Type 0
WorkStops tells slip between b (fault.Core f) = (slip.fault ≡ Some f) × ((b ≡ between) ⊎ ((d : Done) × HasDone tells between b d))
WorkStops tells slip between b (fault.Torn place told kept) = (b ≡ between) × (place ≡ length slip.stored) × ((w : Work) × (slip.work ≡ Some w) × IsTorn w between.log told kept)
WorkStops tells slip between b fault.NoMemory = (b ≡ between) ⊎ ((b.log ≡ between.log) × ((w : Work) × (slip.work ≡ Some w)))

-- a slip grew so up to a bench, the one behind the last report that was taken, and then the work stopped
pub record GrowsAndStops (tells : Type 0) (slip slip' : Slip) (a b : Bench) (why : WorkFault) : Type 0 where
  pub between : Bench
  pub grows : Grows tells slip slip' a between
  pub later : between.faults ≤ b.faults
  pub cause : WorkStops tells slip' between b why

-- how the work of a peer ends: idle with nothing unsealed, or with a 0, or with a fault
abbrev pub WorkEnds : Type 0 → Slip → Slip → Bench → Bench → Result ⊤ WorkFault → Type 0
WorkEnds tells slip slip' a b (Ok u) = (slip'.fault ≡ slip.fault) × ((Grows tells slip slip' a b × RestsSealed tells slip' b) ⊎ GrowsAndFails tells slip slip' a b)
WorkEnds tells slip slip' a b (Err why) = GrowsAndStops tells slip slip' a b why

-- what one job came to: true where the peer goes on, false where its disk failed
abbrev pub Came : Type 0 → Slip → Slip → Bench → Bench → Bool → Type 0
Came tells slip slip' a b true = (slip'.fault ≡ slip.fault) × (Grows tells slip slip' a b × IsInPlace tells b)
Came tells slip slip' a b false = (slip'.fault ≡ slip.fault) × GrowsAndFails tells slip slip' a b
