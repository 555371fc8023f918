-- Those that work beside each other in a load: what each came to.
use Rattle.std.specs.List.{range_with_len}
use Rattle.std.specs.Option.{option_map_or}
use Rattle.std.specs.Prelude.{◌≡◌, ◌<◌, ℕ, ◌-◌, ◌==◌, ◌&&◌, ⊤, Bool, false, not, IfOk, List, [], Option, Some, None, Result, Ok, Err, codes, if◌then◌else◌, is_none, length, map, slice_get}
use Rattle.hs_desk.specs.declared.slip.Slip.{Slip}
use Rattle.hs_desk.specs.declared.token.Token.{Token}
use Rattle.hs_limits.specs.declared.address.Address.{Address}
use Rattle.hs_model.specs.declared.op.Op.{Op}
use Rattle.hs_model.specs.declared.reply.Reply.{Reply}
use Rattle.hs_peerlog.specs.Lists.{Keeping}
use Rattle.hs_promise.specs.declared.load.Kept.{Kept}
use Rattle.hs_promise.specs.declared.load.Stored.{Stored}
use Rattle.hs_script.specs.Loads.{asked_behind, deletion_behind, session_name, writer_of}
use Rattle.hs_script.specs.declared.sums.WriterSum.{WriterSum}
use Rattle.hs_taking.specs.Disks.{DiskSeen}
use Rattle.hs_workers.specs.Asks.{HasEnded, sum_of}
use Rattle.hs_workers.specs.Work.{Bench, WorkEnds}
use Rattle.hs_workers.specs.declared.fault.WorkFault.{WorkFault}

-- ---- before they begin

-- the sessions of so many writers
abbrev pub sessions_of : ℕ → List (List ℕ)
sessions_of writers = map session_name (range_with_len 0 writers)

-- the slip of a peer to which nothing was handed out, and the token of a session that has asked nothing
abbrev pub fresh_slip : ℕ → Slip
fresh_slip peer = record { peer = peer; work = None; stored = []; shown = []; idle = false; fault = None }

abbrev pub fresh_token : List ℕ → Token
fresh_token session = record { session = session; number = 0; asked = None; held = []; kept = []; fault = None }

-- ---- a peer

-- what is handed back of a slip
abbrev pub stored_of : Slip → Stored
stored_of slip = record { peer = slip.peer; numbers = slip.stored; shown = slip.shown; fault = slip.fault }

-- a log beside its disk
abbrev pub bench_at : Keeping → DiskSeen → Bench
bench_at log disk = record { log = log; size = disk.size; disk = disk.stands; faults = disk.faults }

-- whether the last number is a 0, as where the disk failed
abbrev pub ends_failed : List ℕ → Bool
ends_failed numbers = option_map_or (λ number. number == 0) (slice_get numbers (length numbers - 1)) false

-- how work ended, by why it stopped, if it did
abbrev pub end_by : Option WorkFault → Result ⊤ WorkFault
end_by None = Ok tt
end_by (Some why) = Err why

-- the log stays in use where the work came to its end and the disk did not fail
abbrev pub log_left : Slip → Option WorkFault → Keeping → Option Keeping
log_left slip stop log = if is_none stop && not (ends_failed slip.stored) then Some log else None

-- a peer whose log was in use: what its worker did, why it stopped, if it did, and which log is in use behind it
pub record HasWorked (tells : Type 0) (peer : ℕ) (log : Keeping) (old new : DiskSeen) (kept : Option Keeping) (told : Stored) (stop : Option WorkFault) : Type 0 where
  pub slip : Slip
  pub left : Keeping
  pub came : WorkEnds tells (fresh_slip peer) slip (bench_at log old) (bench_at left new) (end_by stop)
  pub stored : told ≡ stored_of slip
  pub in_use : kept ≡ log_left slip stop left

-- another one: its disk was left alone
pub record WasAside (peer : ℕ) (old new : DiskSeen) (kept : Option Keeping) (told : Stored) (stop : Option WorkFault) : Type 0 where
  pub same : new ≡ old
  pub stored : told ≡ stored_of (fresh_slip peer)
  pub in_use : kept ≡ None
  pub calm : stop ≡ None

abbrev pub PeerEnds : Type 0 → ℕ → Option Keeping → DiskSeen → DiskSeen → Option Keeping → Stored → Option WorkFault → Type 0
PeerEnds tells peer (Some log) old new kept told stop = HasWorked tells peer log old new kept told stop
PeerEnds tells peer None old new kept told stop = WasAside peer old new kept told stop

-- ---- one who asks

-- what is handed back of a token
abbrev pub kept_of : Token → Kept
kept_of token = record { session = token.session; answers = token.kept; fault = token.fault }

-- one who asked, each operation behind the answers to those before it: what was answered, and how it ended
pub record HasAsked (next : List Reply → Option Op) (session : List ℕ) (told : Kept) (end : Result WriterSum WorkFault) : Type 0 where
  pub token : Token
  pub came : HasEnded next (fresh_token session) token end
  pub kept : told ≡ kept_of token

-- the deleter counts no files
abbrev pub without_files : Result ⊤ WorkFault → Result WriterSum WorkFault
without_files (Ok x) = Ok (record { files = 0; kept = 0 })
without_files (Err why) = Err why

-- a writer counts its files by its answers
abbrev pub CountsFiles : Kept → Result WriterSum WorkFault → Type 0
CountsFiles told end = IfOk end (λ sum. sum ≡ sum_of told.answers)

-- what the team works by: the naming, the seed, how many writers there are, and how many files each has
pub record Task : Type 0 where
  pub name : List ℕ → Address
  pub seed : ℕ
  pub writers : ℕ
  pub files : ℕ

-- the writer of a number, and behind the last one the deleter
pub record AskerEnds (task : Task) (number : ℕ) (told : Kept) (end : Result WriterSum WorkFault) : Type 0 where
  pub writer : number < task.writers → HasAsked (asked_behind (writer_of task.name task.seed number task.files)) (session_name number) told end × CountsFiles told end
  pub deleter : number ≡ task.writers → HasAsked deletion_behind (codes "deleter") told end
