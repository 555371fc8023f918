-- What the commands that keep a file come to in the words of the plain store, where the disks tell their contents, and are sound and open alike at entry.
use Rattle.std.specs.Prelude.{List, None, Option, length, map, ℕ, ◌≡◌, ◌≤◌}
use Rattle.hs_asker.specs.Silent.{status_by}
use Rattle.hs_desk.specs.declared.fault.CoreFault.{CoreFault}
use Rattle.hs_events.specs.Taken.{or_blank, taken_lists}
use Rattle.hs_files.specs.Client.{beneath, client_script}
use Rattle.hs_files.specs.Fetched.{FetchesFile}
use Rattle.hs_fold.specs.Runs.Opened.{opened}
use Rattle.hs_fold.specs.Shards.Setting.{Numbered, Setting}
use Rattle.hs_founded.specs.Spelled.{HoldBytes}
use Rattle.hs_journal.specs.Events.{IsAnswered, events_of}
use Rattle.hs_limits.specs.Limits.{greatest_limits}
use Rattle.hs_limits.specs.declared.address.Address.{Address}
use Rattle.hs_limits.specs.declared.shape.Shape.{Shape}
use Rattle.hs_model.specs.Run.{Event, IsLegal, run}
use Rattle.hs_model.specs.Store.{Store, retained_at}
use Rattle.hs_model.specs.declared.command.Command.{Command}
use Rattle.hs_model.specs.declared.reply.Reply.{Reply}
use Rattle.hs_model.specs.declared.reply.Reply.TheVariants as reply
use Rattle.hs_ports.specs.Putting.{PutsFront}
use Rattle.hs_ports.specs.Sink.{bytes_of, followed}
use Rattle.hs_ports.specs.Source.{IsEnded, before}
use Rattle.hs_promise.specs.Run.{Ran}
use Rattle.hs_promise.specs.declared.status.Status.TheVariants as status
use Rattle.hs_run.specs.Machine.{IsOfCluster}
use Rattle.hs_side.specs.Current.{list_in}
use Rattle.hs_sound.specs.Stay.{AreSoundAlong}
use Rattle.hs_tree.specs.Fetching.{IsFileOf, IsNoFile}
use Rattle.hs_tree.specs.Growing.{IsStoreRefusal, KeepsRoots}
use Rattle.hs_tree.specs.Trees.{IsStored}
use Rattle.hs_kept.specs.Entry.{OpensAlike}

-- ---- the store, before and behind

-- a store under the greatest limits
abbrev pub set_of : (List ℕ → Address) → Shape → Setting
set_of name shape = record { name = name; limits = greatest_limits; shape = shape }

-- the list of each disk at entry, and the store at which these open
abbrev pub disk_lists : Ran → List (Option Numbered)
disk_lists r = map (λ disk. list_in disk.seen) r.old.disks

abbrev pub store_before : (List ℕ → Address) → Shape → Ran → Store
store_before name shape r = opened (set_of name shape) (or_blank (disk_lists r))

-- what happened from there by the answers to these commands, and the store behind that
abbrev pub events_answered : (List ℕ → Address) → Shape → (ℕ → Option Command) → Ran → List Event
events_answered name shape commands r = events_of commands name greatest_limits (store_before name shape r) r.journal

abbrev pub store_behind : (List ℕ → Address) → Shape → (ℕ → Option Command) → Ran → Store
store_behind name shape commands r = run greatest_limits (store_before name shape r) (events_answered name shape commands r)

-- there is one copy of each shard, or the copies of each open alike
abbrev pub StartsAlike : Shape → Ran → Type 0
StartsAlike shape r = OpensAlike shape r.old.moment r.old.disks

-- the disks hold bytes, and have sound lists
pub record IsSoundStart (name : List ℕ → Address) (shape : Shape) (r : Ran) : Type 0 where
  pub bytes : HoldBytes r.old.disks
  pub sound : AreSoundAlong (set_of name shape) (taken_lists shape (disk_lists r))

-- ---- the client

-- what a client asked for by these commands, and was answered, is the machine's run, which ended so; it is a legal run of the plain store, with its answers
pub record AsksPlainly (tells : Type 0) (name : List ℕ → Address) (shape : Shape) (r : Ran) (commands : ℕ → Option Command) : Type 0 where
  pub ended : Option CoreFault
  pub until : ℕ
  pub machine : IsOfCluster tells (client_script name shape commands) (beneath r until (status_by ended))
  pub legal : IsLegal greatest_limits (store_before name shape r) (events_answered name shape commands r)
  pub replied : IsAnswered commands name greatest_limits (store_before name shape r) r.journal

-- ---- a file that is stored

-- what the source gave to its end is kept under the key: its top, and each block of its tree
pub record KeepsFile (tells : Type 0) (name : List ℕ → Address) (shape : Shape) (key : List ℕ) (r : Ran) : Type 0 where
  pub commands : ℕ → Option Command
  pub asks : AsksPlainly tells name shape r commands
  pub file : List ℕ
  pub given : before file r.new.left ≡ r.old.left
  pub ended : IsEnded r.new.left
  pub fits : length file ≤ 67108864
  pub stored : IsStored name (store_behind name shape commands r) key file

-- each key keeps what it kept
pub record KeepsEachRoot (tells : Type 0) (name : List ℕ → Address) (shape : Shape) (r : Ran) : Type 0 where
  pub commands : ℕ → Option Command
  pub asks : AsksPlainly tells name shape r commands
  pub roots : KeepsRoots (store_before name shape r) (store_behind name shape commands r)

pub record StoresPlainly (tells : Type 0) (name : List ℕ → Address) (shape : Shape) (key : List ℕ) (r : Ran) : Type 0 where
  pub done : r.ending ≡ status.Done → KeepsFile tells name shape key r
  pub refusal : (told : Reply) → r.ending ≡ status.Refused told → IsStoreRefusal key told
  pub refused : (told : Reply) → r.ending ≡ status.Refused told → KeepsEachRoot tells name shape r
  pub unread : r.ending ≡ status.ReadFault → KeepsEachRoot tells name shape r
  pub too_long : r.ending ≡ status.InputFull → KeepsEachRoot tells name shape r

-- ---- a file that is fetched

-- the key keeps a file, place by place, which is this one
pub record HasFile (tells : Type 0) (name : List ℕ → Address) (shape : Shape) (key : List ℕ) (r : Ran) (file : List ℕ) : Type 0 where
  pub commands : ℕ → Option Command
  pub asks : AsksPlainly tells name shape r commands
  pub kept : IsFileOf (store_behind name shape commands r) key file

-- the key keeps nothing
pub record HasNothing (tells : Type 0) (name : List ℕ → Address) (shape : Shape) (key : List ℕ) (r : Ran) : Type 0 where
  pub commands : ℕ → Option Command
  pub asks : AsksPlainly tells name shape r commands
  pub nothing : retained_at (store_behind name shape commands r) key ≡ None

-- the key keeps an address at which no file is
pub record HasNoFile (tells : Type 0) (name : List ℕ → Address) (shape : Shape) (key : List ℕ) (r : Ran) (address : Address) : Type 0 where
  pub commands : ℕ → Option Command
  pub asks : AsksPlainly tells name shape r commands
  pub none : IsNoFile (store_behind name shape commands r) key address

pub record FetchesPlainly (tells : Type 0) (name : List ℕ → Address) (shape : Shape) (key : List ℕ) (r : Ran) : Type 0 where
  pub done : r.ending ≡ status.Done → (file : List ℕ) × HasFile tells name shape key r file × (bytes_of r.new.got ≡ followed (bytes_of r.old.got) file)
  pub cut : r.ending ≡ status.WriteFault → (file : List ℕ) × HasFile tells name shape key r file × PutsFront (bytes_of r.old.got) file (bytes_of r.new.got)
  pub refusal : (told : Reply) → r.ending ≡ status.Refused told → told ≡ reply.NoKey key
  pub refused : (told : Reply) → r.ending ≡ status.Refused told → HasNothing tells name shape key r
  pub no_file : (address : Address) → r.ending ≡ status.NotATree address → HasNoFile tells name shape key r address

-- with what the command itself promises, all that is promised of it
pub record FetchesAndGives (tells : Type 0) (name : List ℕ → Address) (shape : Shape) (key : List ℕ) (r : Ran) : Type 0 where
  pub fetches : FetchesFile tells name shape key r
  pub plainly : tells → StartsAlike shape r → IsSoundStart name shape r → FetchesPlainly tells name shape key r
