-- What a key keeps while a file is stored under it, whatever stops that.
use Rattle.std.specs.Prelude.{List, Option, Some, None, length, ℕ, ◌≡◌, ◌≤◌, ◌⊎◌}
use Rattle.hs_asker.specs.Silent.{status_by}
use Rattle.hs_events.specs.Found.{first_core}
use Rattle.hs_events.specs.Taken.{or_blank}
use Rattle.hs_files.specs.Client.{IsUnanswered, beneath, client_script}
use Rattle.hs_files.specs.Stored.{StoresFile}
use Rattle.hs_fold.specs.Runs.Opened.{opened}
use Rattle.hs_fold.specs.Shards.Images.{AreGoodImages, Image}
use Rattle.hs_limits.specs.declared.address.Address.{Address}
use Rattle.hs_limits.specs.declared.shape.Shape.{Shape}
use Rattle.hs_model.specs.Store.{Store, retained_at}
use Rattle.hs_model.specs.declared.command.Command.{Command}
use Rattle.hs_ports.specs.Objects.{IsDuring}
use Rattle.hs_ports.specs.Source.{IsEnded, before}
use Rattle.hs_promise.specs.Entry.{MayStop, entry_store}
use Rattle.hs_promise.specs.Run.{Ran, Script}
use Rattle.hs_promise.specs.Stops.{Stops, image_logs, stop_at}
use Rattle.hs_promise.specs.Story.{Story}
use Rattle.hs_run.specs.Machine.{IsOfCluster}
use Rattle.hs_tree.specs.Trees.{IsStored}
use Rattle.hs_kept.specs.Kept.{AsksPlainly, IsSoundStart, StartsAlike, StoresPlainly, set_of, store_before, store_behind}
use Rattle.hs_kept.specs.Pending.{PendsAsAsked}

-- a key keeps what it kept, or a file whole, of which the source had no more
abbrev pub KeepsWhole : (List ℕ → Address) → Store → List ℕ → List ℕ → Option (List ℕ) → Store → Type 0
KeepsWhole name was key file left s = (retained_at s key ≡ retained_at was key) ⊎ (IsStored name s key file × IsEnded left × (length file ≤ 67108864))

-- the run of what a client was answered
abbrev pub client_run : (tells : Type 0) (name : List ℕ → Address) (shape : Shape) (r : Ran) (commands : ℕ → Option Command) → AsksPlainly tells name shape r commands → Ran
client_run tells name shape r commands asks = beneath r asks.until (status_by asks.ended)

-- its core goes on behind its opening
pub record GoesOn (tells : Type 0) (S : Script) (r : Ran) (machine : IsOfCluster tells S r) : Type 0 where
  pub story : Story
  pub is : machine.how ≡ Some story
  pub going : (first_core S.set story.found).ended ≡ None

-- at each moment whatever images count reopen, and what is pending in them is what its lines ask for
pub record StopsAsAsked (S : Script) (r : Ran) : Type 0 where
  pub stops : Stops S (entry_store S r) r
  pub pends : PendsAsAsked S r

-- this is so of the store at which whatever images open that count at a moment of what a client was answered, where its core goes on behind its opening and its stops are so
abbrev pub AtMoments : (tells : Type 0) (name : List ℕ → Address) (shape : Shape) (r : Ran) (commands : ℕ → Option Command) → AsksPlainly tells name shape r commands → (Store → Type 0) → Type 0
AtMoments tells name shape r commands asks P =
    GoesOn tells (client_script name shape commands) (client_run tells name shape r commands asks) asks.machine → StopsAsAsked (client_script name shape commands) (client_run tells name shape r commands asks)
    → (m : ℕ) → IsDuring (client_run tells name shape r commands asks).old (client_run tells name shape r commands asks).new m
    → (images : List Image) → AreGoodImages shape (stop_at (client_script name shape commands) (client_run tells name shape r commands asks) m) images → P (opened (set_of name shape) (or_blank (image_logs images)))

-- with one copy of each shard its stops are so, where it may be stopped
abbrev pub StopsAlone : (tells : Type 0) (name : List ℕ → Address) (shape : Shape) (r : Ran) (commands : ℕ → Option Command) → AsksPlainly tells name shape r commands → Type 0
StopsAlone tells name shape r commands asks =
    shape.copies ≡ 1 → GoesOn tells (client_script name shape commands) (client_run tells name shape r commands asks) asks.machine → MayStop (client_script name shape commands) (client_run tells name shape r commands asks)
    → StopsAsAsked (client_script name shape commands) (client_run tells name shape r commands asks)

-- of what the source gave: behind what was answered, and at each moment of it
pub record KeepsKeyWhole (tells : Type 0) (name : List ℕ → Address) (shape : Shape) (key : List ℕ) (r : Ran) : Type 0 where
  pub commands : ℕ → Option Command
  pub asks : AsksPlainly tells name shape r commands
  pub file : List ℕ
  pub given : before file r.new.left ≡ r.old.left
  pub behind : KeepsWhole name (store_before name shape r) key file r.new.left (store_behind name shape commands r)
  pub stopped : AtMoments tells name shape r commands asks (KeepsWhole name (store_before name shape r) key file r.new.left)
  pub alone : StopsAlone tells name shape r commands asks

-- nothing was asked for and answered, or so it is
abbrev pub EndsWhole : Type 0 → (List ℕ → Address) → Shape → List ℕ → Ran → Type 0
EndsWhole tells name shape key r = IsUnanswered r ⊎ KeepsKeyWhole tells name shape key r

-- with what the command itself promises, all that is promised of a store
pub record StoresAndKeeps (tells : Type 0) (name : List ℕ → Address) (shape : Shape) (key : List ℕ) (r : Ran) : Type 0 where
  pub stores : StoresFile tells name shape key r
  pub plainly : tells → StartsAlike shape r → IsSoundStart name shape r → StoresPlainly tells name shape key r
  pub whole : tells → StartsAlike shape r → IsSoundStart name shape r → EndsWhole tells name shape key r
