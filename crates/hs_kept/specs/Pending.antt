-- What is pending of a stop is what its lines ask for.
use Rattle.std.specs.List.{AllByRecursion}
use Rattle.std.specs.Prelude.{List, Option, Some, ℕ, ◌<◌, ◌≡◌, ◌⊎◌}
use Rattle.hs_fold.specs.Pending.{asked_by}
use Rattle.hs_entry.specs.declared.entry.Entry.{Entry}
use Rattle.hs_entry.specs.declared.entry.Entry.TheVariants as kind
use Rattle.hs_fold.specs.Catalogue.{Shard}
use Rattle.hs_fold.specs.Runs.Facts.{Catalogue}
use Rattle.hs_fold.specs.Runs.Happening.{happening_of}
use Rattle.hs_fold.specs.Shards.Happening.{Happening}
use Rattle.hs_fold.specs.Shards.Images.{AreGoodImages, Image}
use Rattle.hs_journal.specs.Events.{client_op}
use Rattle.hs_journal.specs.Moments.{below}
use Rattle.hs_journal.specs.Order.{IsOfLine, session_of}
use Rattle.hs_journal.specs.declared.entry.JournalEntry.{JournalEntry}
use Rattle.hs_model.specs.Store.{Store, held_at}
use Rattle.hs_model.specs.declared.command.Command.{Command}
use Rattle.hs_model.specs.declared.op.Op.{Op}
use Rattle.hs_model.specs.declared.op.Op.TheVariants as op
use Rattle.hs_ports.specs.Objects.{IsDuring}
use Rattle.hs_promise.specs.Answers.{store_after}
use Rattle.hs_promise.specs.Entry.{entry_store}
use Rattle.hs_promise.specs.Run.{Ran, Script}
use Rattle.hs_promise.specs.Stops.{pending_at, stop_at}

-- it is a write
abbrev pub IsWriting : Option Op → Type 0
IsWriting (Some (op.Write session payload handles address)) = Unit {0}
IsWriting other = ⊥

-- an entry is what the operation of its line puts: of a root, what its handle stands for in a store; an Enter may be of no line
abbrev pub PutsAs : (ℕ → Option Command) → Store → Entry → Type 0
PutsAs commands s (kind.Block line least bytes) = IsWriting (client_op (commands line))
PutsAs commands s (kind.Mark line least block address) = IsWriting (client_op (commands line))
PutsAs commands s (kind.Root line held address key) =
    (session : List ℕ) × (handle : ℕ) × (client_op (commands line) ≡ Some (op.Root session key handle)) × (held_at s session handle ≡ Some (record { address = address; epoch = held }))
PutsAs commands s (kind.Drop line key) = client_op (commands line) ≡ Some (op.Drop key)
PutsAs commands s (kind.Enter line epoch) = (line ≡ 0) ⊎ (client_op (commands line) ≡ Some op.Delete)
PutsAs commands s other = Unit {0}

-- a line has no answer, and each earlier one of its session has
pub record IsNextOf (commands : ℕ → Option Command) (journal : List JournalEntry) (line : ℕ) : Type 0 where
  pub unanswered : (i : ℕ) → IsOfLine journal i line → ⊥
  pub earlier : (k : ℕ) (session : List ℕ) → k < line → session_of (client_op (commands k)) ≡ Some session → session_of (client_op (commands line)) ≡ Some session → (i : ℕ) × IsOfLine journal i k

-- this happens by an entry, or nothing does
abbrev pub HappensBy : Entry → Option Happening → Type 0
HappensBy entry happened = (at : Shard) × (c : Catalogue) × (happened ≡ happening_of at c entry)

-- a pending entry, with what happens by it, is what its line asks for, which comes next of its session
pub record IsPendingAs (commands : ℕ → Option Command) (s : Store) (journal : List JournalEntry) (e : Entry × Option Happening) : Type 0 where
  pub puts : PutsAs commands s e.0
  pub next : (line : ℕ) → asked_by e.0 ≡ Some line → IsNextOf commands journal line
  pub happens : HappensBy e.0 e.1

-- so is each at a moment of a run, of images that count, at the store behind what was answered below it
abbrev pub ArePendingAs : Script → Ran → ℕ → List Image → Type 0
ArePendingAs S r m images =
    AllByRecursion (IsPendingAs S.commands (store_after S (entry_store S r) (below m r.journal)) (below m r.journal)) (pending_at S r m images)

abbrev pub PendsAsAsked : Script → Ran → Type 0
PendsAsAsked S r = (m : ℕ) → IsDuring r.old r.new m → (images : List Image) → AreGoodImages S.set.shape (stop_at S r m) images → ArePendingAs S r m images
