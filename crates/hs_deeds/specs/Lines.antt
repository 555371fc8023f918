-- How a core goes on from its opening: the first turns, what a book does, and lines behind it that delete or settle.
use Rattle.std.specs.Prelude.{◌≡◌, ℕ, ◌+◌, ◌≤◌, true, List, [], ◌∷◌, ◌++◌, None, count_by, is_none, length, map, sum_by}
use Rattle.hs_book.specs.Book.{Book}
use Rattle.hs_book.specs.History.{History}
use Rattle.hs_core_words.specs.Records.{HasRecordRoom}
use Rattle.hs_core_words.specs.State.{Core}
use Rattle.hs_deeds.specs.Bare.{bare_store}
use Rattle.hs_deeds.specs.Told.{store_after}
use Rattle.hs_events.specs.Commands.{AreOfCommand}
use Rattle.hs_events.specs.Course.{steps}
use Rattle.hs_events.specs.Due.{Events, MomentsRise, is_walk, next_turn}
use Rattle.hs_events.specs.Found.{Found, first_core}
use Rattle.hs_fold.specs.Shards.Setting.{Setting}
use Rattle.hs_journal.specs.Deeds.{as_deed}
use Rattle.hs_limits.specs.declared.address.Address.{Address}
use Rattle.hs_limits.specs.declared.limits.Limits.{Limits}
use Rattle.hs_model.specs.declared.command.Command.{Command}
use Rattle.hs_model.specs.declared.command.Command.TheVariants as command
use Rattle.hs_model.specs.declared.op.Op.TheVariants as op
use Rattle.hs_model.specs.Deeds.{AreDeeds}
use Rattle.hs_model.specs.Store.{Store}
use Rattle.hs_roots.specs.Roots.{retained_count}
use Rattle.hs_standing.specs.Answered.{KeepsRecordRoom}

-- ---- lines

-- a line: its command, and its events
pub record AskedLine : Type 0 where
  pub asked : Command
  pub events : Events

-- it deletes, or lets what waits get done
abbrev pub DeletesOrSettles : Command → Type 0
DeletesOrSettles (command.Client o) = o ≡ op.Delete
DeletesOrSettles command.Settle = Unit {0}
DeletesOrSettles (command.Turn peer) = ⊥
DeletesOrSettles (command.Nudge peer) = ⊥
DeletesOrSettles (command.Deliver message) = ⊥
DeletesOrSettles (command.Lose message) = ⊥
DeletesOrSettles (command.Repeat message) = ⊥
DeletesOrSettles (command.Fail peer) = ⊥
DeletesOrSettles (command.Start peer) = ⊥
DeletesOrSettles (command.Reclaim peer) = ⊥

-- such lines from one on, each begun by a core that goes on and gone past, behind the one before
abbrev pub AreLast : (List ℕ → Address) → ℕ → Core → List AskedLine → Type 0
AreLast name line core [] = Unit {0}
AreLast name line core (x ∷ xs) =
    (core.ended ≡ None) × DeletesOrSettles x.asked × AreOfCommand name (record { line = line; core = core; events = x.events; whole = true }) x.asked × AreLast name (line + 1) (steps core x.events) xs

abbrev pub events_of : List AskedLine → Events
events_of [] = []
events_of (x ∷ xs) = x.events ++ events_of xs

-- ---- all of it

-- the turns that were due as the core opened, a book from there, and such lines behind it; moments never fall, and the core has room for root records as long as it goes on
pub record GoesToEnd (name : List ℕ → Address) (set : Setting) (found : Found) (turns : Events) (book : Book) (lines : List AskedLine) : Type 0 where
  pub turned : is_walk next_turn true 0 (first_core set found) turns ≡ true
  pub until : ℕ
  pub rises : MomentsRise (first_core set found).moment turns until
  pub opened : KeepsRecordRoom (first_core set found) turns
  pub room : (steps (first_core set found) turns).ended ≡ None → HasRecordRoom (steps (first_core set found) turns)
  pub led : History (steps (first_core set found) turns) book
  pub last : AreLast name (book.core.progress.last_line + 1) book.core lines
  pub begun : ℕ
  pub end : ℕ
  pub later : book.core.moment ≤ begun
  pub rise : MomentsRise begun (events_of lines) end
  pub kept : KeepsRecordRoom book.core (events_of lines)

-- the journal of a core is one of deeds from a store on, which leave the store of the core without data; that has as many blocks and retained roots as its catalogues count
pub record LeavesDeeds (limits : Limits) (start : Store) (core : Core) : Type 0 where
  pub deeds : AreDeeds limits start [] (map as_deed core.journal)
  pub left : store_after start (map as_deed core.journal) ≡ bare_store core
  pub blocks : length (bare_store core).blocks ≡ sum_by (λ c. length c.blocks) core.catalogues
  pub roots : count_by (λ root. is_none root.dropped) (bare_store core).roots ≡ sum_by (λ c. retained_count c.roots) core.catalogues
