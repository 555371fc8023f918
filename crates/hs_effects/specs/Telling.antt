-- What a journal tells of a shard's own event, and of the end of a run.
use Rattle.std.specs.List.{list_all}
use Rattle.std.specs.Prelude.{◌≡◌, ℕ, List, [], ◌∷◌, ◌++◌, slice_index, nat_le, if◌then◌else◌}
use Rattle.hs_answered.specs.Standing.{store_with}
use Rattle.hs_core_words.specs.State.{Core}
use Rattle.hs_fold.specs.Runs.Facts.{Catalogue as Folded}
use Rattle.hs_journal.specs.declared.entry.JournalEntry.{JournalEntry}
use Rattle.hs_journal.specs.declared.entry.Who.TheVariants as who
use Rattle.hs_model.specs.declared.deed.Deed.TheVariants as deed
use Rattle.hs_model.specs.declared.reply.Reply.TheVariants as reply
use Rattle.hs_model.specs.Judge.{Judged}
use Rattle.hs_model.specs.Run.{Event, IsAllowed, step, sweeps}
use Rattle.hs_model.specs.Store.{Store}

-- what an event answers, does and leaves at the store of a core
abbrev pub event_at : List Folded → Core → Event → Judged
event_at cs core event = step core.limits (store_with cs core.sessions) event

-- the entry that tells of a shard's event
abbrev pub shard_entry : ℕ → ℕ → Judged → JournalEntry
shard_entry shard moment judged = record { who = who.Shard shard; moment = moment; deed = judged.deed; reply = judged.reply }

-- that the run of an epoch is done, where every shard has swept it
abbrev pub done_entries : ℕ → ℕ → Store → List JournalEntry
done_entries moment epoch s =
    if list_all (λ e. nat_le epoch e) s.swept
    then record { who = who.Store; moment = moment; deed = deed.Nothing; reply = reply.Done epoch } ∷ [] else []

-- a shard's event was allowed, and has happened: the entry tells what it answers, and the store is the one that it leaves
pub record HasHappened (cs behind : List Folded) (before after : Core) (shard : ℕ) (event : Event) (more : List JournalEntry) : Type 0 where
  pub allowed : IsAllowed (store_with cs before.sessions) event
  pub told : after.entries ≡ before.entries ++ shard_entry shard before.moment (event_at cs before event) ∷ more
  pub left : store_with behind after.sessions ≡ (event_at cs before event).store

-- a shard has swept, and directly behind its sweep it is told where the run of its epoch is done
abbrev pub HasSwept : List Folded → List Folded → Core → Core → ℕ → Type 0
HasSwept cs behind before after shard =
    let s : Store = store_with cs before.sessions in
    HasHappened cs behind before after shard (sweeps shard)
    (done_entries before.moment (slice_index s.epochs shard) (event_at cs before (sweeps shard)).store)

-- nothing is told, and the store is as it was
pub record IsSilent (cs behind : List Folded) (before after : Core) : Type 0 where
  pub told : after.entries ≡ before.entries
  pub left : store_with behind after.sessions ≡ store_with cs before.sessions
