-- What a settle leaves: the core behind its line, and what is open there.
use Rattle.std.specs.Prelude.{◌≡◌, ℕ, ◌++◌, false, flat_map, take}
use Rattle.hs_core_words.specs.Looking.{open_work}
use Rattle.hs_core_words.specs.State.{Core}
use Rattle.hs_events.specs.Course.{steps}
use Rattle.hs_events.specs.Due.{Events}
use Rattle.hs_events.specs.Found.{first_core}
use Rattle.hs_journal.specs.declared.entry.JournalEntry.{JournalEntry}
use Rattle.hs_journal.specs.declared.entry.Who.TheVariants as who
use Rattle.hs_model.specs.declared.deed.Deed.TheVariants as deed
use Rattle.hs_promise.specs.Run.{Script}
use Rattle.hs_promise.specs.Story.{Story}

-- the events of opening, and of the lines up to this one
abbrev pub events_up_to : Story → ℕ → Events
events_up_to story line = story.opening ++ flat_map (λ events. events) (take line story.lines)

-- the core behind them
abbrev pub core_behind : Script → Story → ℕ → Core
core_behind S story line = steps (first_core S.set story.found) (events_up_to story line)

-- no operation is without an answer, all entries have taken effect, each shard has swept the greatest epoch, and no peer is joining
abbrev pub NothingOpen : Core → Type 0
NothingOpen core = open_work core ≡ false

-- an entry does not tell that shard 0 entered an epoch by itself
abbrev pub IsNoFirst : JournalEntry → Type 0
IsNoFirst entry = (epoch : ℕ) → entry.who ≡ who.Shard 0 → entry.deed ≡ deed.Entered epoch → ⊥
