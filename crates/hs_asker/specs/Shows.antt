-- What an asker over a cluster shows.
use Rattle.std.specs.Prelude.{List, None, Option, map, ℕ, ⊤, ◌≡◌}
use Rattle.hs_asking.specs.Lawful.{AreAnswersOf}
use Rattle.hs_asking.specs.Shown.{Began, Shown, store_now}
use Rattle.hs_desk.specs.declared.fault.CoreFault.{CoreFault}
use Rattle.hs_events.specs.Taken.{or_blank}
use Rattle.hs_fold.specs.Runs.Opened.{opened}
use Rattle.hs_fold.specs.Shards.Setting.{Numbered}
use Rattle.hs_journal.specs.declared.entry.JournalEntry.{JournalEntry}
use Rattle.hs_model.specs.Store.{held_at as store_held}
use Rattle.hs_model.specs.declared.command.Command.{Command}
use Rattle.hs_side.specs.Current.{list_in}
use Rattle.hs_tokens.specs.Seats.{held_at, seat_of}
use Rattle.hs_asker.specs.Going.{AtEntry, Inside, IsAsker}
use Rattle.hs_asker.specs.Lines.{command_at, ops_of}

-- the lines that were begun, what was answered, and why it ended, if it has
pub record Asking : Type 0 where
  pub said : List Command
  pub journal : List JournalEntry
  pub ended : Option CoreFault

-- the list of each disk at entry
abbrev pub entry_lists : AtEntry → List (Option Numbered)
entry_lists e = map (λ disk. list_in disk.stands.seen) e.disks

-- it began at the store at which these lists open
abbrev pub began_by : AtEntry → Began
began_by e = record { name = e.set.name; limits = e.set.limits; store = opened e.set (or_blank (entry_lists e)) }

-- what an asker shows that stands so, under no condition
abbrev pub shown_in : AtEntry → Inside → Shown ⊤
shown_in e s = record { asked = ops_of s.said; commands = command_at s.said; journal = s.cluster.core.journal; ended = s.ended; began = began_by e }

-- what it shows is lawful from there, and while it goes on a handle stands for what the plain store holds
pub record IsAnswering (e : AtEntry) (s : Inside) : Type 0 where
  pub lawful : AreAnswersOf (began_by e) (shown_in e s)
  pub held : s.ended ≡ None → (session : List ℕ) (handle : ℕ) → held_at (seat_of session s.cluster.core.sessions) handle ≡ store_held (store_now (began_by e) (shown_in e s)) session handle

-- where that is told: where each asker from there is so, however it came to be as it is. It is a law, of disks that tell and lists that are sound, and not of this crate
abbrev pub IsTold : Type 0 → AtEntry → Type 0
IsTold tells e = (s : Inside) → IsAsker tells e.set.name e s → IsAnswering e s

abbrev pub shows_of : (tells : Type 0) (e : AtEntry) → Asking → Shown (IsTold tells e)
shows_of tells e a = record { asked = ops_of a.said; commands = command_at a.said; journal = a.journal; ended = a.ended; began = began_by e }
