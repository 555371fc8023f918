-- Clause 1, the answers: a legal run of the plain store, in the order of a journal, printed.
use Rattle.std.specs.Prelude.{All, List, [], length, take, ℕ, ◌<◌, ◌≡◌, ◌≤◌, ◌⊎◌}
use Rattle.hs_journal.specs.Events.{IsAnswered, events_of}
use Rattle.hs_journal.specs.Order.{IsOrdered}
use Rattle.hs_journal.specs.declared.entry.JournalEntry.{JournalEntry}
use Rattle.hs_journal.specs.declared.entry.Who.{Who}
use Rattle.hs_journal.specs.declared.entry.Who.TheVariants as who
use Rattle.hs_model.specs.Run.{Event, IsLegal, run}
use Rattle.hs_model.specs.Store.{Store}
use Rattle.hs_model.specs.declared.deed.Deed.TheVariants as deed
use Rattle.hs_model.specs.declared.reply.Reply.TheVariants as reply
use Rattle.hs_ports.specs.Sink.{bytes_of}
use Rattle.hs_script.specs.Text.{text}
use Rattle.hs_promise.specs.Ending.{ending_of}
use Rattle.hs_journal.specs.Moments.{below}
use Rattle.hs_ports.specs.Putting.{IsPut, PutsFront, got_by}
use Rattle.hs_journal.specs.Telling.{AreDated, IsOfStore, MayTell}
use Rattle.hs_promise.specs.Run.{Ran, Script}
use Rattle.hs_ports.specs.Objects.{IsDuring, IsSinkBehind}

-- ---- in the plain store's words

-- the events of a journal from a store on
abbrev pub events_in : Script → Store → List JournalEntry → List Event
events_in S entry journal = events_of S.commands S.set.name S.set.limits entry journal

-- the store behind them, and that at a place of a journal: behind the entries before it
abbrev pub store_after : Script → Store → List JournalEntry → Store
store_after S entry journal = run S.set.limits entry (events_in S entry journal)

abbrev pub store_before : Script → Store → List JournalEntry → ℕ → Store
store_before S entry journal place = store_after S entry (take place journal)

-- a journal is a legal run of the plain store, its answers are that store's, and they stand in the order of a journal
pub record Answers (S : Script) (entry : Store) (journal : List JournalEntry) : Type 0 where
  pub legal : IsLegal S.set.limits entry (events_in S entry journal)
  pub replied : IsAnswered S.commands S.set.name S.set.limits entry journal
  pub ordered : IsOrdered S.commands journal

-- ---- what an entry stands for

-- an entry stands for a line that was begun, for what a shard did by itself, or for the store; each has its cause
abbrev pub IsEntry : Script → ℕ → JournalEntry → Type 0
IsEntry S last entry = stands_for entry.who
  where
    stands_for : Who → Type 0
    stands_for (who.Line n) = (n ≤ last) × MayTell S.set.shape S.set.limits (S.commands n) entry
    stands_for (who.Shard g) = (g < S.set.shape.shards) × ((entry.deed ≡ deed.Entered g) ⊎ (entry.deed ≡ deed.Swept g))
    stands_for who.Store = (entry.deed ≡ deed.Nothing) × IsOfStore S.set.shape last entry.reply

-- ---- what stands whatever the disks hold

-- nothing was read and no line begun, and what is told is that peers are down
pub record BeganNothing (r : Ran) : Type 0 where
  pub unread : r.new.left ≡ r.old.left
  pub line : r.line ≡ 0
  pub notes : All (λ entry. (peer : ℕ) × (entry.reply ≡ reply.Down peer 0)) r.journal

-- the entries stand for what they may, within the limit, and notes have their line; a run without a course began nothing; what was put is the journal's text, at each moment a front of what was answered below it
pub record Prints (S : Script) (r : Ran) : Type 0 where
  pub entries : All (IsEntry S r.line) r.journal
  pub fits : length r.journal ≤ S.set.limits.ops
  pub dated : AreDated S.commands r.journal
  pub nothing : r.course ≡ [] → BeganNothing r
  pub printed : IsPut (ending_of r.ending).short (bytes_of r.old.got) (text r.journal) (bytes_of r.new.got)
  pub in_time : (m : ℕ) → IsSinkBehind r.old → IsDuring r.old r.new m → PutsFront (bytes_of r.old.got) (text (below m r.journal)) (bytes_of (got_by m r.new.got))
