-- What the entries of a core's journal stand for, and which events are of their line's command.
use Rattle.std.specs.List.{AllByRecursion}
use Rattle.std.specs.Prelude.{◌≡◌, ◌⊎◌, ℕ, ◌*◌, ◌<◌, ◌≤◌, ◌++◌, List, [], ◌∷◌, Option, Some, None, IsSome, length, true}
use Rattle.hs_awaiting.specs.declared.waiting.Waiting.{Waiting}
use Rattle.hs_core_words.specs.declared.event.Event.{Event}
use Rattle.hs_core_words.specs.declared.event.Event.TheVariants as event
use Rattle.hs_core_words.specs.Looking.{operation_of, shape_of}
use Rattle.hs_core_words.specs.State.{Core}
use Rattle.hs_core_words.specs.Step.{line_of, step}
use Rattle.hs_desk.specs.declared.done.Done.{Done}
use Rattle.hs_desk.specs.declared.done.Done.TheVariants as done
use Rattle.hs_events.specs.Due.{is_answer}
use Rattle.hs_journal.specs.declared.entry.JournalEntry.{JournalEntry}
use Rattle.hs_journal.specs.declared.entry.Who.{Who}
use Rattle.hs_journal.specs.declared.entry.Who.TheVariants as who
use Rattle.hs_journal.specs.Events.{client_op}
use Rattle.hs_journal.specs.Telling.{IsOfStore, MayTell}
use Rattle.hs_limits.specs.declared.limits.Limits.{Limits}
use Rattle.hs_limits.specs.declared.shape.Shape.{Shape}
use Rattle.hs_model.specs.declared.command.Command.{Command}
use Rattle.hs_model.specs.declared.command.Command.TheVariants as command
use Rattle.hs_model.specs.declared.deed.Deed.TheVariants as deed
use Rattle.hs_model.specs.declared.reply.Reply.{Reply}
use Rattle.hs_told.specs.InTurn.{refusal_in, told_of}

-- ---- entries

-- an entry stands for its line, which is not above the last one; for what a shard did by itself; or for the store
abbrev pub StandsFor : (ℕ → Option Command) → Shape → Limits → ℕ → JournalEntry → Type 0
StandsFor commands shape limits last entry = stands_for entry.who
  where
    stands_for : Who → Type 0
    stands_for (who.Line n) = (n ≤ last) × MayTell shape limits (commands n) entry
    stands_for (who.Shard g) = (g < shape.shards) × ((entry.deed ≡ deed.Entered g) ⊎ (entry.deed ≡ deed.Swept g))
    stands_for who.Store = (entry.deed ≡ deed.Nothing) × IsOfStore shape last entry.reply

-- ---- a core between two events

-- there is a list for each shard and a status for each peer, and the pool has its limit; an operation without an answer is of a client's line, which is not above the last one; each entry stands for what it may, also of those that found the journal full, which none did while the core goes on
pub record IsNoted (commands : ℕ → Option Command) (core : Core) : Type 0 where
  pub groups : length core.groups ≡ (shape_of core).shards
  pub peers : length core.members.statuses ≡ (shape_of core).shards * (shape_of core).copies
  pub pool : core.pool.limit ≡ core.limits.pool
  pub asking : (n : ℕ) (w : Waiting) → operation_of n core ≡ Some w → (n ≤ core.progress.event_line) × IsSome (client_op (commands n))
  pub journal : AllByRecursion (StandsFor commands (shape_of core) core.limits core.progress.event_line) core.journal
  pub refused : AllByRecursion (StandsFor commands (shape_of core) core.limits core.progress.event_line) core.refused
  pub quiet : core.entries ≡ []
  pub going : core.ended ≡ None → core.refused ≡ []

-- ---- events

-- the command of which an event is that is no client's
abbrev pub command_in : Event → Option Command
command_in (event.Line line o) = None
command_in (event.Report peer d) = None
command_in (event.Turn line peer) = Some (command.Turn peer)
command_in (event.Deliver line number) = Some (command.Deliver number)
command_in (event.Lose line number) = Some (command.Lose number)
command_in (event.Repeat line number) = Some (command.Repeat number)
command_in (event.Nudge line peer) = Some (command.Nudge peer)
command_in (event.Fail line peer) = Some (command.Fail peer)
command_in (event.Start line peer) = Some (command.Start peer)

-- a disk that is reported to have failed is a peer's
abbrev pub IsOfPeer : Shape → Done → Type 0
IsOfPeer shape (done.Failed disk) = disk < shape.shards * shape.copies
IsOfPeer shape (done.Stored number) = Unit {0}
IsOfPeer shape (done.Sealed number) = Unit {0}
IsOfPeer shape (done.Bytes number bytes) = Unit {0}
IsOfPeer shape (done.Gone number) = Unit {0}
IsOfPeer shape done.Emptied = Unit {0}
IsOfPeer shape (done.Copied number) = Unit {0}
IsOfPeer shape (done.Stepped switched) = Unit {0}

-- an event of a line that is no client's is not below the last one, and is of the line's command, or is not refused
abbrev pub IsOfItsLine : (ℕ → Option Command) → Core → Event → Type 0
IsOfItsLine commands core e = (core.progress.event_line ≤ line_of e) × ((refusal_in e core ≡ None) ⊎ (commands (line_of e) ≡ command_in e))

-- an event is of a line that comes next: a client's line is not below the last one, and has a client's command
abbrev pub IsOwnEvent : (ℕ → Option Command) → Core → Event → Type 0
IsOwnEvent commands core (event.Line line o) = (core.progress.event_line ≤ line) × IsSome (client_op (commands line))
IsOwnEvent commands core (event.Report peer d) = IsOfPeer (shape_of core) d
IsOwnEvent commands core (event.Turn line peer) = IsOfItsLine commands core (event.Turn line peer)
IsOwnEvent commands core (event.Deliver line number) = IsOfItsLine commands core (event.Deliver line number)
IsOwnEvent commands core (event.Lose line number) = IsOfItsLine commands core (event.Lose line number)
IsOwnEvent commands core (event.Repeat line number) = IsOfItsLine commands core (event.Repeat line number)
IsOwnEvent commands core (event.Nudge line peer) = IsOfItsLine commands core (event.Nudge line peer)
IsOwnEvent commands core (event.Fail line peer) = IsOfItsLine commands core (event.Fail line peer)
IsOwnEvent commands core (event.Start line peer) = IsOfItsLine commands core (event.Start line peer)

-- so each of some events, as long as the core goes on
abbrev pub AllAreOwn : (ℕ → Option Command) → Core → List (Event × ℕ) → Type 0
AllAreOwn commands core [] = Unit {0}
AllAreOwn commands core (e ∷ es) = (core.ended ≡ None → IsOwnEvent commands core e.0) × AllAreOwn commands (step e.0 e.1 core) es

-- a report answers the first job of its peer
abbrev pub IsAnswering : Core → Event → Type 0
IsAnswering core (event.Line line o) = Unit {0}
IsAnswering core (event.Report peer d) = is_answer core peer d ≡ true
IsAnswering core (event.Turn line peer) = Unit {0}
IsAnswering core (event.Deliver line number) = Unit {0}
IsAnswering core (event.Lose line number) = Unit {0}
IsAnswering core (event.Repeat line number) = Unit {0}
IsAnswering core (event.Nudge line peer) = Unit {0}
IsAnswering core (event.Fail line peer) = Unit {0}
IsAnswering core (event.Start line peer) = Unit {0}

-- so each of some events, and the core goes on where it comes
abbrev pub AllAnswer : Core → List (Event × ℕ) → Type 0
AllAnswer core [] = Unit {0}
AllAnswer core (e ∷ es) = (core.ended ≡ None) × IsAnswering core e.0 × AllAnswer (step e.0 e.1 core) es

-- ---- what an event adds

-- an event is no client's line
abbrev pub IsNoClients : Event → Type 0
IsNoClients (event.Line line o) = ⊥
IsNoClients (event.Report peer d) = Unit {0}
IsNoClients (event.Turn line peer) = Unit {0}
IsNoClients (event.Deliver line number) = Unit {0}
IsNoClients (event.Lose line number) = Unit {0}
IsNoClients (event.Repeat line number) = Unit {0}
IsNoClients (event.Nudge line peer) = Unit {0}
IsNoClients (event.Fail line peer) = Unit {0}
IsNoClients (event.Start line peer) = Unit {0}

-- the refusal of a line that is no client's, as it is told
abbrev pub refusal_entry : ℕ → ℕ → Reply → JournalEntry
refusal_entry line moment refusal = record { who = who.Line line; moment = moment; deed = deed.Nothing; reply = refusal }

-- an entry that is of a line is of a client's
abbrev pub IsOfClient : (ℕ → Option Command) → JournalEntry → Type 0
IsOfClient commands entry = (n : ℕ) → entry.who ≡ who.Line n → IsSome (client_op (commands n))

-- what is told is what was told before and then such entries
pub record Adds (P : JournalEntry → Type 0) (before after : Core) : Type 0 where
  pub more : List JournalEntry
  pub told : told_of after ≡ told_of before ++ more
  pub each : AllByRecursion P more
