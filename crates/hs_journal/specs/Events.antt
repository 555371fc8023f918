-- The events that a journal tells of, and that each of its answers is the store's.
-- commands gives the command of a line by its number, where the line has one.
use Rattle.std.specs.Prelude.{◌≡◌, ℕ, Bool, ◌&&◌, if◌then◌else◌, List, [], ◌∷◌, length, Option, Some, None, is_some, nat_le}
use Rattle.std.specs.List.{list_all}
use Rattle.hs_limits.specs.declared.address.Address.{Address}
use Rattle.hs_limits.specs.declared.limits.Limits.{Limits}
use Rattle.hs_limits.specs.declared.spelling.TheConstants.{MOST_POINTERS, MOST_BYTES}
use Rattle.hs_limits.specs.Block.{Block, spell}
use Rattle.hs_model.specs.declared.command.Command.{Command}
use Rattle.hs_model.specs.declared.command.Command.TheVariants as command
use Rattle.hs_model.specs.declared.deed.Deed.{Deed}
use Rattle.hs_model.specs.declared.deed.Deed.TheVariants as deed
use Rattle.hs_model.specs.declared.op.Op.{Op}
use Rattle.hs_model.specs.declared.op.Op.TheVariants as op
use Rattle.hs_model.specs.declared.reply.Reply.{Reply}
use Rattle.hs_model.specs.declared.reply.Reply.TheVariants as reply
use Rattle.hs_model.specs.Judge.{written}
use Rattle.hs_model.specs.Run.{Event, asks, enters, sweeps, step}
use Rattle.hs_model.specs.Store.{Store, held_at}
use Rattle.hs_journal.specs.declared.entry.JournalEntry.{JournalEntry}
use Rattle.hs_journal.specs.declared.entry.Who.{Who}
use Rattle.hs_journal.specs.declared.entry.Who.TheVariants as who

-- the operation that a command asks for, where a client asks
abbrev pub client_op : Option Command → Option Op
client_op (Some (command.Client o)) = Some o
client_op other = None

-- ---- addresses

-- whether a write has a block: each handle is held, and the block is within its bounds
abbrev pub has_block : Store → List ℕ → List ℕ → List ℕ → Bool
has_block s name payload handles = (list_all (λ handle. is_some (held_at s name handle)) handles && nat_le (length handles) MOST_POINTERS) && nat_le (length payload) MOST_BYTES

-- the address that a naming gives for a block's spelling
abbrev pub address_of : (List ℕ → Address) → Block → Address
address_of name block = name (spell block)

-- an operation as it is judged at a store: a write has the address of its block, where it has one
abbrev pub addressed : (List ℕ → Address) → Store → Op → Op
addressed name s (op.Write session payload handles address) =
    op.Write session payload handles (if has_block s session payload handles then Some (address_of name (written s session payload handles)) else None)
addressed name s other = other

-- ---- events

-- a line's event is its operation
abbrev pub asked : (List ℕ → Address) → Store → Option Op → Option Event
asked name s None = None
asked name s (Some o) = Some (asks (addressed name s o))

-- and none where it was refused as busy
abbrev pub line_event : (List ℕ → Address) → Store → Option Op → Reply → Option Event
line_event name s o (reply.Busy line) = None
line_event name s o other = asked name s o

-- a shard's event goes by its deed
abbrev pub shard_event : ℕ → Deed → Option Event
shard_event shard (deed.Entered g) = Some (enters shard)
shard_event shard (deed.Swept g) = Some (sweeps shard)
shard_event shard other = None

-- the event of an entry, where it has one
abbrev pub event_at : (ℕ → Option Command) → (List ℕ → Address) → Store → JournalEntry → Option Event
event_at commands name s entry = event_by entry.who entry.deed entry.reply
  where
    event_by : Who → Deed → Reply → Option Event
    event_by (who.Line n) d r = line_event name s (client_op (commands n)) r
    event_by (who.Shard g) d r = shard_event g d
    event_by who.Store d r = None

-- the store after an entry
abbrev pub store_by : Limits → Store → Option Event → Store
store_by limits s None = s
store_by limits s (Some event) = (step limits s event).store

-- some more events
abbrev pub with_event : Option Event → List Event → List Event
with_event None events = events
with_event (Some event) events = event ∷ events

-- the events of a journal, in their order
abbrev pub events_of : (ℕ → Option Command) → (List ℕ → Address) → Limits → Store → List JournalEntry → List Event
events_of commands name limits s [] = []
events_of commands name limits s (entry ∷ entries) =
    let event : Option Event = event_at commands name s entry in
    with_event event (events_of commands name limits (store_by limits s event) entries)

-- ---- answers

-- an entry with an event has the reply and the deed that the event has at this store
abbrev pub HasAnswer : Limits → Store → JournalEntry → Option Event → Type 0
HasAnswer limits s entry None = Unit {0}
HasAnswer limits s entry (Some event) = (entry.reply ≡ (step limits s event).reply) × (entry.deed ≡ (step limits s event).deed)

-- so has each entry, at the store that the entries before it leave
abbrev pub IsAnswered : (ℕ → Option Command) → (List ℕ → Address) → Limits → Store → List JournalEntry → Type 0
IsAnswered commands name limits s [] = Unit {0}
IsAnswered commands name limits s (entry ∷ entries) =
    let event : Option Event = event_at commands name s entry in
    HasAnswer limits s entry event × IsAnswered commands name limits (store_by limits s event) entries
