-- What the entries of a journal may tell, and where they stand.
use Rattle.std.specs.Prelude.{IsSome, None, List, Option, Some, length, ℕ, ◌*◌, ◌<◌, ◌≡◌, ◌≤◌, ◌⊎◌}
use Rattle.hs_journal.specs.Events.{client_op}
use Rattle.hs_journal.specs.Order.{IsAt, IsOfLine, IsPrompt}
use Rattle.hs_journal.specs.declared.entry.JournalEntry.{JournalEntry}
use Rattle.hs_journal.specs.declared.entry.Who.TheVariants as who
use Rattle.hs_limits.specs.declared.limits.Limits.{Limits}
use Rattle.hs_limits.specs.declared.shape.Shape.{Shape}
use Rattle.hs_model.specs.declared.command.Command.{Command}
use Rattle.hs_model.specs.declared.command.Command.TheVariants as command
use Rattle.hs_model.specs.declared.deed.Deed.TheVariants as deed
use Rattle.hs_model.specs.declared.reply.Reply.{Reply}
use Rattle.hs_model.specs.declared.reply.Reply.TheVariants as reply

-- a line that names a peer is refused since there is none of this number, or since that one is not as the line wants it
abbrev pub IsPeerRefusal : Shape → ℕ → Reply → Reply → Type 0
IsPeerRefusal shape peer unfit told = (shape.shards * shape.copies ≤ peer) × (told ≡ reply.NoPeer peer) ⊎ (peer < shape.shards * shape.copies) × (told ≡ unfit)

-- what a line may be refused by on which no client asks
abbrev pub IsRefusalOf : Shape → Limits → Command → Reply → Type 0
IsRefusalOf shape limits (command.Client o) told = ⊥
IsRefusalOf shape limits command.Settle told = ⊥
IsRefusalOf shape limits (command.Turn peer) told = IsPeerRefusal shape peer (reply.NotUp peer) told
IsRefusalOf shape limits (command.Nudge peer) told = IsPeerRefusal shape peer (reply.NotUp peer) told
IsRefusalOf shape limits (command.Deliver message) told = told ≡ reply.NoMessage message
IsRefusalOf shape limits (command.Lose message) told = told ≡ reply.NoMessage message
IsRefusalOf shape limits (command.Repeat message) told = (told ≡ reply.NoMessage message) ⊎ (told ≡ reply.PoolFull limits.pool)
IsRefusalOf shape limits (command.Fail peer) told = IsPeerRefusal shape peer (reply.NotUp peer) told
IsRefusalOf shape limits (command.Start peer) told = IsPeerRefusal shape peer (reply.NotDown peer) told
IsRefusalOf shape limits (command.Reclaim peer) told = IsPeerRefusal shape peer (reply.NotUp peer) told

-- what an entry of a line may tell: its client's answer, or its refusal; a line without a command is told nothing
abbrev pub MayTell : Shape → Limits → Option Command → JournalEntry → Type 0
MayTell shape limits None entry = ⊥
MayTell shape limits (Some c) entry = IsSome (client_op (Some c)) ⊎ (entry.deed ≡ deed.Nothing) × IsRefusalOf shape limits c entry.reply

-- what the store as a whole tells when this is the last line: a run is done, or a peer is down
pub data IsOfStore (shape : Shape) (last : ℕ) (told : Reply) : Type 0 where
  Done : (epoch : ℕ) → told ≡ reply.Done epoch → IsOfStore shape last told
  Down : (peer line : ℕ) → told ≡ reply.Down peer line → peer < shape.shards * shape.copies → line ≤ last → IsOfStore shape last told

-- a place of a journal is that of the first entry of a line above this one, or the end where there is none
pub record IsFirstAbove (journal : List JournalEntry) (line place : ℕ) : Type 0 where
  pub within : place ≤ length journal
  pub none : (before n : ℕ) → before < place → line < n → IsOfLine journal before n → ⊥
  pub here : (place ≡ length journal) ⊎ (n : ℕ) × (line < n) × IsOfLine journal place n

-- a client's line n has its entry before every entry of a line above this one
pub record IsAnsweredBefore (journal : List JournalEntry) (line n : ℕ) : Type 0 where
  pub place : ℕ
  pub at : IsOfLine journal place n
  pub first : (other k : ℕ) → line < k → IsOfLine journal other k → place < other

-- a note at a place of a journal that a peer is down, with the line of the last event that had one
pub record IsDownAt (journal : List JournalEntry) (place peer line : ℕ) : Type 0 where
  pub note : JournalEntry
  pub at : IsAt journal place note
  pub store : note.who ≡ who.Store
  pub told : note.reply ≡ reply.Down peer line

-- each such note has that line: before it stands no entry of a later one, and behind it none of this or an earlier one that was answered in its own event
pub record AreDated (commands : ℕ → Option Command) (journal : List JournalEntry) : Type 0 where
  pub later : (i j n peer line : ℕ) → IsOfLine journal i n → IsDownAt journal j peer line → i < j → n ≤ line
  pub earlier : (i j n peer line : ℕ) → IsOfLine journal i n → IsPrompt (client_op (commands n)) → IsDownAt journal j peer line → n ≤ line → i < j
