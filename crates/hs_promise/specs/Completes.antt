-- Clause 5, completeness.
use Rattle.std.specs.List.{range_with_len}
use Rattle.std.specs.Prelude.{Bool, IsSome, List, Option, Some, count_by, false, length, true, ℕ, ◌*◌, ◌+◌, ◌<◌, ◌≡◌, ◌≤◌, ◌⊎◌}
use Rattle.hs_journal.specs.Events.{client_op}
use Rattle.hs_journal.specs.Order.{IsOfLine, IsPrompt}
use Rattle.hs_model.specs.Store.{Store}
use Rattle.hs_limits.specs.declared.shape.Shape.{Shape}
use Rattle.hs_model.specs.declared.command.Command.{Command}
use Rattle.hs_model.specs.declared.command.Command.TheVariants as command
use Rattle.hs_model.specs.declared.op.Op.TheVariants as op
use Rattle.hs_ports.specs.Moments.{disk_at}
use Rattle.hs_script.specs.Lines.{lines_of}
use Rattle.hs_side.specs.declared.header.Header.{Header}
use Rattle.hs_promise.specs.Answers.{store_before}
use Rattle.hs_promise.specs.Ending.{ending_of}
use Rattle.hs_promise.specs.Lost.{IsPast, LostCause}
use Rattle.hs_laws.specs.Kept.{IsLevel}
use Rattle.hs_script.specs.Scripts.{IsBad, delete_count, input_limit}
use Rattle.hs_side.specs.Headers.{HasHeader, own_header}
use Rattle.hs_journal.specs.Telling.{IsAnsweredBefore, IsFirstAbove}
use Rattle.hs_promise.specs.Run.{Ran, Script}
use Rattle.hs_promise.specs.declared.status.Status.TheVariants as status
use Rattle.hs_ports.specs.Objects.{NoneFailed}
use Rattle.hs_events.specs.Taken.{peer_count}

-- ---- how a run without failures ends

-- so many entries are enough for a script
abbrev pub entry_bound : Script → List (List ℕ) → ℕ
entry_bound S lines = length lines + (2 * S.set.shape.shards + 1) * (delete_count lines + 2) + peer_count S.set.shape

-- a command is a client's deletion
abbrev pub is_delete : Option Command → Bool
is_delete (Some (command.Client op.Delete)) = true
is_delete other = false

-- how many of the lines up to one have such a command
abbrev pub deletes_up_to : (ℕ → Option Command) → ℕ → ℕ
deletes_up_to commands line = count_by (λ n. is_delete (commands n)) (range_with_len 1 line)

-- the most entries of a run up to a line, whether disks fail or not: one a line; twice as many for a shard and one for the store as epochs may pass, which are two more than deletions; and one a peer
abbrev pub entries_most : (ℕ → Option Command) → Shape → ℕ → ℕ
entries_most commands shape line = line + (2 * shape.shards + 1) * (deletes_up_to commands line + 2) + peer_count shape

-- where the journal was full its limit has no room for the lines that were begun
abbrev pub FullBeyond : Script → Ran → Type 0
FullBeyond S r = r.ending ≡ status.OpsFull → S.set.limits.ops < entries_most S.commands S.set.shape r.line

-- the script is in the language and within its bounds, the headers are of the shape, nothing fails, and the journal has room
pub record MayEndWell (S : Script) (script : List ℕ) (r : Ran) : Type 0 where
  pub headers : (peer : ℕ) (found : Header) → peer < length r.old.disks → HasHeader (disk_at r.old.disks peer) found → found ≡ own_header S.set.shape peer
  pub good : (n : ℕ) → IsBad (lines_of script) n → ⊥
  pub short : length script ≤ input_limit
  pub calm : NoneFailed r.old r.new
  pub room : entry_bound S (lines_of script) ≤ S.set.limits.ops

-- it comes to its end, or memory was wanting, or a shard was lost with its cause
abbrev pub EndsWell : Script → Ran → Type 0
EndsWell S r = (r.ending ≡ status.Done) ⊎ ((r.ending ≡ status.NoMemory) ⊎ (shard : ℕ) × (r.ending ≡ status.ShardLost shard) × LostCause S r shard)

-- ---- which lines have their entries

-- the last line that was begun may lack its entry where memory was wanting or the journal full
abbrev pub MayLack : Ran → ℕ → Type 0
MayLack r line = (line ≡ r.line) × (((ending_of r.ending).wanting ≡ true) ⊎ ((ending_of r.ending).full ≡ true))

-- a line that is answered in its own event has its entry
abbrev pub HasPrompt : Script → Ran → ℕ → Type 0
HasPrompt S r line = line ≤ r.line → IsPrompt (client_op (S.commands line)) → (MayLack r line → ⊥) → (place : ℕ) × IsOfLine r.journal place line

-- ---- settle

-- what a settle that was gone past has done: all lines below are answered, and the shards are level
pub record Settles (S : Script) (entry : Store) (r : Ran) (line : ℕ) : Type 0 where
  pub answered : (n : ℕ) → n < line → IsSome (client_op (S.commands n)) → IsAnsweredBefore r.journal line n
  pub level : (place : ℕ) → IsFirstAbove r.journal line place → IsLevel (store_before S entry r.journal place)

-- so each, where the pool has more room than the last two rounds of one lead take
abbrev pub SettlesEach : Script → Store → Ran → Type 0
SettlesEach S entry r = 2 * S.set.shape.shards < S.set.limits.pool → (line : ℕ) → S.commands line ≡ Some command.Settle → IsPast r line → Settles S entry r line
