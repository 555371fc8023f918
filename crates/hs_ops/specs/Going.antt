-- How an operation goes on: answered, proposed, compared or waiting.
use Rattle.std.specs.Cmp.Lexicographic.{pointwise}
use Rattle.std.specs.List.{range_with_len}
use Rattle.std.specs.Option.{option_map, option_map_or, option_or}
use Rattle.std.specs.Prelude.{ℕ, Bool, true, false, not, ◌==◌, ◌&&◌, ◌+◌, if◌then◌else◌, List, [], Option, Some, None, Result, Ok, Err, bytes_eq, is_none, length, slice_index}
use Rattle.hs_desk.specs.declared.what.What.{What}
use Rattle.hs_desk.specs.declared.what.What.TheVariants as what
use Rattle.hs_entry.specs.declared.entry.Entry.{Entry}
use Rattle.hs_entry.specs.declared.entry.Entry.TheVariants as kind
use Rattle.hs_limits.specs.Block.{Block, spell}
use Rattle.hs_limits.specs.Reading.{read_block}
use Rattle.hs_limits.specs.declared.address.Address.{Address}
use Rattle.hs_limits.specs.declared.spelling.SpellingFault.{SpellingFault}
use Rattle.hs_model.specs.Judge.{given_address, written_reply}
use Rattle.hs_model.specs.Store.{next_of}
use Rattle.hs_model.specs.declared.op.Op.{Op}
use Rattle.hs_model.specs.declared.op.Op.TheVariants as op
use Rattle.hs_model.specs.declared.reply.Reply.{Reply}
use Rattle.hs_model.specs.declared.reply.Reply.TheVariants as reply
use Rattle.hs_ops.specs.Refusals.{refusal_of}
use Rattle.hs_ops.specs.Speaking.{asked_block, helds, least_epoch}
use Rattle.hs_ops.specs.Views.{OpView, kept_in, now_in, open_in}
use Rattle.hs_ops.specs.declared.step.OpStep.{OpStep}
use Rattle.hs_ops.specs.declared.step.OpStep.TheVariants.{Answer, Propose, Compare, Wait}
use Rattle.hs_tokens.specs.Seats.{found}

-- ---- what is answered by the view alone

-- what an operation is answered that is not refused and that needs no entry and no bytes; a root that is retained with this address stays as it is
abbrev pub at_once : OpView → Op → Option Reply
at_once v (op.Open name) = Some reply.Ok
at_once v (op.Close name) = Some reply.Ok
at_once v (op.Write name payload handles address) = None
at_once v (op.Read name handle) = None
at_once v (op.Look name key) = Some (reply.Held (next_of (open_in v name)) (now_in v))
at_once v (op.Root name key handle) = option_map (λ root. reply.Ok) (kept_in v key)
at_once v (op.Drop key) = None
at_once v (op.Forget name handle) = Some reply.Ok
at_once v (op.Name name handle) = Some (reply.Name (found v.seats name handle).address)
at_once v op.Delete = None
at_once v op.Stat = Some (reply.Stat v.blocks v.retained (length v.seats) v.epochs v.swept)

-- the first refusal that holds, and else that
unfoldable pub judged_in : OpView → Op → Option Reply
judged_in v o = option_or (refusal_of v o) (at_once v o)

-- ---- what is asked for

-- a present block is read; else this step
abbrev pub read_or : OpStep → Option ℕ → OpStep
read_or step (Some number) = Compare number
read_or step None = step

-- the entry is proposed, unless another has to take effect first
abbrev pub propose_unless : Bool → Entry → OpStep
propose_unless true entry = Wait
propose_unless false entry = Propose entry

-- the bytes are told; each pointer of the block gets a handle
abbrev pub read_reply : OpView → List ℕ → List ℕ → Reply
read_reply v name bytes = reply.Bytes bytes (range_with_len (next_of (open_in v name)) v.pointers)

-- the entry of a write, a root or a drop
unfoldable pub block_entry : OpView → ℕ → List ℕ → List ℕ → List ℕ → Entry
block_entry v line name payload handles = kind.Block line (least_epoch (helds v.seats name handles)) (spell (asked_block v.seats name payload handles))

unfoldable pub mark_entry : OpView → ℕ → ℕ → List ℕ → List ℕ → Option Address → Entry
mark_entry v line number name handles address = kind.Mark line (least_epoch (helds v.seats name handles)) number (given_address address)

abbrev pub root_entry : OpView → ℕ → List ℕ → List ℕ → ℕ → Entry
root_entry v line name key handle = kind.Root line (found v.seats name handle).epoch (found v.seats name handle).address key

-- what an operation asks for that the view alone does not answer
unfoldable pub asked_for : OpView → ℕ → Op → OpStep
asked_for v line (op.Open name) = Wait
asked_for v line (op.Close name) = Wait
asked_for v line (op.Write name payload handles address) = read_or (propose_unless v.pending (block_entry v line name payload handles)) v.present
asked_for v line (op.Read name handle) = read_or (Answer (read_reply v name [])) v.present
asked_for v line (op.Look name key) = Wait
asked_for v line (op.Root name key handle) = propose_unless v.pending (root_entry v line name key handle)
asked_for v line (op.Drop key) = Propose (kind.Drop line key)
asked_for v line (op.Forget name handle) = Wait
asked_for v line (op.Name name handle) = Wait
asked_for v line op.Delete = Propose (kind.Enter line (slice_index v.epochs 0 + 1))
asked_for v line op.Stat = Wait

-- ---- its way

-- it waits until the View of the current view has taken effect, and is judged then
unfoldable pub go : OpView → ℕ → Op → OpStep
go v line o = if v.viewed then option_map_or Answer (judged_in v o) (asked_for v line o) else Wait

-- at its own line it is judged at once, also while it would have to wait
unfoldable pub begin : OpView → ℕ → Op → OpStep
begin v line o = option_map_or Answer (judged_in v o) (go v line o)

-- ---- bytes that were reported

-- the data of the block that some bytes spell, none where they spell none
abbrev pub data_in : Result Block SpellingFault → List ℕ
data_in (Ok block) = block.bytes
data_in (Err fault) = []

unfoldable pub data_of : Option (List ℕ) → List ℕ
data_of None = []
data_of (Some bytes) = data_in (read_block bytes)

-- the bytes are the spelling of a write's block, and the catalogue's pointers are its pointers
unfoldable pub is_same_block : Block → Option (List ℕ) → List Address → Bool
is_same_block block None pointers = false
is_same_block block (Some bytes) pointers = bytes_eq (spell block) bytes && pointwise (λ p q. bytes_eq p.0 q.0) block.pointers pointers

-- the block of this entry is present, and its bytes were reported
abbrev pub is_reported : OpView → ℕ → Option (List ℕ) → Bool
is_reported v number bytes = option_map_or (λ present. present == number) v.present false && not (is_none bytes)

-- what was reported of a block: the number of its entry, its bytes, if they are not gone, and the pointers that the catalogue has
pub record Reported : Type 0 where
  pub number : ℕ
  pub bytes : Option (List ℕ)
  pub pointers : List Address

-- a write whose block is gone goes on anew; one of another block is refused; one of this block marks it
unfoldable pub compared : OpView → ℕ → Reported → Op → OpStep
compared v line told (op.Write name payload handles address) =
    if not (is_reported v told.number told.bytes) then go v line (op.Write name payload handles address) else
    if is_same_block (asked_block v.seats name payload handles) told.bytes told.pointers then Propose (mark_entry v line told.number name handles address) else Answer reply.Collision
compared v line told (op.Read name handle) = Answer (read_reply v name (data_of told.bytes))
compared v line told other = Wait

-- the bytes of an entry were reported, or that they are gone, with the catalogue's pointers of that block: the operation is judged again first
unfoldable pub on_bytes : OpView → ℕ → Reported → Op → OpStep
on_bytes v line told o = option_map_or Answer (refusal_of v o) (compared v line told o)

-- ---- its entry took effect

-- a write holds the next handle of its session, in the epoch of the shard that judges
abbrev pub given_reply : Bool → OpView → Op → Option Reply
given_reply dup v (op.Write name payload handles address) = Some (written_reply dup (next_of (open_in v name)) (now_in v))
given_reply dup v other = None

-- what the effect of its entry answers; where the entry was refused, the first refusal that holds now
abbrev pub effect_reply : OpView → What → Op → Option Reply
effect_reply v what.Nothing o = None
effect_reply v (what.Viewed view) o = None
effect_reply v what.Stored o = given_reply false v o
effect_reply v what.Marked o = given_reply true v o
effect_reply v what.Again o = None
effect_reply v what.Rooted o = Some reply.Ok
effect_reply v what.Dropped o = Some reply.Ok
effect_reply v (what.Entered epoch) o = Some (reply.Run epoch)
effect_reply v what.Refused o = refusal_of v o

-- where there is no answer it goes on anew
unfoldable pub on_effect : OpView → ℕ → What → Op → OpStep
on_effect v line w o = option_map_or Answer (effect_reply v w o) (go v line o)
