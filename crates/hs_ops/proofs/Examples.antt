-- What the definitions give where one session writes, reads, keeps and drops: each refusal, each entry, each wait, each answer.
use Rattle.std.proofs.Common.{◌≡◌, ℕ, true, false, List, [], ◌∷◌, map, replicate, Some, None, refl}
use Rattle.hs_desk.specs.declared.what.What.TheVariants as what
use Rattle.hs_entry.specs.declared.entry.Entry.TheVariants as kind
use Rattle.hs_limits.specs.Block.{spell}
use Rattle.hs_limits.specs.Limits.{greatest_limits}
use Rattle.hs_limits.specs.Reading.{addresses, block_at, read_block}
use Rattle.hs_limits.specs.declared.address.Address.{Address}
use Rattle.hs_limits.specs.declared.address.Held.{Held}
use Rattle.hs_limits.specs.declared.limits.Limits.{Limits}
use Rattle.hs_model.specs.Refusals.{no_handle_in, stale_in}
use Rattle.hs_model.specs.Store.{helds_of}
use Rattle.hs_model.specs.declared.deed.Deed.TheVariants as deed
use Rattle.hs_model.specs.declared.op.Asked.TheVariants as asked
use Rattle.hs_model.specs.declared.op.Op.{Op}
use Rattle.hs_model.specs.declared.op.Op.TheVariants as op
use Rattle.hs_model.specs.declared.reply.Reply.TheVariants as reply
use Rattle.hs_ops.specs.Answers.{deed_of, gained, seats_after}
use Rattle.hs_ops.specs.Going.{asked_for, begin, block_entry, compared, data_of, go, is_same_block, judged_in, mark_entry, on_bytes, on_effect}
use Rattle.hs_ops.specs.Operations.{Operation, after_step, bytes_step, effect_step, go_step, new_operation}
use Rattle.hs_ops.specs.Refusals.{refusal_of, refusals_of}
use Rattle.hs_ops.specs.Speaking.{asked_block, judging_shard, least_epoch}
use Rattle.hs_ops.specs.Views.{OpView}
use Rattle.hs_ops.specs.declared.operation.Stage.TheVariants as stage
use Rattle.hs_ops.specs.declared.step.OpStep.TheVariants.{Answer, Propose, Compare, Wait}
use Rattle.hs_roots.specs.Roots.{new_root}
use Rattle.hs_tokens.specs.Seats.{Seats, hold, open_session, found}

-- ---- a session a that holds h0 of epoch 1 and h1 of epoch 3, and addresses

abbrev a : List ℕ
a = 97 ∷ []

abbrev b : List ℕ
b = 98 ∷ []

abbrev k : List ℕ
k = 107 ∷ []

abbrev address : ℕ → Address
address byte = record { 0 = replicate 32 byte }

abbrev given : ℕ → ℕ → Held
given byte epoch = record { address = address byte; epoch = epoch }

abbrev seats : Seats
seats = hold a (given 4 1 ∷ given 5 3 ∷ []) (open_session a [])

-- at most two sessions and three handles, a block and a root in a shard, three epochs
abbrev limits : Limits
limits = record greatest_limits { sessions = 2; handles = 3; blocks = 1; roots = 1; epochs = 3 }

-- the shard that judges is in epoch 2, and there is room
abbrev view : OpView
view = record {
  limits = limits;
  seats = seats;
  roots = [];
  retained = 1;
  blocks = 3;
  epochs = 3 ∷ 2 ∷ [];
  swept = 3 ∷ 1 ∷ [];
  shard = 1;
  present = None;
  pointers = 0;
  room = true;
  pending = false;
  viewed = true;
  busy = None;
}

abbrev full : OpView
full = record view { seats = hold a (given 6 3 ∷ []) seats }

abbrev kept : OpView
kept = record view { roots = new_root k (address 4) 1 ∷ [] }

abbrev later : OpView
later = record view { epochs = 3 ∷ 3 ∷ [] }

abbrev write : List ℕ → List ℕ → Op
write payload handles = op.Write a payload handles (Some (address 9))

-- ---- each refusal, in the order of its line

opens : map (λ v. refusal_of v (op.Open a)) (view ∷ record view { seats = [] } ∷ []) ≡ Some (reply.SessionTaken a) ∷ None ∷ []
unfolding refusals_of
opens = refl

too_many_sessions : map (λ v. refusal_of v (op.Open b)) (view ∷ record view { seats = open_session (99 ∷ []) seats } ∷ []) ≡ None ∷ Some (reply.SessionsFull 2) ∷ []
unfolding refusals_of
too_many_sessions = refl

closes : map (λ v. refusal_of v (op.Close a)) (record view { seats = [] } ∷ record view { busy = Some 7 } ∷ view ∷ [])
    ≡ Some (reply.NoSession a) ∷ Some (reply.Busy 7) ∷ None ∷ []
unfolding refusals_of
closes = refl

-- a write: of a session that is not open, or is busy; with handles that it does not hold, with as many handles as the limit, with an old one; without room
writes : map (λ v. refusal_of v (write (1 ∷ []) (1 ∷ 0 ∷ [])))
    (record view { seats = [] } ∷ record view { busy = Some 7 } ∷ full ∷ later ∷ record view { room = false } ∷ record view { room = false; present = Some 3 } ∷ view ∷ [])
    ≡ Some (reply.NoSession a) ∷ Some (reply.Busy 7) ∷ Some (reply.HandlesFull 3) ∷ Some (reply.Stale 0 1 3) ∷ Some (reply.ShardFull 1) ∷ None ∷ None ∷ []
unfolding refusals_of no_handle_in stale_in
writes = refl

write_bounds : refusal_of view (write [] (replicate 65 0)) ∷ refusal_of view (write [] (0 ∷ 3 ∷ 2 ∷ [])) ∷ [] ≡ Some (reply.TooMany 65) ∷ Some (reply.NoHandle 3) ∷ []
unfolding refusals_of no_handle_in stale_in
write_bounds = refl

-- a read: its handle is looked at before the handles that it would give
reads : map (λ v. refusal_of v (op.Read a 0)) (record view { seats = [] } ∷ later ∷ record later { pointers = 2 } ∷ record view { pointers = 2 } ∷ record view { pointers = 1 } ∷ [])
    ≡ Some (reply.NoSession a) ∷ Some (reply.Stale 0 1 3) ∷ Some (reply.Stale 0 1 3) ∷ Some (reply.HandlesFull 3) ∷ None ∷ []
unfolding refusals_of no_handle_in stale_in
reads = refl

looks : map (λ v. refusal_of v (op.Look a k)) (full ∷ view ∷ kept ∷ []) ≡ Some (reply.HandlesFull 3) ∷ Some (reply.NoKey k) ∷ None ∷ []
unfolding refusals_of
looks = refl

roots : map (λ v. refusal_of v (op.Root a k 1)) (kept ∷ record view { room = false } ∷ view ∷ []) ≡ Some (reply.KeyTaken k) ∷ Some (reply.RootsFull 1) ∷ None ∷ []
unfolding refusals_of no_handle_in stale_in
roots = refl

drops : map (λ v. refusal_of v (op.Drop k)) (view ∷ kept ∷ []) ≡ Some (reply.NoKey k) ∷ None ∷ []
unfolding refusals_of
drops = refl

names : map (λ o. refusal_of view o) (op.Forget a 2 ∷ op.Name a 2 ∷ op.Forget a 1 ∷ op.Name b 1 ∷ []) ≡ Some (reply.NoHandle 2) ∷ Some (reply.NoHandle 2) ∷ None ∷ Some (reply.NoSession b) ∷ []
unfolding refusals_of no_handle_in
names = refl

deletes : map (λ v. refusal_of v op.Delete) (record view { swept = 2 ∷ 2 ∷ [] } ∷ view ∷ record view { epochs = 2 ∷ 2 ∷ []; swept = 2 ∷ 2 ∷ [] } ∷ [])
    ≡ Some (reply.Running 3) ∷ Some (reply.EpochEnd 3) ∷ None ∷ []
unfolding refusals_of
deletes = refl

-- ---- which shard judges

shards : map (λ o. judging_shard 4 seats o) (write [] [] ∷ op.Read a 1 ∷ op.Read a 9 ∷ op.Root a k 1 ∷ op.Drop k ∷ op.Delete ∷ op.Open a ∷ [])
    ≡ 1 ∷ 1 ∷ 0 ∷ 3 ∷ 3 ∷ 0 ∷ 0 ∷ []
shards = refl

-- ---- what a line begins

-- it is refused or answered also before the view, and else waits for it
begins_before_the_view : map (λ o. begin (record view { viewed = false }) 7 o) (op.Open a ∷ op.Name a 1 ∷ op.Look a k ∷ write (1 ∷ []) [] ∷ op.Drop k ∷ [])
    ≡ Answer (reply.SessionTaken a) ∷ Answer (reply.Name (address 5)) ∷ Answer (reply.NoKey k) ∷ Wait ∷ Answer (reply.NoKey k) ∷ []
unfolding begin go judged_in refusals_of asked_for no_handle_in stale_in
begins_before_the_view = refl

-- an absent block is stored under its spelling, a present one is compared; one that another entry has to decide waits
begins_a_write : map (λ v. begin v 7 (write (1 ∷ 2 ∷ []) (1 ∷ 0 ∷ []))) (view ∷ record view { present = Some 3 } ∷ record view { pending = true } ∷ [])
    ≡ Propose (kind.Block 7 1 (spell (record { pointers = address 5 ∷ address 4 ∷ []; bytes = 1 ∷ 2 ∷ [] }))) ∷ Compare 3 ∷ Wait ∷ []
unfolding begin go judged_in refusals_of asked_for no_handle_in stale_in block_entry asked_block least_epoch
begins_a_write = refl

begins_without_a_handle : begin view 2 (write (97 ∷ 98 ∷ []) []) ≡ Propose (kind.Block 2 281474976710655 (1 ∷ 0 ∷ 0 ∷ 0 ∷ 0 ∷ 0 ∷ 2 ∷ 97 ∷ 98 ∷ []))
unfolding begin go judged_in refusals_of asked_for no_handle_in stale_in block_entry asked_block least_epoch
begins_without_a_handle = refl

-- a root that is retained with this address is answered, and logs nothing
begins_a_root : map (λ v. begin v 7 (op.Root a k 0)) (view ∷ kept ∷ record view { pending = true } ∷ []) ≡ Propose (kind.Root 7 1 (address 4) k) ∷ Answer reply.Ok ∷ Wait ∷ []
unfolding begin go judged_in refusals_of asked_for no_handle_in stale_in
begins_a_root = refl

begins_others : begin kept 7 (op.Drop k) ∷ begin kept 8 (op.Look a k) ∷ begin (record view { limits = greatest_limits }) 9 op.Delete ∷ begin view 10 op.Stat ∷ begin (record view { present = Some 6 }) 11 (op.Read a 0) ∷ []
    ≡ Propose (kind.Drop 7 k) ∷ Answer (reply.Held 2 2) ∷ Propose (kind.Enter 9 4) ∷ Answer (reply.Stat 3 1 1 (3 ∷ 2 ∷ []) (3 ∷ 1 ∷ [])) ∷ Compare 6 ∷ []
unfolding begin go judged_in refusals_of asked_for no_handle_in stale_in
begins_others = refl

-- ---- what bytes bring

-- the same block is marked; other bytes or other pointers are a collision; a block that is gone, or is another entry's, is stored anew; an old handle is refused first
brings : on_bytes (record view { present = Some 3 }) 7 (record { number = 3; bytes = (Some (1 ∷ 0 ∷ 0 ∷ 0 ∷ 0 ∷ 0 ∷ 1 ∷ 65 ∷ [])); pointers = [] }) (write (65 ∷ []) [])
    ∷ on_bytes (record view { present = Some 3 }) 7 (record { number = 3; bytes = (Some (1 ∷ 0 ∷ 0 ∷ 0 ∷ 0 ∷ 0 ∷ 1 ∷ 66 ∷ [])); pointers = [] }) (write (65 ∷ []) [])
    ∷ on_bytes (record view { present = Some 3; pointers = 1 }) 7 (record { number = 3; bytes = (Some (1 ∷ 0 ∷ 0 ∷ 0 ∷ 0 ∷ 0 ∷ 1 ∷ 65 ∷ [])); pointers = address 1 ∷ [] }) (write (65 ∷ []) [])
    ∷ on_bytes view 7 (record { number = 3; bytes = None; pointers = [] }) (write (65 ∷ []) [])
    ∷ on_bytes (record view { present = Some 4 }) 7 (record { number = 3; bytes = (Some (1 ∷ 0 ∷ 0 ∷ 0 ∷ 0 ∷ 0 ∷ 1 ∷ 65 ∷ [])); pointers = [] }) (write (65 ∷ []) [])
    ∷ on_bytes (record later { present = Some 3 }) 7 (record { number = 3; bytes = None; pointers = [] }) (write (65 ∷ []) (0 ∷ [])) ∷ []
    ≡ Propose (kind.Mark 7 281474976710655 3 (address 9)) ∷ Answer reply.Collision ∷ Answer reply.Collision
    ∷ Propose (kind.Block 7 281474976710655 (1 ∷ 0 ∷ 0 ∷ 0 ∷ 0 ∷ 0 ∷ 1 ∷ 65 ∷ [])) ∷ Compare 4 ∷ Answer (reply.Stale 0 1 3) ∷ []
unfolding on_bytes compared mark_entry is_same_block go judged_in refusals_of asked_for no_handle_in stale_in block_entry asked_block least_epoch
brings = refl

-- a read tells the data that the bytes spell, and a handle for each pointer of the catalogue
brings_data : map (λ bytes. on_bytes (record view { present = Some 3; pointers = 1 }) 7 (record { number = 3; bytes = bytes; pointers = address 1 ∷ [] }) (op.Read a 0)) (Some (1 ∷ 0 ∷ 0 ∷ 0 ∷ 0 ∷ 0 ∷ 1 ∷ 65 ∷ []) ∷ Some (1 ∷ 0 ∷ []) ∷ None ∷ [])
    ≡ Answer (reply.Bytes (65 ∷ []) (2 ∷ [])) ∷ Answer (reply.Bytes [] (2 ∷ [])) ∷ Answer (reply.Bytes [] (2 ∷ [])) ∷ []
unfolding on_bytes compared data_of read_block block_at addresses refusals_of no_handle_in stale_in
brings_data = refl

-- ---- what an effect brings

effects : map (λ w. on_effect view 7 w (write (65 ∷ []) [])) (what.Stored ∷ what.Marked ∷ what.Again ∷ []) ≡ Answer (reply.New 2 2) ∷ Answer (reply.Dup 2 2) ∷ Propose (kind.Block 7 281474976710655 (1 ∷ 0 ∷ 0 ∷ 0 ∷ 0 ∷ 0 ∷ 1 ∷ 65 ∷ [])) ∷ []
unfolding on_effect go judged_in refusals_of asked_for no_handle_in stale_in block_entry asked_block least_epoch
effects = refl

-- it is judged again there, also before the view
refused_effects : map (λ v. on_effect v 7 what.Refused (op.Drop k)) (record view { viewed = false } ∷ kept ∷ record kept { viewed = false } ∷ []) ≡ Answer (reply.NoKey k) ∷ Propose (kind.Drop 7 k) ∷ Wait ∷ []
unfolding on_effect go judged_in refusals_of asked_for
refused_effects = refl

other_effects : on_effect view 7 what.Rooted (op.Root a k 0) ∷ on_effect view 7 what.Dropped (op.Drop k) ∷ on_effect view 7 (what.Entered 4) op.Delete ∷ []
    ≡ Answer reply.Ok ∷ Answer reply.Ok ∷ Answer (reply.Run 4) ∷ []
unfolding on_effect
other_effects = refl

-- ---- one write from its line to its answer: begun before the view, compared, marked

abbrev begun : Operation
begun = new_operation 7 (write (65 ∷ []) [])

abbrev waiting : Operation
waiting = record begun { stage = stage.Waiting }

abbrev reading : Operation
reading = record begun { stage = stage.Reading 3 }

waits_first : go_step (record view { viewed = false }) begun ≡ Wait
unfolding begin go judged_in refusals_of no_handle_in stale_in
waits_first = refl

goes_on : after_step Wait begun ∷ after_step (Compare 3) waiting ∷ [] ≡ waiting ∷ reading ∷ []
goes_on = refl

is_compared : go_step (record view { present = Some 3 }) waiting ≡ Compare 3
unfolding go judged_in refusals_of asked_for no_handle_in stale_in
is_compared = refl

is_marked : bytes_step (record view { present = Some 3 }) (Some (1 ∷ 0 ∷ 0 ∷ 0 ∷ 0 ∷ 0 ∷ 1 ∷ 65 ∷ [])) [] reading ≡ Propose (kind.Mark 7 281474976710655 3 (address 9))
unfolding on_bytes compared mark_entry is_same_block go judged_in refusals_of asked_for no_handle_in stale_in block_entry asked_block least_epoch
is_marked = refl

is_dup : effect_step view what.Marked waiting ≡ Answer (reply.Dup 2 2)
unfolding on_effect
is_dup = refl

-- ---- deeds, and sessions afterwards

deeds : deed_of seats (write (65 ∷ []) (0 ∷ [])) (reply.New 2 2) ∷ deed_of seats (write (65 ∷ []) (0 ∷ [])) (reply.Dup 2 2) ∷ deed_of seats (write (65 ∷ []) (0 ∷ [])) reply.Collision
    ∷ deed_of seats (op.Read a 0) (reply.Bytes (65 ∷ []) (2 ∷ 3 ∷ [])) ∷ deed_of seats (op.Look a k) (reply.Held 2 2) ∷ deed_of seats op.Delete (reply.Run 4) ∷ []
    ≡ deed.Wrote a (address 9) (address 4 ∷ []) 2 ∷ deed.Marked a (address 9) 2 ∷ deed.Refused (asked.Write a 1 (0 ∷ []) (Some (address 9)))
    ∷ deed.ReadBlock a (address 4) 1 (2 ∷ 3 ∷ []) ∷ deed.Looked a k 2 ∷ deed.Entered 0 ∷ []
unfolding deed_of
deeds = refl

-- a write holds its address in the epoch of its shard, a read each pointer in that of its handle, a look-up the root in that of the root's shard
gains : map (λ o. gained kept (address 1 ∷ address 2 ∷ []) o) (write [] [] ∷ op.Read a 1 ∷ op.Look a k ∷ op.Root a k 0 ∷ []) ≡ (given 9 2 ∷ []) ∷ (given 1 3 ∷ given 2 3 ∷ []) ∷ (given 4 2 ∷ []) ∷ [] ∷ []
unfolding gained helds_of
gains = refl

holds : map (λ handle. found (seats_after (given 1 3 ∷ given 2 3 ∷ []) (op.Read a 1) (reply.Bytes [] (2 ∷ 3 ∷ [])) seats) a handle) (1 ∷ 2 ∷ 3 ∷ []) ≡ given 5 3 ∷ given 1 3 ∷ given 2 3 ∷ []
unfolding seats_after
holds = refl

refusals_leave : seats_after (given 9 2 ∷ []) (write [] []) reply.Collision seats ∷ seats_after [] (op.Forget a 0) (reply.NoHandle 0) seats ∷ [] ≡ seats ∷ seats ∷ []
unfolding seats_after
refusals_leave = refl
