-- Worked examples of the pool.
use Rattle.std.proofs.Common.{◌≡◌, ℕ, zero, suc, Bool, true, false, List, [], ◌∷◌, length, map, Option, Some, None, refl}
use Rattle.std.specs.Map.{keys_of}
use Rattle.hs_entry.specs.declared.entry.Entry.TheVariants as kind
use Rattle.hs_post.specs.declared.fault.PostFault.TheVariants.{NoMessage, PoolFull}
use Rattle.hs_post.specs.declared.message.Message.{Message}
use Rattle.hs_post.specs.declared.message.Message.TheVariants.{Copy, Have, Round}
use Rattle.hs_post.specs.Pool.{Pool, drop_for, empty_pool, is_full, message_at, number_sent, oldest_for, repeat, repeat_refusal, restart_numbers, send, without}

-- ---- lost and repeated: one shard of one copy, which leads itself

abbrev round : ℕ → ℕ → Message
round epoch r = Round 0 0 epoch r 0 []

-- round 0 of epoch 2 goes out and is lost; a nudge sends it again
abbrev nudged : Pool
nudged = send (round 2 0) (without 1 (send (round 2 0) (empty_pool 65536)))

-- it is repeated; both are delivered; the next round goes out
abbrev delivered : Pool
delivered = without 3 (without 2 (repeat 2 nudged))

lost_and_repeated : (number_sent (empty_pool 65536) ≡ Some 1) × (oldest_for 0 (Some 0 ∷ []) nudged ≡ Some 2) × (message_at 3 (repeat 2 nudged) ≡ message_at 2 nudged)
lost_and_repeated = (refl, refl, refl)

taken_once : (message_at 1 nudged ≡ None) × (message_at 2 delivered ≡ None) × (delivered.messages ≡ []) × (send (round 2 1) delivered).messages ≡ (4, round 2 1) ∷ []
taken_once = (refl, refl, refl, refl)

-- no message has the number 9
none_of_number_9 : (message_at 9 delivered ≡ None) × (without 9 delivered ≡ delivered) × (repeat_refusal 9 delivered ≡ Some NoMessage)
none_of_number_9 = (refl, refl, refl)

-- ---- full pool: the Copy of a write is repeated; the sixteenth time is refused

times : ℕ → (Pool → Pool) → Pool → Pool
times zero f pool = pool
times (suc n) f pool = times n f (f pool)

abbrev copied : Pool
copied = send (Copy 0 1 1 2 (kind.View 1)) (empty_pool 16)

full_pool : (repeat_refusal 1 (times 14 (repeat 1) copied) ≡ None) × (repeat_refusal 1 (times 15 (repeat 1) copied) ≡ Some (PoolFull 16)) × (number_sent (times 15 (repeat 1) copied) ≡ None)
unfolding times
full_pool = (refl, refl, refl)

-- a send into it is a loss and uses no number; room for one gives the next number
no_number_lost : (send (round 2 0) (send (round 2 1) (empty_pool 1)) ≡ send (round 2 1) (empty_pool 1)) × (number_sent (without 4 (times 15 (repeat 1) copied)) ≡ Some 17)
unfolding times
no_number_lost = (refl, refl)

-- ---- receivers: two shards of two copies; peers 0 and 1 keep shard 0, peers 2 and 3 shard 1

abbrev mixed : Pool
mixed = send (Have 0 1 0 1 2) (send (Copy 0 1 1 3 (kind.View 1)) (send (Round 0 1 2 0 0 []) (send (Copy 0 1 1 2 (kind.View 1)) (empty_pool 16))))

oldest : map (λ peer. oldest_for peer (Some 1 ∷ Some 2 ∷ []) mixed) (0 ∷ 1 ∷ 2 ∷ 3 ∷ []) ≡ Some 4 ∷ Some 1 ∷ Some 2 ∷ None ∷ []
oldest = refl

-- a Round is for the lead, whichever that is, and for none where there is no lead
lead_of_round : map (λ lead. oldest_for 3 (None ∷ lead ∷ []) mixed) (Some 3 ∷ Some 2 ∷ None ∷ []) ≡ Some 2 ∷ None ∷ None ∷ []
lead_of_round = refl

-- peer 1 goes down: its Copies are taken out, and the Round stays though it leads that shard
dropped : (keys_of (drop_for 1 mixed).messages ≡ 2 ∷ 4 ∷ []) × (oldest_for 1 (None ∷ Some 1 ∷ []) (drop_for 1 mixed) ≡ Some 2) × ((drop_for 1 mixed).next ≡ 5)
dropped = (refl, refl, refl)

-- numbers start at 1 again
restarted : number_sent (restart_numbers delivered) ≡ Some 1
restarted = refl
