-- The messages under way.
use Rattle.std.specs.BTreeMap.{insert_entry, is_at}
use Rattle.std.specs.List.Sorted.{IsStrictlySortedBy}
use Rattle.std.specs.Map.{keys_of, lookup, remove_entry}
use Rattle.std.specs.Option.{option_map, option_map_or}
use Rattle.std.specs.Ordering.{nat_cmp}
use Rattle.std.specs.Prelude.{◌≡◌, ℕ, ◌+◌, ◌<◌, ◌≤◌, ◌==◌, Bool, true, false, not, List, [], length, filter, find, Option, Some, None, IsSome, is_some, nat_le, slice_index_or, if◌then◌else◌}
use Rattle.hs_post.specs.declared.fault.PostFault.{PostFault}
use Rattle.hs_post.specs.declared.fault.PostFault.TheVariants.{NoMessage, PoolFull}
use Rattle.hs_post.specs.declared.message.Message.{Message}
use Rattle.hs_post.specs.declared.message.Message.TheVariants.{Copy, Have, Round}

-- the messages by number, ascending; the next number; how many there may be
pub record Pool : Type 0 where
  pub messages : List (ℕ × Message)
  pub next : ℕ
  pub limit : ℕ

-- the message of a number
abbrev pub message_at : ℕ → Pool → Option Message
message_at number pool = lookup (is_at (nat_cmp number)) pool.messages

-- whether there are as many as may be, and whether there is none
abbrev pub is_full : Pool → Bool
is_full pool = nat_le pool.limit (length pool.messages)

abbrev pub is_empty : Pool → Bool
is_empty pool = length pool.messages == 0

-- numbers ascend from 1, and the next is above all
pub record IsPool (pool : Pool) : Type 0 where
  pub ordered : IsStrictlySortedBy nat_cmp (keys_of pool.messages)
  pub numbered : (number : ℕ) → IsSome (message_at number pool) → (1 ≤ number) × (number < pool.next)
  pub next : 1 ≤ pool.next
  pub limit : length pool.messages ≤ pool.limit

-- no message, and room for so many
abbrev pub empty_pool : ℕ → Pool
empty_pool limit = record { messages = []; next = 1; limit = limit }

-- ---- changing

-- with a message under the next number; a full pool loses it, and uses no number
abbrev pub send : Message → Pool → Pool
send message pool =
    if is_full pool then pool
    else record pool { messages = insert_entry nat_cmp pool.messages pool.next message; next = pool.next + 1 }

-- the number that a message sent now gets, if any
abbrev pub number_sent : Pool → Option ℕ
number_sent pool = if is_full pool then None else Some pool.next

-- without the message of a number
abbrev pub without : ℕ → Pool → Pool
without number pool = record pool { messages = remove_entry (is_at (nat_cmp number)) pool.messages }

-- with the message of a number sent once more
abbrev pub repeat : ℕ → Pool → Pool
repeat number pool = send_again (message_at number pool)
  where
    send_again : Option Message → Pool
    send_again None = pool
    send_again (Some message) = send message pool

-- why a message can't be repeated, if it can't
abbrev pub repeat_refusal : ℕ → Pool → Option PostFault
repeat_refusal number pool = refusal (is_some (message_at number pool)) (is_full pool)
  where
    refusal : Bool → Bool → Option PostFault
    refusal false full = Some NoMessage
    refusal true true = Some (PoolFull pool.limit)
    refusal true false = None

-- with numbers from 1 again
abbrev pub restart_numbers : Pool → Pool
restart_numbers pool = record pool { next = 1 }

-- ---- receivers

-- whether a Copy or a Have is for this peer
abbrev pub is_for_peer : ℕ → Message → Bool
is_for_peer peer (Copy shard to view number entry) = to == peer
is_for_peer peer (Have shard from to view sealed) = to == peer
is_for_peer peer (Round from to epoch round total deltas) = false

-- whether a message is for this peer, where these are the leads of the shards: a Round is for the lead of its shard
abbrev pub is_for : ℕ → List (Option ℕ) → Message → Bool
is_for peer leads (Copy shard to view number entry) = to == peer
is_for peer leads (Have shard from to view sealed) = to == peer
is_for peer leads (Round from to epoch round total deltas) = option_map_or (λ lead. lead == peer) (slice_index_or leads to None) false

-- without the Copies and Haves for a peer
abbrev pub drop_for : ℕ → Pool → Pool
drop_for peer pool = record pool { messages = filter (λ e. not (is_for_peer peer e.1)) pool.messages }

-- the number of the oldest message for a peer
abbrev pub oldest_for : ℕ → List (Option ℕ) → Pool → Option ℕ
oldest_for peer leads pool = option_map (λ e. e.0) (find (λ e. is_for peer leads e.1) pool.messages)

-- whether there is a message of this number, and it is for this peer
abbrev pub is_due : ℕ → List (Option ℕ) → Pool → ℕ → Bool
is_due peer leads pool number = option_map_or (is_for peer leads) (message_at number pool) false
