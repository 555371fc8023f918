-- The numbers of the messages of each receiver, for private clauses.
use Rattle.std.specs.BTreeMap.{is_at}
use Rattle.std.specs.List.{list_any}
use Rattle.std.specs.declared.cmp.Ordering.{Ordering}
use Rattle.std.specs.Option.{option_map_or}
use Rattle.std.specs.Ordering.{nat_cmp, ordering_then}
use Rattle.std.specs.Prelude.{◌≡◌, ℕ, ◌==◌, ◌&&◌, ◌||◌, Bool, false, not, List, Option}
use Rattle.hs_post.specs.declared.message.Message.{Message}
use Rattle.hs_post.specs.declared.message.Message.TheVariants.{Copy, Have, Round}
use Rattle.hs_post.specs.Pool.{Pool, is_for_peer, message_at}

-- receivers first, then numbers
abbrev pub inbox_cmp : ℕ × ℕ → ℕ × ℕ → Ordering
inbox_cmp x y = ordering_then (nat_cmp x.0 y.0) (nat_cmp x.1 y.1)

-- whether a receiver has this number
abbrev pub has : List (ℕ × ℕ) → ℕ → ℕ → Bool
has inbox to number = list_any (is_at (inbox_cmp (to, number))) inbox

-- the numbers for peers, and those for the leads of shards
pub record Inboxes : Type 0 where
  pub peers : List (ℕ × ℕ)
  pub shards : List (ℕ × ℕ)

-- whether a message is for the lead of this shard
abbrev pub is_for_shard : ℕ → Message → Bool
is_for_shard shard (Copy g to view number entry) = false
is_for_shard shard (Have g from to view sealed) = false
is_for_shard shard (Round from to epoch round total deltas) = to == shard

-- the new inboxes have the message's number too
pub record PutsIn (old new : Inboxes) (message : Message) (number : ℕ) : Type 0 where
  pub peers : (to n : ℕ) → has new.peers to n ≡ (is_for_peer to message && number == n || has old.peers to n)
  pub shards : (to n : ℕ) → has new.shards to n ≡ (is_for_shard to message && number == n || has old.shards to n)

-- the new inboxes have it no more
pub record TakesOut (old new : Inboxes) (message : Message) (number : ℕ) : Type 0 where
  pub peers : (to n : ℕ) → has new.peers to n ≡ (not (is_for_peer to message && number == n) && has old.peers to n)
  pub shards : (to n : ℕ) → has new.shards to n ≡ (not (is_for_shard to message && number == n) && has old.shards to n)

-- a receiver has exactly the numbers of its messages
pub record AreOf (inboxes : Inboxes) (pool : Pool) : Type 0 where
  pub peers : (to n : ℕ) → has inboxes.peers to n ≡ option_map_or (is_for_peer to) (message_at n pool) false
  pub shards : (to n : ℕ) → has inboxes.shards to n ≡ option_map_or (is_for_shard to) (message_at n pool) false

-- whether the lead of a shard is this peer
abbrev pub is_lead : ℕ → Option ℕ → Bool
is_lead peer lead = option_map_or (λ l. l == peer) lead false

-- whether the message of a number is for the lead of this shard
abbrev pub is_round : ℕ → Pool → ℕ → Bool
is_round shard pool number = option_map_or (is_for_shard shard) (message_at number pool) false
