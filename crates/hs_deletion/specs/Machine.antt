-- The deletion machine: the blocks and roots of all shards, and the rounds that each sent. There is no peer, message or disk.
use Rattle.std.specs.Prelude.{ℕ, zero, suc, ◌+◌, ◌<◌, Bool, ◌==◌, if◌then◌else◌, List, []}
use Rattle.hs_limits.specs.declared.address.Address.{Address}
use Rattle.hs_deletion.specs.Records.{BlockRecord, RootRecord}

-- how many shards there are, and of which one each address is
pub record Layout : Type 0 where
  pub shards : ℕ
  pub home : Address → ℕ
  pub within : (a : Address) → home a < shards

-- what a shard sends in a round: each address as often as it is raised, and as it is lowered; and how many new zero blocks and
-- released roots lower them
pub record Round : Type 0 where
  pub raises : List Address
  pub lowers : List Address
  pub total : ℕ

-- a shard: its epoch, the epoch that it swept, and its round; how many rows it completed and how many rounds it sent since the
-- empty store; and the rounds that it sent, by number
pub record ShardState : Type 0 where
  pub epoch : ℕ
  pub swept : ℕ
  pub round : ℕ
  pub completed : ℕ
  pub sent : ℕ
  pub rounds : ℕ → Round

-- the machine; row n of its rounds is the n-th round of each shard
pub record Machine : Type 0 where
  pub blocks : List BlockRecord
  pub roots : List RootRecord
  pub states : ℕ → ShardState

-- a round that says nothing
abbrev pub empty_round : Round
empty_round = record { raises = []; lowers = []; total = 0 }

-- nothing is there, and each shard is in epoch 1, which it has swept
abbrev pub empty_machine : Machine
empty_machine = record {
  blocks = [];
  roots = [];
  states = λ shard. record { epoch = 1; swept = 1; round = 0; completed = 0; sent = 0; rounds = λ n. empty_round };
}

-- a function with another value at one place
unfoldable pub set_at : {X : Type 0} → ℕ → X → (ℕ → X) → ℕ → X
set_at place x f k = if k == place then x else f k

-- the sum over the numbers below n
unfoldable pub sum_below : ℕ → (ℕ → ℕ) → ℕ
sum_below zero f = 0
sum_below (suc n) f = f n + sum_below n f

-- whether a block is of a shard
abbrev pub is_at : Layout → ℕ → BlockRecord → Bool
is_at layout shard b = layout.home b.address == shard

-- whether a root is
abbrev pub is_root_at : ℕ → RootRecord → Bool
is_root_at shard r = r.home == shard
