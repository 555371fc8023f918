-- What holds of a store after each event.
use Rattle.std.specs.Prelude.{◌≡◌, ℕ, ◌+◌, ◌<◌, ◌≤◌, min, List, [], ◌∷◌, ◌++◌, length, map, filter, slice_index, nat_le, unwrap_or, Contains}
use Rattle.hs_limits.specs.declared.address.Address.{Address}
use Rattle.hs_limits.specs.declared.address.Held.{Held}
use Rattle.hs_limits.specs.Epoch.{IsFresh}
use Rattle.hs_model.specs.declared.store.StoredBlock.{StoredBlock}
use Rattle.hs_model.specs.Reach.{IsReached, anchors}
use Rattle.hs_model.specs.Store.{Store, Root, epoch_at, root_epoch}
use Rattle.hs_laws.specs.Held.{IsHeld}
use Rattle.hs_laws.specs.Reached.{IsPresent}

-- the least of a number and some more
abbrev pub least_of : ℕ → List ℕ → ℕ
least_of first [] = first
least_of first (n ∷ rest) = min n (least_of first rest)

-- the least epoch of a store
abbrev pub least_epoch : Store → ℕ
least_epoch s = least_of (slice_index s.epochs 0) s.epochs

-- there is a shard; none is ahead of shard 0, and none more than one epoch behind it;
-- each has swept its epoch or the one before, and none an epoch that another shard has yet to enter
pub record AreEpochsInStep (s : Store) : Type 0 where
  pub some_shard : 0 < length s.epochs
  pub swept_each : length s.swept ≡ length s.epochs
  pub not_ahead : (shard : ℕ) → shard < length s.epochs → slice_index s.epochs shard ≤ slice_index s.epochs 0
  pub not_behind : (shard : ℕ) → shard < length s.epochs → slice_index s.epochs 0 ≤ slice_index s.epochs shard + 1
  pub swept_not_ahead : (shard : ℕ) → shard < length s.epochs → slice_index s.swept shard ≤ slice_index s.epochs shard
  pub swept_not_behind : (shard : ℕ) → shard < length s.epochs → slice_index s.epochs shard ≤ slice_index s.swept shard + 1
  pub swept_entered : (shard : ℕ) → shard < length s.epochs → slice_index s.swept shard ≤ least_epoch s

-- the last epoch in which a root is known to stand: that of its drop, and else that of its shard
abbrev pub stands_in : Store → Root → ℕ
stands_in s root = unwrap_or root.dropped (root_epoch s root.key)

-- what is held of an epoch rests on these: the addresses of the roots that stand in it or later, and those given in it or later
abbrev pub rests_on : Store → ℕ → List Address
rests_on s epoch = map (λ root. root.address) (filter (λ root. nat_le epoch (stands_in s root)) s.roots) ++ map (λ e. e.0) (filter (λ e. nat_le epoch e.1) s.given)

-- what was given is what is present, between a block's birth and now
pub record IsGivenInStep (s : Store) : Type 0 where
  pub given_is_present : (a : Address) (epoch : ℕ) → Contains s.given (a, epoch) → IsPresent s a
  pub present_is_given : (a : Address) → IsPresent s a → (epoch : ℕ) × Contains s.given (a, epoch)
  pub after_birth : (a : Address) (stored : StoredBlock) (epoch : ℕ) → Contains s.blocks (a, stored) → Contains s.given (a, epoch) → stored.born ≤ epoch
  pub until_now : (a : Address) (epoch : ℕ) → Contains s.given (a, epoch) → epoch ≤ epoch_at s a

-- a store is valid
pub record IsValid (s : Store) : Type 0 where
  -- its epochs are in step
  pub epochs : AreEpochsInStep s
  -- what the anchors of the least epoch reach is present
  pub anchored : (a : Address) → IsReached s (anchors s (least_epoch s)) a → IsPresent s a
  -- what is held and may be used in the least epoch is reached from what it rests on
  pub held : (held : Held) → IsHeld s held → IsFresh held.epoch (least_epoch s) → IsReached s (rests_on s held.epoch) held.address
  -- what was given is in step
  pub given : IsGivenInStep s
