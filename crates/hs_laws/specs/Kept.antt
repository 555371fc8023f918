-- What a plain store keeps and removes.
use Rattle.std.specs.Prelude.{All, Contains, None, length, slice_index, ℕ, ◌-◌, ◌≡◌, ◌≤◌}
use Rattle.hs_laws.specs.Held.{IsFreshHeld, IsHeld}
use Rattle.hs_laws.specs.Reached.{IsWhole}
use Rattle.hs_laws.specs.Unreached.{KeepsItsGiven, KeepsTheRest}
use Rattle.hs_laws.specs.Valid.{IsValid}
use Rattle.hs_limits.specs.declared.address.Held.{Held}
use Rattle.hs_model.specs.Inner.{sweep}
use Rattle.hs_model.specs.Store.{Root, Store}
use Rattle.hs_model.specs.declared.reply.Reply.{Reply}
use Rattle.hs_model.specs.declared.reply.Reply.TheVariants as reply

-- a sweep of a shard removes exactly the blocks of it that were born before its epoch and that no anchor reaches, with what is given there, and tells their number
pub record SweepIsExact (s : Store) (shard : ℕ) (told : Reply) : Type 0 where
  pub exact : KeepsTheRest s (slice_index s.epochs shard) shard (sweep s shard)
  pub given : KeepsItsGiven s (sweep s shard)
  pub number : told ≡ reply.Sweep (slice_index s.epochs shard) (length s.blocks - length (sweep s shard).blocks)

-- every shard has swept this epoch
abbrev pub AllSwept : Store → ℕ → Type 0
AllSwept s epoch = All (λ e. epoch ≤ e) s.swept

-- the shards of a store are in one epoch, and have swept it
pub record IsLevel (s : Store) : Type 0 where
  pub epoch : ℕ
  pub entered : All (λ e. e ≡ epoch) s.epochs
  pub swept : All (λ e. e ≡ epoch) s.swept

-- the store is valid, and all is present that a root which is not dropped reaches, or a held address that may still be used
pub record KeepsAll (s : Store) : Type 0 where
  pub valid : IsValid s
  pub rooted : (root : Root) → Contains s.roots root → root.dropped ≡ None → IsWhole s root.address
  pub held : (held : Held) → IsHeld s held → IsFreshHeld s held → IsWhole s held.address
