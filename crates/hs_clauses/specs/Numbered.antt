-- The blocks of a shard are of entries that took effect: they carry the numbers of such.
use Rattle.std.specs.List.{AllByRecursion}
use Rattle.std.specs.Prelude.{ℕ, ◌≤◌}
use Rattle.hs_core_words.specs.Looking.{catalogue_of, front_of}
use Rattle.hs_core_words.specs.State.{Core}
use Rattle.hs_limits.specs.declared.address.Address.{Address}
use Rattle.hs_shard.specs.declared.facts.Facts.{Facts}
use Rattle.hs_shard.specs.Facts.{BlockList}

-- a block was stored by one of so many entries
abbrev pub IsWithin : ℕ → Address → Facts → Type 0
IsWithin front a facts = (1 ≤ facts.number) × (facts.number ≤ front)

abbrev pub AreWithin : ℕ → BlockList → Type 0
AreWithin front blocks = AllByRecursion (λ (e : Address × Facts). IsWithin front e.0 e.1) blocks

-- so were all blocks of each shard, by entries that took effect
abbrev pub AreNumbered : Core → Type 0
AreNumbered core = (shard : ℕ) → AreWithin (front_of shard core) (catalogue_of shard core).blocks
