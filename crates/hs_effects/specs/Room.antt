-- Room for the Blocks and the Roots that have not taken effect.
use Rattle.std.specs.Prelude.{◌≡◌, ◌⊎◌, ℕ, ◌+◌, ◌≤◌, count_by, length}
use Rattle.hs_core_words.specs.Looking.{catalogue_of, group_of}
use Rattle.hs_core_words.specs.State.{Core}
use Rattle.hs_replica.specs.Kinds.{is_block, is_root}
use Rattle.hs_roots.specs.Roots.{retained_count}

-- so many more fit below a limit, where there are any
abbrev pub Fit : ℕ → ℕ → ℕ → Type 0
Fit more held limit = (more ≡ 0) ⊎ (held + more ≤ limit)

-- the Blocks and the Roots of a shard's list that have not taken effect fit below the limits, beside those that have
pub record HasRoom (core : Core) (shard : ℕ) : Type 0 where
  pub blocks : Fit (count_by is_block (group_of shard core).waiting) (length (catalogue_of shard core).blocks) core.limits.blocks
  pub roots : Fit (count_by is_root (group_of shard core).waiting) (retained_count (catalogue_of shard core).roots) core.limits.roots
