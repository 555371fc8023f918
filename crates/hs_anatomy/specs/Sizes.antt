-- The sizes of a core, which no event changes.
use Rattle.std.specs.Prelude.{ℕ, length}
use Rattle.hs_core_words.specs.Looking.{shape_of}
use Rattle.hs_core_words.specs.State.{Core}
use Rattle.hs_limits.specs.declared.shape.Shape.{Shape}

-- its shape, how many lists, statuses, queues, joining peers and views it has, and how many messages may be under way
pub record Sizes : Type 0 where
  pub shape : Shape
  pub groups : ℕ
  pub peers : ℕ
  pub queues : ℕ
  pub joining : ℕ
  pub views : ℕ
  pub limit : ℕ

abbrev pub sizes_of : Core → Sizes
sizes_of core = record {
  shape = shape_of core;
  groups = length core.groups;
  peers = length core.members.statuses;
  queues = length core.tasks;
  joining = length core.progress.rejoins;
  views = length core.progress.viewed;
  limit = core.pool.limit;
}
