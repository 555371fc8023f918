-- The limits of a run.
use Rattle.std.specs.Prelude.{◌≤◌}
use Rattle.hs_limits.specs.declared.limits.Limits.{Limits}
use Rattle.hs_limits.specs.declared.limits.TheConstants.{LAST_EPOCH}

-- the limits that hold where no option lowers them
abbrev pub greatest_limits : Limits
greatest_limits = record {
  blocks = 16384;
  roots = 4096;
  sessions = 64;
  handles = 4096;
  pool = 65536;
  epochs = LAST_EPOCH;
  ops = 1048576;
}

-- no number is above the greatest
pub record IsLimits (limits : Limits) : Type 0 where
  pub blocks : limits.blocks ≤ greatest_limits.blocks
  pub roots : limits.roots ≤ greatest_limits.roots
  pub sessions : limits.sessions ≤ greatest_limits.sessions
  pub handles : limits.handles ≤ greatest_limits.handles
  pub pool : limits.pool ≤ greatest_limits.pool
  pub epochs : limits.epochs ≤ greatest_limits.epochs
  pub ops : limits.ops ≤ greatest_limits.ops
