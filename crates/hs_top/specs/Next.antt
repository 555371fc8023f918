-- The next script on a store.
use Rattle.std.specs.Prelude.{Option, ℕ, ◌≡◌, ◌≤◌}
use Rattle.hs_limits.specs.declared.limits.Limits.{Limits}
use Rattle.hs_model.specs.declared.command.Command.{Command}
use Rattle.hs_ports.specs.Objects.{IsSinkBehind}
use Rattle.hs_promise.specs.Run.{Ran, Script}

-- with the same naming and shape, of these limits and with these commands
abbrev pub script_after : Script → Limits → (ℕ → Option Command) → Script
script_after S limits commands = record { set = record S.set { limits = limits }; commands = commands }

-- a run begins with the disks that one left, no earlier than that ended, and nothing that was put is ahead
pub record Follows (r next : Ran) : Type 0 where
  pub disks : next.old.disks ≡ r.new.disks
  pub later : r.new.moment ≤ next.old.moment
  pub sink : IsSinkBehind next.old
