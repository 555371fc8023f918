-- A cluster that goes on behind a line may be asked the next one.
use Rattle.std.proofs.Common.{◌≡◌, ℕ, ◌≤◌, true, List, Result, Ok, Err, refl, arith, length, drop}
use Rattle.std.specs.Prelude.{OnOk, ⊤}
use Rattle.hs_cluster.specs.Disks.{AreReady, DiskSeen}
use Rattle.hs_cluster.specs.Running.{Running}
use Rattle.hs_cluster.specs.declared.fault.ClusterFault.{ClusterFault}
use Rattle.hs_events.specs.Commands.{is_served}
use Rattle.hs_limits.specs.declared.address.Address.{Address}
use Rattle.hs_model.specs.declared.command.Command.{Command}
use Rattle.hs_script.specs.Text.{text}
use Rattle.hs_run.specs.Between.{IsReadyAt, Point}
use Rattle.hs_run.specs.OneLine.{RunsCommand}
use Rattle.hs_run.specs.Stopping.{end_of}
use Rattle.hs_run.specs.declared.stop.Stop.{Stop}
use Rattle.hs_run.specs.declared.stop.Stop.TheVariants as stop
use Rattle.hs_run.proofs.ReadyLemmas.{command_ready}
use Rattle.hs_asker.specs.Going.{RunsAlone, point_of}
use Rattle.hs_asker.proofs.DoneLemmas.{quiet}

on_end : (did : Result ⊤ ClusterFault) (P : Type 0) → OnOk (end_of did (Ok tt)) P → OnOk did P
on_end (Ok x) P h = h
on_end (Err fault) P h = tt

module _ (tells : Type 0) (name : List ℕ → Address) (asked : Command) (now now' : ℕ) (cluster cluster' : Running) (disks disks' : List DiskSeen) (line line' : ℕ) (did : Result ⊤ ClusterFault)
    (served : is_served asked ≡ true) (runs : RunsAlone tells name asked (point_of now cluster disks line) (point_of now' cluster' disks' line') did) where
  abbrev old : Point
  old = point_of now cluster disks line

  abbrev new : Point
  new = point_of now' cluster' disks' line'

  -- nothing is put of it
  as_command : RunsCommand tells name asked (record { old = old; new = new; result = end_of did (Ok tt) })
  as_command = record {
    mid = now';
    did = did;
    put = Ok tt;
    served = served;
    line = runs.line;
    runs = runs.runs;
    puts = quiet now' now' (text (drop (length cluster.core.journal) cluster'.core.journal)) (omega arith);
    only = tt;
    ended = refl;
    some = λ is. absurd (not_err is);
    since = runs.since;
  }
    where
      not_err : ◌≡◌ {A = Result ⊤ Stop} (Ok tt) (Err stop.WriteFault) → ⊥
      not_err e = cc

  pub ready_behind : IsReadyAt tells old → OnOk did (AreReady tells cluster'.logs disks') → OnOk did (cluster'.core.moment ≤ now') → cluster'.core.members.shape ≡ cluster.core.members.shape → length disks' ≡ length disks → OnOk did (IsReadyAt tells new)
  unfolding as_command
  ready_behind h ready moment shape count = on_end did (IsReadyAt tells new) (command_ready tells name asked old new (end_of did (Ok tt)) h as_command ready moment shape count)
