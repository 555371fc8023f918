-- How a file is stored, from what the calls say.
use Rattle.std.proofs.Common.{◌≡◌, ◌⊎◌, ◌∙◌, ap, sym, subst, refl, ℕ, ◌≤◌, List, Option, Result, Ok, Err, length, arith}
use Rattle.std.specs.Prelude.{IfErr, IfOk}
use Rattle.hs_asker.specs.Going.{AtEntry}
use Rattle.hs_asker.specs.Shows.{IsTold}
use Rattle.hs_asker.specs.Silent.{IsOpenFault, status_by}
use Rattle.hs_asking.specs.Shown.{Shown}
use Rattle.hs_checks.proofs.SilentLemmas.{time_without}
use Rattle.hs_cluster.specs.declared.fault.ClusterFault.{ClusterFault}
use Rattle.hs_limits.specs.declared.address.Address.{Address}
use Rattle.hs_limits.specs.declared.shape.Shape.{Shape}
use Rattle.hs_model.specs.declared.command.Command.{Command}
use Rattle.hs_ports.specs.Objects.{CountsStand, KeepsTime, Objects}
use Rattle.hs_promise.specs.Run.{IsNoLoad, Ran}
use Rattle.hs_promise.specs.declared.status.Status.{Status}
use Rattle.hs_promise.specs.declared.status.Status.TheVariants as status
use Rattle.hs_run.specs.Machine.{IsOfCluster}
use Rattle.hs_run.specs.Stopping.{of_cluster, status_of}
use Rattle.hs_tree.specs.Calls.{IsStoringFault}
use Rattle.hs_tree.specs.Growing.{IsStopped}
use Rattle.hs_tree.specs.Storing.{HasStored, IsUnfinished, our_session}
use Rattle.hs_tree.specs.declared.fault.TreeFault.{TreeFault}
use Rattle.hs_files.specs.Client.{AsksAsClient, DoesNothing, HasOtherShape, IsUnanswered, RunsNoLoad, beneath, client_script, end_status, tree_status}
use Rattle.hs_files.specs.Halting.{Had, HadEnded, HaltsStore, Stops}
use Rattle.hs_files.specs.Stored.{Ended, EndsStore, Stopped, Stored, StoresFile, Unbegun, Unopened}
use Rattle.hs_files.proofs.ClientLemmas.{closed_as, moment_of, no_load_of}

-- nothing was done
pub still_of : (r : Ran) → IsNoLoad r → r.new ≡ r.old → RunsNoLoad r
still_of r none same = record {
  no_load = none;
  handed_back = ap (λ (o : Objects). length o.disks) same;
  time = subst (λ (o : Objects). KeepsTime r.old o) (sym same) (time_without r.old r.old (omega arith) refl);
  counts = subst (λ (o : Objects). CountsStand r.old o) (sym same) (record { disks = λ peer. omega arith; sink = omega arith; source = omega arith });
}

module _ (tells : Type 0) (name : List ℕ → Address) (shape : Shape) (key : List ℕ) (r : Ran) where
  pub unbegun : IsNoLoad r → DoesNothing r → StoresFile tells name shape key r
  unbegun none nothing = record { runs = still_of r none nothing.same; unput = ap (λ (o : Objects). o.got) nothing.same; ends = Unbegun nothing }

  -- what holds where nothing is put
  abbrev IsQuiet : Type 0
  IsQuiet = (r.new.got ≡ r.old.got) × (r.new.sink_faults ≡ r.old.sink_faults)

  runs_by : (until : ℕ) (ending : Status) (commands : ℕ → Option Command) → IsOfCluster tells (client_script name shape commands) (beneath r until ending) → until ≤ r.new.moment → IsQuiet → r.old.source_faults ≤ r.new.source_faults → RunsNoLoad r
  runs_by until ending commands machine later quiet source =
      let first : r.old.moment ≤ until = moment_of tells (client_script name shape commands) r until ending machine in
      no_load_of tells (client_script name shape commands) r until ending machine later (time_without r.old r.new (omega (arith, first, later)) quiet.0) (let same = quiet.1 in omega (arith, same)) source

  pub unopened : (fault : ClusterFault) → IsOpenFault fault → r.ending ≡ status_of (Err (of_cluster fault)) 0 → IsUnanswered r
      → (ran : (commands : ℕ → Option Command) × IsOfCluster tells (client_script name shape commands) (beneath r r.new.moment (status_of (Err (of_cluster fault)) 0)))
      → IsQuiet → r.new.left ≡ r.old.left → r.new.source_faults ≡ r.old.source_faults → StoresFile tells name shape key r
  unopened fault may is unanswered ran quiet unread source = record {
    runs = runs_by r.new.moment (status_of (Err (of_cluster fault)) 0) ran.0 ran.1 (omega arith) quiet (omega (arith, source));
    unput = quiet.0;
    ends = Unopened (record {
      ending = subst (λ (s : Status). HasOtherShape s ⊎ (s ≡ status.NoMemory)) (sym is) (closed_as fault may);
      unanswered = unanswered;
      commands = ran.0;
      machine = subst (λ (s : Status). IsOfCluster tells (client_script name shape ran.0) (beneath r r.new.moment s)) (sym is) ran.1;
    }) (record { left = unread; count = source });
  }

  module _ (e : AtEntry) (start now : Shown (IsTold tells e)) (asks : AsksAsClient tells name shape r e start now) (quiet : IsQuiet) (source : r.old.source_faults ≤ r.new.source_faults) where
    with_end : EndsStore tells name shape key r → StoresFile tells name shape key r
    with_end ends = record { runs = runs_by asks.until (status_by now.ended) now.commands asks.machine asks.later quiet source; unput = quiet.0; ends = ends }

    well : (bytes : ℕ) → HasStored name key start now r.old.left r.new.left bytes → r.ending ≡ status.Done → StoresFile tells name shape key r
    well bytes stored done = with_end (Stored e start now asks bytes stored done)

    ill : (f : TreeFault) → IsStopped our_session key start now f → IsUnfinished name start now r.old.left r.new.left → IsStoringFault r.old.source_faults r.new.source_faults r.old.left f → r.ending ≡ tree_status f → StoresFile tells name shape key r
    ill f stopped unfinished cause is = with_end (Stopped e start now asks f stopped unfinished cause is)

    -- nothing was asked for
    had : (f : TreeFault) → HadEnded start now f → r.new.left ≡ r.old.left → r.new.source_faults ≡ r.old.source_faults → r.ending ≡ tree_status f → StoresFile tells name shape key r
    had f h unread count is = with_end (Ended e start (subst (λ (s : Shown (IsTold tells e)). AsksAsClient tells name shape r e start s) h.same asks) h.core h.ended (record { left = unread; count = count })
        (is ∙ ap tree_status h.is))

    halts : (f : TreeFault) → r.ending ≡ tree_status f → HaltsStore name key start now (record { left = r.old.left; left' = r.new.left; faults = r.old.source_faults; faults' = r.new.source_faults }) f → StoresFile tells name shape key r
    halts f is (Had h unread count) = had f h unread count is
    halts f is (Stops stopped unfinished cause) = ill f stopped unfinished cause is

    pub by_result : (res : Result ℕ TreeFault) → r.ending ≡ end_status res → IfOk res (λ bytes. HasStored name key start now r.old.left r.new.left bytes)
        → IfErr res (HaltsStore name key start now (record { left = r.old.left; left' = r.new.left; faults = r.old.source_faults; faults' = r.new.source_faults })) → StoresFile tells name shape key r
    by_result (Ok bytes) is stored halted = well bytes stored is
    by_result (Err f) is stored halted = halts f is halted
