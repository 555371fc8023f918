-- How a file is fetched, from what the calls say.
use Rattle.std.proofs.Common.{◌≡◌, ◌⊎◌, ◌∙◌, ap, sym, subst, ℕ, ◌≤◌, List, [], Option, Result, Ok, Err, arith}
use Rattle.std.specs.Prelude.{IfErr, OnOk, ⊤}
use Rattle.hs_asker.specs.Going.{AtEntry}
use Rattle.hs_asker.specs.Shows.{IsTold}
use Rattle.hs_asker.specs.Silent.{IsOpenFault, status_by}
use Rattle.hs_asking.specs.Shown.{Shown}
use Rattle.hs_checks.proofs.SilentLemmas.{time_with, time_without}
use Rattle.hs_cluster.specs.declared.fault.ClusterFault.{ClusterFault}
use Rattle.hs_limits.specs.declared.address.Address.{Address}
use Rattle.hs_limits.specs.declared.shape.Shape.{Shape}
use Rattle.hs_model.specs.declared.command.Command.{Command}
use Rattle.hs_ports.specs.Objects.{KeepsTime, Objects}
use Rattle.hs_promise.specs.Run.{IsNoLoad, Ran}
use Rattle.hs_promise.specs.declared.status.Status.{Status}
use Rattle.hs_promise.specs.declared.status.Status.TheVariants as status
use Rattle.hs_run.specs.Machine.{IsOfCluster}
use Rattle.hs_run.specs.Puts.{IsStamped}
use Rattle.hs_run.specs.Stopping.{of_cluster, status_of}
use Rattle.hs_tree.specs.Fetching.{HasFetched, IsFetchStopped}
use Rattle.hs_tree.specs.declared.fault.TreeFault.{TreeFault}
use Rattle.hs_files.specs.Client.{AsksAsClient, DoesNothing, HasOtherShape, IsUnanswered, RunsNoLoad, beneath, client_script, tree_status}
use Rattle.hs_files.specs.Put.{Front, IsPutAs, Whole}
use Rattle.hs_files.specs.Fetched.{Cut, Ended, Fetched, FetchesFile, Stopped, Unbegun, Unopened}
use Rattle.hs_files.specs.Halting.{HadBefore, HadEnded, HaltsFetch, StopsFetch}
use Rattle.hs_files.proofs.ClientLemmas.{closed_as, moment_of, no_load_of}
use Rattle.hs_files.proofs.StoreLemmas.{still_of}

module _ (tells : Type 0) (name : List ℕ → Address) (shape : Shape) (key : List ℕ) (r : Ran) where
  pub unbegun : IsNoLoad r → DoesNothing r → FetchesFile tells name shape key r
  unbegun none nothing = record { runs = still_of r none nothing.same; unread = ap (λ (o : Objects). o.left) nothing.same; ends = Unbegun nothing }

  -- nothing is taken
  abbrev IsUnread : Type 0
  IsUnread = (r.new.left ≡ r.old.left) × (r.new.source_faults ≡ r.old.source_faults)

  runs_by : (until : ℕ) (ending : Status) (commands : ℕ → Option Command) → IsOfCluster tells (client_script name shape commands) (beneath r until ending) → until ≤ r.new.moment → KeepsTime r.old r.new → IsUnread → r.old.sink_faults ≤ r.new.sink_faults → RunsNoLoad r
  runs_by until ending commands machine later time unread sink = no_load_of tells (client_script name shape commands) r until ending machine later time sink (let same = unread.1 in omega (arith, same))

  quiet_time : (until : ℕ) (ending : Status) (commands : ℕ → Option Command) → IsOfCluster tells (client_script name shape commands) (beneath r until ending) → until ≤ r.new.moment → r.new.got ≡ r.old.got → KeepsTime r.old r.new
  quiet_time until ending commands machine later unput =
      let first : r.old.moment ≤ until = moment_of tells (client_script name shape commands) r until ending machine in
      time_without r.old r.new (omega (arith, first, later)) unput

  pub unopened : (fault : ClusterFault) → IsOpenFault fault → r.ending ≡ status_of (Err (of_cluster fault)) 0 → IsUnanswered r
      → (ran : (commands : ℕ → Option Command) × IsOfCluster tells (client_script name shape commands) (beneath r r.new.moment (status_of (Err (of_cluster fault)) 0)))
      → IsUnread → r.new.got ≡ r.old.got → r.new.sink_faults ≡ r.old.sink_faults → FetchesFile tells name shape key r
  unopened fault may is unanswered ran unread unput sink = record {
    runs = runs_by r.new.moment (status_of (Err (of_cluster fault)) 0) ran.0 ran.1 (omega arith) (quiet_time r.new.moment (status_of (Err (of_cluster fault)) 0) ran.0 ran.1 (omega arith) unput) unread (omega (arith, sink));
    unread = unread.0;
    ends = Unopened (record {
      ending = subst (λ (s : Status). HasOtherShape s ⊎ (s ≡ status.NoMemory)) (sym is) (closed_as fault may);
      unanswered = unanswered;
      commands = ran.0;
      machine = subst (λ (s : Status). IsOfCluster tells (client_script name shape ran.0) (beneath r r.new.moment s)) (sym is) ran.1;
    }) unput;
  }

  module _ (e : AtEntry) (start now : Shown (IsTold tells e)) (asks : AsksAsClient tells name shape r e start now) (unread : IsUnread) where
    -- the file was found, and put from then on
    found : (file : List ℕ) → HasFetched key start now [] file → IsPutAs file r.old.got r.new.got r.old.sink_faults r.new.sink_faults r.ending
        → r.old.sink_faults ≤ r.new.sink_faults → IsStamped asks.until r.new.moment r.old.got r.new.got → FetchesFile tells name shape key r
    found file fetched put sink stamped = record {
      runs = runs_by asks.until (status_by now.ended) now.commands asks.machine asks.later
          (time_with r.old r.new asks.until (moment_of tells (client_script name shape now.commands) r asks.until (status_by now.ended) asks.machine) asks.later stamped) unread sink;
      unread = unread.0;
      ends = elim put [
        | Whole is done ↦ Fetched e start now asks file fetched is done
        | Front front failed cut ↦ Cut e start now asks file fetched front failed cut
      ];
    }

    stopped : (f : TreeFault) → IsFetchStopped key start now f → r.ending ≡ tree_status f → r.new.got ≡ r.old.got → r.new.sink_faults ≡ r.old.sink_faults → FetchesFile tells name shape key r
    stopped f h is unput sink = record {
      runs = runs_by asks.until (status_by now.ended) now.commands asks.machine asks.later (quiet_time asks.until (status_by now.ended) now.commands asks.machine asks.later unput) unread (omega (arith, sink));
      unread = unread.0;
      ends = Stopped e start now asks f h unput is;
    }

    -- nothing was asked for
    had : (f : TreeFault) → HadEnded start now f → r.ending ≡ tree_status f → r.new.got ≡ r.old.got → r.new.sink_faults ≡ r.old.sink_faults → FetchesFile tells name shape key r
    had f h is unput sink = record {
      runs = runs_by asks.until (status_by now.ended) now.commands asks.machine asks.later (quiet_time asks.until (status_by now.ended) now.commands asks.machine asks.later unput) unread (omega (arith, sink));
      unread = unread.0;
      ends = Ended e start (subst (λ (s : Shown (IsTold tells e)). AsksAsClient tells name shape r e start s) h.same asks) h.core h.ended unput (is ∙ ap tree_status h.is);
    }

    halts : (f : TreeFault) → HaltsFetch key start now f → r.ending ≡ tree_status f → r.new.got ≡ r.old.got → r.new.sink_faults ≡ r.old.sink_faults → FetchesFile tells name shape key r
    halts f (HadBefore h) is unput sink = had f h is unput sink
    halts f (StopsFetch h) is unput sink = stopped f h is unput sink

    pub by_result : (res : Result ⊤ TreeFault) (file : List ℕ) → OnOk res (HasFetched key start now [] file) → IfErr res (HaltsFetch key start now)
        → OnOk res (IsPutAs file r.old.got r.new.got r.old.sink_faults r.new.sink_faults r.ending)
        → IfErr res (λ f. (r.ending ≡ tree_status f) × (r.new.got ≡ r.old.got) × (r.new.sink_faults ≡ r.old.sink_faults))
        → r.old.sink_faults ≤ r.new.sink_faults → IsStamped asks.until r.new.moment r.old.got r.new.got → FetchesFile tells name shape key r
    by_result (Ok x) file fetched halted put unput sink stamped = found file fetched put sink stamped
    by_result (Err f) file fetched halted put unput sink stamped = halts f halted unput.0 unput.1 unput.2
