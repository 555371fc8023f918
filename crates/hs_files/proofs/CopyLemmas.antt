-- How a root is copied, from what the calls say.
use Rattle.std.proofs.Common.{◌≡◌, ◌≢◌, ◌⊎◌, ◌∙◌, ap, sym, subst, refl, ℕ, ◌≤◌, List, Option, Result, Ok, Err, drop, length, take, arith}
use Rattle.std.specs.Prelude.{IfErr, IfOk}
use Rattle.hs_asker.specs.Going.{AtEntry}
use Rattle.hs_asker.specs.Shows.{IsTold}
use Rattle.hs_asker.specs.Silent.{IsOpenFault, status_by}
use Rattle.hs_asking.specs.Shown.{Shown}
use Rattle.hs_checks.proofs.SilentLemmas.{time_with, time_without}
use Rattle.hs_cluster.specs.declared.fault.ClusterFault.{ClusterFault}
use Rattle.hs_copy.specs.declared.fault.CopyFault.{CopyFault}
use Rattle.hs_limits.specs.declared.address.Address.{Address}
use Rattle.hs_limits.specs.declared.shape.Shape.{Shape}
use Rattle.hs_model.specs.declared.command.Command.{Command}
use Rattle.hs_ports.specs.Objects.{CountsStand, KeepsTime, Objects, faults_at}
use Rattle.hs_promise.specs.Run.{IsNoLoad, Ran}
use Rattle.hs_promise.specs.declared.status.Status.{Status}
use Rattle.hs_promise.specs.declared.status.Status.TheVariants as status
use Rattle.hs_run.specs.Machine.{IsOfCluster}
use Rattle.hs_run.specs.Puts.{IsStamped}
use Rattle.hs_run.specs.Stopping.{of_cluster, status_of}
use Rattle.hs_files.specs.Client.{AsksAsClient, DoesNothing, HasOtherShape, IsUnanswered, RunsNoLoad, beneath, client_script}
use Rattle.hs_files.specs.Copied.{Copied, CopiesDuly, CopiesRoot, Cut, EndsCopy, EndsCopying, FirstUnopened, Had, HadBoth, HaltsCopy, IsInFirst, IsTextPut, Opened, SecondUnopened, Shapes, Stopped, StopsCopy, TextPut, TextUnput, Unbegun, Untold, copied_text, fault_status, first_disks, in_first, in_second, peers_of, second_disks, second_status}
use Rattle.hs_files.specs.Put.{Front, IsPutAs, Whole}
use Rattle.hs_files.proofs.ClientLemmas.{closed_as, moment_of}
use Rattle.hs_files.proofs.StoreLemmas.{still_of}
use Rattle.hs_files.proofs.TwoLemmas.{counts_of, lengths_of}

-- as many disks as before, none of which has a lower count
pub record Stand (old new : Objects) : Type 0 where
  pub handed_back : length new.disks ≡ length old.disks
  pub counts : (k : ℕ) → faults_at old.disk_faults k ≤ faults_at new.disk_faults k

pub stand_of : (old new : Objects) → length new.disks ≡ length old.disks → CountsStand old new → Stand old new
stand_of old new same counts = record { handed_back = same; counts = counts.disks }

-- of both stores, so of all
stand_both : (shape : Shape) (old new : Objects) → Stand (first_disks shape old) (first_disks shape new) → Stand (second_disks shape old) (second_disks shape new) → Stand old new
stand_both shape old new first second = record {
  handed_back = lengths_of (peers_of shape) old.disks new.disks first.handed_back second.handed_back;
  counts = counts_of (peers_of shape) old.disk_faults new.disk_faults first.counts second.counts;
}

module _ (tells : Type 0) (name : List ℕ → Address) (shapes : Shapes) (key : List ℕ) (every : Option ℕ) (r : Ran) where
  pub unbegun : IsNoLoad r → DoesNothing r → CopiesRoot tells name shapes key every r
  unbegun none nothing = record { runs = still_of r none nothing.same; unread = ap (λ (o : Objects). o.left) nothing.same; ends = Unbegun nothing }

  -- nothing is taken
  abbrev IsUnread : Type 0
  IsUnread = (r.new.left ≡ r.old.left) × (r.new.source_faults ≡ r.old.source_faults)

  with_end : IsNoLoad r → Stand r.old r.new → KeepsTime r.old r.new → IsUnread → r.old.sink_faults ≤ r.new.sink_faults → EndsCopy tells name shapes key every r → CopiesRoot tells name shapes key every r
  with_end none stand time unread sink ends = record {
    runs = record { no_load = none; handed_back = stand.handed_back; time = time; counts = record { disks = stand.counts; sink = sink; source = let same = unread.1 in omega (arith, same) } };
    unread = unread.0;
    ends = ends;
  }

  -- the disks of one store, by the machine's run on them
  first_stands : (one : Ran) → IsInFirst shapes.first r one → Stand one.old one.new → Stand (first_disks shapes.first r.old) (first_disks shapes.first r.new)
  first_stands one is stand = subst (λ (o : Objects). Stand o (first_disks shapes.first r.new)) is.old (subst (λ (o : Objects). Stand one.old o) is.new stand)

  machine_stands : (shape : Shape) (commands : ℕ → Option Command) (one : Ran) (until : ℕ) (ending : Status) → IsOfCluster tells (client_script name shape commands) (beneath one until ending) → Stand one.old one.new
  machine_stands shape commands one until ending machine = record { handed_back = machine.served.handed_back; counts = machine.served.counts.disks }

  -- ---- the first store was not opened

  pub first_unopened : (fault : ClusterFault) → IsOpenFault fault → r.ending ≡ status_of (Err (of_cluster fault)) 0 → IsNoLoad r → IsUnanswered r → (until : ℕ) → until ≤ r.new.moment
      → (ran : (commands : ℕ → Option Command) × IsOfCluster tells (client_script name shapes.first commands) (beneath (in_first shapes.first r.ending r) until (status_of (Err (of_cluster fault)) 0)))
      → second_disks shapes.first r.new ≡ record (second_disks shapes.first r.old) { moment = r.new.moment } → IsUnread → r.new.got ≡ r.old.got → r.new.sink_faults ≡ r.old.sink_faults → CopiesRoot tells name shapes key every r
  first_unopened fault may is none unanswered until later ran same unread unput sink =
      let one : Ran = in_first shapes.first r.ending r in
      let S = client_script name shapes.first ran.0 in
      let first : r.old.moment ≤ until = moment_of tells S one until (status_of (Err (of_cluster fault)) 0) ran.1 in
      let second : Stand (second_disks shapes.first r.old) (second_disks shapes.first r.new) = subst (λ (o : Objects). Stand (second_disks shapes.first r.old) o) (sym same) (record { handed_back = refl; counts = λ k. omega arith }) in
      with_end none (stand_both shapes.first r.old r.new (machine_stands shapes.first ran.0 one until (status_of (Err (of_cluster fault)) 0) ran.1) second) (time_without r.old r.new (omega (arith, first, later)) unput) unread (omega (arith, sink))
      (FirstUnopened (record {
        ending = subst (λ (s : Status). HasOtherShape s ⊎ (s ≡ status.NoMemory)) (sym is) (closed_as fault may);
        unanswered = record { journal = unanswered.journal; refused = unanswered.refused; course = unanswered.course; line = unanswered.line };
        commands = ran.0;
        until = until;
        later = later;
        machine = subst (λ (s : Status). IsOfCluster tells S (beneath one until s)) (sym is) ran.1;
      }) same unput)

  -- ---- the first was opened

  module _ (one : Ran) (is_first : IsInFirst shapes.first r one) (e : AtEntry) (s t : Shown (IsTold tells e)) (asks : AsksAsClient tells name shapes.first one e s t) (none : IsNoLoad r) (unread : IsUnread) where
    one_stands : Stand (first_disks shapes.first r.old) (first_disks shapes.first r.new)
    one_stands = first_stands one is_first (machine_stands shapes.first t.commands one asks.until (status_by t.ended) asks.machine)

    -- ---- and the second was not

    pub second_unopened : s ≡ t → (fault : ClusterFault) → IsOpenFault fault → r.ending ≡ second_status shapes.first (status_of (Err (of_cluster fault)) 0) → IsUnanswered r → (until : ℕ) → until ≤ r.new.moment
        → (ran : (commands : ℕ → Option Command) × IsOfCluster tells (client_script name shapes.second commands) (beneath (in_second shapes.first (status_of (Err (of_cluster fault)) 0) r) until (status_of (Err (of_cluster fault)) 0)))
        → r.new.got ≡ r.old.got → r.new.sink_faults ≡ r.old.sink_faults → CopiesRoot tells name shapes key every r
    second_unopened same fault may is unanswered until later ran unput sink =
        let ending : Status = status_of (Err (of_cluster fault)) 0 in
        let two : Ran = in_second shapes.first ending r in
        let S = client_script name shapes.second ran.0 in
        let first : r.old.moment ≤ until = moment_of tells S two until ending ran.1 in
        with_end none (stand_both shapes.first r.old r.new one_stands (machine_stands shapes.second ran.0 two until ending ran.1)) (time_without r.old r.new (omega (arith, first, later)) unput) unread (omega (arith, sink))
        (SecondUnopened ending (record {
          ending = closed_as fault may;
          unanswered = record { journal = unanswered.journal; refused = unanswered.refused; course = unanswered.course; line = unanswered.line };
          commands = ran.0;
          until = until;
          later = later;
          machine = ran.1;
        }) is one is_first e s (subst (λ (u : Shown (IsTold tells e)). AsksAsClient tells name shapes.first one e s u) (sym same) asks) unput)

    -- ---- and so was the second

    module _ (d : AtEntry) (u v : Shown (IsTold tells d)) (asks' : AsksAsClient tells name shapes.second (in_second shapes.first r.ending r) d u v) where
      all_stand : Stand r.old r.new
      all_stand = stand_both shapes.first r.old r.new one_stands (machine_stands shapes.second v.commands (in_second shapes.first r.ending r) asks'.until (status_by v.ended) asks'.machine)

      first_moment : r.old.moment ≤ asks'.until
      first_moment = moment_of tells (client_script name shapes.second v.commands) (in_second shapes.first r.ending r) asks'.until (status_by v.ended) asks'.machine

      quiet : r.new.got ≡ r.old.got → r.new.sink_faults ≡ r.old.sink_faults → EndsCopying name shapes.first key every s t u v r → CopiesRoot tells name shapes key every r
      quiet unput sink ends = with_end none all_stand (time_without r.old r.new (let first = first_moment in let later = asks'.later in omega (arith, first, later)) unput) unread (omega (arith, sink)) (Opened one is_first e d s t u v asks asks' ends)

      halts : (f : CopyFault) → HaltsCopy name key s t u v f → r.ending ≡ fault_status shapes.first f → r.new.got ≡ r.old.got → r.new.sink_faults ≡ r.old.sink_faults → CopiesRoot tells name shapes key every r
      halts f (HadBoth had same same') is unput sink = quiet unput sink (Had f had same same' unput is)
      halts f (StopsCopy stopped) is unput sink = quiet unput sink (Stopped f stopped unput is)

      -- what was copied is told, from a moment on
      told : (blocks mid : ℕ) → CopiesDuly name key every s t u v blocks → IsTextPut blocks r.old.got r.new.got r.old.sink_faults r.new.sink_faults r.ending
          → r.old.sink_faults ≤ r.new.sink_faults → r.old.moment ≤ mid → mid ≤ r.new.moment → IsStamped mid r.new.moment r.old.got r.new.got → CopiesRoot tells name shapes key every r
      told blocks mid copied put sink first later stamped = with_end none all_stand (time_with r.old r.new mid first later stamped) unread sink (Opened one is_first e d s t u v asks asks' (ends put))
        where
          ends : IsTextPut blocks r.old.got r.new.got r.old.sink_faults r.new.sink_faults r.ending → EndsCopying name shapes.first key every s t u v r
          ends (TextPut (Whole is done)) = Copied blocks copied is done
          ends (TextPut (Front front failed cut)) = Cut blocks copied front failed cut
          ends (TextUnput wanting unput still) = Untold blocks copied unput wanting

      pub by_result : (res : Result ℕ CopyFault) (mid : ℕ) → IfOk res (λ blocks. CopiesDuly name key every s t u v blocks) → IfErr res (HaltsCopy name key s t u v)
          → IfOk res (λ blocks. IsTextPut blocks r.old.got r.new.got r.old.sink_faults r.new.sink_faults r.ending)
          → IfErr res (λ f. (r.ending ≡ fault_status shapes.first f) × (r.new.got ≡ r.old.got) × (r.new.sink_faults ≡ r.old.sink_faults))
          → r.old.sink_faults ≤ r.new.sink_faults → r.old.moment ≤ mid → mid ≤ r.new.moment → IsStamped mid r.new.moment r.old.got r.new.got → CopiesRoot tells name shapes key every r
      by_result (Ok blocks) mid copied halted put unput sink first later stamped = told blocks mid copied put sink first later stamped
      by_result (Err f) mid copied halted put unput sink first later stamped = halts f halted unput.0 unput.1 unput.2
