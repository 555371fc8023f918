use Rattle.std.proofs.Common.{◌≡◌, ◌∙◌, ap, sym, subst, length, map, take, drop, ◌++◌, ◌<◌, ℕ, List, [], ◌*◌, Option, Some, None, Err, true}
use Rattle.std.proofs.lemmas.List.{length-map}
use Rattle.std.specs.Prelude.{is_ok, vec_capacity, vec_len}
use Rattle.hs_cluster.proofs.DiskLemmas.{since_of}
use Rattle.hs_cluster.specs.Disks.{DiskSeen, seen_as, stands_of}
use Rattle.hs_cluster.specs.Opens.{Opens}
use Rattle.hs_desk.specs.declared.fault.CoreFault.{CoreFault}
use Rattle.hs_fold.specs.Shards.Setting.{Setting}
use Rattle.hs_model.specs.declared.command.Command.{Command}
use Rattle.hs_moments.specs.Moments.{Since}
use Rattle.hs_taking.specs.Shares.{Span}
use Rattle.hs_run.specs.Machine.{IsOfCluster}
use Rattle.hs_run.specs.Stopping.{of_cluster, status_of}
use Rattle.hs_run.proofs.CaseLemmas.{on_fine}
use Rattle.hs_asker.specs.Asked.{core_of}
use Rattle.hs_asker.specs.Silent.{silent, silent_run}
use Rattle.hs_asker.proofs.ClosedLemmas.{closed_run, open_fault}
use Rattle.hs_asker.proofs.OpenedLemmas.{asker_as, open_asker, shut_asker, written_back}
use Rattle.hs_asker.proofs.asker.ClusterAsker.open.Goals.{in-Err-done, in-Ok-done}
use Rattle.hs_asker.proofs.asker.ClusterAsker.open.Goals as goal

pub returns-in-Err-clause-closed : goal.returns-in-Err-clause-closed
returns-in-Err-clause-closed g c =
    let f : g.row.D.Denot → DiskSeen = λ disk. seen_as (g.D.Disk.size disk) (g.D.Disk.stands disk) (g.D.Disk.faults disk) in
    let set : Setting = record { name = g.A.Addresser.name c.args.naming.now; limits = c.args.limits; shape = c.args.shape } in
    let slice : List g.row.D.Denot = c.as_mut_slice.result.now in
    let left : List g.row.D.Denot = c.open-opened.new.disks in
    let all : slice ≡ c.args.disks.items = c.as_mut_slice.ensures.value in
    let same : length left ≡ length slice = c.open-opened.ensures.count in
    let back : take c.args.disks.len (left ++ drop (length left) c.args.disks.items) ≡ left = written_back c.args.disks.len left c.args.disks.items (same ∙ ap length all) (sym (ap length all) ∙ c.as_mut_slice.ensures.len) in
    let span : Span = record { before = c.args.watch; now = c.open-opened.new.watch; old = map f slice; new = map f left } in
    let entry : g.H.Handed.entry ≡ record { set = set; moment = span.before; disks = span.old } = c.requires.handed ∙ ap (λ (ds : List g.row.D.Denot). record { set = set; moment = c.args.watch; disks = map f ds }) (sym all) in
    subst (λ (ds : List g.row.D.Denot). (commands : ℕ → Option Command) × IsOfCluster g.D.Disk.tells (record { set = g.H.Handed.entry.set; commands = commands })
    (silent_run (status_of (Err (of_cluster c.in-Err.fault)) 0) 0 [] [] [] (silent g.H.Handed.entry.moment g.H.Handed.entry.disks) (silent c.open-opened.new.watch (map f ds)))) (sym back)
    (closed_run g.D.Disk.tells g.H.Handed.entry set span c.in-Err.fault entry c.in-Err.ensures.closed c.open-opened.ensures.ticks c.open-opened.ensures.counted (λ told. since_of f left (g.met.D.Disk.since told)) c.requires.shape
    (length-map slice f ∙ ap length all ∙ c.requires.count) (length-map left f ∙ same ∙ sym (length-map slice f)) c.in-Err.ensures.unopened c.in-Err.ensures.shards c.in-Err.ensures.spares
    (λ peer low. c.in-Err.ensures.headed peer (subst (λ n. peer < n) (length-map slice f) low)))

pub returns-in-Err-clause-only : goal.returns-in-Err-clause-only
returns-in-Err-clause-only g c = open_fault _ _ _ _ _ c.in-Err.ensures.closed

pub invariant_of-result : goal.invariant_of-result
invariant_of-result g c =
    let f : g.row.D.Denot → DiskSeen = λ disk. seen_as (g.D.Disk.size disk) (g.D.Disk.stands disk) (g.D.Disk.faults disk) in
    let set : Setting = record { name = g.A.Addresser.name c.args.naming.now; limits = c.args.limits; shape = c.args.shape } in
    let slice : List g.row.D.Denot = c.as_mut_slice.result.now in
    let left : List g.row.D.Denot = c.open-opened.new.disks in
    let all : slice ≡ c.args.disks.items = c.as_mut_slice.ensures.value in
    let same : length left ≡ length slice = c.open-opened.ensures.count in
    let back : take c.args.disks.len (left ++ drop (length left) c.args.disks.items) ≡ left = written_back c.args.disks.len left c.args.disks.items (same ∙ ap length all) (sym (ap length all) ∙ c.as_mut_slice.ensures.len) in
    let span : Span = record { before = c.args.watch; now = c.open-opened.new.watch; old = map f slice; new = map f left } in
    let entry : g.H.Handed.entry ≡ record { set = set; moment = span.before; disks = span.old } = c.requires.handed ∙ ap (λ (ds : List g.row.D.Denot). record { set = set; moment = c.args.watch; disks = map f ds }) (sym all) in
    let running = c.in-Ok.opened.cluster in
    let since : g.D.Disk.tells → Since (stands_of span.new) = λ told. since_of f left (g.met.D.Disk.since told) in
    let count : length span.old ≡ c.args.shape.shards * c.args.shape.copies = length-map slice f ∙ ap length all ∙ c.requires.count in
    let kept : length span.new ≡ length span.old = length-map left f ∙ same ∙ sym (length-map slice f) in
    elim c.match-done.branch [
      | in-Err-done w ↦
          let end : c.match-done.ended ≡ Some (core_of w.in-Err-done.fault) = w.ended-is ∙ ap (λ (x : CoreFault). Some x) w.core_fault.ensures in
          let none : map (λ said. said.value) c.match-done.said.items ≡ [] = ap (λ v. map (λ said. said.value) v.items) w.said-is ∙ ap (λ xs. map (λ said. said.value) xs) c.new-said.ensures.items in (
            λ is. absurd (not_none (core_of w.in-Err-done.fault) (sym end ∙ is)),
            asker_as g.D.Disk.tells set.name g.H.Handed.entry (record { set = set; moment = span.before; disks = span.old }) (map (λ said. said.value) c.match-done.said.items) span.now running span.new _ c.match-done.ended (Some (core_of w.in-Err-done.fault))
                entry none (ap (λ ds. map f ds) back) end
                (shut_asker g.D.Disk.tells set span running since c.requires.shape count kept w.in-Err-done.fault (subst (λ d. Opens g.D.Disk.tells set span running d) w.in-Err-done.is c.in-Ok.ensures.opens)),
          )
      | in-Ok-done w ↦
          let fine : is_ok c.in-Ok.opened.done ≡ true = ap (λ r. is_ok r) w.in-Ok-done.is in
          let none : map (λ said. said.value) c.match-done.said.items ≡ [] = ap (λ v. map (λ said. said.value) v.items) w.said-is ∙ ap (λ xs. map (λ said. said.value) xs) w.first_fault-ended.ensures.items in (
            λ is. subst (λ v. vec_len v < vec_capacity v) (sym w.said-is) (w.first_fault-ended.ensures.room (sym w.ended-is ∙ is)),
            asker_as g.D.Disk.tells set.name g.H.Handed.entry (record { set = set; moment = span.before; disks = span.old }) (map (λ said. said.value) c.match-done.said.items) span.now running span.new _ c.match-done.ended w.first_fault-ended.result
                entry none (ap (λ ds. map f ds) back) w.ended-is
                (open_asker g.D.Disk.tells set span running since c.requires.shape count kept c.in-Ok.opened.done c.in-Ok.ensures.opens fine c.in-Ok.ensures.shape (on_fine _ c.in-Ok.opened.done fine c.in-Ok.ensures.ready)
                w.first_fault-ended.result w.first_fault-ended.ensures.lines w.first_fault-ended.ensures.only),
          )
    ]
  where
    not_none : (x : CoreFault) → Some x ≡ None → ⊥
    not_none x e = cc
