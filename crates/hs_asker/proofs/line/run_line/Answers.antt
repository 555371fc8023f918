use Rattle.std.proofs.Common.{◌≡◌, ◌∙◌, ap, sym, subst, refl, arith, length, map, take, drop, ◌+◌, ◌++◌, List}
use Rattle.std.proofs.lemmas.List.{length-map}
use Rattle.std.specs.Prelude.{OnOk}
use Rattle.hs_cluster.proofs.DiskLemmas.{since_of}
use Rattle.hs_cluster.specs.Disks.{DiskSeen, seen_as}
use Rattle.hs_run.specs.Between.{IsReadyAt}
use Rattle.hs_asker.specs.Going.{RunsAlone, point_of}
use Rattle.hs_asker.proofs.OpenedLemmas.{written_back}
use Rattle.hs_asker.proofs.ReadyLemmas.{ready_behind}
use Rattle.hs_asker.proofs.line.run_line.Goals as goal

pub run-requires : goal.run-requires
run-requires g c =
    let f : g.row.D.Denot → DiskSeen = λ disk. seen_as (g.D.Disk.size disk) (g.D.Disk.stands disk) (g.D.Disk.faults disk) in
    let slice : List g.row.D.Denot = c.as_mut_slice.result.now in
    let all : slice ≡ c.args.disks.now.items = c.as_mut_slice.ensures.value in
    let h = subst (λ (ds : List g.row.D.Denot). IsReadyAt g.D.Disk.tells (point_of c.args.watch.now c.args.cluster.now (map f ds) c.args.line.now)) (sym all) c.requires.ready in
    let last = h.last in
    record {
      line = omega (arith, last);
      moment = h.moment;
      count = sym (length-map slice f) ∙ h.count;
      ready = h.ready;
    }

pub returns : goal.returns
returns g c =
    let f : g.row.D.Denot → DiskSeen = λ disk. seen_as (g.D.Disk.size disk) (g.D.Disk.stands disk) (g.D.Disk.faults disk) in
    let slice : List g.row.D.Denot = c.as_mut_slice.result.now in
    let left : List g.row.D.Denot = c.run.new.disks in
    let all : slice ≡ c.args.disks.now.items = c.as_mut_slice.ensures.value in
    let same : length left ≡ length slice = c.run.ensures.count in
    let back : take c.args.disks.now.len (left ++ drop (length left) c.args.disks.now.items) ≡ left = written_back c.args.disks.now.len left c.args.disks.now.items (same ∙ ap length all) (sym (ap length all) ∙ c.as_mut_slice.ensures.len) in
    let h : IsReadyAt g.D.Disk.tells (point_of c.args.watch.now c.args.cluster.now (map f slice) c.args.line.now) =
    subst (λ (ds : List g.row.D.Denot). IsReadyAt g.D.Disk.tells (point_of c.args.watch.now c.args.cluster.now (map f ds) c.args.line.now)) (sym all) c.requires.ready in
    let alone : RunsAlone g.D.Disk.tells (g.A.Addresser.name c.args.naming.now) c.args.command (point_of c.args.watch.now c.args.cluster.now (map f slice) c.args.line.now) (point_of c.run.new.watch c.run.new.self (map f left) (c.args.line.now + 1)) c.run.result = record {
      line = refl;
      runs = c.run.ensures.runs h.going c.requires.served;
      since = λ told. since_of f left (g.met.D.Disk.since told);
    } in
    let ready : OnOk c.run.result (IsReadyAt g.D.Disk.tells (point_of c.run.new.watch c.run.new.self (map f left) (c.args.line.now + 1))) =
    ready_behind g.D.Disk.tells (g.A.Addresser.name c.args.naming.now) c.args.command c.args.watch.now c.run.new.watch c.args.cluster.now c.run.new.self (map f slice) (map f left) c.args.line.now (c.args.line.now + 1) c.run.result c.requires.served alone
    h c.run.ensures.ready c.run.ensures.moment c.run.ensures.shape (length-map left f ∙ same ∙ sym (length-map slice f)) in
    record {
      runs = subst (λ (ds : List g.row.D.Denot). RunsAlone g.D.Disk.tells (g.A.Addresser.name c.args.naming.now) c.args.command (point_of c.args.watch.now c.args.cluster.now (map f ds) c.args.line.now)
          (point_of c.run.new.watch c.run.new.self (map f (take c.args.disks.now.len (left ++ drop (length left) c.args.disks.now.items))) (c.args.line.now + 1)) c.run.result) all
          (subst (λ (ds : List g.row.D.Denot). RunsAlone g.D.Disk.tells (g.A.Addresser.name c.args.naming.now) c.args.command (point_of c.args.watch.now c.args.cluster.now (map f slice) c.args.line.now) (point_of c.run.new.watch c.run.new.self (map f ds) (c.args.line.now + 1)) c.run.result) (sym back) alone);
      ready = subst (λ (ds : List g.row.D.Denot). OnOk c.run.result (IsReadyAt g.D.Disk.tells (point_of c.run.new.watch c.run.new.self (map f ds) (c.args.line.now + 1)))) (sym back) ready;
      count = ap length back ∙ same ∙ ap length all;
      line = refl;
    }
