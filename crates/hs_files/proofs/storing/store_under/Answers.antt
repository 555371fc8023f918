use Rattle.std.proofs.Common.{◌≡◌, ◌∙◌, ap, sym, subst, refl, ℕ, List, [], Option, Err, map, arith}
use Rattle.hs_asker.specs.Going.{AtEntry}
use Rattle.hs_asker.specs.Shows.{shows_of}
use Rattle.hs_cluster.specs.Disks.{DiskSeen, seen_as}
use Rattle.hs_limits.specs.declared.address.Address.{Address}
use Rattle.hs_ports.specs.Disk.{Standing}
use Rattle.hs_ports.specs.Objects.{Objects, handed}
use Rattle.hs_promise.specs.Run.{ran_of}
use Rattle.hs_run.specs.Stopping.{of_cluster, status_of}
use Rattle.hs_files.proofs.ClientLemmas.{IsToldAs, asks_of, closed_ran}
use Rattle.hs_files.proofs.IdleLemmas.{idle_first}
use Rattle.hs_files.proofs.StoreLemmas.{by_result, unopened}
use Rattle.hs_files.specs.Client.{AsksAsClient}
use Rattle.hs_files.specs.Stored.{StoresFile}
use Rattle.hs_files.proofs.storing.store_under.Goals as goal

-- no session is open before the first operation
pub store_by-stored-requires-clause-idle : goal.store_by-stored-requires-clause-idle
store_by-stored-requires-clause-idle g c = idle_first g.D.Disk.tells (g.A.Addresser.name c.args.naming.now) c.args.shape g.H.Handed.entry (ap (λ (e : AtEntry). e.set) c.requires.entry) c.in-Ok.asker c.in-Ok.ensures.said

-- no core was opened
pub returns-in-Err-clause-stores : goal.returns-in-Err-clause-stores
returns-in-Err-clause-stores g c = λ sink.
    let tells : Type 0 = g.D.Disk.tells in
    let name : List ℕ → Address = g.A.Addresser.name c.args.naming.now in
    let f : g.row.D.Denot → DiskSeen = λ disk. seen_as (g.D.Disk.size disk) (g.D.Disk.stands disk) (g.D.Disk.faults disk) in
    let h : g.row.D.Denot → Standing × ℕ = λ disk. (g.D.Disk.stands disk, g.D.Disk.faults disk) in
    let xs : List g.row.D.Denot = c.args.disks.now.items in
    let source : Option (List ℕ) × ℕ = (g.S.Source.left c.args.source.now, g.S.Source.faults c.args.source.now) in
    let o = c.unopened.result in
    let left = c.in-Err.left in
    let at : ℕ → List g.row.D.Denot → Objects = λ moment disks. handed moment (map h disks) sink source in
    let told : IsToldAs o 0 [] [] [] = record {
      line = c.unopened.ensures.line;
      journal = c.unopened.ensures.journal;
      kept = c.unopened.ensures.kept;
      stored = c.unopened.ensures.stored;
      refused = c.unopened.ensures.refused;
      course = c.unopened.ensures.course;
    } in
    let stores : StoresFile tells name c.args.shape c.args.key.now (ran_of o (at c.args.watch.now xs) (at left.watch left.disks.items)) =
    unopened tells name c.args.shape c.args.key.now (ran_of o (at c.args.watch.now xs) (at left.watch left.disks.items)) left.fault c.in-Err.ensures.only c.unopened.ensures.status
    (record { journal = told.journal; refused = told.refused; course = told.course; line = told.line })
    (closed_ran f h (λ x. refl) (λ x. refl) tells name c.args.shape g.H.Handed.entry c.args.watch.now xs c.requires.entry o sink sink source source (status_of (Err (of_cluster left.fault)) 0) left.watch left.disks.items c.in-Err.ensures.closed told)
    (refl, refl) refl refl in
    subst (λ (moment : ℕ). StoresFile tells name c.args.shape c.args.key.now (ran_of o (at c.args.watch.now xs) (at moment c.unopened.new.disks.items))) (sym c.unopened.ensures.watch)
    (subst (λ (disks : List g.row.D.Denot). StoresFile tells name c.args.shape c.args.key.now (ran_of o (at c.args.watch.now xs) (at left.watch disks))) (sym c.unopened.ensures.disks) stores)

-- one was, and asked
pub returns-clause-stores : goal.returns-clause-stores
returns-clause-stores g c = λ sink.
    let tells : Type 0 = g.D.Disk.tells in
    let name : List ℕ → Address = g.A.Addresser.name c.args.naming.now in
    let f : g.row.D.Denot → DiskSeen = λ disk. seen_as (g.D.Disk.size disk) (g.D.Disk.stands disk) (g.D.Disk.faults disk) in
    let h : g.row.D.Denot → Standing × ℕ = λ disk. (g.D.Disk.stands disk, g.D.Disk.faults disk) in
    let xs : List g.row.D.Denot = c.args.disks.now.items in
    let was : Option (List ℕ) × ℕ = (g.S.Source.left c.args.source.now, g.S.Source.faults c.args.source.now) in
    let source : Option (List ℕ) × ℕ = (g.S.Source.left c.store_by-stored.new.source, g.S.Source.faults c.store_by-stored.new.source) in
    let o = c.outcome_of.result in
    let end = c.into_told.result in
    let entry = g.H.Handed.entry in
    let old : Objects = handed c.args.watch.now (map h xs) sink was in
    let at : ℕ → List g.row.D.Denot → Objects = λ moment disks. handed moment (map h disks) sink source in
    let told : IsToldAs o end.line end.journal.entries end.refused end.course = record {
      line = c.outcome_of.ensures.line;
      journal = c.outcome_of.ensures.journal;
      kept = c.outcome_of.ensures.kept;
      stored = c.outcome_of.ensures.stored;
      refused = c.outcome_of.ensures.refused;
      course = c.outcome_of.ensures.course;
    } in
    let start = shows_of tells entry c.in-Ok.asker in
    let now = shows_of tells entry c.store_by-stored.new.asker in
    let asks : (a : AsksAsClient tells name c.args.shape (ran_of o old (at end.watch end.disks.items)) entry start now) × (a.until ≡ end.watch) =
    asks_of f h (λ x. refl) (λ x. refl) tells name c.args.shape entry c.args.watch.now xs c.requires.entry o sink sink was source c.in-Ok.asker c.store_by-stored.new.asker end.ended end.line end.journal.entries end.refused end.course end.watch end.watch end.disks.items
    c.in-Ok.ensures.said c.into_told.ensures.ended c.into_told.ensures.journal (omega arith) c.into_told.ensures.lines c.into_told.ensures.askers c.into_told.ensures.ran told in
    let stores : StoresFile tells name c.args.shape c.args.key.now (ran_of o old (at end.watch end.disks.items)) =
    by_result tells name c.args.shape c.args.key.now (ran_of o old (at end.watch end.disks.items)) entry start now asks.0 (refl, refl) c.store_by-stored.ensures.later c.store_by-stored.result
    (c.outcome_of.ensures.status ∙ c.store_status-status.ensures) c.store_by-stored.ensures.stored c.store_by-stored.ensures.halts in
    subst (λ (moment : ℕ). StoresFile tells name c.args.shape c.args.key.now (ran_of o old (at moment c.outcome_of.new.disks.items))) (sym c.outcome_of.ensures.watch)
    (subst (λ (disks : List g.row.D.Denot). StoresFile tells name c.args.shape c.args.key.now (ran_of o old (at end.watch disks))) (sym c.outcome_of.ensures.disks) stores)
