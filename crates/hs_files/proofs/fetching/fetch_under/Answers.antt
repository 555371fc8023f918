use Rattle.std.proofs.Common.{◌≡◌, ap, sym, subst, refl, ℕ, ◌≤◌, List, [], Option, Err, map}
use Rattle.hs_asker.specs.Going.{AtEntry}
use Rattle.hs_asker.specs.Shows.{shows_of}
use Rattle.hs_cluster.specs.Disks.{DiskSeen, seen_as}
use Rattle.hs_limits.specs.declared.address.Address.{Address}
use Rattle.hs_ports.specs.Disk.{Standing}
use Rattle.hs_ports.specs.Objects.{Objects, handed}
use Rattle.hs_promise.specs.Run.{ran_of}
use Rattle.hs_promise.specs.declared.outcome.Outcome.{Outcome}
use Rattle.hs_run.specs.Stopping.{of_cluster, status_of}
use Rattle.hs_files.proofs.ClientLemmas.{IsToldAs, asks_of, closed_ran}
use Rattle.hs_files.proofs.IdleLemmas.{alone_first}
use Rattle.std.specs.Prelude.{OnOk}
use Rattle.hs_run.specs.Puts.{IsStamped}
use Rattle.hs_tree.specs.Fetching.{HasFetched}
use Rattle.hs_files.proofs.FetchLemmas.{by_result, unopened}
use Rattle.hs_files.specs.Client.{AsksAsClient}
use Rattle.hs_files.specs.Fetched.{FetchesFile}
use Rattle.hs_files.specs.Put.{IsPutAs}
use Rattle.hs_files.proofs.fetching.fetch_under.Goals as goal

-- no session is open before the first operation
pub fetch_by-fetched-requires-clause-alone : goal.fetch_by-fetched-requires-clause-alone
fetch_by-fetched-requires-clause-alone g c = alone_first g.D.Disk.tells (g.A.Addresser.name c.args.naming.now) c.args.shape g.H.Handed.entry (ap (λ (e : AtEntry). e.set) c.requires.entry) c.in-Ok.asker c.in-Ok.ensures.said

-- no core was opened
pub returns-in-Err-clause-fetches : goal.returns-in-Err-clause-fetches
returns-in-Err-clause-fetches g c = λ source.
    let tells : Type 0 = g.D.Disk.tells in
    let name : List ℕ → Address = g.A.Addresser.name c.args.naming.now in
    let f : g.row.D.Denot → DiskSeen = λ disk. seen_as (g.D.Disk.size disk) (g.D.Disk.stands disk) (g.D.Disk.faults disk) in
    let h : g.row.D.Denot → Standing × ℕ = λ disk. (g.D.Disk.stands disk, g.D.Disk.faults disk) in
    let xs : List g.row.D.Denot = c.args.disks.now.items in
    let sink : Option (List (ℕ × ℕ)) × ℕ = (g.K.Sink.got c.args.sink.now, g.K.Sink.faults c.args.sink.now) in
    let o = c.unopened.result in
    let left = c.in-Err.left in
    let at : ℕ → List g.row.D.Denot → Objects = λ moment disks. handed moment (map h disks) sink source in
    let told : IsToldAs o 0 [] [] [] = record {
      line = c.unopened.ensures.line;
      journal = c.unopened.ensures.journal;
      kept = c.unopened.ensures.kept;
      stored = c.unopened.ensures.stored;
      refused = c.unopened.ensures.refused;
      course = c.unopened.ensures.course;
    } in
    let fetches : FetchesFile tells name c.args.shape c.args.key.now (ran_of o (at c.args.watch.now xs) (at left.watch left.disks.items)) =
    unopened tells name c.args.shape c.args.key.now (ran_of o (at c.args.watch.now xs) (at left.watch left.disks.items)) left.fault c.in-Err.ensures.only c.unopened.ensures.status
    (record { journal = told.journal; refused = told.refused; course = told.course; line = told.line })
    (closed_ran f h (λ x. refl) (λ x. refl) tells name c.args.shape g.H.Handed.entry c.args.watch.now xs c.requires.entry o sink sink source source (status_of (Err (of_cluster left.fault)) 0) left.watch left.disks.items c.in-Err.ensures.closed told)
    (refl, refl) refl refl in
    subst (λ (moment : ℕ). FetchesFile tells name c.args.shape c.args.key.now (ran_of o (at c.args.watch.now xs) (at moment c.unopened.new.disks.items))) (sym c.unopened.ensures.watch)
    (subst (λ (disks : List g.row.D.Denot). FetchesFile tells name c.args.shape c.args.key.now (ran_of o (at c.args.watch.now xs) (at left.watch disks))) (sym c.unopened.ensures.disks) fetches)

-- one was, and asked
pub returns-clause-fetches : goal.returns-clause-fetches
returns-clause-fetches g c = λ source.
    let tells : Type 0 = g.D.Disk.tells in
    let name : List ℕ → Address = g.A.Addresser.name c.args.naming.now in
    let f : g.row.D.Denot → DiskSeen = λ disk. seen_as (g.D.Disk.size disk) (g.D.Disk.stands disk) (g.D.Disk.faults disk) in
    let h : g.row.D.Denot → Standing × ℕ = λ disk. (g.D.Disk.stands disk, g.D.Disk.faults disk) in
    let xs : List g.row.D.Denot = c.args.disks.now.items in
    let was : Option (List (ℕ × ℕ)) × ℕ = (g.K.Sink.got c.args.sink.now, g.K.Sink.faults c.args.sink.now) in
    let put = c.put_fetched-status in
    let sink : Option (List (ℕ × ℕ)) × ℕ = (g.K.Sink.got put.new.sink, g.K.Sink.faults put.new.sink) in
    let out = c.outcome_of-outcome.result in
    let o : Outcome = record out { status = put.result } in
    let end = c.into_told.result in
    let entry = g.H.Handed.entry in
    let old : Objects = handed c.args.watch.now (map h xs) was source in
    let at : List g.row.D.Denot → Objects = λ disks. handed put.new.watch (map h disks) sink source in
    let told : IsToldAs o end.line end.journal.entries end.refused end.course = record {
      line = c.outcome_of-outcome.ensures.line;
      journal = c.outcome_of-outcome.ensures.journal;
      kept = c.outcome_of-outcome.ensures.kept;
      stored = c.outcome_of-outcome.ensures.stored;
      refused = c.outcome_of-outcome.ensures.refused;
      course = c.outcome_of-outcome.ensures.course;
    } in
    let start = shows_of tells entry c.in-Ok.asker in
    let now = shows_of tells entry c.fetch_by-fetched.new.asker in
    let watch : c.outcome_of-outcome.new.watch ≡ end.watch = c.outcome_of-outcome.ensures.watch in
    let stamped : IsStamped end.watch put.new.watch (g.K.Sink.got c.args.sink.now) (g.K.Sink.got put.new.sink) =
    subst (λ (moment : ℕ). IsStamped moment put.new.watch (g.K.Sink.got c.args.sink.now) (g.K.Sink.got put.new.sink)) watch put.ensures.stamped in
    let later : end.watch ≤ put.new.watch = subst (λ (moment : ℕ). moment ≤ put.new.watch) watch put.ensures.ticks in
    let fetched : OnOk c.fetch_by-fetched.result (HasFetched c.args.key.now start now [] c.fetch_by-fetched.new.file.items) =
    subst (λ (bytes : List ℕ). OnOk c.fetch_by-fetched.result (HasFetched c.args.key.now start now bytes c.fetch_by-fetched.new.file.items)) c.new-file.ensures.items c.fetch_by-fetched.ensures.fetched in
    let asks : (a : AsksAsClient tells name c.args.shape (ran_of o old (at end.disks.items)) entry start now) × (a.until ≡ end.watch) =
    asks_of f h (λ x. refl) (λ x. refl) tells name c.args.shape entry c.args.watch.now xs c.requires.entry o was sink source source c.in-Ok.asker c.fetch_by-fetched.new.asker end.ended end.line end.journal.entries end.refused end.course end.watch put.new.watch end.disks.items
    c.in-Ok.ensures.said c.into_told.ensures.ended c.into_told.ensures.journal later c.into_told.ensures.lines c.into_told.ensures.askers c.into_told.ensures.ran told in
    let fetches : FetchesFile tells name c.args.shape c.args.key.now (ran_of o old (at end.disks.items)) =
    by_result tells name c.args.shape c.args.key.now (ran_of o old (at end.disks.items)) entry start now asks.0 (refl, refl) c.fetch_by-fetched.result c.fetch_by-fetched.new.file.items
    fetched c.fetch_by-fetched.ensures.halts
    (subst (λ (bytes : List ℕ). OnOk c.fetch_by-fetched.result (IsPutAs bytes (g.K.Sink.got c.args.sink.now) (g.K.Sink.got put.new.sink) (g.K.Sink.faults c.args.sink.now) (g.K.Sink.faults put.new.sink) put.result)) c.as_slice.ensures.value put.ensures.put)
    put.ensures.unput put.ensures.counted
    (subst (λ (moment : ℕ). IsStamped moment put.new.watch (g.K.Sink.got c.args.sink.now) (g.K.Sink.got put.new.sink)) (sym asks.1) stamped) in
    subst (λ (disks : List g.row.D.Denot). FetchesFile tells name c.args.shape c.args.key.now (ran_of o old (at disks))) (sym c.outcome_of-outcome.ensures.disks) fetches
