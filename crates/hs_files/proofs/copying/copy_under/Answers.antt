use Rattle.std.proofs.Common.{◌≡◌, ◌∙◌, ap, sym, subst, refl, ℕ, ◌≤◌, ◌++◌, List, [], Option, Err, drop, length, map, take, arith}
use Rattle.std.proofs.Math.Nat.{le-max_left, le-max_right}
use Rattle.std.proofs.lemmas.List.{length-map}
use Rattle.std.specs.Prelude.{max}
use Rattle.hs_asker.specs.Going.{AtEntry}
use Rattle.hs_asker.specs.Shows.{shows_of}
use Rattle.hs_cluster.specs.Disks.{DiskSeen, seen_as}
use Rattle.hs_limits.specs.declared.address.Address.{Address}
use Rattle.hs_model.specs.declared.command.Command.{Command}
use Rattle.hs_ports.specs.Disk.{Standing}
use Rattle.hs_ports.specs.Objects.{Objects, handed}
use Rattle.hs_promise.specs.Run.{Ran, ran_of}
use Rattle.hs_promise.specs.declared.outcome.Outcome.{Outcome}
use Rattle.hs_run.specs.Machine.{IsOfCluster}
use Rattle.hs_run.specs.Puts.{IsStamped}
use Rattle.hs_run.specs.Stopping.{of_cluster, status_of}
use Rattle.hs_files.proofs.ClientLemmas.{IsToldAs, asks_of, closed_ran}
use Rattle.hs_files.proofs.CopyLemmas.{by_result, first_unopened, second_unopened, unbegun}
use Rattle.hs_files.proofs.HaltLemmas.{copied_begun}
use Rattle.hs_files.proofs.IdleLemmas.{idle_first}
use Rattle.hs_promise.specs.declared.status.Status.TheVariants as status
use Rattle.hs_files.proofs.PartLemmas.{first_beneath, in_first_of, second_beneath, second_ran, second_still}
use Rattle.hs_files.proofs.TwoLemmas.{taken_length}
use Rattle.hs_files.specs.Client.{AsksAsClient, beneath, client_script}
use Rattle.hs_files.specs.Copied.{CopiesRoot, Shapes, in_first, in_second, peers_of}
use Rattle.hs_files.proofs.copying.copy_under.Goals as goal

-- no session is open before the first operation of either
pub copy_by-copied-requires-clause-idle : goal.copy_by-copied-requires-clause-idle
copy_by-copied-requires-clause-idle g c = idle_first g.D.Disk.tells (g.A.Addresser.name c.args.naming.now) c.args.shape g.H.Handed.entry (ap (λ (e : AtEntry). e.set) c.requires.entry) c.in-Ok-opened.asker c.in-Ok-opened.ensures.said

pub copy_by-copied-requires-clause-open : goal.copy_by-copied-requires-clause-open
copy_by-copied-requires-clause-open g c = idle_first g.D.Disk.tells (g.A.Addresser.name c.args.naming.now) c.args.second g.G.Handed.entry (ap (λ (e : AtEntry). e.set) c.requires.behind) c.in-Ok-opened-2.asker c.in-Ok-opened-2.ensures.said

-- memory was wanting before a disk was taken
pub returns-in_default-clause-copies : goal.returns-in_default-clause-copies
returns-in_default-clause-copies g c = λ source.
    let h : g.row.D.Denot → Standing × ℕ = λ disk. (g.D.Disk.stands disk, g.D.Disk.faults disk) in
    let sink : Option (List (ℕ × ℕ)) × ℕ = (g.K.Sink.got c.args.sink.now, g.K.Sink.faults c.args.sink.now) in
    unbegun _ _ _ _ _ _ (record { kept = c.closed.ensures.kept; stored = c.closed.ensures.stored }) (record {
      ending = c.closed.ensures.status;
      unanswered = record { journal = c.closed.ensures.journal; refused = c.closed.ensures.refused; course = c.closed.ensures.course; line = c.closed.ensures.line };
      same = ap (λ (ds : List g.row.D.Denot). handed c.args.watch.now (map h ds) sink source) c.in_default.ensures.same;
    })

-- the second store is opened with the others
pub open-opened-requires-2-clause-handed : goal.open-opened-requires-2-clause-handed
open-opened-requires-2-clause-handed g c =
    let f : g.row.D.Denot → DiskSeen = λ disk. seen_as (g.D.Disk.size disk) (g.D.Disk.stands disk) (g.D.Disk.faults disk) in
    let xs : List g.row.D.Denot = c.args.disks.now.items in
    let seconds : c.in-Ok.field-0.second.items ≡ drop (peers_of c.args.shape) xs = c.in-Ok.ensures.second ∙ ap (λ (k : ℕ). drop k xs) (c.from.ensures ∙ c.peers_of.ensures.value) in
    c.requires.behind ∙ (λ i. record {
      set = record { name = g.A.Addresser.name c.args.naming.now; limits = sym c.greatest-2.ensures i; shape = c.args.second };
      moment = sym c.twin-2.ensures.value i;
      disks = map f (sym seconds i);
    })

-- no core of the first store was opened
pub returns-in-Err-clause-copies : goal.returns-in-Err-clause-copies
returns-in-Err-clause-copies g c = λ source.
    let tells : Type 0 = g.D.Disk.tells in
    let name : List ℕ → Address = g.A.Addresser.name c.args.naming.now in
    let f : g.row.D.Denot → DiskSeen = λ disk. seen_as (g.D.Disk.size disk) (g.D.Disk.stands disk) (g.D.Disk.faults disk) in
    let h : g.row.D.Denot → Standing × ℕ = λ disk. (g.D.Disk.stands disk, g.D.Disk.faults disk) in
    let xs : List g.row.D.Denot = c.args.disks.now.items in
    let n : ℕ = peers_of c.args.shape in
    let shapes : Shapes = record { first = c.args.shape; second = c.args.second } in
    let counted : c.from.result ≡ n = c.from.ensures ∙ c.peers_of.ensures.value in
    let firsts : c.in-Ok.one.items ≡ take n xs = ap (λ v. v.items) (sym c.in-Ok.one-is) ∙ c.in-Ok.ensures.first ∙ ap (λ (k : ℕ). take k xs) counted in
    let seconds : c.in-Ok.two.items ≡ drop n xs = ap (λ v. v.items) (sym c.in-Ok.two-is) ∙ c.in-Ok.ensures.second ∙ ap (λ (k : ℕ). drop k xs) counted in
    let enough : n ≤ length xs = let all = c.requires.count in let long = c.args.disks.now.ok.0 in omega (arith, all, long) in
    let before : ℕ = c.args.watch.now in
    let sink : Option (List (ℕ × ℕ)) × ℕ = (g.K.Sink.got c.args.sink.now, g.K.Sink.faults c.args.sink.now) in
    let o : Outcome = c.first_unopened.result in
    let left = c.in-Err.left in
    let ys : List g.row.D.Denot = left.disks.items in
    let zs : List g.row.D.Denot = c.in-Ok.field-0.second.items in
    let now : ℕ = max before left.watch in
    let told : IsToldAs o 0 [] [] [] = record {
      line = c.first_unopened.ensures.line;
      journal = c.first_unopened.ensures.journal;
      kept = c.first_unopened.ensures.kept;
      stored = c.first_unopened.ensures.stored;
      refused = c.first_unopened.ensures.refused;
      course = c.first_unopened.ensures.course;
    } in
    let front : length ys ≡ n = c.in-Err.ensures.count ∙ ap (λ (ds : List g.row.D.Denot). length ds) (c.in-Ok.ensures.first ∙ ap (λ (k : ℕ). take k xs) counted) ∙ taken_length n xs enough in
    let r : List g.row.D.Denot → ℕ → Ran = λ ds moment. ran_of o (handed before (map h xs) sink source) (handed moment (map h ds) sink source) in
    let ran : (commands : ℕ → Option Command) × IsOfCluster tells (client_script name c.args.shape commands) (beneath (ran_of o (handed before (map h (take n xs)) sink source) (handed left.watch (map h ys) sink source)) left.watch (status_of (Err (of_cluster left.fault)) 0)) =
    closed_ran f h (λ x. refl) (λ x. refl) tells name c.args.shape g.H.Handed.entry before (take n xs) c.requires.entry o sink sink source source (status_of (Err (of_cluster left.fault)) 0) left.watch ys c.in-Err.ensures.closed told in
    let copies : CopiesRoot tells name shapes c.args.key.now c.args.every (r (ys ++ zs) now) =
    first_unopened tells name shapes c.args.key.now c.args.every (r (ys ++ zs) now) left.fault c.in-Err.ensures.only c.first_unopened.ensures.status (record { kept = told.kept; stored = told.stored })
    (record { journal = told.journal; refused = told.refused; course = told.course; line = told.line }) left.watch (le-max_right before left.watch)
    (ran.0, subst (λ (b : Ran). IsOfCluster tells (client_script name c.args.shape ran.0) b) (first_beneath h c.args.shape sink sink source source before now xs ys zs front o left.watch (status_of (Err (of_cluster left.fault)) 0) o.status) ran.1)
    (second_still h c.args.shape sink sink source source before now xs ys zs front (c.in-Ok.ensures.second ∙ ap (λ (k : ℕ). drop k xs) counted) refl refl) (refl, refl) refl refl in
    subst (λ (moment : ℕ). CopiesRoot tells name shapes c.args.key.now c.args.every (r c.first_unopened.new.disks.items moment)) (sym c.first_unopened.ensures.watch)
    (subst (λ (ds : List g.row.D.Denot). CopiesRoot tells name shapes c.args.key.now c.args.every (r ds now)) (sym c.first_unopened.ensures.disks) copies)

-- no core of the second store was opened
pub returns-in-Err-opened-clause-copies : goal.returns-in-Err-opened-clause-copies
returns-in-Err-opened-clause-copies g c = λ source.
    let tells : Type 0 = g.D.Disk.tells in
    let name : List ℕ → Address = g.A.Addresser.name c.args.naming.now in
    let f : g.row.D.Denot → DiskSeen = λ disk. seen_as (g.D.Disk.size disk) (g.D.Disk.stands disk) (g.D.Disk.faults disk) in
    let h : g.row.D.Denot → Standing × ℕ = λ disk. (g.D.Disk.stands disk, g.D.Disk.faults disk) in
    let xs : List g.row.D.Denot = c.args.disks.now.items in
    let n : ℕ = peers_of c.args.shape in
    let shapes : Shapes = record { first = c.args.shape; second = c.args.second } in
    let counted : c.from.result ≡ n = c.from.ensures ∙ c.peers_of.ensures.value in
    let firsts : c.in-Ok.one.items ≡ take n xs = ap (λ v. v.items) (sym c.in-Ok.one-is) ∙ c.in-Ok.ensures.first ∙ ap (λ (k : ℕ). take k xs) counted in
    let seconds : c.in-Ok.two.items ≡ drop n xs = ap (λ v. v.items) (sym c.in-Ok.two-is) ∙ c.in-Ok.ensures.second ∙ ap (λ (k : ℕ). drop k xs) counted in
    let enough : n ≤ length xs = let all = c.requires.count in let long = c.args.disks.now.ok.0 in omega (arith, all, long) in
    let before : ℕ = c.args.watch.now in
    let sink : Option (List (ℕ × ℕ)) × ℕ = (g.K.Sink.got c.args.sink.now, g.K.Sink.faults c.args.sink.now) in
    let o : Outcome = c.second_unopened.result in
    let left = c.in-Err-opened.left in
    let end = c.into_told.result in
    let ys : List g.row.D.Denot = end.disks.items in
    let zs : List g.row.D.Denot = left.disks.items in
    let now : ℕ = max (max before end.watch) left.watch in
    let told : IsToldAs o 0 [] [] [] = record {
      line = c.second_unopened.ensures.line;
      journal = c.second_unopened.ensures.journal;
      kept = c.second_unopened.ensures.kept;
      stored = c.second_unopened.ensures.stored;
      refused = c.second_unopened.ensures.refused;
      course = c.second_unopened.ensures.course;
    } in
    let p : Outcome = record { status = status.Done; journal = end.journal; kept = []; stored = []; refused = end.refused; course = end.course; line = end.line } in
    let entry = g.H.Handed.entry in
    let front : length ys ≡ n = c.into_told.ensures.count ∙ ap (λ (e : AtEntry). length e.disks) c.requires.entry ∙ length-map (take n xs) f ∙ taken_length n xs enough in
    let r : List g.row.D.Denot → ℕ → Ran = λ ds moment. ran_of o (handed before (map h xs) sink source) (handed moment (map h ds) sink source) in
    let one : Ran = ran_of p (handed before (map h (take n xs)) sink source) (handed now (map h ys) sink source) in
    let start = shows_of tells entry c.in-Ok-opened.asker in
    let asks : (a : AsksAsClient tells name c.args.shape one entry start start) × (a.until ≡ end.watch) =
    asks_of f h (λ x. refl) (λ x. refl) tells name c.args.shape entry before (take n xs) c.requires.entry p sink sink source source c.in-Ok-opened.asker c.in-Ok-opened.asker end.ended end.line end.journal.entries end.refused end.course end.watch now ys
    c.in-Ok-opened.ensures.said c.into_told.ensures.ended c.into_told.ensures.journal (let mid = le-max_right before end.watch in let all = le-max_left (max before end.watch) left.watch in omega (arith, mid, all)) c.into_told.ensures.lines c.into_told.ensures.askers c.into_told.ensures.ran
    (record { line = refl; journal = refl; kept = refl; stored = refl; refused = refl; course = refl }) in
    let ran : (commands : ℕ → Option Command) × IsOfCluster tells (client_script name c.args.second commands) (beneath (ran_of o (handed before (map h (drop n xs)) sink source) (handed left.watch (map h zs) sink source)) left.watch (status_of (Err (of_cluster left.fault)) 0)) =
    closed_ran f h (λ x. refl) (λ x. refl) tells name c.args.second g.G.Handed.entry before (drop n xs) c.requires.behind o sink sink source source (status_of (Err (of_cluster left.fault)) 0) left.watch zs c.in-Err-opened.ensures.closed told in
    let copies : CopiesRoot tells name shapes c.args.key.now c.args.every (r (ys ++ zs) now) =
    second_unopened tells name shapes c.args.key.now c.args.every (r (ys ++ zs) now) one (in_first_of h c.args.shape sink sink source source before now xs ys zs front o p) entry start start asks.0 (record { kept = told.kept; stored = told.stored }) (refl, refl)
    refl left.fault c.in-Err-opened.ensures.only c.second_unopened.ensures.status (record { journal = told.journal; refused = told.refused; course = told.course; line = told.line }) left.watch (le-max_right (max before end.watch) left.watch)
    (ran.0, subst (λ (b : Ran). IsOfCluster tells (client_script name c.args.second ran.0) b) (second_beneath h c.args.shape sink sink source source before now xs ys zs front o left.watch (status_of (Err (of_cluster left.fault)) 0) (status_of (Err (of_cluster left.fault)) 0)) ran.1)
    refl refl in
    subst (λ (moment : ℕ). CopiesRoot tells name shapes c.args.key.now c.args.every (r c.second_unopened.new.disks.items moment)) (sym c.second_unopened.ensures.watch)
    (subst (λ (ds : List g.row.D.Denot). CopiesRoot tells name shapes c.args.key.now c.args.every (r ds now)) (sym c.second_unopened.ensures.disks) copies)

-- both were, and asked
pub returns-clause-copies : goal.returns-clause-copies
returns-clause-copies g c = λ source.
    let tells : Type 0 = g.D.Disk.tells in
    let name : List ℕ → Address = g.A.Addresser.name c.args.naming.now in
    let f : g.row.D.Denot → DiskSeen = λ disk. seen_as (g.D.Disk.size disk) (g.D.Disk.stands disk) (g.D.Disk.faults disk) in
    let h : g.row.D.Denot → Standing × ℕ = λ disk. (g.D.Disk.stands disk, g.D.Disk.faults disk) in
    let xs : List g.row.D.Denot = c.args.disks.now.items in
    let n : ℕ = peers_of c.args.shape in
    let shapes : Shapes = record { first = c.args.shape; second = c.args.second } in
    let counted : c.from.result ≡ n = c.from.ensures ∙ c.peers_of.ensures.value in
    let firsts : c.in-Ok.one.items ≡ take n xs = ap (λ v. v.items) (sym c.in-Ok.one-is) ∙ c.in-Ok.ensures.first ∙ ap (λ (k : ℕ). take k xs) counted in
    let seconds : c.in-Ok.two.items ≡ drop n xs = ap (λ v. v.items) (sym c.in-Ok.two-is) ∙ c.in-Ok.ensures.second ∙ ap (λ (k : ℕ). drop k xs) counted in
    let enough : n ≤ length xs = let all = c.requires.count in let long = c.args.disks.now.ok.0 in omega (arith, all, long) in
    let before : ℕ = c.args.watch.now in
    let put = c.put_copied-status in
    let was : Option (List (ℕ × ℕ)) × ℕ = (g.K.Sink.got c.args.sink.now, g.K.Sink.faults c.args.sink.now) in
    let sink : Option (List (ℕ × ℕ)) × ℕ = (g.K.Sink.got put.new.sink, g.K.Sink.faults put.new.sink) in
    let out = c.both_told-outcome.result in
    let o : Outcome = record out { status = put.result } in
    let end = c.into_told-2.result in
    let end' = c.into_told-3.result in
    let ys : List g.row.D.Denot = end.disks.items in
    let zs : List g.row.D.Denot = end'.disks.items in
    let now : ℕ = put.new.watch in
    let mid : ℕ = c.both_told-outcome.new.watch in
    let reached : mid ≡ max (max before end.watch) end'.watch = c.both_told-outcome.ensures.watch in
    let first_done : end.watch ≤ mid = let a = le-max_right before end.watch in let b = le-max_left (max before end.watch) end'.watch in omega (arith, a, b, reached) in
    let second_done : end'.watch ≤ mid = let b = le-max_right (max before end.watch) end'.watch in omega (arith, b, reached) in
    let begun : before ≤ mid = let a = le-max_left before end.watch in let b = le-max_left (max before end.watch) end'.watch in omega (arith, a, b, reached) in
    let later : mid ≤ now = put.ensures.ticks in
    let told : IsToldAs o end'.line end'.journal.entries end'.refused end'.course = record {
      line = c.both_told-outcome.ensures.line;
      journal = c.both_told-outcome.ensures.journal;
      kept = c.both_told-outcome.ensures.kept;
      stored = c.both_told-outcome.ensures.stored;
      refused = c.both_told-outcome.ensures.refused;
      course = c.both_told-outcome.ensures.course;
    } in
    let p : Outcome = record { status = status.Done; journal = end.journal; kept = []; stored = []; refused = end.refused; course = end.course; line = end.line } in
    let entry = g.H.Handed.entry in
    let entry' = g.G.Handed.entry in
    let front : length ys ≡ n = c.into_told-2.ensures.count ∙ ap (λ (e : AtEntry). length e.disks) c.requires.entry ∙ length-map (take n xs) f ∙ taken_length n xs enough in
    let r : List g.row.D.Denot → Ran = λ ds. ran_of o (handed before (map h xs) was source) (handed now (map h ds) sink source) in
    let one : Ran = ran_of p (handed before (map h (take n xs)) was source) (handed now (map h ys) sink source) in
    let s = shows_of tells entry c.in-Ok-opened.asker in
    let t = shows_of tells entry c.copy_by-copied.new.from in
    let u = shows_of tells entry' c.in-Ok-opened-2.asker in
    let v = shows_of tells entry' c.copy_by-copied.new.into in
    let asks : (a : AsksAsClient tells name c.args.shape one entry s t) × (a.until ≡ end.watch) =
    asks_of f h (λ x. refl) (λ x. refl) tells name c.args.shape entry before (take n xs) c.requires.entry p was sink source source c.in-Ok-opened.asker c.copy_by-copied.new.from end.ended end.line end.journal.entries end.refused end.course end.watch now ys
    c.in-Ok-opened.ensures.said c.into_told-2.ensures.ended c.into_told-2.ensures.journal (omega (arith, first_done, later)) c.into_told-2.ensures.lines c.into_told-2.ensures.askers c.into_told-2.ensures.ran
    (record { line = refl; journal = refl; kept = refl; stored = refl; refused = refl; course = refl }) in
    let asks' : (a : AsksAsClient tells name c.args.second (ran_of o (handed before (map h (drop n xs)) was source) (handed now (map h zs) sink source)) entry' u v) × (a.until ≡ end'.watch) =
    asks_of f h (λ x. refl) (λ x. refl) tells name c.args.second entry' before (drop n xs) c.requires.behind o was sink source source c.in-Ok-opened-2.asker c.copy_by-copied.new.into end'.ended end'.line end'.journal.entries end'.refused end'.course end'.watch now zs
    c.in-Ok-opened-2.ensures.said c.into_told-3.ensures.ended c.into_told-3.ensures.journal (omega (arith, second_done, later)) c.into_told-3.ensures.lines c.into_told-3.ensures.askers c.into_told-3.ensures.ran told in
    let copies : CopiesRoot tells name shapes c.args.key.now c.args.every (r (ys ++ zs)) =
    by_result tells name shapes c.args.key.now c.args.every (r (ys ++ zs)) one (in_first_of h c.args.shape was sink source source before now xs ys zs front o p) entry s t asks.0 (record { kept = told.kept; stored = told.stored }) (refl, refl) entry' u v
    (subst (λ (x : Ran). AsksAsClient tells name c.args.second x entry' u v) (second_ran h c.args.shape was sink source source before now xs ys zs front o) asks'.0)
    c.copy_by-copied.result mid c.copy_by-copied.ensures.copied c.copy_by-copied.ensures.halts put.ensures.put put.ensures.unput put.ensures.counted begun later put.ensures.stamped in
    subst (λ (ds : List g.row.D.Denot). CopiesRoot tells name shapes c.args.key.now c.args.every (r ds)) (sym c.both_told-outcome.ensures.disks) copies

-- a status is never that of faulty words
pub returns-clause-begun : goal.returns-clause-begun
returns-clause-begun g c usage = copied_begun c.args.shape c.copy_by-copied.result c.put_copied-status.result _ _ _ _ c.put_copied-status.ensures.put c.put_copied-status.ensures.unput usage
