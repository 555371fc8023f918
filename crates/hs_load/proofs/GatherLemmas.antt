-- What is gathered of those that worked is what they came to.
use Rattle.std.proofs.Common.{◌≡◌, ◌∙◌, ◌⊎◌, inl, inr, ap, sym, subst, ℕ, ◌+◌, ◌<◌, List, [], ◌∷◌, Option, Some, None, Result, Ok, Err, refl, arith}
use Rattle.std.specs.Prelude.{IfOk, codes, drop, length, slice_get, slice_set, ⊤}
use Rattle.std.specs.Result.{result_err}
use Rattle.hs_desk.specs.declared.slip.Slip.{Slip}
use Rattle.hs_desk.specs.declared.token.Token.{Token}
use Rattle.hs_peerlog.specs.Lists.{Keeping}
use Rattle.hs_ports.specs.declared.disk.Side.{Side}
use Rattle.hs_ports.specs.Disk.{Standing}
use Rattle.hs_script.specs.Loads.{asked_behind, deletion_behind, session_name, writer_of}
use Rattle.hs_script.specs.declared.sums.WriterSum.{WriterSum}
use Rattle.hs_taking.specs.Disks.{DiskSeen, log_at, seen_as, seen_at}
use Rattle.hs_workers.specs.Asks.{HasEnded, sum_of}
use Rattle.hs_workers.specs.Elements.{HasCome}
use Rattle.hs_workers.specs.Work.{Bench, WorkEnds, bench_of}
use Rattle.hs_workers.specs.declared.element.Deleter.{Deleter}
use Rattle.hs_workers.specs.declared.element.Element.{Element}
use Rattle.hs_workers.specs.declared.element.Element.TheVariants as element
use Rattle.hs_workers.specs.declared.element.Worker.{Worker}
use Rattle.hs_workers.specs.declared.element.Writer.{Writer}
use Rattle.hs_workers.specs.declared.fault.WorkFault.{WorkFault}
use Rattle.hs_load.specs.declared.gathering.Answered.{Answered}
use Rattle.hs_load.specs.declared.gathering.Returned.{Returned}
use Rattle.hs_load.specs.Seating.{AreAskers, AreBack, HasCameBack, IsBack, IsSeated}
use Rattle.hs_load.specs.Team.{AskerEnds, CountsFiles, HasAsked, PeerEnds, Task, bench_at, end_by, fresh_slip, fresh_token, kept_of, log_left, stored_of, without_files}
use Rattle.hs_load.proofs.ListLemmas.{get_set}

-- a slip stays that of its peer
same_peer : (tells : Type 0) (slip slip' : Slip) (a b : Bench) (r : Result ⊤ WorkFault) → WorkEnds tells slip slip' a b r → slip'.peer ≡ slip.peer
same_peer tells slip slip' a b (Ok x) ends = elim ends.1 [
  | inl rests ↦ rests.0.peer
  | inr fails ↦ fails.peer ∙ fails.grows.peer
]
same_peer tells slip slip' a b (Err why) ends = ends.grows.peer

end_is : (r : Result ⊤ WorkFault) → end_by (result_err r) ≡ r
end_is (Ok x) = refl
end_is (Err why) = refl

module _ {D : Type 0} (tells : Type 0) (size : D → Side → ℕ) (stands : D → Standing) (faults : D → ℕ) (slots : List (Option Keeping)) (disks : List DiskSeen) where
  -- a peer whose log is in use
  worked : (peer : ℕ) (log left : Keeping) (disk disk' : D) (slip slip' : Slip) (ended : Result ⊤ WorkFault) (r : Returned D)
      → log_at slots peer ≡ Some log → seen_at disks peer ≡ seen_as (size disk) (stands disk) (faults disk) → slip ≡ fresh_slip peer
      → WorkEnds tells slip slip' (bench_of size stands faults log disk) (bench_of size stands faults left disk') ended
      → r.disk ≡ disk' → r.log ≡ log_left slip' (result_err ended) left → r.stored ≡ stored_of slip' → r.stop ≡ result_err ended
      → IsBack tells size stands faults slots disks peer r
  worked peer log left disk disk' slip slip' ended r at seen fresh came is kept did stop =
      let fresh_came : WorkEnds tells (fresh_slip peer) slip' (bench_of size stands faults log disk) (bench_of size stands faults left disk') ended
      = subst (λ (s : Slip). WorkEnds tells s slip' (bench_of size stands faults log disk) (bench_of size stands faults left disk') ended) fresh came in
      let old_came : WorkEnds tells (fresh_slip peer) slip' (bench_at log (seen_at disks peer)) (bench_of size stands faults left disk') ended
      = subst (λ (d : DiskSeen). WorkEnds tells (fresh_slip peer) slip' (bench_at log d) (bench_of size stands faults left disk') ended) (sym seen) fresh_came in
      let new_came : WorkEnds tells (fresh_slip peer) slip' (bench_at log (seen_at disks peer)) (bench_of size stands faults left r.disk) ended
      = subst (λ (d : D). WorkEnds tells (fresh_slip peer) slip' (bench_at log (seen_at disks peer)) (bench_of size stands faults left d) ended) (sym is) old_came in
      let all : WorkEnds tells (fresh_slip peer) slip' (bench_at log (seen_at disks peer)) (bench_of size stands faults left r.disk) (end_by r.stop)
      = subst (λ (e : Result ⊤ WorkFault). WorkEnds tells (fresh_slip peer) slip' (bench_at log (seen_at disks peer)) (bench_of size stands faults left r.disk) e) (sym (ap end_by stop ∙ end_is ended)) new_came in
      subst (λ (o : Option Keeping). PeerEnds tells peer o (seen_at disks peer) (seen_as (size r.disk) (stands r.disk) (faults r.disk)) r.log r.stored r.stop) (sym at)
      (record {
        slip = slip';
        left = left;
        came = all;
        stored = did;
        in_use = kept ∙ ap (λ (o : Option WorkFault). log_left slip' o left) (sym stop);
      })

  -- one whose log is not
  pub laid_aside : (peer : ℕ) (disk : D) (r : Returned D) → log_at slots peer ≡ None → seen_at disks peer ≡ seen_as (size disk) (stands disk) (faults disk)
      → r.disk ≡ disk → r.log ≡ None → r.stored ≡ stored_of (fresh_slip peer) → r.stop ≡ None → IsBack tells size stands faults slots disks peer r
  laid_aside peer disk r at seen is log did stop =
      subst (λ (o : Option Keeping). PeerEnds tells peer o (seen_at disks peer) (seen_as (size r.disk) (stands r.disk) (faults r.disk)) r.log r.stored r.stop) (sym at)
      (record {
        same = ap (λ (d : D). seen_as (size d) (stands d) (faults d)) is ∙ sym seen;
        stored = did;
        in_use = log;
        calm = stop;
      })

  -- it is put at its place
  pub back_put : (xs : List (Option (Returned D))) (peer : ℕ) (r : Returned D) → AreBack tells size stands faults slots disks xs → IsBack tells size stands faults slots disks peer r
      → AreBack tells size stands faults slots disks (slice_set xs peer (Some r))
  back_put xs peer r all one = record { each = λ q s at. go q s (get_set xs peer q (Some r) (Some s) at) }
    where
      some_is : {T : Type 0} (x y : T) → Some x ≡ Some y → x ≡ y
      some_is x y e = cc

      go : (q : ℕ) (s : Returned D) → ((q ≡ peer) × (Some s ≡ Some r)) ⊎ (slice_get xs q ≡ Some (Some s)) → IsBack tells size stands faults slots disks q s
      go q s (inl same) = subst (λ (k : ℕ). IsBack tells size stands faults slots disks k s) (sym same.0) (subst (λ (t : Returned D). IsBack tells size stands faults slots disks peer t) (sym (some_is s r same.1)) one)
      go q s (inr old) = all.each q s old

  -- and another is taken away
  pub back_less : (xs : List (Option (Returned D))) (place : ℕ) → AreBack tells size stands faults slots disks xs → AreBack tells size stands faults slots disks (slice_set xs place None)
  back_less xs place all = record { each = λ q s at. go q s (get_set xs place q None (Some s) at) }
    where
      go : (q : ℕ) (s : Returned D) → ((q ≡ place) × (Some s ≡ None)) ⊎ (slice_get xs q ≡ Some (Some s)) → IsBack tells size stands faults slots disks q s
      go q s (inl same) = absurd (let e = same.1 in grind (arith, e))
      go q s (inr old) = all.each q s old

  module _ (now : ℕ) (task : Task) where
    worker_from : (w : Worker Slip D) (old : Element Slip Token D) → IsSeated tells size stands faults slots disks now task old
        → HasCome (λ seat. seat) (λ pass. pass) tells size stands faults task.name task.seed task.files old (element.Worker w)
        → (r : Returned D) → r.disk ≡ w.disk → r.log ≡ log_left w.seat (result_err w.ended) w.log → r.stored ≡ stored_of w.seat → r.stop ≡ result_err w.ended
        → IsBack tells size stands faults slots disks w.seat.peer r
    worker_from w (element.Worker a) seated came r is log did stop =
        let peer : w.seat.peer ≡ a.seat.peer = same_peer tells a.seat w.seat (bench_of size stands faults a.log a.disk) (bench_of size stands faults w.log w.disk) w.ended came.0 in
        subst (λ (k : ℕ). IsBack tells size stands faults slots disks k r) (sym peer)
        (worked a.seat.peer a.log w.log a.disk w.disk a.seat w.seat w.ended r seated.2 seated.3 seated.0 came.0 is log did stop)
    worker_from w (element.Writer a) seated came r is log did stop = absurd came
    worker_from w (element.Deleter a) seated came r is log did stop = absurd came

    -- a worker that came back
    pub worker_back : (w : Worker Slip D) (r : Returned D) (peer : ℕ) (xs : List (Option (Returned D))) → HasCameBack tells size stands faults slots disks now task (element.Worker w)
        → peer ≡ w.seat.peer → r.disk ≡ w.disk → r.log ≡ log_left w.seat (result_err w.ended) w.log → r.stored ≡ stored_of w.seat → r.stop ≡ result_err w.ended
        → AreBack tells size stands faults slots disks xs → AreBack tells size stands faults slots disks (slice_set xs peer (Some r))
    worker_back w r peer xs back at is log did stop all =
        back_put xs peer r all (subst (λ (k : ℕ). IsBack tells size stands faults slots disks k r) (sym at) (worker_from w back.old back.seated back.came r is log did stop))

    asked_fresh : (next : _) (session : List ℕ) (old new : Token) (end : Result WriterSum WorkFault) (a : Answered) → old ≡ fresh_token session → HasEnded next old new end → a.kept ≡ kept_of new → a.end ≡ end
        → HasAsked next session a.kept a.end
    asked_fresh next session old new end a fresh came kept is = record {
      token = new;
      came = subst (λ (e : Result WriterSum WorkFault). HasEnded next (fresh_token session) new e) (sym is) (subst (λ (t : Token). HasEnded next t new end) fresh came);
      kept = kept;
    }

    -- a writer and the deleter that came back
    writer_from : (w : Writer Token) (old : Element Slip Token D) → IsSeated tells size stands faults slots disks now task old
        → HasCome (λ seat. seat) (λ pass. pass) tells size stands faults task.name task.seed task.files old (element.Writer w)
        → (a : Answered) → a.kept ≡ kept_of w.pass → a.end ≡ w.ended → AskerEnds task w.number a.kept a.end
    writer_from w (element.Writer b) seated came a kept is = subst (λ (n : ℕ). AskerEnds task n a.kept a.end) (sym came.0) (record {
      writer = λ low. (asked_fresh (asked_behind (writer_of task.name task.seed b.number task.files)) (session_name b.number) b.pass w.pass w.ended a seated.1 came.1 kept is, counts);
      deleter = λ last. absurd (let low = seated.0 in omega (arith, low, last));
    })
      where
        counts : CountsFiles a.kept a.end
        counts = subst (λ (e : Result WriterSum WorkFault). IfOk e (λ sum. sum ≡ sum_of a.kept.answers)) (sym is)
            (subst (λ (xs : List _). IfOk w.ended (λ sum. sum ≡ sum_of xs)) (ap (λ (t : Token). drop (length t.kept) w.pass.kept) seated.1 ∙ ap (λ k. k.answers) (sym kept)) came.2)
    writer_from w (element.Worker b) seated came a kept is = absurd came
    writer_from w (element.Deleter b) seated came a kept is = absurd came

    deleter_from : (w : Deleter Token) (old : Element Slip Token D) → IsSeated tells size stands faults slots disks now task old
        → HasCome (λ seat. seat) (λ pass. pass) tells size stands faults task.name task.seed task.files old (element.Deleter w)
        → (a : Answered) → a.kept ≡ kept_of w.pass → a.end ≡ without_files w.ended → AskerEnds task task.writers a.kept a.end
    deleter_from w (element.Deleter b) seated came a kept is = record {
      writer = λ low. absurd (omega (arith, low));
      deleter = λ last. asked_fresh deletion_behind (codes "deleter") b.pass w.pass (without_files w.ended) a seated (go w.ended came) kept is;
    }
      where
        go : (e : Result ⊤ WorkFault) → HasEnded deletion_behind b.pass w.pass e → HasEnded deletion_behind b.pass w.pass (without_files e)
        go (Ok x) h = h
        go (Err why) h = h
    deleter_from w (element.Worker b) seated came a kept is = absurd came
    deleter_from w (element.Writer b) seated came a kept is = absurd came

    told_put : (xs : List (Option Answered)) (number : ℕ) (a : Answered) → AreAskers task xs → AskerEnds task number a.kept a.end → AreAskers task (slice_set xs number (Some a))
    told_put xs number a all one = record { each = λ q b at. go q b (get_set xs number q (Some a) (Some b) at) }
      where
        some_is : {T : Type 0} (x y : T) → Some x ≡ Some y → x ≡ y
        some_is x y e = cc

        go : (q : ℕ) (b : Answered) → ((q ≡ number) × (Some b ≡ Some a)) ⊎ (slice_get xs q ≡ Some (Some b)) → AskerEnds task q b.kept b.end
        go q b (inl same) = subst (λ (k : ℕ). AskerEnds task k b.kept b.end) (sym same.0) (subst (λ (c : Answered). AskerEnds task number c.kept c.end) (sym (some_is b a same.1)) one)
        go q b (inr old) = all.each q b old

    pub writer_told : (w : Writer Token) (a : Answered) (xs : List (Option Answered)) → HasCameBack tells size stands faults slots disks now task (element.Writer w) → a.kept ≡ kept_of w.pass → a.end ≡ w.ended
        → AreAskers task xs → AreAskers task (slice_set xs w.number (Some a))
    writer_told w a xs back kept is all = told_put xs w.number a all (writer_from w back.old back.seated back.came a kept is)

    pub deleter_told : (w : Deleter Token) (a : Answered) (xs : List (Option Answered)) (writers : ℕ) → task.writers ≡ writers → HasCameBack tells size stands faults slots disks now task (element.Deleter w) → a.kept ≡ kept_of w.pass → a.end ≡ without_files w.ended
        → AreAskers task xs → AreAskers task (slice_set xs writers (Some a))
    deleter_told w a xs writers count back kept is all =
        subst (λ (n : ℕ). AreAskers task (slice_set xs n (Some a))) count (told_put xs task.writers a all (deleter_from w back.old back.seated back.came a kept is))

pub told_less : (task : Task) (xs : List (Option Answered)) (place : ℕ) → AreAskers task xs → AreAskers task (slice_set xs place None)
told_less task xs place all = record { each = λ q a at. go q a (get_set xs place q None (Some a) at) }
  where
    go : (q : ℕ) (a : Answered) → ((q ≡ place) × (Some a ≡ None)) ⊎ (slice_get xs q ≡ Some (Some a)) → AskerEnds task q a.kept a.end
    go q a (inl same) = absurd (let e = same.1 in grind (arith, e))
    go q a (inr old) = all.each q a old
