-- What is past of the disks stays: by one event, and by a job.
use Rattle.std.proofs.Common.{◌≡◌, ◌≢◌, ◌∙◌, inl, inr, sym, subst, ℕ, ◌≤◌, true, List, Option, Some, None, refl, arith}
use Rattle.std.proofs.lemmas.Bool.{cases_eq}
use Rattle.std.specs.Prelude.{IfOk, OnOk, Result, Ok, Err, ⊤}
use Rattle.hs_cluster.proofs.HeldLemmas.{own_job}
use Rattle.hs_cluster.specs.Calm.{GoesCalmly}
use Rattle.hs_cluster.specs.declared.fault.ClusterFault.{ClusterFault}
use Rattle.hs_cluster.specs.Disks.{DiskSeen, log_at, stands_of}
use Rattle.hs_cluster.specs.Jobs.{Leaves, LeavesLog, Tries, Working, WorksAlone, is_own, list_after, try_of, waiting_after}
use Rattle.hs_cluster.specs.Past.{HasSomeLog, HoldsLog, LeavesPast}
use Rattle.hs_core_words.specs.Looking.{first_job}
use Rattle.hs_core_words.specs.State.{Core}
use Rattle.hs_desk.specs.declared.done.Done.{Done}
use Rattle.hs_desk.specs.declared.job.Job.{Job}
use Rattle.hs_entry.specs.declared.entry.Entry.{Entry}
use Rattle.hs_events.specs.Asked.{failed_disk}
use Rattle.hs_fold.specs.Shards.Setting.{Numbered}
use Rattle.hs_peerlog.specs.Images.{IsOne}
use Rattle.hs_peerlog.specs.Lists.{Keeping}
use Rattle.hs_ports.specs.Disk.{Standing}
use Rattle.hs_ports.specs.Moments.{disk_at}
use Rattle.hs_taking.proofs.PastLemmas.{past_all, past_each, past_still, past_then}
use Rattle.hs_taking.specs.Past.{PastStays}

none_is_not : {A : Type 0} (x : A) → None ≡ Some x → ⊥
none_is_not x e = cc e

some_is : {A : Type 0} (x y : A) → Some x ≡ Some y → x ≡ y
some_is x y e = cc

pub on_any : (P : Type 0) (r : Result ⊤ ClusterFault) → P → OnOk r P
on_any P (Ok x) p = p
on_any P (Err fault) p = tt

-- ---- no disk had a call

-- and no log more is in use
pub past_quiet : (now : ℕ) (logs fewer : List (Option Keeping)) (disks : List DiskSeen) (r : Result ⊤ ClusterFault) (p : ℕ) → ((k : ℕ) (keeping : Keeping) → log_at fewer k ≡ Some keeping → log_at logs k ≡ Some keeping)
    → HoldsLog now logs disks p → LeavesPast now now disks disks fewer r p
past_quiet now logs fewer disks r p less holds = record {
  stays = past_still now now (disk_at (stands_of disks) p) (omega arith) holds.called;
  holds = on_any (HoldsLog now fewer disks p) r (record { called = holds.called; log = λ keeping at. holds.log keeping (less p keeping at) });
}

-- ---- a job

-- what it leaves of the disk of a peer, and of its log where it was done
pub record Worked {E : Type 0} (w : Working) (result : Result Done E) (p : ℕ) : Type 0 where
  pub stays : PastStays w.before w.now (disk_at (stands_of w.disks) p) (disk_at (stands_of w.left) p)
  pub holds : OnOk result (HoldsLog w.now w.after w.left p)

module _ {E : Type 0} (w : Working) (todo : Option Job) (result : Result Done E) (works : WorksAlone w todo result) (up : w.before ≤ w.now) where
  abbrev old : Standing
  old = disk_at (stands_of w.disks) w.peer

  abbrev new : Standing
  new = disk_at (stands_of w.left) w.peer

  never_done : (r : Result Done E) → IfOk r (λ done. ⊥) → OnOk r (HoldsLog w.now w.after w.left w.peer)
  never_done (Ok done) h = absurd h
  never_done (Err fault) h = tt

  -- of its own peer
  module _ (holds : HoldsLog w.before w.logs w.disks w.peer) where
    tries : Tries (try_of w) todo result
    tries = works.tries holds.called

    -- a disk whose call failed is out of use
    log_then : (j : Job) (list : Numbered) (waiting : Option Entry) (o : Option ℕ) → LeavesLog o (try_of w) j list waiting → (keeping : Keeping) → log_at w.after w.peer ≡ Some keeping → HasSomeLog keeping new
    log_then j list waiting None log keeping at =
        subst (λ k. HasSomeLog k new) (some_is log.0 keeping (sym log.1 ∙ at)) (record { list = list_after j list waiting; waiting = waiting_after j waiting; has = log.2 })
    log_then j list waiting (Some disk) none keeping at = absurd (none_is_not keeping (sym none ∙ at))

    done_then : (j : Job) (list : Numbered) (waiting : Option Entry) (r : Result Done E) → new.last ≤ w.now → IfOk r (λ done. LeavesLog (failed_disk done) (try_of w) j list waiting) → OnOk r (HoldsLog w.now w.after w.left w.peer)
    done_then j list waiting (Ok done) last log = record { called = last; log = log_then j list waiting (failed_disk done) log }
    done_then j list waiting (Err fault) last log = tt

    own : Worked w result w.peer
    own = go todo refl (log_at w.logs w.peer) refl
      where
        go : (t : Option Job) → todo ≡ t → (slot : Option Keeping) → log_at w.logs w.peer ≡ slot → Worked w result w.peer
        go None first slot at = record { stays = past_all w.before w.now old new (tries.idle (inl first)); holds = never_done result (tries.cut (inl first)) }
        go (Some j) first None at = record { stays = past_all w.before w.now old new (tries.idle (inr at)); holds = never_done result (tries.cut (inr at)) }
        go (Some j) first (Some keeping) at =
            let some : HasSomeLog keeping old = holds.log keeping at in
            let leaves : Leaves (try_of w) j some.list some.waiting result = tries.each j keeping first at some.list some.waiting some.has in
            record {
              stays = past_each w.before w.now old new (IsOne some.list (list_after j some.list some.waiting)) leaves.moments;
              holds = done_then j some.list some.waiting result leaves.moments.last leaves.log;
            }

  on_done : (P : Type 0) (r : Result Done E) → P → OnOk r P
  on_done P (Ok done) p = p
  on_done P (Err fault) p = tt

  -- any other peer's stays as it is
  other : (p : ℕ) → p ≢ w.peer → HoldsLog w.before w.logs w.disks p → Worked w result p
  other p differs holds =
      let still : PastStays w.before w.now (disk_at (stands_of w.disks) p) (disk_at (stands_of w.disks) p) = past_still w.before w.now (disk_at (stands_of w.disks) p) up holds.called in
      let same : disk_at (stands_of w.left) p ≡ disk_at (stands_of w.disks) p = works.others p differs in
      record {
        stays = subst (λ (d : Standing). PastStays w.before w.now (disk_at (stands_of w.disks) p) d) (sym same) still;
        holds = on_done (HoldsLog w.now w.after w.left p) result (record {
          called = subst (λ (d : Standing). d.last ≤ w.now) (sym same) still.last;
          log = λ keeping at. subst (λ (d : Standing). HasSomeLog keeping d) (sym same) (holds.log keeping (sym (works.logs p differs) ∙ at));
        });
      }

  pub job_past : (p : ℕ) → HoldsLog w.before w.logs w.disks p → Worked w result p
  job_past p holds = elim (cases_eq p w.peer) [
    | inl same ↦ subst (λ k. Worked w result k) (sym same) (own (subst (λ k. HoldsLog w.before w.logs w.disks k) same holds))
    | inr differs ↦ other p differs holds
  ]

-- the first job of a core that goes on is one that needs the log of its peer alone
pub own_first : (core : Core) (first disks : List DiskSeen) (peer : ℕ) → GoesCalmly core first disks → is_own (first_job peer core) ≡ true
own_first core first disks peer calm = subst (λ (x : Core). is_own (first_job peer x) ≡ true) calm.same (own_job calm.whole peer calm.sane)

-- ---- some events, and then some

pub leaves_then : (before mid now : ℕ) (disks between left : List DiskSeen) (logs : List (Option Keeping)) (r : Result ⊤ ClusterFault) (p : ℕ) → PastStays before mid (disk_at (stands_of disks) p) (disk_at (stands_of between) p)
    → LeavesPast mid now between left logs r p → LeavesPast before now disks left logs r p
leaves_then before mid now disks between left logs r p one two = record {
  stays = past_then before mid now (disk_at (stands_of disks) p) (disk_at (stands_of between) p) (disk_at (stands_of left) p) one two.stays;
  holds = two.holds;
}
