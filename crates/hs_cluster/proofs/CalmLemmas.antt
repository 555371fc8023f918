-- A core of one copy a shard goes on only where no disk failed.
use Rattle.std.proofs.Common.{◌≡◌, ◌∙◌, ap, sym, subst, ℕ, true, List, None, refl}
use Rattle.std.specs.Prelude.{OnOk, Result, Ok, Err, ⊤}
use Rattle.hs_cluster.proofs.CountLemmas.{rises_then, stand_all}
use Rattle.hs_cluster.proofs.EventLemmas.{still_going}
use Rattle.hs_cluster.specs.Calls.{Does, done_of}
use Rattle.hs_cluster.specs.Calm.{GoesCalmly}
use Rattle.hs_cluster.specs.Counts.{AllStandUntold, NoneRises}
use Rattle.hs_cluster.specs.declared.fault.ClusterFault.{ClusterFault}
use Rattle.hs_cluster.specs.Disks.{DiskSeen}
use Rattle.hs_cluster.specs.Running.{Running}
use Rattle.hs_core_words.specs.declared.event.Event.{Event}
use Rattle.hs_core_words.specs.declared.event.Event.TheVariants as event
use Rattle.hs_core_words.specs.State.{Core}
use Rattle.hs_core_words.specs.Step.{step}
use Rattle.hs_desk.specs.declared.done.Done.{Done}
use Rattle.hs_desk.specs.declared.done.Done.TheVariants as done
use Rattle.hs_events.specs.Asked.{failed_disk}
use Rattle.hs_events.specs.Due.{is_answer}
use Rattle.hs_events.specs.Sane.{IsSane}
use Rattle.hs_events.specs.Whole.{Whole, step_whole}
use Rattle.hs_moments.proofs.AloneEventLemmas.{begun}
use Rattle.hs_moments.proofs.AloneReportLemmas.{reports}
use Rattle.hs_moments.proofs.SaneLemmas.{alone_x, fallen_ended, sane_stays}

-- the failed call of a job, which is told, ends it
failed_ends : (c : Whole) (peer disk at : ℕ) → IsSane c → is_answer c.core peer (done.Failed disk) ≡ true → (step (event.Report peer (done.Failed disk)) at c.core).ended ≡ None → ⊥
failed_ends c peer disk at sane answer going =
    let e : Event = event.Report peer (done.Failed disk) in
    fallen_ended c e at sane peer (reports peer (done.Failed disk) (begun e at c.core) (alone_x c e at sane) sane.settled answer) going

-- so what is told where it goes on is none
pub none_failed : (c : Whole) (peer at : ℕ) (told : Done) → IsSane c → is_answer c.core peer told ≡ true → (step (event.Report peer told) at c.core).ended ≡ None → failed_disk told ≡ None
none_failed c peer at (done.Stored number) sane answer going = refl
none_failed c peer at (done.Sealed number) sane answer going = refl
none_failed c peer at (done.Bytes number bytes) sane answer going = refl
none_failed c peer at (done.Gone number) sane answer going = refl
none_failed c peer at done.Emptied sane answer going = refl
none_failed c peer at (done.Copied number) sane answer going = refl
none_failed c peer at (done.Stepped switched) sane answer going = refl
none_failed c peer at (done.Failed disk) sane answer going = absurd (failed_ends c peer disk at sane answer going)

-- ---- one event

module _ (e : Event) (now : ℕ) (old new : Running) (first disks left : List DiskSeen) (calm : GoesCalmly old.core first disks) where
  -- the core went on
  goes : (x : ⊤) → Does (done_of (Ok x) (e, now)) old new (Ok x) → (step e now calm.whole.core).ended ≡ None
  goes x does = ap (λ (c : Core). (step e now c).ended) calm.same ∙ ap (λ (c : Core). c.ended) (sym (does.core refl)) ∙ still_going (done_of (Ok x) (e, now)) old new does

  calm_then : (x : ⊤) → Does (done_of (Ok x) (e, now)) old new (Ok x) → NoneRises disks left → GoesCalmly new.core first left
  calm_then x does none = record {
    whole = step_whole e now calm.whole;
    same = ap (λ (c : Core). step e now c) calm.same ∙ sym (does.core refl);
    sane = sane_stays calm.whole e now calm.sane (goes x does);
    none = rises_then first disks left calm.none none;
  }

  -- it came without a call, or its calls did not fail
  pub calm_one : (r : Result ⊤ ClusterFault) → Does (done_of r (e, now)) old new r → NoneRises disks left → OnOk r (GoesCalmly new.core first left)
  calm_one (Ok x) does none = calm_then x does none
  calm_one (Err fault) does none = tt

-- the report of a job
pub calm_reported : (peer now : ℕ) (told : Done) (old new : Running) (first disks left : List DiskSeen) (r : Result ⊤ ClusterFault) → GoesCalmly old.core first disks → is_answer old.core peer told ≡ true → Does (done_of r (event.Report peer told, now)) old new r
    → AllStandUntold told disks left → OnOk r (GoesCalmly new.core first left)
calm_reported peer now told old new first disks left (Err fault) calm answer does stands = tt
calm_reported peer now told old new first disks left (Ok x) calm answer does stands =
    calm_then (event.Report peer told) now old new first disks left calm x does
    (stand_all told disks left
    (none_failed calm.whole peer now told calm.sane (subst (λ (c : Core). is_answer c peer told ≡ true) (sym calm.same) answer) (goes (event.Report peer told) now old new first disks left calm x does)) stands)
