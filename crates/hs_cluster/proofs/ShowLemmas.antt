-- What events show of the disks: one event, and one run of them behind another.
use Rattle.std.proofs.Common.{◌≡◌, ◌∙◌, ap, sym, subst, ℕ, ◌≤◌, Bool, true, false, List, [], ◌∷◌, ◌++◌, Option, Some, None, refl, arith}
use Rattle.std.proofs.lemmas.Bool.{true≢false}
use Rattle.std.specs.Prelude.{IsSome, OnOk, Result, Ok, Err, ⊤, if◌then◌else◌}
use Rattle.hs_cluster.proofs.CachedLemmas.{cached_as, cached_blocks, cached_read, quiet_cached, report_cached, sane_effect}
use Rattle.hs_cluster.proofs.CalmLemmas.{calm_one, calm_reported}
use Rattle.hs_cluster.proofs.CountLemmas.{all_none, all_one, all_quiet, all_still, all_then, counted_none, counted_one, counted_quiet, counted_still, counted_then, untold_reported, untold_same, untold_then}
use Rattle.hs_cluster.proofs.EventLemmas.{still_going}
use Rattle.hs_cluster.proofs.HeadLemmas.{heads_behind, heads_cut, heads_next, heads_quiet, heads_shown}
use Rattle.hs_cluster.proofs.PastLemmas.{Worked, job_past, leaves_then, on_any, own_first, past_quiet}
use Rattle.hs_cluster.proofs.PeerEventLemmas.{SlotStays}
use Rattle.hs_cluster.proofs.PeerShowLemmas.{PaysFor, begin_lists, cut_lists, job_cut_lists, job_lists, lists_behind, none_lists, quiet_lists}
use Rattle.hs_cluster.proofs.ReadLemmas.{quiet_reads, report_reads, some_job, read_of}
use Rattle.hs_cluster.proofs.ReportLemmas.{call_fine, report_fine, report_logs}
pub use Rattle.hs_cluster.proofs.StretchLemmas.{runs_core}
use Rattle.hs_cluster.proofs.StretchLemmas.{steps_shape, behind, call_earlier, call_keeps, call_lists, call_moments, lists_then, none_yet, runs_append, step_going, stored_back, stored_front, told_by, told_then}
use Rattle.hs_moments.proofs.SaneLemmas.{growing_beside, growing_without_call, sane_stays}
use Rattle.hs_cluster.proofs.HeldLemmas.{own_job, sealed_stays}
use Rattle.hs_cluster.specs.Cached.{AreBlocks, AreCached, KeepsRead}
use Rattle.hs_cluster.specs.Calls.{Does, done_of, outcome_by, ran_out}
use Rattle.hs_cluster.specs.Calm.{GoesCalmly}
use Rattle.hs_cluster.specs.declared.fault.ClusterFault.{ClusterFault}
use Rattle.hs_cluster.specs.declared.fault.ClusterFault.TheVariants.{NoMemory}
use Rattle.hs_cluster.specs.Counts.{AllStandUntold, AreAllCounted, HasPaid, NoneFalls}
use Rattle.hs_cluster.specs.Disks.{DiskSeen, log_at, stands_of}
use Rattle.hs_cluster.specs.Headed.{IsHeadedAt, LeavesHeads, StaysHeadedAt}
use Rattle.hs_cluster.specs.Jobs.{HasStored, ReadsLog, TellsBytes, Working, Works, WorksAlone, is_own}
use Rattle.hs_cluster.specs.Kept.{AreStored, CanGoOn, CanRead, IsTold, KeepsLogs, ReadsLogs, Shows, Span, sealed_front}
use Rattle.hs_cluster.specs.Past.{HoldsLog, LeavesPast}
use Rattle.hs_cluster.specs.Rooms.{HaveRecordRoom}
use Rattle.hs_cluster.specs.Running.{Running}
use Rattle.hs_events.specs.Sane.{IsSane, appended_of}
use Rattle.hs_core_words.specs.declared.event.Event.{Event}
use Rattle.hs_core_words.specs.declared.event.Event.TheVariants as event
use Rattle.hs_core_words.specs.Looking.{catalogue_of, first_job, front_of, home}
use Rattle.hs_core_words.specs.State.{Core}
use Rattle.hs_core_words.specs.Step.{step}
use Rattle.hs_desk.specs.declared.done.Done.{Done}
use Rattle.hs_desk.specs.declared.job.Job.{Job}
use Rattle.hs_desk.specs.declared.job.Job.TheVariants as job
use Rattle.hs_entry.specs.declared.entry.Entry.{Entry}
use Rattle.hs_events.proofs.GoingLemmas.{step_goes}
use Rattle.hs_events.specs.Asked.{failed_disk, report_in}
use Rattle.hs_events.specs.Course.{happened, is_refused, items_of, steps}
use Rattle.hs_events.specs.Due.{Events, MomentsRise, is_answer}
use Rattle.hs_events.specs.Reports.{TellsOf}
use Rattle.hs_events.specs.Whole.{Whole, counts, step_whole}
use Rattle.hs_fold.specs.Shards.Setting.{Numbered}
use Rattle.hs_limits.specs.declared.shape.Shape.{Shape}
use Rattle.hs_members.specs.Members.{IsPeer}
use Rattle.hs_moments.proofs.MomentLemmas.{call-keeps, quiet-keeps}
use Rattle.hs_moments.specs.Machine.{runs}
use Rattle.hs_moments.specs.Moments.{GivesFine, Keeps, Since}
use Rattle.hs_moments.specs.WholeMachine.{whole_machine}
use Rattle.hs_peerlog.specs.Lists.{HasLog, IsKept, Keeping}
use Rattle.hs_ports.specs.Moments.{disk_at}
use Rattle.hs_side.specs.Headers.{own_header}

-- ---- an event without a call

quiet_logs : (c : Whole) (e : Event) (now : ℕ) (logs fewer : List (Option Keeping)) (disks : List DiskSeen) → IsSane c → c.core.ended ≡ None → report_in e ≡ None → (step e now c.core).ended ≡ None
    → ((p : ℕ) (keeping : Keeping) → log_at fewer p ≡ Some keeping → log_at logs p ≡ Some keeping) → KeepsLogs c logs disks → KeepsLogs (step_whole e now c) fewer disks
quiet_logs c e now logs fewer disks sane was quiet going less keeps = record {
  each = λ p keeping low at.
      let there : IsPeer c.core.members.shape p = subst (λ (s : Shape). IsPeer s p) (step_goes e now c.core was).shape low in
      let stays = sealed_stays c e now p sane there quiet going in
      subst (λ l. HasLog keeping (disk_at (stands_of disks) p) l (appended_of p (step e now c.core))) (sym stays.sealed)
      (subst (λ w. HasLog keeping (disk_at (stands_of disks) p) (sealed_front c p) w) (sym stays.appended) (keeps.each p keeping there (less p keeping at)));
}

pub quiet_shows : (e : Event) (now : ℕ) (old new : Running) (disks : List DiskSeen) (r : Result ⊤ ClusterFault) → report_in e ≡ None → old.core.ended ≡ None → Does (done_of r (e, now)) old new r
    → ((p : ℕ) (keeping : Keeping) → log_at new.logs p ≡ Some keeping → log_at old.logs p ≡ Some keeping) → ((p : ℕ) → SlotStays e old.logs new.logs p) → new.cache ≡ old.cache
    → Shows ⊤ (record { before = now; now = now; old = old; new = new; disks = disks; left = disks }) r (done_of r (e, now))
quiet_shows e now old new disks r quiet was does less stays same = record {
  counted = counted_quiet old.core e now r disks quiet;
  untold = λ out. untold_same old.core (done_of r (e, now)) disks;
  calm = λ first calm. calm_one e now old new first disks disks calm r does (λ disk. refl);
  past = λ told first calm peer holds. past_quiet now old.logs new.logs disks r peer less holds;
  lists = λ told c core can has. record {
    earlier = λ peer m side low fits. refl;
    moments = record { fine = λ m peer low high fits counted image left. absurd (omega (arith, low, high)) };
    keeps = behind c e now (λ s. Keeps whole_machine s now (stands_of disks)) r can.keeps
        (λ there. quiet-keeps whole_machine c (step_whole e now c) now (stands_of disks) (λ peer. growing_without_call c e now peer can.sane quiet there) can.keeps);
    told = told_by c e now r (subst (λ o. IsTold c o) (sym quiet) tt);
  };
  goes_on = λ told c core can. go r does c core can;
  told = λ told c core can has. told_by c e now r (subst (λ o. IsTold c o) (sym quiet) tt);
  read = λ told c core can stored. all_quiet old.core e now r disks quiet;
  reads_on = λ told c core can. reading r does c core can;
  cached = λ told c core can has. caching r does c core can has;
  headed = λ told peer headed. heads_quiet (own_header old.core.members.shape peer) now old.logs new.logs disks r peer (less peer) headed;
  copies = λ told. quiet_lists e now old new disks r quiet was does stays same;
}
  where
    caching : (r : Result ⊤ ClusterFault) → Does (done_of r (e, now)) old new r → (c : Whole) → c.core ≡ old.core → CanRead c old.logs disks → AreCached c old.cache → OnOk r (AreCached (runs whole_machine c (done_of r (e, now))) new.cache)
    caching (Err fault) does c core can has = tt
    caching (Ok done) does c core can has =
        cached_as (step_whole e now c) old.cache new.cache same
        (quiet_cached c can.sane e now quiet (ap (λ x. (step e now x).ended) core ∙ step_going e now old new does) old.cache has)

    reading : (r : Result ⊤ ClusterFault) → Does (done_of r (e, now)) old new r → (c : Whole) → c.core ≡ old.core → CanRead c old.logs disks → OnOk r (CanRead (runs whole_machine c (done_of r (e, now))) new.logs disks)
    reading (Err fault) does c core can = tt
    reading (Ok done) does c core can =
        let going : (step e now c.core).ended ≡ None = ap (λ x. (step e now x).ended) core ∙ step_going e now old new does in
        record {
          sane = sane_stays c e now can.sane going;
          listed = quiet_reads c e now old.logs new.logs disks can.sane (ap (λ (x : Core). x.ended) core ∙ was) quiet going less can.listed;
        }

    go : (r : Result ⊤ ClusterFault) → Does (done_of r (e, now)) old new r → (c : Whole) → c.core ≡ old.core → CanGoOn c old.logs disks now → OnOk r (CanGoOn (runs whole_machine c (done_of r (e, now))) new.logs disks now)
    go (Err fault) does c core can = tt
    go (Ok done) does c core can =
        let going : (step e now c.core).ended ≡ None = ap (λ x. (step e now x).ended) core ∙ step_going e now old new does in
        let unrefused : is_refused (step e now c.core).ended ≡ false = ap is_refused going in
        record {
          sane = sane_stays c e now can.sane going;
          listed = quiet_logs c e now old.logs new.logs disks can.sane (ap (λ (x : Core). x.ended) core ∙ was) quiet going less can.listed;
          keeps = quiet-keeps whole_machine c (step_whole e now c) now (stands_of disks) (λ peer. growing_without_call c e now peer can.sane quiet unrefused) can.keeps;
        }

-- nothing was done, and nothing came
pub none_shows : (now : ℕ) (old new : Running) (disks : List DiskSeen) → Shows ⊤ (record { before = now; now = now; old = old; new = new; disks = disks; left = disks }) (Err NoMemory) []
none_shows now old new disks = record {
  counted = counted_still old.core disks;
  untold = λ out. untold_same old.core [] disks;
  calm = λ first calm. tt;
  past = λ told first calm peer holds. record { stays = (past_quiet now old.logs old.logs disks (Err NoMemory) peer (λ k keeping at. at) holds).stays; holds = tt };
  lists = λ told c core can has. record {
    earlier = λ peer m side low fits. refl;
    moments = record { fine = λ m peer low high fits counted image left. absurd (omega (arith, low, high)) };
    keeps = can.keeps;
    told = tt;
  };
  goes_on = λ told c core can. tt;
  told = λ told c core can has. tt;
  read = λ told c core can stored. all_still old.core disks;
  reads_on = λ told c core can. tt;
  cached = λ told c core can has. tt;
  headed = λ told peer headed.
      heads_cut (own_header old.core.members.shape peer) now now disks disks old.logs new.logs (Err NoMemory) NoMemory peer (heads_quiet (own_header old.core.members.shape peer) now old.logs old.logs disks (Err NoMemory) peer (λ keeping at. at) headed);
  copies = λ told. none_lists now old new disks;
}

pub begin_shows : (tells : Type 0) (now : ℕ) (old : Running) (disks : List DiskSeen) → Shows tells (record { before = now; now = now; old = old; new = old; disks = disks; left = disks }) (Ok tt) []
begin_shows tells now old disks = record {
  counted = counted_still old.core disks;
  untold = λ out. untold_same old.core [] disks;
  calm = λ first calm. calm;
  past = λ told first calm peer holds. past_quiet now old.logs old.logs disks (Ok tt) peer (λ k keeping at. at) holds;
  lists = λ told c core can has. record {
    earlier = λ peer m side low fits. refl;
    moments = record { fine = λ m peer low high fits counted image left. absurd (omega (arith, low, high)) };
    keeps = can.keeps;
    told = tt;
  };
  goes_on = λ told c core can. can;
  told = λ told c core can has. tt;
  read = λ told c core can stored. all_still old.core disks;
  reads_on = λ told c core can. can;
  cached = λ told c core can has. has;
  headed = λ told peer headed. heads_quiet (own_header old.core.members.shape peer) now old.logs old.logs disks (Ok tt) peer (λ keeping at. at) headed;
  copies = λ told. begin_lists now old disks;
}

-- whatever the disks tell
pub any_shows : (tells : Type 0) (span : Span) (r : Result ⊤ ClusterFault) (es : Events) → Shows ⊤ span r es → Shows tells span r es
any_shows tells span r es shows = record { counted = shows.counted; untold = shows.untold; calm = shows.calm; past = λ told. shows.past tt; lists = λ told. shows.lists tt; goes_on = λ told. shows.goes_on tt; told = λ told. shows.told tt; read = λ told. shows.read tt; reads_on = λ told. shows.reads_on tt; cached = λ told. shows.cached tt; headed = λ told. shows.headed tt; copies = λ told. shows.copies tt }

-- it is given up
pub cut_shows : (tells : Type 0) (span : Span) (fault : ClusterFault) (es : Events) → Shows tells span (Ok tt) es → Shows tells span (Err fault) es
cut_shows tells span fault es shows = record { counted = shows.counted; untold = λ out. shows.untold refl; calm = λ first calm. tt; past = λ told first calm peer holds. record { stays = (shows.past told first calm peer holds).stays; holds = tt }; lists = shows.lists; goes_on = λ told c core can. tt; told = shows.told; read = shows.read; reads_on = λ told c core can. tt; cached = λ told c core can has. tt; headed = λ told peer headed. heads_cut (own_header span.old.core.members.shape peer) span.before span.now span.disks span.left span.new.logs span.new.logs (Ok tt) fault peer (shows.headed told peer headed); copies = λ told. cut_lists span fault es (shows.copies told) }

-- ---- a call and its report

-- the job was not done, or its report did not come
pub job_cut : (tells : Type 0) (before now peer : ℕ) (old new : Running) (after : List (Option Keeping)) (disks left : List DiskSeen) {E : Type 0} (result : Result Done E) → IsPeer old.core.members.shape peer → before ≤ now
    → old.core.ended ≡ None → (tells → Since (stands_of disks))
    → (tells → is_own (first_job peer old.core) ≡ true → WorksAlone (record { peer = peer; before = before; now = now; logs = old.logs; after = after; disks = disks; left = left }) (first_job peer old.core) result)
    → (tells → Works (own_header old.core.members.shape peer) (record { peer = peer; before = before; now = now; logs = old.logs; after = after; disks = disks; left = left }) (first_job peer old.core) result)
    → NoneFalls disks left
    → (tells → (p : ℕ) → IsHeadedAt (own_header old.core.members.shape p) before old.logs disks p → StaysHeadedAt (own_header old.core.members.shape p) before now disks after left p)
    → Shows tells (record { before = before; now = now; old = old; new = new; disks = disks; left = left }) (Err NoMemory) []
job_cut tells before now peer old new after disks left {E = E} result is up was since works any falls heads = record {
  counted = counted_none old.core disks left falls;
  untold = λ out. absurd (true≢false out);
  calm = λ first calm. tt;
  past = λ told first calm k holds.
      let w : Working = record { peer = peer; before = before; now = now; logs = old.logs; after = after; disks = disks; left = left } in
      record { stays = (job_past w (first_job peer old.core) result (works told (own_first old.core first disks peer calm)) up k holds).stays; holds = tt };
  lists = λ told c core can has.
      let low : IsPeer c.core.members.shape peer = subst (λ (x : Core). IsPeer x.members.shape peer) (sym core) is in
      let w : Working = record { peer = peer; before = before; now = now; logs = old.logs; after = after; disks = disks; left = left } in
      let own : is_own (first_job peer old.core) ≡ true = subst (λ x. is_own (first_job peer x) ≡ true) core (own_job c peer can.sane) in
      let done : WorksAlone w (first_job peer c.core) result = subst (λ x. WorksAlone w (first_job peer x) result) (sym core) (works told own) in
      let call = call_fine c w can.sane low can.listed can.keeps result done in
      call_lists c before now peer (stands_of disks) (stands_of left) (since told) can.keeps call (record { before = before; now = now; old = old; new = new; disks = disks; left = left }) refl refl refl refl;
  goes_on = λ told c core can. tt;
  told = λ told c core can has. tt;
  read = λ told c core can stored. all_none old.core disks left falls;
  reads_on = λ told c core can. tt;
  cached = λ told c core can has. tt;
  headed = λ told p headed.
      heads_cut (own_header old.core.members.shape p) before now disks left after new.logs (Err NoMemory) NoMemory p (heads_shown (own_header old.core.members.shape p) before now disks left after after (Err NoMemory) p refl (heads told p headed));
  copies = λ told. job_cut_lists before now peer old new after disks left result is was (since told) (any told) falls;
}

-- the job was done, and its report came, unless memory ran out or it was refused
pub job_shows : (tells : Type 0) (before now peer : ℕ) (old new : Running) (after : List (Option Keeping)) (disks left : List DiskSeen) (E : Type 0) (done : Done) (r : Result ⊤ ClusterFault) → IsPeer old.core.members.shape peer → before ≤ now
    → old.core.ended ≡ None → is_answer old.core peer done ≡ true → (tells → Since (stands_of disks))
    → (tells → is_own (first_job peer old.core) ≡ true → WorksAlone {E = E} (record { peer = peer; before = before; now = now; logs = old.logs; after = after; disks = disks; left = left }) (first_job peer old.core) (Ok done))
    → new.logs ≡ after → Does (done_of r (event.Report peer done, now)) old new r → NoneFalls disks left → HasPaid old.core peer done disks left → AllStandUntold done disks left → TellsBytes done
    → (is_own (first_job peer old.core) ≡ true → IsSome (log_at old.logs peer))
    → (tells → is_own (first_job peer old.core) ≡ true → (list : Numbered) (waiting : Option Entry) → ((keeping : Keeping) → log_at old.logs peer ≡ Some keeping → IsKept keeping ((disk_at (stands_of disks) peer).seen keeping.log.side) list waiting)
    → (j : Job) → first_job peer old.core ≡ Some j → ReadsLog (failed_disk done) (log_at after peer) (disk_at (stands_of left) peer) j list waiting)
    → (tells → is_own (first_job peer old.core) ≡ true → (list : Numbered) (waiting : Option Entry) → ((keeping : Keeping) → log_at old.logs peer ≡ Some keeping → IsKept keeping ((disk_at (stands_of disks) peer).seen keeping.log.side) list waiting)
    → ((number : ℕ) → first_job peer old.core ≡ Some (job.Read number) → AreBlocks old.cache (home peer old.core) list) → TellsOf done (Some list))
    → KeepsRead (home peer old.core) (front_of (home peer old.core) old.core) done old.cache new.cache
    → (tells → Works {E = E} (own_header old.core.members.shape peer) (record { peer = peer; before = before; now = now; logs = old.logs; after = after; disks = disks; left = left }) (first_job peer old.core) (Ok done))
    → (tells → (p : ℕ) → IsHeadedAt (own_header old.core.members.shape p) before old.logs disks p → StaysHeadedAt (own_header old.core.members.shape p) before now disks after left p)
    → (tells → PaysFor peer done old.core old.logs disks left)
    → Shows tells (record { before = before; now = now; old = old; new = new; disks = disks; left = left }) r (done_of r (event.Report peer done, now))
job_shows tells before now peer old new after disks left E done r is up was answer since works kept does falls paid stands bytes had reads blocks keeps_read any heads pays = record {
  counted = counted_one old.core (event.Report peer done) now r disks left falls paid;
  untold = untold_reported old.core peer now done r disks left stands;
  calm = λ first calm. calm_reported peer now done old new first disks left r calm answer does stands;
  past = λ told first calm k holds. past_then told first calm k holds;
  lists = λ told c core can has.
      let low : IsPeer c.core.members.shape peer = subst (λ (x : Core). IsPeer x.members.shape peer) (sym core) is in
      let done_then = did told c core can in
      let call = call_fine c w can.sane low can.listed can.keeps (Ok done) done_then in
      let answers : is_answer c.core peer done ≡ true = subst (λ x. is_answer x peer done ≡ true) (sym core) answer in
      record {
        earlier = call_earlier c before now peer (stands_of disks) (stands_of left) (since told) can.keeps call;
        moments = call_moments c before now peer (stands_of disks) (stands_of left) (since told) can.keeps call (happened c.core (done_of r (e, now))) (none_yet c e now r);
        keeps = behind c e now (λ s. Keeps whole_machine s now (stands_of left)) r
            (call_keeps c before now peer (stands_of disks) (stands_of left) (since told) can.keeps call)
            (λ there. keeps_then told c core can there);
        told = told_by c e now r (told_then_of told c core (read_of c old.logs disks before can) has, bytes);
      };
  goes_on = λ told c core can. go r does told c core can;
  told = λ told c core can has. told_by c e now r (told_then_of told c core can has, bytes);
  read = λ told c core can stored. read_then told c core can (ran_out r) stored;
  reads_on = λ told c core can. reading r does told c core can;
  cached = λ told c core can has. caching r does told c core can has;
  headed = λ told p headed. heads_shown (own_header old.core.members.shape p) before now disks left after new.logs r p kept (heads told p headed);
  copies = λ told. job_lists before now peer old new after disks left E done r is was answer (since told) (any told) (heads told peer) kept does bytes (blocks told) keeps_read falls (pays told);
}
  where
    e : Event
    e = event.Report peer done

    w : Working
    w = record { peer = peer; before = before; now = now; logs = old.logs; after = after; disks = disks; left = left }

    did : tells → (c : Whole) → c.core ≡ old.core → CanGoOn c old.logs disks before → WorksAlone {E = E} w (first_job peer c.core) (Ok done)
    did told c core can =
        let low : IsPeer c.core.members.shape peer = subst (λ (x : Core). IsPeer x.members.shape peer) (sym core) is in
        let own : is_own (first_job peer old.core) ≡ true = subst (λ x. is_own (first_job peer x) ≡ true) core (own_job c peer can.sane) in
        subst (λ x. WorksAlone {E = E} w (first_job peer x) (Ok done)) (sym core) (works told own)

    low_in : (c : Whole) → c.core ≡ old.core → IsPeer c.core.members.shape peer
    low_in c core = subst (λ (x : Core). IsPeer x.members.shape peer) (sym core) is

    own_in : (c : Whole) → c.core ≡ old.core → IsSane c → is_own (first_job peer old.core) ≡ true
    own_in c core sane = subst (λ x. is_own (first_job peer x) ≡ true) core (own_job c peer sane)

    past_then : tells → (first : List DiskSeen) → GoesCalmly old.core first disks → (k : ℕ) → HoldsLog before old.logs disks k → LeavesPast before now disks left new.logs r k
    past_then told first calm k holds =
        let worked : Worked {E = E} w (Ok done) k = job_past w (first_job peer old.core) (Ok done) (works told (own_first old.core first disks peer calm)) up k holds in
        record { stays = worked.stays; holds = on_any (HoldsLog now new.logs left k) r (subst (λ l. HoldsLog now l left k) (sym kept) worked.holds) }

    -- there was a job
    job_in : (j : Job) × (first_job peer old.core ≡ Some j)
    job_in = some_job old.core peer done answer

    reads_then : tells → (c : Whole) → c.core ≡ old.core → CanRead c old.logs disks → ReadsLog (failed_disk done) (log_at after peer) (disk_at (stands_of left) peer) job_in.0 (sealed_front c peer) (appended_of peer c.core)
    reads_then told c core can = reads told (own_in c core can.sane) (sealed_front c peer) (appended_of peer c.core) (λ keeping at. can.listed.each peer keeping (low_in c core) at) job_in.0 job_in.1

    -- what it tells of a block is so of what is sealed, where what is cached is of what took effect
    told_then_of : tells → (c : Whole) → c.core ≡ old.core → CanRead c old.logs disks → AreCached c old.cache → TellsOf done (Some (sealed_front c peer))
    told_then_of told c core can has =
        blocks told (own_in c core can.sane) (sealed_front c peer) (appended_of peer c.core) (λ keeping at. can.listed.each peer keeping (low_in c core) at)
        (λ number first. subst (λ x. AreBlocks old.cache (home peer x) (sealed_front c peer)) core (cached_blocks c old.cache peer (low_in c core) (sane_effect c can.sane peer (low_in c core)) has))

    caching : (r : Result ⊤ ClusterFault) → Does (done_of r (e, now)) old new r → tells → (c : Whole) → c.core ≡ old.core → CanRead c old.logs disks → AreCached c old.cache → OnOk r (AreCached (runs whole_machine c (done_of r (e, now))) new.cache)
    caching (Err fault) does told c core can has = tt
    caching (Ok x) does told c core can has =
        let answers : is_answer c.core peer done ≡ true = subst (λ x. is_answer x peer done ≡ true) (sym core) answer in
        report_cached c can.sane peer done now answers (ap (λ x. (step e now x).ended) core ∙ step_going e now old new does) new.cache
        (cached_read c peer done old.cache new.cache answers (λ number first. sane_effect c can.sane peer (low_in c core)) (told_then_of told c core can has)
        (subst (λ x. KeepsRead (home peer x) (front_of (home peer x) x) done old.cache new.cache) (sym core) keeps_read) has)

    reading : (r : Result ⊤ ClusterFault) → Does (done_of r (e, now)) old new r → tells → (c : Whole) → c.core ≡ old.core → CanRead c old.logs disks → OnOk r (CanRead (runs whole_machine c (done_of r (e, now))) new.logs left)
    reading (Err fault) does told c core can = tt
    reading (Ok x) does told c core can =
        let going : (step e now c.core).ended ≡ None = ap (λ x. (step e now x).ended) core ∙ step_going e now old new does in
        let answers : is_answer c.core peer done ≡ true = subst (λ x. is_answer x peer done ≡ true) (sym core) answer in
        let own = own_in c core can.sane in
        let done_then = works told own in
        record {
          sane = sane_stays c e now can.sane going;
          listed = subst (λ l. ReadsLogs (step_whole e now c) l left) (sym kept)
              (report_reads c peer now old.logs after disks left can.sane (low_in c core) can.listed done answers job_in.0 (ap (λ x. first_job peer x) core ∙ job_in.1) (had own) (reads_then told c core can) done_then.logs done_then.others
              (ap (λ (x : Core). x.ended) core ∙ was) going);
        }

    read_then : tells → (c : Whole) → c.core ≡ old.core → CanRead c old.logs disks → (b : Bool) → AreStored c (if b then [] else (e, now) ∷ []) → AreAllCounted old.core (if b then [] else (e, now) ∷ []) disks left
    read_then told c core can true stored = all_none old.core disks left falls
    read_then told c core can false stored =
        all_one old.core e now (Ok tt) disks left falls
        ((pays told).own (own_in c core can.sane) (sealed_front c peer) (appended_of peer c.core) (λ keeping at. can.listed.each peer keeping (low_in c core) at)
        (subst (λ x. HasStored (first_job peer x) (catalogue_of (home peer x) x).blocks (sealed_front c peer)) core (stored.0 (ap (λ (x : Core). x.ended) core ∙ was) peer)))

    keeps_then : tells → (c : Whole) → c.core ≡ old.core → CanGoOn c old.logs disks before → is_refused (step e now c.core).ended ≡ false → Keeps whole_machine (step_whole e now c) now (stands_of left)
    keeps_then told c core can there =
        let low : IsPeer c.core.members.shape peer = subst (λ (x : Core). IsPeer x.members.shape peer) (sym core) is in
        let done_then = did told c core can in
        let answers : is_answer c.core peer done ≡ true = subst (λ x. is_answer x peer done ≡ true) (sym core) answer in
        call-keeps whole_machine c (step_whole e now c) before now peer (stands_of disks) (stands_of left) (λ image. counts c peer ≡ true → GivesFine whole_machine c peer image)
        (λ k differs. growing_beside c done now peer k can.sane answers differs there)
        (call_fine c w can.sane low can.listed can.keeps (Ok done) done_then)
        (λ counted image stands. report_fine c w can.sane low can.listed can.keeps done now E done_then answers there image stands)
        can.keeps

    go : (r : Result ⊤ ClusterFault) → Does (done_of r (e, now)) old new r → tells → (c : Whole) → c.core ≡ old.core → CanGoOn c old.logs disks before → OnOk r (CanGoOn (runs whole_machine c (done_of r (e, now))) new.logs left now)
    go (Err fault) does told c core can = tt
    go (Ok x) does told c core can =
        let low : IsPeer c.core.members.shape peer = subst (λ (x : Core). IsPeer x.members.shape peer) (sym core) is in
        let going : (step e now c.core).ended ≡ None = ap (λ x. (step e now x).ended) core ∙ step_going e now old new does in
        let answers : is_answer c.core peer done ≡ true = subst (λ x. is_answer x peer done ≡ true) (sym core) answer in
        record {
          sane = sane_stays c e now can.sane going;
          listed = subst (λ l. KeepsLogs (step_whole e now c) l left) (sym kept)
              (report_logs c w can.sane low can.listed can.keeps done now E (did told c core can) answers (ap (λ (x : Core). x.ended) core ∙ was) going);
          keeps = keeps_then told c core can (ap is_refused going);
        }

-- ---- some events behind others

pub shows_then : (tells : Type 0) (before mid now : ℕ) (old here new : Running) (disks between left : List DiskSeen) (r : Result ⊤ ClusterFault) (es fs : Events) → Does es old here (Ok tt) → MomentsRise before es mid → MomentsRise mid fs now
    → Shows tells (record { before = before; now = mid; old = old; new = here; disks = disks; left = between }) (Ok tt) es
    → Shows tells (record { before = mid; now = now; old = here; new = new; disks = between; left = left }) r fs
    → Shows tells (record { before = before; now = now; old = old; new = new; disks = disks; left = left }) r (es ++ fs)
shows_then tells before mid now old here new disks between left r es fs does rise on first second = record {
  counted = counted_then old.core here.core es fs disks between left (does.core refl) first.counted second.counted;
  untold = λ out. untold_then old.core here.core es fs disks between left (does.core refl) (first.untold refl) (second.untold out);
  calm = λ entry calm. second.calm entry (first.calm entry calm);
  past = λ told entry calm k holds.
      let one = first.past told entry calm k holds in
      leaves_then before mid now disks between left new.logs r k one.stays (second.past told entry (first.calm entry calm) k one.holds);
  lists = λ told c core can has.
      lists_then c es fs before mid now old here new disks between left (going c core) rise on (first.lists told c core can has)
      (second.lists told (runs whole_machine c es) (core_then c core) (first.goes_on told c core can) (first.cached told c core (read_of c old.logs disks before can) has));
  goes_on = λ told c core can.
      subst (λ s. OnOk r (CanGoOn s new.logs left now)) (sym (runs_append c es fs)) (second.goes_on told (runs whole_machine c es) (core_then c core) (first.goes_on told c core can));
  told = λ told c core can has.
      told_then c es fs (first.told told c core can has) (second.told told (runs whole_machine c es) (core_then c core) (first.reads_on told c core can) (first.cached told c core can has));
  read = λ told c core can stored.
      all_then old.core here.core es fs disks between left (does.core refl) (first.read told c core can (stored_front c es fs stored))
      (second.read told (runs whole_machine c es) (core_then c core) (first.reads_on told c core can) (stored_back c es fs stored));
  reads_on = λ told c core can.
      subst (λ s. OnOk r (CanRead s new.logs left)) (sym (runs_append c es fs)) (second.reads_on told (runs whole_machine c es) (core_then c core) (first.reads_on told c core can));
  cached = λ told c core can has.
      subst (λ s. OnOk r (AreCached s new.cache)) (sym (runs_append c es fs))
      (second.cached told (runs whole_machine c es) (core_then c core) (first.reads_on told c core can) (first.cached told c core can has));
  headed = λ told p headed.
      let one = first.headed told p headed in
      heads_next (own_header old.core.members.shape p) before mid now disks between left new.logs r p one.disk
      (subst (λ (s : Shape). IsHeadedAt (own_header s p) mid here.logs between p → LeavesHeads (own_header s p) mid now between left new.logs r p) shape_is (second.headed told p)
      (heads_behind (own_header old.core.members.shape p) before mid disks between here.logs p one));
  copies = λ told. lists_behind before mid now old here new disks between left r es fs does rise on (first.copies told) (second.copies told);
}
  where
    shape_is : here.core.members.shape ≡ old.core.members.shape
    shape_is = ap (λ (x : Core). x.members.shape) (does.core refl) ∙ steps_shape es old.core

    core_then : (c : Whole) → c.core ≡ old.core → (runs whole_machine c es).core ≡ here.core
    core_then c core = runs_core c es ∙ ap (λ x. steps x es) core ∙ sym (does.core refl)

    going : (c : Whole) → c.core ≡ old.core → (steps c.core es).ended ≡ None
    going c core = ap (λ x. (steps x es).ended) core ∙ ap (λ (x : Core). x.ended) (sym (does.core refl)) ∙ still_going es old here does

-- ---- what events leave

-- where the logs alone differ
pub does_same : (es : Events) (was old new : Running) (r : Result ⊤ ClusterFault) → was.core ≡ old.core → was.course ≡ old.course → Does es was new r → Does es old new r
does_same es was old new r core course d = record {
  course = d.course ∙ ap (λ xs. xs ++ items_of was.core es) course ∙ ap (λ c. old.course ++ items_of c es) core;
  journal = d.journal ∙ ap (λ c. (steps c es).journal) core;
  refused = d.refused ∙ ap (λ c. (steps c es).refused) core;
  core = λ h. d.core h ∙ ap (λ c. steps c es) core;
  outcome = d.outcome;
  going = λ h. sym (ap (λ c. (steps c es).ended) core) ∙ d.going h;
  rooms = subst (λ c. HaveRecordRoom c es) core d.rooms;
}

pub does_after : (es : Events) (old new after : Running) (r : Result ⊤ ClusterFault) → after.core ≡ new.core → after.course ≡ new.course → Does es old new r → Does es old after r
does_after es old new after r core course d = record {
  course = course ∙ d.course;
  journal = ap (λ (c : Core). c.journal) core ∙ d.journal;
  refused = ap (λ (c : Core). c.refused) core ∙ d.refused;
  core = λ h. core ∙ d.core h;
  outcome = λ h. d.outcome h ∙ ap (λ (c : Core). outcome_by c.ended) (sym core);
  going = d.going;
  rooms = d.rooms;
}
