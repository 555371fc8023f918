-- What events show of the disks of any number of copies: one event, and one run of them behind another.
use Rattle.std.proofs.Common.{◌≡◌, ◌∙◌, ap, sym, subst, ℕ, Bool, true, false, List, [], ◌∷◌, ◌++◌, Option, Some, None, refl, arith}
use Rattle.std.specs.Prelude.{OnOk, Result, Ok, Err, ⊤, if◌then◌else◌}
use Rattle.hs_cluster.proofs.CountLemmas.{all_none, all_one, all_quiet, all_still, all_then}
use Rattle.hs_cluster.proofs.EventLemmas.{still_going}
use Rattle.hs_cluster.proofs.PeerEventLemmas.{SlotStays, quiet_fine, quiet_peers}
use Rattle.hs_cluster.proofs.PeerReportLemmas.{call_peers, peers_told, report_peers, report_peers_fine}
use Rattle.hs_cluster.proofs.ReadLemmas.{some_job}
use Rattle.hs_cluster.proofs.StretchLemmas.{call_earlier, call_keeps, call_lists, call_moments, lists_then, none_yet, runs_append, runs_core, step_going, stored_back, stored_front, told_by}
use Rattle.hs_cluster.proofs.CachedLemmas.{cached_as, cached_blocks, cached_on, cached_read}
use Rattle.hs_cluster.specs.Cached.{AreBlocks, AreCached, KeepsRead}
use Rattle.hs_cluster.specs.Calls.{Does, done_of, ran_out}
use Rattle.hs_cluster.specs.Counts.{AreAllCounted, HasAllPaid, NoneFalls}
use Rattle.hs_cluster.specs.declared.fault.ClusterFault.{ClusterFault}
use Rattle.hs_cluster.specs.declared.fault.ClusterFault.TheVariants.{NoMemory}
use Rattle.hs_cluster.specs.Disks.{DiskSeen, log_at, stands_of}
use Rattle.hs_cluster.specs.Headed.{IsHeadedAt, StaysHeadedAt}
use Rattle.hs_cluster.specs.Jobs.{HasStored, TellsBytes, Working, Works, is_own}
use Rattle.hs_cluster.specs.Kept.{AreStored, IsTold, ShowsLists, Span, sealed_front}
use Rattle.hs_cluster.specs.PeerLogs.{HasPeerLog, KeepsPeers, log_of_peer}
use Rattle.hs_cluster.specs.Running.{Running}
use Rattle.hs_cluster.specs.Steady.{AreSteady, AsksFor, GoesAlong, IsNextOwn, IsSteady, StepsSteadily}
use Rattle.hs_core_words.specs.declared.event.Event.{Event}
use Rattle.hs_core_words.specs.declared.event.Event.TheVariants as event
use Rattle.hs_core_words.specs.Looking.{catalogue_of, first_job, home, front_of}
use Rattle.hs_core_words.specs.State.{Core}
use Rattle.hs_core_words.specs.Step.{step}
use Rattle.hs_desk.specs.declared.done.Done.{Done}
use Rattle.hs_desk.specs.declared.job.Job.TheVariants as job
use Rattle.hs_desk.specs.declared.fault.CoreFault.{CoreFault}
use Rattle.hs_desk.specs.declared.job.Job.{Job}
use Rattle.hs_entry.specs.declared.entry.Entry.{Entry}
use Rattle.hs_events.specs.Asked.{report_in}
use Rattle.hs_events.specs.Course.{happened, is_refused, steps}
use Rattle.hs_events.specs.Due.{Events, MomentsRise, is_answer}
use Rattle.hs_events.specs.Reports.{TellsOf}
use Rattle.hs_events.specs.Sane.{appended_of}
use Rattle.hs_events.specs.Whole.{Whole, counts, step_whole}
use Rattle.hs_fold.specs.Shards.Setting.{Numbered}
use Rattle.hs_members.specs.Members.{IsPeer}
use Rattle.hs_moments.proofs.CoreLemmas.{shape_at}
use Rattle.hs_moments.proofs.MomentLemmas.{call-keeps, quiet-keeps}
use Rattle.hs_moments.specs.Machine.{runs}
use Rattle.hs_moments.specs.Moments.{EachImageOfOne, GivesFine, Grows, Keeps, Since}
use Rattle.hs_moments.specs.WholeMachine.{whole_machine}
use Rattle.hs_peerlog.specs.Lists.{IsKept, Keeping, numbered_entry}
use Rattle.hs_ports.specs.declared.disk.Side.{Side}
use Rattle.hs_ports.specs.Moments.{disk_at}
use Rattle.hs_side.specs.Headers.{own_header}

-- ---- along events

pub steady_front : (c : Whole) (es fs : Events) → (steps c.core es).ended ≡ None → AreSteady c (es ++ fs) → AreSteady c es
steady_front c [] [] going h = h
steady_front c [] (f ∷ fs) going h = λ was. (h.0 was).0
steady_front c (e ∷ es) fs going h = (h.0, steady_front (step_whole e.0 e.1 c) es fs going h.1)

pub steady_back : (c : Whole) (es fs : Events) → AreSteady c (es ++ fs) → AreSteady (runs whole_machine c es) fs
steady_back c [] fs h = h
steady_back c (e ∷ es) fs h = steady_back (step_whole e.0 e.1 c) es fs h.1

-- ---- one event

module _ (c : Whole) (e : Event) (now : ℕ) (was : c.core.ended ≡ None) where
  first_steady : (r : Result ⊤ ClusterFault) → AreSteady c (done_of r (e, now)) → IsSteady c
  first_steady r steady = go (ran_out r) steady
    where
      go : (b : Bool) → AreSteady c (if b then [] else (e, now) ∷ []) → IsSteady c
      go true h = h was
      go false h = (h.0 was).0

  -- what is so before it, and behind it where it happened
  goes_behind : (Q : Whole → Type 0) (r : Result ⊤ ClusterFault) → AreSteady c (done_of r (e, now)) → Q c → (is_refused (step e now c.core).ended ≡ false → StepsSteadily c (e, now) → Q (step_whole e now c))
      → Q (runs whole_machine c (happened c.core (done_of r (e, now))))
  goes_behind Q r steady before after = go (ran_out r) steady
    where
      last : (b : Bool) → is_refused (step e now c.core).ended ≡ b → StepsSteadily c (e, now) → Q (runs whole_machine c (if b then [] else (e, now) ∷ []))
      last true is steps = before
      last false is steps = after is steps

      go : (b : Bool) → AreSteady c (if b then [] else (e, now) ∷ []) → Q (runs whole_machine c (happened c.core (if b then [] else (e, now) ∷ [])))
      go true h = before
      go false h = last (is_refused (step e now c.core).ended) refl (h.0 was).1

-- behind it the core goes on, or a shard was lost
by_end : (c : Whole) (e : Event) (now : ℕ) → StepsSteadily c (e, now) → is_refused (step e now c.core).ended ≡ false → (Q : Whole → Type 0) → (GoesAlong c e (step_whole e now c) → Q (step_whole e now c))
    → (((peer : ℕ) → Grows whole_machine c (step_whole e now c) peer) → Q (step_whole e now c)) → Q (step_whole e now c)
by_end c e now steps there Q on lost = go (step e now c.core).ended refl
  where
    go : (o : Option CoreFault) → (step e now c.core).ended ≡ o → Q (step_whole e now c)
    go None is = on (steps.on is)
    go (Some fault) is = lost (steps.lost fault is (ap is_refused (sym is) ∙ there))

-- what is fine stays so
grown_fine : (c new : Whole) (peer : ℕ) (image : Side → List ℕ) → Grows whole_machine c new peer → GivesFine whole_machine c peer image → GivesFine whole_machine new peer image
grown_fine c new peer image g fine = record { list = fine.list; read = fine.read; front = g.front fine.list fine.front; long = let low = fine.long in let no_more = g.long in omega (arith, low, no_more) }

-- the core goes on as the cluster's does
was_going : (c : Whole) (old : Running) → c.core ≡ old.core → old.core.ended ≡ None → c.core.ended ≡ None
was_going c old core was = ap (λ (x : Core). x.ended) core ∙ was

pub quiet_lists : (e : Event) (now : ℕ) (old new : Running) (disks : List DiskSeen) (r : Result ⊤ ClusterFault) → report_in e ≡ None → old.core.ended ≡ None → Does (done_of r (e, now)) old new r
    → ((p : ℕ) → SlotStays e old.logs new.logs p) → new.cache ≡ old.cache → ShowsLists (record { before = now; now = now; old = old; new = new; disks = disks; left = disks }) r (done_of r (e, now))
quiet_lists e now old new disks r quiet was does stays same = record {
  lists = λ c core steady can has. record {
    earlier = λ peer m side low fits. refl;
    moments = record { fine = λ m peer low high fits counted image left. absurd (omega (arith, low, high)) };
    keeps = goes_behind c e now (was_going c old core was) (λ s. Keeps whole_machine s now (stands_of disks)) r steady can.keeps
        (λ there steps. by_end c e now steps there (λ s. Keeps whole_machine s now (stands_of disks)) (λ goes. quiet_fine c e now old.logs new.logs disks (was_going c old core was) quiet stays can goes)
        (λ grows. quiet-keeps whole_machine c (step_whole e now c) now (stands_of disks) grows can.keeps));
    told = told_by c e now r (subst (λ o. IsTold c o) (sym quiet) tt);
  };
  goes_on = λ c core steady can. go r does c core steady can;
  read = λ c core steady can stored. all_quiet old.core e now r disks quiet;
  cached = λ c core steady can has. on r does c core steady has;
}
  where
    on : (r : Result ⊤ ClusterFault) → Does (done_of r (e, now)) old new r → (c : Whole) → c.core ≡ old.core → AreSteady c (done_of r (e, now)) → AreCached c old.cache → OnOk r (AreCached (runs whole_machine c (done_of r (e, now))) new.cache)
    on (Err fault) does c core steady has = tt
    on (Ok done) does c core steady has =
        let going : (step e now c.core).ended ≡ None = ap (λ x. (step e now x).ended) core ∙ step_going e now old new does in
        cached_as (step_whole e now c) old.cache new.cache same
        (cached_on c (step_whole e now c) old.cache (shape_at c.core e now) ((steady.0 (was_going c old core was)).1.on going).effect has)

    go : (r : Result ⊤ ClusterFault) → Does (done_of r (e, now)) old new r → (c : Whole) → c.core ≡ old.core → AreSteady c (done_of r (e, now)) → KeepsPeers c old.logs disks now
        → OnOk r (KeepsPeers (runs whole_machine c (done_of r (e, now))) new.logs disks now)
    go (Err fault) does c core steady can = tt
    go (Ok done) does c core steady can =
        let going : (step e now c.core).ended ≡ None = ap (λ x. (step e now x).ended) core ∙ step_going e now old new does in
        quiet_peers c e now old.logs new.logs disks (was_going c old core was) quiet stays can ((steady.0 (was_going c old core was)).1.on going)

-- nothing was done, and nothing came
pub none_lists : (now : ℕ) (old new : Running) (disks : List DiskSeen) → ShowsLists (record { before = now; now = now; old = old; new = new; disks = disks; left = disks }) (Err NoMemory) []
none_lists now old new disks = record {
  lists = λ c core steady can has. record {
    earlier = λ peer m side low fits. refl;
    moments = record { fine = λ m peer low high fits counted image left. absurd (omega (arith, low, high)) };
    keeps = can.keeps;
    told = tt;
  };
  goes_on = λ c core steady can. tt;
  read = λ c core steady can stored. all_still old.core disks;
  cached = λ c core steady can has. tt;
}

pub begin_lists : (now : ℕ) (old : Running) (disks : List DiskSeen) → ShowsLists (record { before = now; now = now; old = old; new = old; disks = disks; left = disks }) (Ok tt) []
begin_lists now old disks = record {
  lists = λ c core steady can has. record {
    earlier = λ peer m side low fits. refl;
    moments = record { fine = λ m peer low high fits counted image left. absurd (omega (arith, low, high)) };
    keeps = can.keeps;
    told = tt;
  };
  goes_on = λ c core steady can. can;
  read = λ c core steady can stored. all_still old.core disks;
  cached = λ c core steady can has. has;
}

-- it is given up
pub cut_lists : (span : Span) (fault : ClusterFault) (es : Events) → ShowsLists span (Ok tt) es → ShowsLists span (Err fault) es
cut_lists span fault es shows = record { lists = shows.lists; goes_on = λ c core steady can. tt; cached = λ c core steady can has. tt; read = shows.read }

-- ---- what a job costs

-- of a job that was done: its call that failed is at the count, also where it only read, if the log has what is read
pub record PaysFor (peer : ℕ) (done : Done) (core : Core) (logs : List (Option Keeping)) (disks left : List DiskSeen) : Type 0 where
  pub own : is_own (first_job peer core) ≡ true → (list : Numbered) (waiting : Option Entry) → ((keeping : Keeping) → log_at logs peer ≡ Some keeping → IsKept keeping ((disk_at (stands_of disks) peer).seen keeping.log.side) list waiting)
      → HasStored (first_job peer core) (catalogue_of (home peer core) core).blocks list → HasAllPaid core peer done disks left
  pub emptied : first_job peer core ≡ Some job.Reset → HasAllPaid core peer done disks left
  pub copied : (from number : ℕ) → first_job peer core ≡ Some (job.Copy from number) → (list : Numbered) (waiting : Option Entry) (entry : Entry)
      → ((keeping : Keeping) → log_at logs from ≡ Some keeping → IsKept keeping ((disk_at (stands_of disks) from).seen keeping.log.side) list waiting) → numbered_entry list number ≡ Some entry → HasAllPaid core peer done disks left

same_log : (x y : Keeping) (logs : List (Option Keeping)) (at : ℕ) → log_at logs at ≡ Some x → log_at logs at ≡ Some y → x ≡ y
same_log x y logs at one other = same (sym one ∙ other)
  where
    same : Some x ≡ Some y → x ≡ y
    same e = cc e

module _ (c : Whole) (peer : ℕ) (told : Done) (logs : List (Option Keeping)) (disks left : List DiskSeen) (before : ℕ) (is : IsPeer c.core.members.shape peer) (steady : IsSteady c) (keeps : KeepsPeers c logs disks before)
    (stored : HasStored (first_job peer c.core) (catalogue_of (home peer c.core) c.core).blocks (sealed_front c peer)) where
  -- the log of a peer that is told of reads so
  reads_so : (at : ℕ) (list : Numbered) → IsPeer c.core.members.shape at → log_of_peer c at ≡ Some list → (keeping : Keeping) → log_at logs at ≡ Some keeping → IsKept keeping ((disk_at (stands_of disks) at).seen keeping.log.side) list (appended_of at c.core)
  reads_so at list there is_told keeping used =
      let log : HasPeerLog c.core.members.shape logs disks at list (appended_of at c.core) = keeps.listed.each at list there is_told in
      subst (λ (k : Keeping). IsKept k ((disk_at (stands_of disks) at).seen k.log.side) list (appended_of at c.core)) (same_log log.keeping keeping logs at log.used used) log.has.kept

  pub job_pays : is_answer c.core peer told ≡ true → PaysFor peer told c.core logs disks left → HasAllPaid c.core peer told disks left
  job_pays answer pays = let its = some_job c.core peer told answer in by its.0 its.1 (steady.asks peer its.0 is its.1)
    where
      own : (j : Job) → is_own (Some j) ≡ true → first_job peer c.core ≡ Some j → IsNextOwn c peer j → HasAllPaid c.core peer told disks left
      own j usual first next = pays.own (ap is_own first ∙ usual) (sealed_front c peer) (appended_of peer c.core) (reads_so peer (sealed_front c peer) is next.log) stored

      by : (j : Job) → first_job peer c.core ≡ Some j → AsksFor c peer j → HasAllPaid c.core peer told disks left
      by (job.Append number entry) first next = own (job.Append number entry) refl first next
      by (job.Seal number) first next = own (job.Seal number) refl first next
      by (job.Read number) first next = own (job.Read number) refl first next
      by job.Reset first next = pays.emptied first
      by (job.Copy from number) first next =
          pays.copied from number first (sealed_front c from) (appended_of from c.core) next.sealed.0 (reads_so from (sealed_front c from) next.there next.source) next.sealed.1
      by job.Reclaim first next = absurd next

-- ---- a call and its report

works_as : {E : Type 0} (peer : ℕ) (w : Working) (result : Result Done E) (c : Whole) (core : Core) → c.core ≡ core → Works (own_header core.members.shape peer) w (first_job peer core) result
    → Works (own_header c.core.members.shape peer) w (first_job peer c.core) result
works_as peer w result c core same works = subst (λ (x : Core). Works (own_header x.members.shape peer) w (first_job peer x) result) (sym same) works

is_peer : (peer : ℕ) (c : Whole) (core : Core) → c.core ≡ core → IsPeer core.members.shape peer → IsPeer c.core.members.shape peer
is_peer peer c core same is = subst (λ (x : Core). IsPeer x.members.shape peer) (sym same) is

-- the job was not done, or its report did not come
pub job_cut_lists : (before now peer : ℕ) (old new : Running) (after : List (Option Keeping)) (disks left : List DiskSeen) {E : Type 0} (result : Result Done E) → IsPeer old.core.members.shape peer → old.core.ended ≡ None → Since (stands_of disks)
    → Works (own_header old.core.members.shape peer) (record { peer = peer; before = before; now = now; logs = old.logs; after = after; disks = disks; left = left }) (first_job peer old.core) result
    → NoneFalls disks left → ShowsLists (record { before = before; now = now; old = old; new = new; disks = disks; left = left }) (Err NoMemory) []
job_cut_lists before now peer old new after disks left {E = E} result is was since works falls = record {
  lists = λ c core steady can has.
      let w : Working = record { peer = peer; before = before; now = now; logs = old.logs; after = after; disks = disks; left = left } in
      let call = call_peers c w (steady (was_going c old core was)) (is_peer peer c old.core core is) can result (works_as peer w result c old.core core works) in
      call_lists c before now peer (stands_of disks) (stands_of left) since can.keeps call (record { before = before; now = now; old = old; new = new; disks = disks; left = left }) refl refl refl refl;
  goes_on = λ c core steady can. tt;
  read = λ c core steady can stored. all_none old.core disks left falls;
  cached = λ c core steady can has. tt;
}

-- the job was done, and its report came, unless memory ran out or it was refused
pub job_lists : (before now peer : ℕ) (old new : Running) (after : List (Option Keeping)) (disks left : List DiskSeen) (E : Type 0) (done : Done) (r : Result ⊤ ClusterFault) → IsPeer old.core.members.shape peer → old.core.ended ≡ None
    → is_answer old.core peer done ≡ true → Since (stands_of disks)
    → Works {E = E} (own_header old.core.members.shape peer) (record { peer = peer; before = before; now = now; logs = old.logs; after = after; disks = disks; left = left }) (first_job peer old.core) (Ok done)
    → (IsHeadedAt (own_header old.core.members.shape peer) before old.logs disks peer → StaysHeadedAt (own_header old.core.members.shape peer) before now disks after left peer)
    → new.logs ≡ after → Does (done_of r (event.Report peer done, now)) old new r → TellsBytes done
    → (is_own (first_job peer old.core) ≡ true → (list : Numbered) (waiting : Option Entry) → ((keeping : Keeping) → log_at old.logs peer ≡ Some keeping → IsKept keeping ((disk_at (stands_of disks) peer).seen keeping.log.side) list waiting)
    → ((number : ℕ) → first_job peer old.core ≡ Some (job.Read number) → AreBlocks old.cache (home peer old.core) list) → TellsOf done (Some list))
    → KeepsRead (home peer old.core) (front_of (home peer old.core) old.core) done old.cache new.cache
    → NoneFalls disks left → PaysFor peer done old.core old.logs disks left
    → ShowsLists (record { before = before; now = now; old = old; new = new; disks = disks; left = left }) r (done_of r (event.Report peer done, now))
job_lists before now peer old new after disks left E done r is was answer since works heads kept does bytes tells reads falls pays = record {
  lists = λ c core steady can has.
      let steady_now = first_steady c e now (was_going c old core was) r steady in
      let call = called c core steady_now can in
      record {
        earlier = call_earlier c before now peer (stands_of disks) (stands_of left) since can.keeps call;
        moments = call_moments c before now peer (stands_of disks) (stands_of left) since can.keeps call (happened c.core (done_of r (e, now))) (none_yet c e now r);
        keeps = goes_behind c e now (was_going c old core was) (λ s. Keeps whole_machine s now (stands_of left)) r steady
            (call_keeps c before now peer (stands_of disks) (stands_of left) since can.keeps call)
            (λ there steps. by_end c e now steps there (λ s. Keeps whole_machine s now (stands_of left))
            (λ goes. report_peers_fine c w steady_now (low c core) can done now E (works_in c core) (answers c core) (was_going c old core was) goes (heads_in c core))
            (λ grows. call-keeps whole_machine c (step_whole e now c) before now peer (stands_of disks) (stands_of left) (λ image. counts c peer ≡ true → GivesFine whole_machine c peer image) (λ k differs. grows k) call
            (λ counted image stands. grown_fine c (step_whole e now c) peer image (grows peer) (call.standing image stands ((grows peer).counted counted))) can.keeps));
        told = told_by c e now r (told_in c core steady_now can has, bytes);
      };
  goes_on = λ c core steady can. go r does c core steady can;
  read = λ c core steady can stored. read_then c core (first_steady c e now (was_going c old core was) r steady) can (ran_out r) stored;
  cached = λ c core steady can has. on r does c core steady can has;
}
  where
    e : Event
    e = event.Report peer done

    w : Working
    w = record { peer = peer; before = before; now = now; logs = old.logs; after = after; disks = disks; left = left }

    low : (c : Whole) → c.core ≡ old.core → IsPeer c.core.members.shape peer
    low c core = is_peer peer c old.core core is

    works_in : (c : Whole) → c.core ≡ old.core → Works {E = E} (own_header c.core.members.shape peer) w (first_job peer c.core) (Ok done)
    works_in c core = works_as {E = E} peer w (Ok done) c old.core core works

    answers : (c : Whole) → c.core ≡ old.core → is_answer c.core peer done ≡ true
    answers c core = subst (λ x. is_answer x peer done ≡ true) (sym core) answer

    heads_in : (c : Whole) → c.core ≡ old.core → IsHeadedAt (own_header c.core.members.shape peer) before old.logs disks peer → StaysHeadedAt (own_header c.core.members.shape peer) before now disks after left peer
    heads_in c core = subst (λ (x : Core). IsHeadedAt (own_header x.members.shape peer) before old.logs disks peer → StaysHeadedAt (own_header x.members.shape peer) before now disks after left peer) (sym core) heads

    read_then : (c : Whole) → c.core ≡ old.core → IsSteady c → KeepsPeers c old.logs disks before → (b : Bool) → AreStored c (if b then [] else (e, now) ∷ []) → AreAllCounted old.core (if b then [] else (e, now) ∷ []) disks left
    read_then c core steady can true stored = all_none old.core disks left falls
    read_then c core steady can false stored =
        all_one old.core e now (Ok tt) disks left falls
        (subst (λ x. HasAllPaid x peer done disks left) core
        (job_pays c peer done old.logs disks left before (low c core) steady can (stored.0 (was_going c old core was) peer) (answers c core) (subst (λ x. PaysFor peer done x old.logs disks left) (sym core) pays)))

    called : (c : Whole) → c.core ≡ old.core → IsSteady c → KeepsPeers c old.logs disks before → EachImageOfOne before now peer (stands_of disks) (stands_of left) (λ image. counts c peer ≡ true → GivesFine whole_machine c peer image)
    called c core steady can = call_peers c w steady (low c core) can (Ok done) (works_in c core)

    -- a peer that reads has the blocks that are cached
    blocks_in : (c : Whole) → c.core ≡ old.core → IsSteady c → AreCached c old.cache → (number : ℕ) → first_job peer old.core ≡ Some (job.Read number) → AreBlocks old.cache (home peer old.core) (sealed_front c peer)
    blocks_in c core steady has number first =
        subst (λ x. AreBlocks old.cache (home peer x) (sealed_front c peer)) core
        (cached_blocks c old.cache peer (low c core) (steady.reads peer number (low c core) (ap (first_job peer) core ∙ first)) has)

    told_in : (c : Whole) → c.core ≡ old.core → IsSteady c → KeepsPeers c old.logs disks before → AreCached c old.cache → TellsOf done (Some (sealed_front c peer))
    told_in c core steady can has = peers_told c w steady (low c core) can done now E (works_in c core) (answers c core)
        (λ own each. tells (ap is_own (ap (first_job peer) (sym core)) ∙ own) (sealed_front c peer) (appended_of peer c.core) each (blocks_in c core steady has))

    on : (r : Result ⊤ ClusterFault) → Does (done_of r (e, now)) old new r → (c : Whole) → c.core ≡ old.core → AreSteady c (done_of r (e, now)) → KeepsPeers c old.logs disks before → AreCached c old.cache
        → OnOk r (AreCached (runs whole_machine c (done_of r (e, now))) new.cache)
    on (Err fault) does c core steady can has = tt
    on (Ok x) does c core steady can has =
        let going : (step e now c.core).ended ≡ None = ap (λ x. (step e now x).ended) core ∙ step_going e now old new does in
        let both = steady.0 (was_going c old core was) in
        cached_on c (step_whole e now c) new.cache (shape_at c.core e now) (both.1.on going).effect
        (cached_read c peer done old.cache new.cache (answers c core) (λ number first. both.0.reads peer number (low c core) first) (told_in c core both.0 can has)
        (subst (λ x. KeepsRead (home peer x) (front_of (home peer x) x) done old.cache new.cache) (sym core) reads) has)

    go : (r : Result ⊤ ClusterFault) → Does (done_of r (e, now)) old new r → (c : Whole) → c.core ≡ old.core → AreSteady c (done_of r (e, now)) → KeepsPeers c old.logs disks before
        → OnOk r (KeepsPeers (runs whole_machine c (done_of r (e, now))) new.logs left now)
    go (Err fault) does c core steady can = tt
    go (Ok x) does c core steady can =
        let going : (step e now c.core).ended ≡ None = ap (λ x. (step e now x).ended) core ∙ step_going e now old new does in
        let both = steady.0 (was_going c old core was) in
        subst (λ l. KeepsPeers (step_whole e now c) l left now) (sym kept)
        (report_peers c w both.0 (low c core) can done now E (works_in c core) (answers c core) (was_going c old core was) (both.1.on going) (heads_in c core))

-- ---- some events behind others

pub lists_behind : (before mid now : ℕ) (old here new : Running) (disks between left : List DiskSeen) (r : Result ⊤ ClusterFault) (es fs : Events) → Does es old here (Ok tt) → MomentsRise before es mid → MomentsRise mid fs now
    → ShowsLists (record { before = before; now = mid; old = old; new = here; disks = disks; left = between }) (Ok tt) es
    → ShowsLists (record { before = mid; now = now; old = here; new = new; disks = between; left = left }) r fs
    → ShowsLists (record { before = before; now = now; old = old; new = new; disks = disks; left = left }) r (es ++ fs)
lists_behind before mid now old here new disks between left r es fs does rise on first second = record {
  lists = λ c core steady can has.
      lists_then c es fs before mid now old here new disks between left (going c core) rise on (first.lists c core (front c core steady) can has)
      (second.lists (runs whole_machine c es) (core_then c core) (steady_back c es fs steady) (first.goes_on c core (front c core steady) can) (first.cached c core (front c core steady) can has));
  goes_on = λ c core steady can.
      subst (λ s. OnOk r (KeepsPeers s new.logs left now)) (sym (runs_append c es fs))
      (second.goes_on (runs whole_machine c es) (core_then c core) (steady_back c es fs steady) (first.goes_on c core (front c core steady) can));
  read = λ c core steady can stored.
      all_then old.core here.core es fs disks between left (does.core refl) (first.read c core (front c core steady) can (stored_front c es fs stored))
      (second.read (runs whole_machine c es) (core_then c core) (steady_back c es fs steady) (first.goes_on c core (front c core steady) can) (stored_back c es fs stored));
  cached = λ c core steady can has.
      subst (λ s. OnOk r (AreCached s new.cache)) (sym (runs_append c es fs))
      (second.cached (runs whole_machine c es) (core_then c core) (steady_back c es fs steady) (first.goes_on c core (front c core steady) can) (first.cached c core (front c core steady) can has));
}
  where
    core_then : (c : Whole) → c.core ≡ old.core → (runs whole_machine c es).core ≡ here.core
    core_then c core = runs_core c es ∙ ap (λ x. steps x es) core ∙ sym (does.core refl)

    going : (c : Whole) → c.core ≡ old.core → (steps c.core es).ended ≡ None
    going c core = ap (λ x. (steps x es).ended) core ∙ ap (λ (x : Core). x.ended) (sym (does.core refl)) ∙ still_going es old here does

    front : (c : Whole) → c.core ≡ old.core → AreSteady c (es ++ fs) → AreSteady c es
    front c core steady = steady_front c es fs (going c core) steady
