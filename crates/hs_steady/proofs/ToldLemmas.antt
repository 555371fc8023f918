-- What the log of a peer has behind an event, and what waits there.
use Rattle.std.proofs.Common.{◌≡◌, ◌≢◌, ◌∙◌, ap, sym, subst, refl, inl, inr, ℕ, ◌+◌, ◌≤◌, true, false, List, [], ◌∷◌, ◌++◌, Some, None, flat_map, length, arith}
use Rattle.std.proofs.lemmas.List.{length-append, length-drop, take-append-le, take_at}
use Rattle.std.specs.Prelude.{drop, take}
use Rattle.hs_cluster.proofs.HeldLemmas.{append_is, read_is, seal_is}
use Rattle.hs_cluster.specs.PeerLogs.{log_of_peer}
use Rattle.hs_cluster.specs.Sealed.{sealed_front}
use Rattle.hs_cluster.specs.Steady.{KeepsItsLog, TellsItsLog}
use Rattle.hs_copies.specs.Machine.{Copies}
use Rattle.hs_core_copies.proofs.NextLemmas.{first_is_next}
use Rattle.hs_core_copies.proofs.ReportLemmas.{copy_is, reset_is}
use Rattle.hs_core_copies.proofs.StepsLemmas.{was_going}
use Rattle.hs_core_copies.specs.InStep.{IsOf, rejoin_at}
use Rattle.hs_core_copies.specs.Jobs.{seal_of, tasks_for, unsealed}
use Rattle.hs_core_words.specs.declared.event.Event.{Event}
use Rattle.hs_core_words.specs.declared.event.Event.TheVariants as event
use Rattle.hs_core_words.specs.declared.task.Task.{Task}
use Rattle.hs_core_words.specs.Looking.{first_job, group_of, sealed_of, status_of, tasks_of}
use Rattle.hs_core_words.specs.State.{Core}
use Rattle.hs_core_words.specs.Step.{step}
use Rattle.hs_desk.specs.Answers.{is_reclaim}
use Rattle.hs_desk.specs.declared.done.Done.{Done}
use Rattle.hs_desk.specs.declared.done.Done.TheVariants as done
use Rattle.hs_desk.specs.declared.job.Job.{Job}
use Rattle.hs_desk.specs.declared.job.Job.TheVariants as job
use Rattle.hs_entry.specs.declared.entry.Entry.{Entry}
use Rattle.hs_events.specs.Sane.{appended_of}
use Rattle.hs_events.specs.Whole.{Whole, floor, reach, step_whole, taken_report, told_list}
use Rattle.hs_fold.specs.Shards.Setting.{Numbered}
use Rattle.hs_limits.specs.declared.limits.PeerStatus.{PeerStatus}
use Rattle.hs_limits.specs.declared.limits.PeerStatus.TheVariants.{Good, Joining}
use Rattle.hs_moments.specs.WholeMachine.{IsFrontOf}
use Rattle.hs_whole_copies.proofs.CopiedLemmas.{next_copied}
use Rattle.hs_whole_copies.proofs.ReportedLemmas.{IsOn, TellsList, reported_on}
use Rattle.hs_whole_copies.specs.Copying.{IsNextCopied}
use Rattle.hs_whole_copies.specs.Whole.{IsShardInStep}
use Rattle.hs_steady.proofs.FaresLemmas.{Fares, Left, Off, untold_fares}
use Rattle.hs_steady.proofs.LeavesLemmas.{Leaves, LeavesWork}
use Rattle.hs_steady.proofs.ListedLemmas.{IsReport, IsUntold, all_told, begins_off, front_told, list_told, list_untold, none_taken, report_is}
use Rattle.hs_steady.proofs.PeerLemmas.{FollowsOn, IsGood, IsOff, LogSeen, appended_is, floor_good, log_good, log_seen, none_appended, number_is, reach_good, rest_is, sealed_held}
use Rattle.hs_steady.proofs.QueueLemmas.{IsAnswered, ToAppend, ToRead, ToSeal, first_job_by, first_queued, job_answered, more_none, none_by, queue_none, same_next, to_append, to_read, to_seal}
use Rattle.hs_steady.proofs.TakenLemmas.{TellsWork, failed_told, sealed_copied, sealed_emptied, sealed_sealed, told_of, told_tasks, work_told}
use Rattle.hs_steady.proofs.TakenLemmas.{list_told as list_work}

some_is : {X : Type 0} (x y : X) → Some x ≡ Some y → x ≡ y
some_is x y e = cc e

no_some : {X P : Type 0} (x : X) → Some x ≡ None → P
no_some x e = absurd (never x e)
  where
    never : {X : Type 0} (x : X) → Some x ≡ None → ⊥
    never x e = cc e

joins_not : {P : Type 0} (x : PeerStatus) → x ≡ Good → x ≡ Joining → P
joins_not x good joins = absurd (never x good joins)
  where
    never : (x : PeerStatus) → x ≡ Good → x ≡ Joining → ⊥
    never x good joins = let wrong : Good ≡ Joining = sym good ∙ joins in cc wrong

pub reclaim_is : (j : Job) → is_reclaim j ≡ true → j ≡ job.Reclaim
reclaim_is (job.Append number entry) e = let wrong : false ≡ true = e in absurd (cc wrong)
reclaim_is (job.Seal number) e = let wrong : false ≡ true = e in absurd (cc wrong)
reclaim_is (job.Read number) e = let wrong : false ≡ true = e in absurd (cc wrong)
reclaim_is job.Reset e = let wrong : false ≡ true = e in absurd (cc wrong)
reclaim_is (job.Copy from number) e = let wrong : false ≡ true = e in absurd (cc wrong)
reclaim_is job.Reclaim e = refl

-- ---- one shard before and behind an event

module _ (g q : ℕ) (e : Event) (at : ℕ) (c : Whole) (s t : Copies Entry) (k : IsShardInStep g c s) (own : IsOf c.core.members.shape g q) (on : (step e at c.core).ended ≡ None)
    (k' : IsShardInStep g (step_whole e at c) t) (own' : IsOf (step e at c.core).members.shape g q) where
  abbrev new : Whole
  new = step_whole e at c

  -- ---- lists that grew

  -- what is sealed of a good peer's list, where as much is
  front_same : (n : ℕ) → floor (step_whole e at c) q ≡ n → status_of q (step e at c.core) ≡ Good → (xs more : Numbered) → (step_whole e at c).lists q ≡ xs ++ more → n ≤ length xs → sealed_front (step_whole e at c) q ≡ take n xs
  front_same n f good xs more is low =
      ap (λ i. take i (reach (step_whole e at c) q)) f ∙ ap (take n) (reach_good g q (step_whole e at c) t k' own' good ∙ is) ∙ take-append-le n xs more low

  -- of one of which nothing is told
  same_front : told_list c q (taken_report c.core e) ≡ c.lists q → sealed_of q (step e at c.core) ≡ sealed_of q c.core → status_of q c.core ≡ Good → status_of q (step e at c.core) ≡ Good
      → sealed_front (step_whole e at c) q ≡ sealed_front c q
  same_front is sealed good good' =
      let f = front_told g q e at c s t k own on k' own' (c.lists q) is in
      front_same (sealed_of q c.core) (floor_good (step_whole e at c) q good' ∙ sealed) good' (c.lists q) f.0 f.1 (sealed_held g q c s k own)
      ∙ ap (λ i. take i (c.lists q)) (sym (floor_good c q good)) ∙ ap (take (floor c q)) (sym (reach_good g q c s k own good))

  -- the entry that is to be sealed is the first that was not sealed
  waits_first : told_list c q (taken_report c.core e) ≡ c.lists q → sealed_of q (step e at c.core) ≡ sealed_of q c.core → status_of q c.core ≡ Good
      → (first : ℕ × Entry) (others : Numbered) → unsealed q (group_of g c.core) ≡ first ∷ others → (number : ℕ) → first_job q (step e at c.core) ≡ Some (job.Seal number) → appended_of q (step e at c.core) ≡ Some first.1
  waits_first is sealed good first others all number j =
      let f = front_told g q e at c s t k own on k' own' (c.lists q) is in
      let u : ToSeal q (step e at c.core) (unsealed q (group_of g (step e at c.core))) number = to_seal g q (step e at c.core) t k'.in_step own' number j in
      let same : u.first ≡ first =
      same_next (sealed_of q c.core) (c.lists q) ((step_whole e at c).lists q) f.0 first u.first others u.others (sealed_held g q c s k own) f.1 (rest_is g q c s k own good first others all)
      (ap (λ n. drop n ((step_whole e at c).lists q)) (sym sealed) ∙ rest_is g q (step_whole e at c) t k' own' u.good u.first u.others u.all) in
      appended_is g q (step_whole e at c) t k' own' u.good u.first u.others u.all number j ∙ ap (λ (x : ℕ × Entry). Some x.1) same

  -- ---- it is left what it has

  same_waits : told_list c q (taken_report c.core e) ≡ c.lists q → Leaves q c.core (step e at c.core) → status_of q c.core ≡ Good → status_of q (step e at c.core) ≡ Good → appended_of q (step e at c.core) ≡ appended_of q c.core
  same_waits is l good good' = by_tasks (tasks_of q c.core) refl
    where
      by_job : (j : Job) → first_job q c.core ≡ Some j → first_job q (step e at c.core) ≡ Some j → appended_of q (step e at c.core) ≡ appended_of q c.core
      by_job (job.Append number entry) f h = rw (f, h) refl
      by_job (job.Seal number) f h =
          let u = to_seal g q c.core s k.in_step own number f in
          waits_first is l.work.sealed good u.first u.others u.all number h ∙ sym (appended_is g q c s k own good u.first u.others u.all number f)
      by_job (job.Read number) f h = rw (f, h) refl
      by_job job.Reset f h = rw (f, h) refl
      by_job (job.Copy from number) f h = rw (f, h) refl
      by_job job.Reclaim f h = rw (f, h) refl

      by_tasks : (ts : List Task) → tasks_of q c.core ≡ ts → appended_of q (step e at c.core) ≡ appended_of q c.core
      by_tasks [] i =
          queue_none q (step e at c.core) l.work.queue good' (l.work.tasks ∙ ap (λ us. us ++ flat_map tasks_for l.work.queue) i)
          ∙ sym (none_by q c.core (λ number j. let wrong : None ≡ Some (job.Seal number) = sym (first_queued q c.core [] good i) ∙ j in cc wrong))
      by_tasks (task ∷ ts) i =
          by_job task.job (first_queued q c.core (task ∷ ts) good i) (first_queued q (step e at c.core) (task ∷ ts ++ flat_map tasks_for l.work.queue) good' (l.work.tasks ∙ ap (λ us. us ++ flat_map tasks_for l.work.queue) i))

  keeps_same : told_list c q (taken_report c.core e) ≡ c.lists q → Leaves q c.core (step e at c.core) → (list : Numbered) → log_of_peer (step_whole e at c) q ≡ Some list
      → (log_of_peer c q ≡ Some list) × (appended_of q (step e at c.core) ≡ appended_of q c.core)
  keeps_same is l list there = go (log_seen (step_whole e at c) q)
    where
      was : status_of q (step e at c.core) ≡ Joining → (rejoin_at (step e at c.core) q).empty ≡ false → LogSeen c q → log_of_peer c q ≡ Some (c.lists q)
      was joins done (IsGood good seen) = joins_not (status_of q c.core) good (sym l.status ∙ joins)
      was joins done (FollowsOn joined following seen) = seen
      was joins done (IsOff off seen) = absurd (off (inr (sym l.status ∙ joins, l.follows done)))

      go : LogSeen (step_whole e at c) q → (log_of_peer c q ≡ Some list) × (appended_of q (step e at c.core) ≡ appended_of q c.core)
      go (IsGood good' seen) =
          let good : status_of q c.core ≡ Good = sym l.status ∙ good' in
          let front : sealed_front (step_whole e at c) q ≡ list = some_is (sealed_front (step_whole e at c) q) list (sym seen ∙ there) in
          (log_good c q good ∙ ap Some (sym (same_front is l.work.sealed good good') ∙ front), same_waits is l good good')
      go (FollowsOn joins done seen) =
          let bad : status_of q (step e at c.core) ≢ Good = λ good. joins_not (status_of q (step e at c.core)) good joins in
          let bad_old : status_of q c.core ≢ Good = λ good. joins_not (status_of q c.core) good (sym l.status ∙ joins) in
          let lists : (step_whole e at c).lists q ≡ c.lists q = all_told g q e at c s t k own on k' own' bad (c.lists q) is in
          let list_is : c.lists q ≡ list = sym lists ∙ some_is ((step_whole e at c).lists q) list (sym seen ∙ there) in
          (was joins done (log_seen c q) ∙ ap Some list_is, none_appended g q (step_whole e at c) t k' own' bad ∙ sym (none_appended g q c s k own bad_old))
      go (IsOff off seen) = no_some list (sym there ∙ seen)

  -- where it is left what it has, or its log is told of no more
  fares_same : told_list c q (taken_report c.core e) ≡ c.lists q → Fares q e c.core (step e at c.core) → (list : Numbered) → log_of_peer (step_whole e at c) q ≡ Some list
      → (log_of_peer c q ≡ Some list) × (appended_of q (step e at c.core) ≡ appended_of q c.core)
  fares_same is (Left l) list there = keeps_same is l list there
  fares_same is (Off off why) list there = go (log_seen (step_whole e at c) q)
    where
      go : LogSeen (step_whole e at c) q → (log_of_peer c q ≡ Some list) × (appended_of q (step e at c.core) ≡ appended_of q c.core)
      go (IsGood good seen) = absurd (off (inl good))
      go (FollowsOn joins done seen) = absurd (off (inr (joins, done)))
      go (IsOff none seen) = no_some list (sym there ∙ seen)

  begins_none : told_list c q (taken_report c.core e) ≡ c.lists q → log_of_peer (step_whole e at c) q ≡ None → IsFrontOf q (reach c q) (reach (step_whole e at c) q)
  begins_none is none = go (log_seen (step_whole e at c) q)
    where
      go : LogSeen (step_whole e at c) q → IsFrontOf q (reach c q) (reach (step_whole e at c) q)
      go (IsGood good seen) = no_some (sealed_front (step_whole e at c) q) (sym seen ∙ none)
      go (FollowsOn joins done seen) = no_some ((step_whole e at c).lists q) (sym seen ∙ none)
      go (IsOff off seen) = begins_off g q e at c s t k own on k' own' is off

  pub keeps_log : IsUntold q e c.core → KeepsItsLog c (step_whole e at c) q
  keeps_log n =
      let is : told_list c q (taken_report c.core e) ≡ c.lists q = list_untold q e c n in
      record {
        same = fares_same is (untold_fares g q e at c.core s k.in_step own (was_going e at c.core on) (none_taken q e c.core n));
        begins = begins_none is;
      }

  -- ---- its own report

  module _ (d : Done) (taken : taken_report c.core e ≡ Some (q, d)) where
    report : IsReport q d e c.core
    report = report_is q d e c.core taken

    going : c.core.ended ≡ None
    going = was_going e at c.core on

    -- the job that it answers
    job_there : IsAnswered q d c.core
    job_there = job_answered q d c.core report.answer

    first_is : first_job q c.core ≡ Some job_there.task.job
    first_is = first_job_by q c.core job_there.task job_there.first

    step_is_its : step e at c.core ≡ step (event.Report q d) at c.core
    step_is_its = ap (λ x. step x at c.core) report.is

    work : TellsWork d → Leaves q (told_of q d c.core) (step e at c.core)
    work tells = subst (Leaves q (told_of q d c.core)) (sym step_is_its) (work_told g q d at c.core s k.in_step own going job_there.task job_there.first job_there.fits tells)

    list_new : TellsList d → LeavesWork q (told_of q d c.core) (step e at c.core)
    list_new tells = subst (LeavesWork q (told_of q d c.core)) (sym step_is_its) (list_work g q d at c.core s k.in_step own going job_there.task job_there.first job_there.fits tells)

    on_new : TellsList d → IsOn q (step e at c.core)
    on_new tells = subst (IsOn q) (sym step_is_its) (reported_on g q d at c.core s k.in_step own tells job_there.task job_there.first job_there.fits (subst (λ (y : Core). y.ended ≡ None) step_is_its on))

    -- what its log has then begins its list
    by_log : (list : Numbered) → log_of_peer (step_whole e at c) q ≡ Some list → status_of q (step e at c.core) ≡ Good → sealed_front (step_whole e at c) q ≡ list
    by_log list there good = some_is (sealed_front (step_whole e at c) q) list (sym (log_good (step_whole e at c) q good) ∙ there)

    -- where its status stays it is good, and its log is told of
    some_log : status_of q (step e at c.core) ≡ Good → log_of_peer (step_whole e at c) q ≡ None → IsFrontOf q (reach c q) (reach (step_whole e at c) q)
    some_log good none = no_some (sealed_front (step_whole e at c) q) (sym (log_good (step_whole e at c) q good) ∙ none)

  -- an entry was appended
  stored : (number : ℕ) → taken_report c.core e ≡ Some (q, done.Stored number) → TellsItsLog c (step_whole e at c) q (done.Stored number)
  stored number taken = record {
    log = λ list there. (
      log_good c q u.good ∙ ap Some (sym (same_front is l.work.sealed u.good good) ∙ by_log (done.Stored number) taken list there good),
      λ entry f. waits ∙ ap Some (same entry f),
    );
    begins = some_log (done.Stored number) taken good;
  }
    where
      its : (entry : Entry) × ((job_there (done.Stored number) taken).task.job ≡ job.Append number entry)
      its = append_is number (job_there (done.Stored number) taken).task.job (job_there (done.Stored number) taken).fits

      first : first_job q c.core ≡ Some (job.Append number its.0)
      first = first_is (done.Stored number) taken ∙ ap Some its.1

      u : ToAppend q c.core (unsealed q (group_of g c.core)) number its.0
      u = to_append g q c.core s k.in_step own number its.0 first

      l : Leaves q (told_of q (done.Stored number) c.core) (step e at c.core)
      l = work (done.Stored number) taken tt

      good : status_of q (step e at c.core) ≡ Good
      good = l.status ∙ u.good

      is : told_list c q (taken_report c.core e) ≡ c.lists q
      is = list_told q (done.Stored number) e c taken

      tasks : tasks_of q (step e at c.core) ≡ seal_of number ∷ u.behind ++ flat_map tasks_for l.work.queue
      tasks = l.work.tasks ∙ ap (λ us. us ++ flat_map tasks_for l.work.queue) (told_tasks g q c.core s k.in_step own (done.Stored number) ∙ ap (drop 1) u.tasks)

      waits : appended_of q (step e at c.core) ≡ Some its.0
      waits = waits_first is l.work.sealed u.good (number, its.0) u.others u.all number (first_queued q (step e at c.core) (seal_of number ∷ u.behind ++ flat_map tasks_for l.work.queue) good tasks)

      same : (entry : Entry) → first_job q c.core ≡ Some (job.Append number entry) → its.0 ≡ entry
      same entry f =
          let jobs : job.Append number its.0 ≡ job.Append number entry = some_is (job.Append number its.0) (job.Append number entry) (sym first ∙ f) in
          cc jobs

  -- it was sealed
  sealed : (number : ℕ) → taken_report c.core e ≡ Some (q, done.Sealed number) → TellsItsLog c (step_whole e at c) q (done.Sealed number)
  sealed number taken = record {
    log = λ list there. (
      sym (by_log (done.Sealed number) taken list there good) ∙ front_same number (floor_good (step_whole e at c) q good ∙ count) good (c.lists q) grown.0 grown.1 low
          ∙ ap (take number) (sym (reach_good g q c s k own u.good)),
      more_none q (step e at c.core) u.others u.rest l.work.queue good u.jobs tasks,
    );
    begins = some_log (done.Sealed number) taken good;
  }
    where
      first : first_job q c.core ≡ Some (job.Seal number)
      first = first_is (done.Sealed number) taken ∙ ap Some (seal_is number (job_there (done.Sealed number) taken).task.job (job_there (done.Sealed number) taken).fits)

      u : ToSeal q c.core (unsealed q (group_of g c.core)) number
      u = to_seal g q c.core s k.in_step own number first

      l : Leaves q (told_of q (done.Sealed number) c.core) (step e at c.core)
      l = work (done.Sealed number) taken tt

      good : status_of q (step e at c.core) ≡ Good
      good = l.status ∙ u.good

      count : sealed_of q (step e at c.core) ≡ number
      count = l.work.sealed ∙ sealed_sealed g q c.core s k.in_step own number

      grown : (more : Numbered) × ((step_whole e at c).lists q ≡ c.lists q ++ more)
      grown = front_told g q e at c s t k own on k' own' (c.lists q) (list_told q (done.Sealed number) e c taken)

      low : number ≤ length (c.lists q)
      low =
          let rest : length (drop (sealed_of q c.core) (c.lists q)) ≡ length (u.first ∷ u.others) = ap (λ (xs : Numbered). length xs) (rest_is g q c s k own u.good u.first u.others u.all) in
          let long = length-drop (sealed_of q c.core) (c.lists q) in
          let next = number_is g q c s k own u.good u.first u.others u.all in
          omega (arith, rest, long, next, u.number_is)

      tasks : tasks_of q (step e at c.core) ≡ u.rest ++ flat_map tasks_for l.work.queue
      tasks = l.work.tasks ∙ ap (λ us. us ++ flat_map tasks_for l.work.queue) (told_tasks g q c.core s k.in_step own (done.Sealed number) ∙ ap (drop 1) u.tasks)

  -- an entry was read
  reads : (number : ℕ) (d : Done) (taken : taken_report c.core e ≡ Some (q, d)) → TellsWork d → (job_there d taken).task.job ≡ job.Read number → told_list c q (taken_report c.core e) ≡ c.lists q
      → sealed_of q (told_of q d c.core) ≡ sealed_of q c.core → status_of q (told_of q d c.core) ≡ status_of q c.core
      → ((list : Numbered) → log_of_peer (step_whole e at c) q ≡ Some list → (log_of_peer c q ≡ Some list) × (appended_of q (step e at c.core) ≡ None)) × (status_of q (step e at c.core) ≡ Good)
  reads number d taken tells job_is is count stays = (
    λ list there. (log_good c q u.good ∙ ap Some (sym (same_front is (l.work.sealed ∙ count) u.good good) ∙ by_log d taken list there good), more_none q (step e at c.core) (unsealed q (group_of g c.core)) u.rest l.work.queue good u.jobs tasks),
    good,
  )
    where
      u : ToRead q c.core (unsealed q (group_of g c.core))
      u = to_read g q c.core s k.in_step own number (first_is d taken ∙ ap Some job_is)

      l : Leaves q (told_of q d c.core) (step e at c.core)
      l = work d taken tells

      good : status_of q (step e at c.core) ≡ Good
      good = l.status ∙ stays ∙ u.good

      tasks : tasks_of q (step e at c.core) ≡ u.rest ++ flat_map tasks_for l.work.queue
      tasks = l.work.tasks ∙ ap (λ us. us ++ flat_map tasks_for l.work.queue) (told_tasks g q c.core s k.in_step own d ∙ ap (drop 1) u.tasks)

  -- a joining peer's list was told of
  listed : (d : Done) (taken : taken_report c.core e ≡ Some (q, d)) → TellsList d → status_of q c.core ≡ Joining → (xs : Numbered) → told_list c q (taken_report c.core e) ≡ xs → sealed_of q (told_of q d c.core) ≡ length xs
      → ((list : Numbered) → log_of_peer (step_whole e at c) q ≡ Some list → (list ≡ xs) × (appended_of q (step e at c.core) ≡ None)) × (log_of_peer (step_whole e at c) q ≡ None → IsFrontOf q (reach c q) (reach (step_whole e at c) q))
  listed d taken tells joined xs is count = (λ list there. go list there (log_seen (step_whole e at c) q), λ none. some (on_new d taken tells) none (log_seen (step_whole e at c) q))
    where
      l : LeavesWork q (told_of q d c.core) (step e at c.core)
      l = list_new d taken tells

      none_left : tasks_of q c.core ≡ []
      none_left = (k.in_step.jobs q own).other (λ good. joins_not (status_of q c.core) good joined)

      tasks : tasks_of q (step e at c.core) ≡ flat_map tasks_for l.queue
      tasks = l.tasks ∙ ap (λ us. us ++ flat_map tasks_for l.queue) (told_tasks g q c.core s k.in_step own d ∙ ap (drop 1) none_left)

      go : (list : Numbered) → log_of_peer (step_whole e at c) q ≡ Some list → LogSeen (step_whole e at c) q → (list ≡ xs) × (appended_of q (step e at c.core) ≡ None)
      go list there (IsGood good seen) =
          let f = front_told g q e at c s t k own on k' own' xs is in
          let sealed : floor (step_whole e at c) q ≡ length xs = floor_good (step_whole e at c) q good ∙ l.sealed ∙ count in
          let front : sealed_front (step_whole e at c) q ≡ xs =
          ap (λ n. take n (reach (step_whole e at c) q)) sealed ∙ ap (take (length xs)) (reach_good g q (step_whole e at c) t k' own' good ∙ f.1) ∙ take_at xs f.0 (length xs) refl in
          (sym (by_log d taken list there good) ∙ front, queue_none q (step e at c.core) l.queue good tasks)
      go list there (FollowsOn joins done seen) =
          let bad : status_of q (step e at c.core) ≢ Good = λ good. joins_not (status_of q (step e at c.core)) good joins in
          (some_is list ((step_whole e at c).lists q) (sym there ∙ seen) ∙ all_told g q e at c s t k own on k' own' bad xs is, none_appended g q (step_whole e at c) t k' own' bad)
      go list there (IsOff off seen) = no_some list (sym there ∙ seen)

      some : IsOn q (step e at c.core) → log_of_peer (step_whole e at c) q ≡ None → LogSeen (step_whole e at c) q → IsFrontOf q (reach c q) (reach (step_whole e at c) q)
      some on_q none (IsGood good seen) = no_some (sealed_front (step_whole e at c) q) (sym seen ∙ none)
      some on_q none (FollowsOn joins done seen) = no_some ((step_whole e at c).lists q) (sym seen ∙ none)
      some on_q none (IsOff off seen) = absurd (off on_q)

  emptied : taken_report c.core e ≡ Some (q, done.Emptied) → TellsItsLog c (step_whole e at c) q done.Emptied
  emptied taken =
      let first : first_job q c.core ≡ Some job.Reset = first_is done.Emptied taken ∙ ap Some (reset_is (job_there done.Emptied taken).task.job (job_there done.Emptied taken).fits) in
      let joined = (first_is_next g q c.core s job.Reset k.in_step own first).joins in
      let both = listed done.Emptied taken tt joined [] (list_told q done.Emptied e c taken) (sealed_emptied g q c.core s k.in_step own) in
      record { log = both.0; begins = both.1 }

  copied : (number : ℕ) → taken_report c.core e ≡ Some (q, done.Copied number) → TellsItsLog c (step_whole e at c) q (done.Copied number)
  copied number taken =
      let its = copy_is number (job_there (done.Copied number) taken).task.job (job_there (done.Copied number) taken).fits in
      let first : first_job q c.core ≡ Some (job.Copy its.0 number) = first_is (done.Copied number) taken ∙ ap Some its.1 in
      let joined = (first_is_next g q c.core s (job.Copy its.0 number) k.in_step own first).joins in
      let n : IsNextCopied c q its.0 number = next_copied g c s k q its.0 number own first in
      let one : length (reach c q) ≡ length (c.lists q) + 1 = ap (λ xs. length (c.lists q ++ xs)) n.adds ∙ length-append (c.lists q) ((number, n.entry) ∷ []) in
      let long : number ≡ length (reach c q) = omega (arith, n.next, one) in
      let both = listed (done.Copied number) taken tt joined (reach c q) (list_told q (done.Copied number) e c taken) (sealed_copied g q c.core s k.in_step own number ∙ long) in
      record { log = both.0; begins = both.1 }

  failed : (disk : ℕ) → taken_report c.core e ≡ Some (q, done.Failed disk) → TellsItsLog c (step_whole e at c) q (done.Failed disk)
  failed disk taken =
      let its = job_there (done.Failed disk) taken in
      let is : told_list c q (taken_report c.core e) ≡ c.lists q = list_told q (done.Failed disk) e c taken in
      let fares : Fares q e c.core (step e at c.core) =
      subst (λ x. Fares q x c.core (step x at c.core)) (sym (report (done.Failed disk) taken).is) (failed_told g q disk at c.core s k.in_step own (was_going e at c.core on) its.task its.first its.fits) in
      record { log = fares_same is fares; begins = begins_none is }

  -- whatever it tells
  pub tells_log : (d : Done) → taken_report c.core e ≡ Some (q, d) → TellsItsLog c (step_whole e at c) q d
  tells_log (done.Stored number) taken = stored number taken
  tells_log (done.Sealed number) taken = sealed number taken
  tells_log (done.Bytes number bytes) taken =
      let d : Done = done.Bytes number bytes in
      let r = reads number d taken tt (read_is number (job_there d taken).task.job (job_there d taken).fits) (list_told q d e c taken) refl refl in
      record { log = r.0; begins = some_log d taken r.1 }
  tells_log (done.Gone number) taken =
      let d : Done = done.Gone number in
      let r = reads number d taken tt (read_is number (job_there d taken).task.job (job_there d taken).fits) (list_told q d e c taken) refl refl in
      record { log = r.0; begins = some_log d taken r.1 }
  tells_log done.Emptied taken = emptied taken
  tells_log (done.Copied number) taken = copied number taken
  tells_log (done.Stepped switched) taken =
      let its = job_there (done.Stepped switched) taken in
      absurd (first_is_next g q c.core s job.Reclaim k.in_step own (first_is (done.Stepped switched) taken ∙ ap Some (reclaim_is its.task.job its.fits)))
  tells_log (done.Failed disk) taken = failed disk taken
