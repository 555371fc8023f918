-- An event by which the core goes on: what becomes of each peer's log.
use Rattle.std.proofs.Common.{◌≡◌, ◌∙◌, ap, sym, subst, refl, inl, inr, ℕ, ◌≤◌, Bool, true, false, [], ◌∷◌, ◌++◌, Option, Some, None, length, arith}
use Rattle.std.proofs.lemmas.Bool.{cases_lt}
use Rattle.std.proofs.lemmas.Bool.Decides.{nat_tests}
use Rattle.std.proofs.lemmas.List.{append-nil, get_or_past}
use Rattle.std.specs.Option.{option_map, option_map_or}
use Rattle.std.specs.Prelude.{nat_le}
use Rattle.hs_anatomy.proofs.StepLemmas.{step_is}
use Rattle.hs_anatomy.specs.Acts.{begun, without_job}
use Rattle.hs_cluster.specs.PeerLogs.{log_by, log_of_peer}
use Rattle.hs_cluster.specs.Steady.{GoesAlong, KeepsItsLog, TellsItsLog}
use Rattle.hs_copies.specs.Machine.{Copies}
use Rattle.hs_core_copies.proofs.StepsLemmas.{was_going}
use Rattle.hs_core_copies.specs.InStep.{IsOf}
use Rattle.hs_core_words.specs.Asking.{no_peer, not_up}
use Rattle.hs_core_words.specs.Changing.{note}
use Rattle.hs_core_words.specs.declared.event.Event.{Event}
use Rattle.hs_core_words.specs.declared.event.Event.TheVariants as event
use Rattle.hs_core_words.specs.declared.task.Task.{Task}
use Rattle.hs_core_words.specs.Looking.{first_job, first_task, home, rejoin_of, shape_of, status_of, tasks_of}
use Rattle.hs_core_words.specs.Reporting.{on_report}
use Rattle.hs_core_words.specs.State.{Core}
use Rattle.hs_core_words.specs.Step.{do_event, step}
use Rattle.hs_desk.specs.Answers.{answers}
use Rattle.hs_desk.specs.declared.done.Done.{Done}
use Rattle.hs_desk.specs.declared.done.Done.TheVariants as done
use Rattle.hs_entry.specs.declared.entry.Entry.{Entry}
use Rattle.hs_events.specs.Asked.{failed_disk}
use Rattle.hs_events.specs.Due.{is_answer}
use Rattle.hs_events.specs.Taken.{peer_count}
use Rattle.hs_events.specs.Whole.{Whole, added_by, reach, step_whole, taken_report}
use Rattle.hs_fold.specs.Shards.Setting.{Numbered}
use Rattle.hs_journal.specs.declared.entry.Who.TheVariants as who
use Rattle.hs_limits.specs.declared.limits.PeerStatus.{PeerStatus}
use Rattle.hs_limits.specs.declared.limits.PeerStatus.TheVariants.{Down, Good, Joining}
use Rattle.hs_limits.specs.declared.shape.Shape.{Shape}
use Rattle.hs_members.specs.Members.{IsPeer, IsShard, home_of, is_down}
use Rattle.hs_model.specs.declared.deed.Deed.TheVariants as deed
use Rattle.hs_model.specs.declared.reply.Reply.{Reply}
use Rattle.hs_model.specs.declared.reply.Reply.TheVariants as reply
use Rattle.hs_model.specs.Refusals.{first, refused_when}
use Rattle.hs_whole_copies.proofs.AllLemmas.{all_stay, shape_after}
use Rattle.hs_whole_copies.specs.Whole.{IsShardInStep, IsWholeInStep, StaysWhole}
use Rattle.hs_steady.proofs.EffectLemmas.{effect_grows}
use Rattle.hs_steady.proofs.FaresLemmas.{falls_down, leaves_end}
use Rattle.hs_steady.proofs.ListedLemmas.{IsReport, IsUntold, report_is}
use Rattle.hs_steady.proofs.SteadyLemmas.{floor_within, home_low, its_shard, past_down, some_shard}
use Rattle.hs_steady.proofs.ToldLemmas.{keeps_log, tells_log}

-- ---- a peer that is down

pub log_down : (c : Whole) (q : ℕ) → status_of q c.core ≡ Down → log_of_peer c q ≡ None
log_down c q down = ap (λ x. log_by c q x (rejoin_of q c.core)) down

-- by its line, or as it was
down_by_line : (line q : ℕ) (c : Core) → status_of q (do_event (event.Fail line q) c) ≡ Down
down_by_line line q c = go (first (no_peer q c ∷ not_up q c ∷ [])) refl
  where
    up_none : (x : PeerStatus) (r : Reply) → refused_when (is_down x) (reply.NotUp q) ≡ Some r → x ≡ Down
    up_none Good r e = let wrong : None ≡ Some r = e in absurd (cc wrong)
    up_none Joining r e = let wrong : None ≡ Some r = e in absurd (cc wrong)
    up_none Down r e = refl

    high : (a b : ℕ) → nat_le a b ≡ true → a ≤ b
    high a b h = grind (arith, nat_tests)

    was_down : (r : Reply) → first (no_peer q c ∷ not_up q c ∷ []) ≡ Some r → status_of q c ≡ Down
    was_down r e = by (nat_le (length c.members.statuses) q) refl
      where
        last : (o : Option Reply) → not_up q c ≡ o → first (None ∷ o ∷ []) ≡ Some r → status_of q c ≡ Down
        last None f i = let wrong : None ≡ Some r = i in absurd (cc wrong)
        last (Some x) f i = up_none (status_of q c) x f

        by : (b : Bool) → nat_le (length c.members.statuses) q ≡ b → status_of q c ≡ Down
        by true h = get_or_past c.members.statuses q Down (high (length c.members.statuses) q h)
        by false h = last (not_up q c) refl (sym (ap (λ b. first (refused_when b (reply.NoPeer q) ∷ not_up q c ∷ [])) h) ∙ e)

    go : (o : Option Reply) → first (no_peer q c ∷ not_up q c ∷ []) ≡ o → status_of q (do_event (event.Fail line q) c) ≡ Down
    go (Some r) e = rw e (was_down r e)
    go None e = rw e (falls_down q c)

-- or by the report of a disk
down_by_disk : (disk by : ℕ) (c : Core) → is_answer c by (done.Failed disk) ≡ true → status_of disk (do_event (event.Report by (done.Failed disk)) c) ≡ Down
down_by_disk disk by c a = go (first_task by c) refl
  where
    go : (o : Option Task) → first_task by c ≡ o → status_of disk (on_report by (done.Failed disk) c) ≡ Down
    go None e = let wrong : false ≡ true = sym (ap (λ (o : Option Task). option_map_or (λ j. answers by j (done.Failed disk)) (option_map (λ (t : Task). t.job) o) false) e) ∙ a in absurd (cc wrong)
    go (Some task) e =
        let fits : answers by task.job (done.Failed disk) ≡ true = sym (ap (λ (o : Option Task). option_map_or (λ j. answers by j (done.Failed disk)) (option_map (λ (t : Task). t.job) o) false) e) ∙ a in
        rw (e, fits) (falls_down disk (note who.Store deed.Nothing (reply.Down disk (without_job by c).progress.event_line) (without_job by c)))

-- so it is behind the event
down_behind : (q : ℕ) (e : Event) (at : ℕ) (c : Core) → c.ended ≡ None → status_of q (do_event e (begun e at c)) ≡ Down → status_of q (step e at c) ≡ Down
down_behind q e at c going down = ap (status_of q) (step_is e at c going) ∙ (leaves_end q (do_event e (begun e at c))).status ∙ down

-- ---- a store in step

module _ (c : Whole) (e : Event) (at : ℕ) (machines : ℕ → Copies Entry) (w : IsWholeInStep c machines) (on : (step e at c.core).ended ≡ None) where
  abbrev new : Whole
  new = step_whole e at c

  going : c.core.ended ≡ None
  going = was_going e at c.core on

  stays : StaysWhole (step_whole e at c) machines
  stays = all_stay c e at machines w on

  same : (step e at c.core).members.shape ≡ c.core.members.shape
  same = shape_after e at c.core on

  -- the shard of a peer behind it
  its_now : (q : ℕ) → IsPeer c.core.members.shape q → IsShardInStep (home q c.core) (step_whole e at c) (stays.machines (home q c.core))
  its_now q low = stays.keeps.each (home q c.core) (rw same (home_low c.core.members.shape q low))

  own_now : (q : ℕ) → IsOf (step e at c.core).members.shape (home q c.core) q
  own_now q = ap (λ (x : Shape). home_of x q) same

  past_now : (q : ℕ) → peer_count (shape_of c.core) ≤ q → status_of q (step e at c.core) ≡ Down
  past_now q high = past_down (step_whole e at c) stays.machines stays.keeps q (rw same high)

  -- only a peer of the store reports
  reports_low : (q : ℕ) (d : Done) → taken_report c.core e ≡ Some (q, d) → IsPeer c.core.members.shape q
  reports_low q d t = elim (cases_lt q (peer_count (shape_of c.core))) [
    | inl low ↦ low
    | inr high ↦
        let none : first_task q c.core ≡ None = (let down = past_down c machines w q high in let tasks : tasks_of q c.core ≡ [] = no_tasks q high in rw (down, tasks) refl) in
        let wrong : false ≡ true = sym (ap (λ (o : Option Task). option_map_or (λ j. answers q j d) (option_map (λ (x : Task). x.job) o) false) none) ∙ (report_is q d e c.core t).answer in
        absurd (cc wrong)
  ]
    where
      no_tasks : (q : ℕ) → peer_count (shape_of c.core) ≤ q → tasks_of q c.core ≡ []
      no_tasks q high = let n = (w.each 0 (some_shard c machines w)).in_step.seated.tasks in get_or_past c.core.tasks q [] (omega (arith, n, high))

  -- of a number that is no peer's nothing is told
  past_keeps : (q : ℕ) → peer_count (shape_of c.core) ≤ q → KeepsItsLog c (step_whole e at c) q
  past_keeps q high =
      let down : status_of q (step e at c.core) ≡ Down = past_now q high in
      let none : log_of_peer (step_whole e at c) q ≡ None = log_down (step_whole e at c) q down in
      let lists : (step_whole e at c).lists q ≡ c.lists q = stays.keeps.past q (rw same high) ∙ sym (w.past q high) in
      let adds : (step_whole e at c).adds q ≡ c.adds q = ap (λ x. added_by (c.adds q) (step_whole e at c).lists x (rejoin_of q (step e at c.core)) (first_job q (step e at c.core))) down in
      record {
        same = λ list there. (let wrong : None ≡ Some list = sym none ∙ there in absurd (cc wrong));
        begins = λ i. ([], ap (λ xs. xs ++ (step_whole e at c).adds q) lists ∙ ap (λ xs. c.lists q ++ xs) adds ∙ sym (append-nil (reach c q)));
      }

  beside : (q : ℕ) → IsUntold q e c.core → KeepsItsLog c (step_whole e at c) q
  beside q n = elim (cases_lt q (peer_count (shape_of c.core))) [
    | inl low ↦ keeps_log (home q c.core) q e at c (machines (home q c.core)) (stays.machines (home q c.core)) (its_shard c machines w q low) refl on (its_now q low) (own_now q) n
    | inr high ↦ past_keeps q high
  ]

  told : (q : ℕ) (d : Done) → taken_report c.core e ≡ Some (q, d) → TellsItsLog c (step_whole e at c) q d
  told q d t =
      let low : IsPeer c.core.members.shape q = reports_low q d t in
      tells_log (home q c.core) q e at c (machines (home q c.core)) (stays.machines (home q c.core)) (its_shard c machines w q low) refl on (its_now q low) (own_now q) d t

  failed : (q disk : ℕ) (d : Done) → taken_report c.core e ≡ Some (q, d) → failed_disk d ≡ Some disk → log_of_peer (step_whole e at c) disk ≡ None
  failed q disk d t f =
      let r : IsReport q d e c.core = report_is q d e c.core t in
      let d_is : d ≡ done.Failed disk = failed_is d f in
      let answer : is_answer c.core q (done.Failed disk) ≡ true = ap (λ x. is_answer c.core q x) (sym d_is) ∙ r.answer in
      let is : e ≡ event.Report q (done.Failed disk) = r.is ∙ ap (event.Report q) d_is in
      log_down (step_whole e at c) disk
      (ap (λ x. status_of disk (step x at c.core)) is ∙ down_behind disk (event.Report q (done.Failed disk)) at c.core going (down_by_disk disk q (begun (event.Report q (done.Failed disk)) at c.core) answer))
    where
      failed_is : (d : Done) → failed_disk d ≡ Some disk → d ≡ done.Failed disk
      failed_is (done.Stored number) i = let wrong : None ≡ Some disk = i in absurd (cc wrong)
      failed_is (done.Sealed number) i = let wrong : None ≡ Some disk = i in absurd (cc wrong)
      failed_is (done.Bytes number bytes) i = let wrong : None ≡ Some disk = i in absurd (cc wrong)
      failed_is (done.Gone number) i = let wrong : None ≡ Some disk = i in absurd (cc wrong)
      failed_is done.Emptied i = let wrong : None ≡ Some disk = i in absurd (cc wrong)
      failed_is (done.Copied number) i = let wrong : None ≡ Some disk = i in absurd (cc wrong)
      failed_is (done.Stepped switched) i = let wrong : None ≡ Some disk = i in absurd (cc wrong)
      failed_is (done.Failed k) i = let both : Some k ≡ Some disk = i in let n : k ≡ disk = cc both in ap done.Failed n

  down : (line q : ℕ) → e ≡ event.Fail line q → log_of_peer (step_whole e at c) q ≡ None
  down line q is =
      log_down (step_whole e at c) q (ap (λ x. status_of q (step x at c.core)) is ∙ down_behind q (event.Fail line q) at c.core going (down_by_line line q (begun (event.Fail line q) at c.core)))

  peers : (q : ℕ) (list : Numbered) → log_of_peer (step_whole e at c) q ≡ Some list → IsPeer (step e at c.core).members.shape q
  peers q list there = elim (cases_lt q (peer_count (shape_of c.core))) [
    | inl low ↦ rw same low
    | inr high ↦ (let wrong : None ≡ Some list = sym (log_down (step_whole e at c) q (past_now q high)) ∙ there in absurd (cc wrong))
  ]

  pub goes_along : GoesAlong c e (step_whole e at c)
  goes_along = record {
    peers = peers;
    within = floor_within (step_whole e at c) stays.machines stays.keeps;
    told = told;
    failed = failed;
    down = down;
    beside = beside;
    effect = λ shard low. effect_grows shard c (step_whole e at c) (machines shard) (stays.machines shard) (w.each shard (subst (λ (x : Shape). IsShard x shard) same low)) (stays.keeps.each shard low) (stays.took shard low);
  }
