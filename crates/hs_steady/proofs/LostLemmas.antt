-- An event by which a shard is lost: each list and what a disk may have behind it stay, and no more is sealed.
use Rattle.std.proofs.Common.{◌≡◌, ◌≢◌, ◌∙◌, ap, sym, subst, refl, inl, inr, ℕ, zero, suc, ◌+◌, ◌-◌, ◌*◌, ◌/◌, ◌<◌, ◌≤◌, ◌==◌, ◌&&◌, not, nat_lt, Bool, true, false, if◌then◌else◌, List, [], ◌∷◌, ◌++◌, Option, Some, None, length, arith}
use Rattle.std.proofs.lemmas.Bool.{cases_eq, cases_lt}
use Rattle.std.proofs.lemmas.List.{append-nil, get_or_past}
use Rattle.std.proofs.Math.Nat.{lt-div-mul-add}
use Rattle.std.specs.List.{range_with_len}
use Rattle.std.specs.Option.{option_map}
use Rattle.std.specs.Prelude.{drop, find, slice_get, slice_index_or, take, unwrap_or}
use Rattle.hs_anatomy.proofs.EventLemmas.{does_acts}
use Rattle.hs_anatomy.proofs.SizeLemmas.{sizes_same}
use Rattle.hs_anatomy.proofs.StepLemmas.{step_is}
use Rattle.hs_anatomy.proofs.StrokeLemmas.{strokes_of}
use Rattle.hs_anatomy.specs.Acts.{begun, without_job}
use Rattle.hs_anatomy.specs.Sizes.{Sizes}
use Rattle.hs_copies.proofs.StandLemmas.{HasLead, stands_lead}
use Rattle.hs_copies.specs.Machine.{Copies, Following}
use Rattle.hs_copies.specs.Standing.{stage_of}
use Rattle.hs_core_copies.proofs.LeadLemmas.{IsGoodLead, lead_is}
use Rattle.hs_core_copies.proofs.NextLemmas.{first_is_next}
use Rattle.hs_core_copies.proofs.ReportLemmas.{copy_is, reset_is}
use Rattle.hs_core_copies.proofs.StepLemmas.{lead_in_step}
use Rattle.hs_core_copies.specs.InStep.{copies_in, rejoin_at}
use Rattle.hs_core_words.specs.Changing.{note}
use Rattle.hs_core_words.specs.declared.event.Event.{Event}
use Rattle.hs_core_words.specs.declared.event.Event.TheVariants as event
use Rattle.hs_core_words.specs.Failing.{go_down}
use Rattle.hs_core_words.specs.Looking.{first_job, group_of, home, lead_of, lost_shard, rejoin_of, sealed_of, shape_of, status_of}
use Rattle.hs_core_words.specs.State.{Core}
use Rattle.hs_core_words.specs.Step.{do_event, end_event, keep_entries, refuse_entries, step}
use Rattle.hs_desk.specs.Answers.{answers}
use Rattle.hs_desk.specs.declared.done.Done.{Done}
use Rattle.hs_desk.specs.declared.done.Done.TheVariants as done
use Rattle.hs_desk.specs.declared.fault.CoreFault.{CoreFault}
use Rattle.hs_desk.specs.declared.fault.CoreFault.TheVariants as fault
use Rattle.hs_desk.specs.declared.job.Job.{Job}
use Rattle.hs_desk.specs.declared.job.Job.TheVariants as job
use Rattle.hs_entry.specs.declared.entry.Entry.{Entry}
use Rattle.hs_events.specs.Course.{is_refused}
use Rattle.hs_events.specs.Due.{is_answer}
use Rattle.hs_events.specs.Taken.{peer_count}
use Rattle.hs_events.specs.Whole.{Whole, added_by, counts, floor, grown, reported, step_whole, taken_report, told_list}
use Rattle.hs_journal.specs.declared.entry.Who.TheVariants as who
use Rattle.hs_limits.specs.declared.limits.PeerStatus.{PeerStatus}
use Rattle.hs_limits.specs.declared.limits.PeerStatus.TheVariants.{Down, Good, Joining}
use Rattle.hs_limits.specs.declared.shape.Shape.{Shape}
use Rattle.hs_members.specs.Members.{IsPeer, IsShard, Members, has_good, home_of, is_good_status, status}
use Rattle.hs_model.specs.declared.deed.Deed.TheVariants as deed
use Rattle.hs_model.specs.declared.reply.Reply.TheVariants as reply
use Rattle.hs_moments.specs.Moments.{Grows}
use Rattle.hs_moments.specs.WholeMachine.{whole_machine}
use Rattle.hs_rejoin.specs.Rejoin.{Rejoin, new_rejoin, next_job}
use Rattle.hs_replica.specs.Group.{Group, copy_of, entries_above, length_of, new_group}
use Rattle.hs_whole_copies.proofs.CopiedLemmas.{next_copied}
use Rattle.hs_whole_copies.proofs.FollowEventLemmas.{told_in_step}
use Rattle.hs_whole_copies.proofs.FollowLemmas.{IsTold, follows_quiet, home_own}
use Rattle.hs_whole_copies.specs.Copying.{IsNextCopied}
use Rattle.hs_whole_copies.specs.Whole.{IsShardInStep, IsWholeInStep, is_copying}
use Rattle.hs_steady.proofs.FallenLemmas.{fallen_groups, fallen_joins, fallen_lead, fallen_rejoin, good_there, lead_by_both}
use Rattle.hs_steady.proofs.FaresLemmas.{ByDisk, ByLine, FallsBy, Fares, Left, Off, falls_down, untold_fares}
use Rattle.hs_steady.proofs.LeavesLemmas.{leaves_fall}
use Rattle.hs_steady.proofs.ListedLemmas.{IsReport, map_job, next_reset, none_taken, report_is}
use Rattle.hs_steady.proofs.PeerLemmas.{adds_good, adds_none, floor_bad, home_q, long_q}
use Rattle.hs_steady.proofs.QueueLemmas.{IsAnswered, first_job_by, job_answered}
use Rattle.hs_steady.proofs.SteadyLemmas.{its_shard, past_down}
use Rattle.hs_steady.proofs.TakenLemmas.{TellsWork, failed_told, told_of, work_told}
use Rattle.hs_steady.proofs.ToldLemmas.{reclaim_is}

rows : (n i width : ℕ) → i < n → i * width + width ≤ n * width
rows n i width less = grind (arith, less)

-- a number that is no peer's is of no shard
home_high : (shape : Shape) (q : ℕ) → 1 ≤ shape.copies → peer_count shape ≤ q → shape.shards ≤ home_of shape q
home_high shape q some past = elim (cases_lt (home_of shape q) shape.shards) [
  | inr high ↦ high
  | inl low ↦
      let top : q < q / shape.copies * shape.copies + shape.copies = lt-div-mul-add {a = q} {b = shape.copies} some in
      let row : q / shape.copies * shape.copies + shape.copies ≤ shape.shards * shape.copies = rows shape.shards (q / shape.copies) shape.copies low in
      absurd (omega (arith, top, row, past))
]

-- ---- which shard is lost

found_there : (test : ℕ → Bool) (n k x : ℕ) → find test (range_with_len n k) ≡ Some x → (x < n + k) × (test x ≡ true)
found_there test n zero x e = let wrong : None ≡ Some x = e in absurd (cc wrong)
found_there test n (suc k) x e = go (test n) refl (λ rest. found_there test (n + 1) k x rest)
  where
    go : (b : Bool) → test n ≡ b → (find test (range_with_len (n + 1) k) ≡ Some x → (x < n + 1 + k) × (test x ≡ true)) → (x < n + suc k) × (test x ≡ true)
    go true f h = let both : Some n ≡ Some x = rw f at e in let is : n ≡ x = cc both in (omega (arith, is), ap test (sym is) ∙ f)
    go false f h = let rest : find test (range_with_len (n + 1) k) ≡ Some x = rw f at e in let r = h rest in (omega (arith, r.0), r.1)

-- the end of an event that loses a shard
pub record Loses (b : Core) : Type 0 where
  pub ends : end_event b ≡ keep_entries b
  pub shard : ℕ
  pub low : IsShard b.members.shape shard
  pub none : has_good shard b.members ≡ false

loses : (b : Core) (f : CoreFault) → (end_event b).ended ≡ Some f → is_refused (Some f) ≡ false → Loses b
loses b f e told = go (nat_lt b.limits.ops (length b.journal + length b.entries)) refl
  where
    bad : (t : Bool) → not t ≡ true → t ≡ false
    bad true h = let wrong : false ≡ true = h in absurd (cc wrong)
    bad false h = refl

    by_shard : (o : Option ℕ) → lost_shard b ≡ o → option_map fault.ShardLost o ≡ Some f → (x : ℕ) × (lost_shard b ≡ Some x)
    by_shard None i h = let wrong : None ≡ Some f = h in absurd (cc wrong)
    by_shard (Some x) i h = (x, i)

    go : (t : Bool) → nat_lt b.limits.ops (length b.journal + length b.entries) ≡ t → Loses b
    go true i =
        let is : end_event b ≡ refuse_entries b = rw i refl in
        let both : Some fault.OpsFull ≡ Some f = sym (ap (λ (y : Core). y.ended) is) ∙ e in
        let wrong : true ≡ false = ap is_refused both ∙ told in
        absurd (cc wrong)
    go false i =
        let is : end_event b ≡ keep_entries b = rw i refl in
        let x = by_shard (lost_shard b) refl (sym (ap (λ (y : Core). y.ended) is) ∙ e) in
        let r = found_there (λ shard. not (has_good shard b.members)) 0 b.members.shape.shards x.0 x.1 in
        record { ends = is; shard = x.0; low = omega (arith, r.0); none = bad (has_good x.0 b.members) r.1 }

-- ---- the core before its last good peer goes down

pub record IsBeforeFall (c b : Core) (l : ℕ) : Type 0 where
  pub core : Core
  pub is : b ≡ go_down l core
  pub members : core.members ≡ c.members
  pub groups : core.groups ≡ c.groups
  pub rejoins : core.progress.rejoins ≡ c.progress.rejoins

before_fall : (l : ℕ) (e : Event) (at : ℕ) (c : Core) → FallsBy l e c → IsBeforeFall c (do_event e (begun e at c)) l
before_fall l e at c (ByLine line is up) =
    subst (λ x. IsBeforeFall c (do_event x (begun x at c)) l) (sym is) (record { core = begun (event.Fail line l) at c; is = rw up refl; members = refl; groups = refl; rejoins = refl })
before_fall l e at c (ByDisk by is answer) =
    let x : Event = event.Report by (done.Failed l) in
    let i : IsAnswered by (done.Failed l) c = job_answered by (done.Failed l) c answer in
    let b : Core = without_job by (begun (event.Report by (done.Failed l)) at c) in
    subst (λ x. IsBeforeFall c (do_event x (begun x at c)) l) (sym is)
    (record { core = note who.Store deed.Nothing (reply.Down l b.progress.event_line) b; is = rw (i.first, i.fits) refl; members = refl; groups = refl; rejoins = refl })

-- a shard's group, and a peer's shard, by what tells of them
group_by : (g : ℕ) (a b : Core) → b.members.shape ≡ a.members.shape → b.groups ≡ a.groups → group_of g b ≡ group_of g a
group_by g a b shape groups = rw (shape, groups) refl

home_by : (q : ℕ) (a b : Core) → b.members ≡ a.members → home q b ≡ home q a
home_by q a b members = ap (λ (m : Members). home_of m.shape q) members

-- it tells nothing of a list
list_kept : (l q : ℕ) (e : Event) (c : Whole) → FallsBy l e c.core → told_list c q (taken_report c.core e) ≡ c.lists q
list_kept l q e c (ByLine line is up) = ap (λ x. told_list c q (taken_report c.core x)) is
list_kept l q e c (ByDisk by is answer) =
    ap (λ x. told_list c q (taken_report c.core x)) is ∙ ap (λ b. told_list c q (if b then Some (by, done.Failed l) else None)) answer ∙ either (by == q)
  where
    either : (b : Bool) → (if b then reported c q (done.Failed l) else c.lists q) ≡ c.lists q
    either true = refl
    either false = refl

taken_next : {X : Type 0} (n : ℕ) (xs : List X) (x : X) → slice_get xs n ≡ Some x → take 1 (drop n xs) ≡ x ∷ []
taken_next n [] x e = let wrong : None ≡ Some x = e in absurd (cc wrong)
taken_next zero (y ∷ xs) x e = let same : y ≡ x = cc e in ap (λ z. z ∷ []) same
taken_next (suc n) (y ∷ xs) x e = taken_next n xs x e

module _ (c : Whole) (e : Event) (at : ℕ) (machines : ℕ → Copies Entry) (w : IsWholeInStep c machines) (f : CoreFault) (over : (step e at c.core).ended ≡ Some f) (told : is_refused (Some f) ≡ false) where
  abbrev new : Whole
  new = step_whole e at c

  abbrev begins : Core
  begins = begun e at c.core

  abbrev does : Core
  does = do_event e (begun e at c.core)

  is_end : step e at c.core ≡ end_event (do_event e (begun e at c.core))
  is_end = step_is e at c.core w.going

  lost : Loses (do_event e (begun e at c.core))
  lost = loses (do_event e (begun e at c.core)) f (ap (λ (y : Core). y.ended) (sym is_end) ∙ over) told

  is_kept : step e at c.core ≡ keep_entries (do_event e (begun e at c.core))
  is_kept = is_end ∙ lost.ends

  abbrev x : ℕ
  x = lost.shard

  shape_does : (do_event e (begun e at c.core)).members.shape ≡ c.core.members.shape
  shape_does = ap (λ (z : Sizes). z.shape) (sizes_same (do_event e (begun e at c.core)) (strokes_of (does_acts (begun e at c.core) e)))

  low : IsShard c.core.members.shape x
  low = subst (λ (s : Shape). IsShard s x) shape_does lost.low

  k : IsShardInStep x c (machines x)
  k = w.each x low

  -- its lead
  lead : HasLead (copies_in x k.in_step.sent c.core) (machines x)
  lead = stands_lead (copies_in x k.in_step.sent c.core) (machines x) k.in_step.stands

  abbrev l : ℕ
  l = lead.peer

  leads : lead_of x c.core ≡ Some l
  leads = lead_in_step x c.core (machines x) k.in_step ∙ lead.is

  led : IsGoodLead c.core.members.shape x c.core.members l
  led = lead_is x c.core l (k.in_step.seated.placed x).few leads

  told_x : IsTold x c.core
  told_x = told_in_step x c.core (machines x) k.in_step

  -- it is good no more
  not_good : status_of l (step e at c.core) ≡ Good → ⊥
  not_good good =
      let now : status_of l (do_event e (begun e at c.core)) ≡ Good = sym (ap (status_of l) is_kept) ∙ good in
      let wrong : true ≡ false = sym (good_there x l c.core (do_event e (begun e at c.core)).members told_x.sized shape_does (home_own x c.core told_x.sized l led.own) now) ∙ lost.none in
      cc wrong

  by_fares : Fares l e c.core (step e at c.core) → FallsBy l e c.core
  by_fares (Left lv) = absurd (not_good (lv.status ∙ led.good))
  by_fares (Off off (inl down)) = let wrong : Good ≡ Down = sym led.good ∙ down in absurd (cc wrong)
  by_fares (Off off (inr why)) = why

  -- by its own report
  by_report : (d : Done) → e ≡ event.Report l d → is_answer c.core l d ≡ true → FallsBy l e c.core
  by_report d is answer = go d refl
    where
      i : IsAnswered l d c.core
      i = job_answered l d c.core answer

      first : first_job l c.core ≡ Some i.task.job
      first = first_job_by l c.core i.task i.first

      works : TellsWork d → FallsBy l e c.core
      works tells = absurd (not_good (ap (λ y. status_of l (step y at c.core)) is ∙ (work_told x l d at c.core (machines x) k.in_step led.own w.going i.task i.first i.fits tells).status ∙ same d))
        where
          same : (d : Done) → status_of l (told_of l d c.core) ≡ Good
          same (done.Stored number) = led.good
          same (done.Sealed number) = led.good
          same (done.Bytes number bytes) = led.good
          same (done.Gone number) = led.good
          same done.Emptied = led.good
          same (done.Copied number) = led.good
          same (done.Stepped switched) = led.good
          same (done.Failed disk) = led.good

      joins : status_of l c.core ≡ Joining → FallsBy l e c.core
      joins j = let wrong : Good ≡ Joining = sym led.good ∙ j in absurd (cc wrong)

      next : (j : Job) → i.task.job ≡ j → first_job l c.core ≡ Some j
      next j h = first ∙ ap Some h

      go : (y : Done) → d ≡ y → FallsBy l e c.core
      go (done.Stored number) h = works (subst TellsWork (sym h) tt)
      go (done.Sealed number) h = works (subst TellsWork (sym h) tt)
      go (done.Bytes number bytes) h = works (subst TellsWork (sym h) tt)
      go (done.Gone number) h = works (subst TellsWork (sym h) tt)
      go done.Emptied h = joins (first_is_next x l c.core (machines x) job.Reset k.in_step led.own (next job.Reset (reset_is i.task.job (ap (answers l i.task.job) (sym h) ∙ i.fits)))).joins
      go (done.Copied number) h =
          let its = copy_is number i.task.job (ap (answers l i.task.job) (sym h) ∙ i.fits) in
          joins (first_is_next x l c.core (machines x) (job.Copy its.0 number) k.in_step led.own (next (job.Copy its.0 number) its.1)).joins
      go (done.Stepped switched) h = absurd (first_is_next x l c.core (machines x) job.Reclaim k.in_step led.own (next job.Reclaim (reclaim_is i.task.job (ap (answers l i.task.job) (sym h) ∙ i.fits))))
      go (done.Failed disk) h =
          by_fares (subst (λ y. Fares l y c.core (step y at c.core)) (sym (is ∙ ap (event.Report l) h))
          (failed_told x l disk at c.core (machines x) k.in_step led.own w.going i.task i.first (ap (answers l i.task.job) (sym h) ∙ i.fits)))

  why : FallsBy l e c.core
  why = decide (taken_report c.core e) refl
    where
      untold : ((d : Done) → taken_report c.core e ≢ Some (l, d)) → FallsBy l e c.core
      untold n = by_fares (untold_fares x l e at c.core (machines x) k.in_step led.own w.going (none_taken l e c.core n))

      decide : (o : Option (ℕ × Done)) → taken_report c.core e ≡ o → FallsBy l e c.core
      decide None t = untold (λ d h. let wrong : None ≡ Some (l, d) = sym t ∙ h in cc wrong)
      decide (Some r) t = elim (cases_eq r.0 l) [
        | inl is ↦ (let i : IsReport l r.1 e c.core = report_is l r.1 e c.core (t ∙ ap (λ j. Some (j, r.1)) is) in by_report r.1 i.is i.answer)
        | inr n ↦ untold (λ d h. let both : Some r ≡ Some (l, d) = sym t ∙ h in let pair : r ≡ (l, d) = cc both in n (ap (λ (y : ℕ × Done). y.0) pair))
      ]

  -- ---- what is left

  before : IsBeforeFall c.core (do_event e (begun e at c.core)) l
  before = before_fall l e at c.core why

  abbrev y : Core
  y = before.core

  told_y : (g : ℕ) → IsTold g c.core → IsTold g before.core
  told_y g t = (follows_quiet g c.core before.core before.members before.rejoins (ap (λ gs. length gs) before.groups) (group_by g c.core before.core (ap (λ (m : Members). m.shape) before.members) before.groups) t).0

  leads_y : lead_of x before.core ≡ Some l
  leads_y = lead_by_both x c.core before.core before.members before.groups ∙ leads

  own_y : home l before.core ≡ x
  own_y = home_by l c.core before.core before.members ∙ led.own

  lost_y : has_good x (go_down l before.core).members ≡ false
  lost_y = ap (λ (z : Core). has_good x z.members) (sym before.is) ∙ lost.none

  -- the core behind the event, but for what is told
  after_is : (step e at c.core).members ≡ (go_down l before.core).members
  after_is = ap (λ (z : Core). z.members) is_kept ∙ ap (λ (z : Core). z.members) before.is

  groups_are : (step e at c.core).groups ≡ c.core.groups
  groups_are = ap (λ (z : Core). z.groups) is_kept ∙ ap (λ (z : Core). z.groups) before.is ∙ fallen_groups x l before.core (told_y x told_x) own_y leads_y lost_y ∙ before.groups

  shape_is : (step e at c.core).members.shape ≡ c.core.members.shape
  shape_is = ap (λ (z : Core). z.members.shape) is_kept ∙ shape_does

  group_is : (g : ℕ) → group_of g (step e at c.core) ≡ group_of g c.core
  group_is g = group_by g c.core (step e at c.core) shape_is groups_are

  home_is : (q : ℕ) → home q (step e at c.core) ≡ home q c.core
  home_is q = ap (λ (s : Shape). home_of s q) shape_is

  sealed_same : (q : ℕ) → sealed_of q (step e at c.core) ≡ sealed_of q c.core
  sealed_same q = ap (λ g. (copy_of (group_of g (step e at c.core)) q).sealed) (home_is q) ∙ ap (λ (z : Group). (copy_of z q).sealed) (group_is (home q c.core))

  status_l : status_of l (step e at c.core) ≡ Down
  status_l = ap (λ (m : Members). status l m) after_is ∙ falls_down l before.core

  status_other : (q : ℕ) → q ≢ l → status_of q (step e at c.core) ≡ status_of q c.core
  status_other q n = ap (λ (m : Members). status q m) after_is ∙ (leaves_fall q l before.core n).status ∙ ap (λ (m : Members). status q m) before.members

  -- each list is as it was
  lists_same : (q : ℕ) → (step_whole e at c).lists q ≡ c.lists q
  lists_same q =
      ap (grown (group_of (home q (step e at c.core)) (step e at c.core)) q) (list_kept l q e c why) ∙ ap (λ z. grown z q (c.lists q)) (ap (λ g. group_of g (step e at c.core)) (home_is q) ∙ group_is (home q c.core))
      ∙ ap (λ n. c.lists q ++ take n (entries_above (length (c.lists q)) (group_of (home q c.core) c.core))) none ∙ append-nil (c.lists q)
    where
      long : length_of (group_of (home q c.core) c.core) q ≤ length (c.lists q)
      long = elim (cases_lt q (peer_count (shape_of c.core))) [
        | inl low ↦ (let n = long_q (home q c.core) q c (machines (home q c.core)) (its_shard c machines w q low) refl in omega (arith, n))
        | inr high ↦ (let n = past high in omega (arith, n))
      ]
        where
          past : peer_count (shape_of c.core) ≤ q → length_of (group_of (home q c.core) c.core) q ≡ 0
          past high =
              let out : c.core.members.shape.shards ≤ home_of c.core.members.shape q = home_high c.core.members.shape q w.shape.some_copy high in
              let count = k.in_step.seated.groups in
              ap (λ (z : Group). length_of z q) (get_or_past c.core.groups (home q c.core) (new_group (shape_of c.core) (home q c.core) 0 0 []) (omega (arith, out, count)))

      none : length_of (group_of (home q c.core) c.core) q - length (c.lists q) ≡ 0
      none = omega (arith, long)

  -- ---- what a disk may have behind it

  -- a joining peer that follows, of another shard
  module _ (q : ℕ) (low_q : IsPeer c.core.members.shape q) (apart : home q c.core ≢ x) (joins : status_of q c.core ≡ Joining) (r : Rejoin) (came : rejoin_of q c.core ≡ Some r) where
    kq : IsShardInStep (home q c.core) c (machines (home q c.core))
    kq = its_shard c machines w q low_q

    lead_q : HasLead (copies_in (home q c.core) kq.in_step.sent c.core) (machines (home q c.core))
    lead_q = stands_lead (copies_in (home q c.core) kq.in_step.sent c.core) (machines (home q c.core)) kq.in_step.stands

    leads_q : lead_of (home q c.core) c.core ≡ Some lead_q.peer
    leads_q = lead_in_step (home q c.core) c.core (machines (home q c.core)) kq.in_step ∙ lead_q.is

    leads_now : lead_of (home q c.core) (step e at c.core) ≡ Some lead_q.peer
    leads_now =
        ap (lead_of (home q c.core)) is_kept ∙ ap (lead_of (home q c.core)) before.is
        ∙ fallen_lead x l before.core (told_y x told_x) own_y leads_y lost_y (home q c.core) lead_q.peer apart (told_y (home q c.core) (told_in_step (home q c.core) c.core (machines (home q c.core)) kq.in_step)) (lead_by_both (home q c.core) c.core before.core before.members before.groups ∙ leads_q)

    rejoin_now : rejoin_of q (step e at c.core) ≡ Some r
    rejoin_now =
        ap (rejoin_of q) is_kept ∙ ap (rejoin_of q) before.is ∙ fallen_rejoin x l before.core (told_y x told_x) own_y leads_y lost_y q (λ i. apart (sym (home_by q c.core before.core before.members) ∙ i))
        ∙ ap (λ (o : List (Option Rejoin)). slice_index_or o q None) before.rejoins ∙ came

    joins_now : status_of q (step e at c.core) ≡ Joining
    joins_now = status_other q (λ i. let wrong : Good ≡ Joining = sym led.good ∙ ap (λ j. status_of j c.core) (sym i) ∙ joins in cc wrong) ∙ joins

    job_old : first_job q c.core ≡ next_job (sealed_of lead_q.peer c.core) r
    job_old = rw (joins, leads_q, came) (map_job (next_job (sealed_of lead_q.peer c.core) r))

    job_same : first_job q (step e at c.core) ≡ first_job q c.core
    job_same =
        let leads : lead_of (home q (step e at c.core)) (step e at c.core) ≡ Some lead_q.peer = ap (λ g. lead_of g (step e at c.core)) (home_is q) ∙ leads_now in
        let now : first_job q (step e at c.core) ≡ next_job (sealed_of lead_q.peer (step e at c.core)) r = rw (joins_now, leads, rejoin_now) (map_job (next_job (sealed_of lead_q.peer (step e at c.core)) r)) in
        now ∙ ap (λ n. next_job n r) (sealed_same lead_q.peer) ∙ sym job_old

    -- it follows, where no emptying is due
    nothing : first_job q c.core ≡ None → c.adds q ≡ []
    nothing none = adds_none (home q c.core) q c (machines (home q c.core)) kq refl (ap is_copying none) (kq.in_step.stands.peers.still q (home_q (home q c.core) q c (machines (home q c.core)) kq refl) stage)
      where
        done : (b : Bool) → r.empty ≡ b → r.empty ≡ false
        done false i = i
        done true i = let wrong : Some job.Reset ≡ None = sym (job_old ∙ next_reset (sealed_of lead_q.peer c.core) r i) ∙ none in absurd (cc wrong)

        stage : ((machines (home q c.core)).peers q).stage ≡ Following
        stage =
            kq.in_step.stands.peers.stage q (home_q (home q c.core) q c (machines (home q c.core)) kq refl) ∙ ap (λ s. stage_of s (rejoin_at c.core q).empty) joins
            ∙ ap (λ (o : Option Rejoin). stage_of Joining (unwrap_or o (new_rejoin 0)).empty) came ∙ ap (stage_of Joining) (done r.empty refl)

    adds_by : (j : Option Job) → first_job q c.core ≡ j → added_by (c.adds q) (step_whole e at c).lists Joining (Some r) j ≡ c.adds q
    adds_by None i = sym (nothing i)
    adds_by (Some job.Reset) i = refl
    adds_by (Some (job.Copy from number)) i =
        let n : IsNextCopied c q from number = next_copied (home q c.core) c (machines (home q c.core)) kq q from number refl i in
        ap (λ xs. take 1 (drop (number - 1) xs)) (lists_same from) ∙ taken_next (number - 1) (c.lists from) (number, n.entry) n.there ∙ sym n.adds
    adds_by (Some (job.Append number entry)) i = absurd (bad (first_is_next (home q c.core) q c.core (machines (home q c.core)) (job.Append number entry) kq.in_step refl i).good)
      where
        bad : status_of q c.core ≡ Good → ⊥
        bad good = let wrong : Good ≡ Joining = sym good ∙ joins in cc wrong
    adds_by (Some (job.Seal number)) i = absurd (bad (first_is_next (home q c.core) q c.core (machines (home q c.core)) (job.Seal number) kq.in_step refl i).1.good)
      where
        bad : status_of q c.core ≡ Good → ⊥
        bad good = let wrong : Good ≡ Joining = sym good ∙ joins in cc wrong
    adds_by (Some (job.Read number)) i = absurd (bad (first_is_next (home q c.core) q c.core (machines (home q c.core)) (job.Read number) kq.in_step refl i))
      where
        bad : status_of q c.core ≡ Good → ⊥
        bad good = let wrong : Good ≡ Joining = sym good ∙ joins in cc wrong
    adds_by (Some job.Reclaim) i = absurd (first_is_next (home q c.core) q c.core (machines (home q c.core)) job.Reclaim kq.in_step refl i)

    adds_far : (step_whole e at c).adds q ≡ c.adds q
    adds_far =
        ap (λ s. added_by (c.adds q) (step_whole e at c).lists s (rejoin_of q (step e at c.core)) (first_job q (step e at c.core))) joins_now
        ∙ ap (λ o. added_by (c.adds q) (step_whole e at c).lists Joining o (first_job q (step e at c.core))) rejoin_now
        ∙ ap (added_by (c.adds q) (step_whole e at c).lists Joining (Some r)) job_same ∙ adds_by (first_job q c.core) refl

  adds_same : (q : ℕ) → (step_whole e at c).adds q ≡ c.adds q
  adds_same q = elim (cases_eq q l) [
    | inl i ↦ by_down (ap (λ j. status_of j (step e at c.core)) i ∙ status_l)
    | inr n ↦ other n (status_of q c.core) refl
  ]
    where
      by_status : (s : PeerStatus) → status_of q (step e at c.core) ≡ s → (step_whole e at c).adds q ≡ added_by (c.adds q) (step_whole e at c).lists s (rejoin_of q (step e at c.core)) (first_job q (step e at c.core))
      by_status s i = ap (λ s. added_by (c.adds q) (step_whole e at c).lists s (rejoin_of q (step e at c.core)) (first_job q (step e at c.core))) i

      by_down : status_of q (step e at c.core) ≡ Down → (step_whole e at c).adds q ≡ c.adds q
      by_down i = by_status Down i

      is_peer : (s : PeerStatus) → status_of q c.core ≡ s → (s ≡ Down → ⊥) → IsPeer c.core.members.shape q
      is_peer s i n = elim (cases_lt q (peer_count (shape_of c.core))) [
        | inl low ↦ low
        | inr high ↦ absurd (n (sym i ∙ past_down c machines w q high))
      ]

      joining : q ≢ l → status_of q c.core ≡ Joining → IsPeer c.core.members.shape q → (step_whole e at c).adds q ≡ c.adds q
      joining n joins low_q = elim (cases_eq (home q c.core) x) [
        | inl of ↦
            (let now : status_of q (step e at c.core) ≡ Joining = status_other q n ∙ joins in
            let none : rejoin_of q (step e at c.core) ≡ None =
            ap (rejoin_of q) is_kept ∙ ap (rejoin_of q) before.is ∙ fallen_joins x l before.core (told_y x told_x) own_y leads_y lost_y q (home_by q c.core before.core before.members ∙ of) (ap (λ (m : Members). status q m) (sym after_is) ∙ now) in
            by_status Joining now ∙ ap (λ o. added_by (c.adds q) (step_whole e at c).lists Joining o (first_job q (step e at c.core))) none)
        | inr apart ↦ far apart (rejoin_of q c.core) refl
      ]
        where
          far : home q c.core ≢ x → (o : Option Rejoin) → rejoin_of q c.core ≡ o → (step_whole e at c).adds q ≡ c.adds q
          far apart (Some r) came = adds_far q low_q apart joins r came
          far apart None came =
              let now : status_of q (step e at c.core) ≡ Joining = status_other q n ∙ joins in
              let none : rejoin_of q (step e at c.core) ≡ None =
              ap (rejoin_of q) is_kept ∙ ap (rejoin_of q) before.is ∙ fallen_rejoin x l before.core (told_y x told_x) own_y leads_y lost_y q (λ i. apart (sym (home_by q c.core before.core before.members) ∙ i))
              ∙ ap (λ (o : List (Option Rejoin)). slice_index_or o q None) before.rejoins ∙ came in
              by_status Joining now ∙ ap (λ o. added_by (c.adds q) (step_whole e at c).lists Joining o (first_job q (step e at c.core))) none

      other : q ≢ l → (s : PeerStatus) → status_of q c.core ≡ s → (step_whole e at c).adds q ≡ c.adds q
      other n Down i = by_down (status_other q n ∙ i)
      other n Good i =
          let low_q : IsPeer c.core.members.shape q = is_peer Good i (λ h. let wrong : Good ≡ Down = h in cc wrong) in
          by_status Good (status_other q n ∙ i) ∙ sym (adds_good (home q c.core) q c (machines (home q c.core)) (its_shard c machines w q low_q) refl i)
      other n Joining i = joining n i (is_peer Joining i (λ h. let wrong : Joining ≡ Down = h in cc wrong))

  -- ---- all of it

  pub grows_lost : (q : ℕ) → Grows whole_machine c (step_whole e at c) q
  grows_lost q = record {
    counted = counted;
    front = λ list h. (h.0, ap (λ xs. xs ++ (step_whole e at c).adds q) (lists_same q) ∙ ap (λ xs. c.lists q ++ xs) (adds_same q) ∙ h.1);
    long = long;
  }
    where
      bad_now : is_good_status (status_of q c.core) ≡ false → is_good_status (status_of q (step e at c.core)) ≡ false
      bad_now i = elim (cases_eq q l) [
        | inl is ↦ ap is_good_status (ap (λ j. status_of j (step e at c.core)) is ∙ status_l)
        | inr n ↦ ap is_good_status (status_other q n) ∙ i
      ]

      counted : counts (step_whole e at c) q ≡ true → counts c q ≡ true
      counted there = by (c.aside q) refl
        where
          by : (b : Bool) → c.aside q ≡ b → not (c.aside q) ≡ true
          by false i = ap not i
          by true i =
              let bad : is_good_status (status_of q (step e at c.core)) ≡ false = bad_now (w.aside q i) in
              let aside : (step_whole e at c).aside q ≡ true = ap (λ b. b && not (is_good_status (status_of q (step e at c.core)))) i ∙ ap not bad in
              let wrong : false ≡ true = sym (ap not aside) ∙ there in
              absurd (cc wrong)

      same_or : (b : Bool) → is_good_status (status_of q c.core) ≡ b → floor (step_whole e at c) q ≤ floor c q
      same_or false i = let n = floor_bad (step_whole e at c) q (bad_now i) in omega (arith, n)
      same_or true i = elim (cases_eq q l) [
        | inl is ↦ (let n = floor_bad (step_whole e at c) q (ap is_good_status (ap (λ j. status_of j (step e at c.core)) is ∙ status_l)) in omega (arith, n))
        | inr n ↦
            (let new_is : floor (step_whole e at c) q ≡ sealed_of q c.core = ap (λ b. if b then sealed_of q (step e at c.core) else 0) (ap is_good_status (status_other q n) ∙ i) ∙ sealed_same q in
            let old_is : floor c q ≡ sealed_of q c.core = ap (λ b. if b then sealed_of q c.core else 0) i in
            omega (arith, new_is, old_is))
      ]

      long : floor (step_whole e at c) q ≤ floor c q
      long = same_or (is_good_status (status_of q c.core)) refl
