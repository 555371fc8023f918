-- A store of one copy a shard stays sane, and what an event makes of its lists, floors and jobs.
use Rattle.std.proofs.Common.{◌≡◌, ◌≢◌, ◌⊎◌, ◌∙◌, ap, sym, subst, inl, inr, ℕ, ◌+◌, ◌-◌, ◌<◌, ◌≤◌, ◌==◌, ◌&&◌, not, Bool, true, false, List, [], ◌++◌, Option, Some, None, refl, arith, length, is_some}
use Rattle.std.proofs.lemmas.Bool.{cases_eq, cases_lt}
use Rattle.std.proofs.lemmas.List.{append-nil, append_assoc}
use Rattle.std.specs.List.{All, enumerate_from}
use Rattle.std.specs.Option.{option_and_then, option_map}
use Rattle.std.specs.Prelude.{if◌then◌else◌, slice_index_or, take}
use Rattle.hs_core_words.specs.declared.event.Event.{Event}
use Rattle.hs_core_words.specs.declared.event.Event.TheVariants as event
use Rattle.hs_core_words.specs.declared.task.Task.{Task}
use Rattle.hs_core_words.specs.Looking.{first_job, group_of, home, lost_shard, rejoin_of, sealed_of, shape_of, status_of, tasks_of}
use Rattle.hs_core_words.specs.Reporting.{on_report}
use Rattle.hs_core_words.specs.State.{Core}
use Rattle.hs_core_words.specs.Step.{do_event, end_event, step}
use Rattle.hs_desk.specs.declared.done.Done.{Done}
use Rattle.hs_desk.specs.declared.done.Done.TheVariants as done
use Rattle.hs_desk.specs.declared.fault.CoreFault.TheVariants as fault
use Rattle.hs_desk.specs.declared.job.Job.TheVariants as job
use Rattle.hs_entry.specs.declared.entry.Entry.{Entry}
use Rattle.hs_entry.specs.Entries.{is_of_base}
use Rattle.hs_fold.specs.Shards.Setting.{Numbered}
use Rattle.hs_limits.specs.declared.limits.PeerStatus.{PeerStatus}
use Rattle.hs_limits.specs.declared.limits.PeerStatus.TheVariants.{Good, Joining, Down}
use Rattle.hs_limits.specs.declared.shape.Shape.{Shape}
use Rattle.hs_members.specs.Members.{Members, home_of, is_good_status, is_joining, status}
use Rattle.hs_replica.specs.declared.replica.Replica.{Replica}
use Rattle.hs_replica.specs.Group.{Group, copy_of, entries_above, last_number, length_of, new_group}
use Rattle.hs_events.specs.Alone.{AreAlone, AreBegun, AreJobs, Face, HasJobs, IsAlone, IsCounted, face, group_in, own, tasks_in}
use Rattle.hs_events.specs.Asked.{report_in}
use Rattle.hs_events.specs.Course.{is_refused}
use Rattle.hs_events.specs.Due.{is_answer}
use Rattle.hs_moments.specs.Moments.{Grows}
use Rattle.hs_events.specs.Sane.{IsSane, appended_of}
use Rattle.hs_events.specs.Whole.{Whole, added_by, counts, floor, grown, lists_after, reach, reported, step_whole, taken_report, told_list}
use Rattle.hs_moments.specs.WholeMachine.{IsFrontOf, whole_machine}
use Rattle.hs_moments.specs.Working.{HasReported, IsBehind}
use Rattle.hs_moments.proofs.AloneEventLemmas.{Falls, alone_begun, begun, ends, home_here, one_lost, quiet, status_past, step_is}
use Rattle.hs_moments.proofs.AloneLemmas.{copy_alone}
use Rattle.hs_moments.proofs.AloneReportLemmas.{Above, Answered, answered_within, AreSettled, Left, Reports, reports, reports_not}
use Rattle.hs_moments.proofs.AloneStepLemmas.{nowhere}
use Rattle.hs_moments.proofs.JobLemmas.{BegunAs, are_grow, begun_grow, counts_on, grows, length_counted, settles}
use Rattle.hs_moments.proofs.MoveLemmas.{Goes, Moves, moves_same}
use Rattle.hs_moments.proofs.WorkLemmas.{begun_appended, floor_alone, floor_past, none_appended, past_appended, reach_sane}

-- ---- what a core goes on from

-- the first job was taken out, and sealed, where it was a Seal; and all that is sealed was handed out then
pub record GoesWell (x : Core) (f : Face) : Type 0 where
  pub from : Face
  pub alone : AreAlone from
  pub members : from.members ≡ x.members
  pub lists : (g : ℕ) → g < x.members.shape.shards → ((group_in g from).front ≡ (group_of g x).front) × ((group_in g from).waiting ≡ (group_of g x).waiting)
  pub jobs : (g : ℕ) → g < x.members.shape.shards → HasJobs (Above g from) (tasks_in g from)
  pub moves : Moves from f
  pub reached : (g : ℕ) → g < x.members.shape.shards → (own (group_in g from)).sealed ≤ (group_in g f).front

quiet_well : (x : Core) (f : Face) → AreAlone (face x) → AreSettled x → Moves (face x) f → GoesWell x f
quiet_well x f h settled m = record {
  from = face x;
  alone = h;
  members = refl;
  lists = λ g lt. (refl, refl);
  jobs = λ g lt. (settled g lt).jobs;
  moves = m;
  reached = λ g lt. let up = (m.each g lt).front in let all = (settled g lt).settled in omega (arith, up, all);
}

left_jobs : (x : Core) (p : ℕ) (d : Done) (f : Face) → Left x p d f → HasJobs (Above p f) (tasks_in p f)
left_jobs x p (done.Stored number) f l = inr l.1
left_jobs x p (done.Sealed number) f l = inl l.1
left_jobs x p (done.Bytes number bytes) f l = inl l.1
left_jobs x p (done.Gone number) f l = inl l.1
left_jobs x p done.Emptied f l = absurd l
left_jobs x p (done.Copied number) f l = absurd l
left_jobs x p (done.Stepped switched) f l = absurd l
left_jobs x p (done.Failed disk) f l = absurd l

answered_well : (x : Core) (p : ℕ) (d : Done) (b : Core) (f : Face) → f ≡ face b → AreSettled x → Answered x p d b → GoesWell x f
answered_well x p d b f same settled a = record {
  from = a.from;
  alone = a.start.alone;
  members = a.start.members;
  lists = a.start.lists;
  jobs = λ g lt. elim (cases_eq g p) [
    | inl same ↦ subst (λ k. HasJobs (Above k a.from) (tasks_in k a.from)) (sym same) (left_jobs x p d a.from a.left)
    | inr ne ↦ let e = a.start.others g ne in
        subst (λ (y : Group). HasJobs (entries_above (own y).sealed y) (tasks_in g a.from)) (sym e.0) (subst (λ (ts : List Task). HasJobs (entries_above (own (group_of g x)).sealed (group_of g x)) ts) (sym e.1) (settled g lt).jobs)
  ];
  moves = subst (Moves a.from) (sym same) a.moves;
  reached = λ g lt. subst (λ y. (own (group_in g a.from)).sealed ≤ (group_in g y).front) (sym same) (a.reached g lt);
}

-- ---- no report takes from a list, or adds to it

reported_same : (c : Whole) (x b : Core) (p q : ℕ) (d : Done) → Reports x q d b → reported c p d ≡ c.lists p
reported_same c x b p q (done.Stored number) r = refl
reported_same c x b p q (done.Sealed number) r = refl
reported_same c x b p q (done.Bytes number bytes) r = refl
reported_same c x b p q (done.Gone number) r = refl
reported_same c x b p q done.Emptied r = absurd r
reported_same c x b p q (done.Copied number) r = absurd r
reported_same c x b p q (done.Stepped switched) r = absurd r
reported_same c x b p q (done.Failed disk) r = refl

told_one : (c : Whole) (p : ℕ) (r : ℕ × Done) → IsSane c → told_list c p (if is_answer c.core r.0 r.1 then Some r else None) ≡ c.lists p
told_one c p r h = by_answer (is_answer c.core r.0 r.1) refl
  where
    one_of : (b : Bool) (xs : Numbered) → xs ≡ c.lists p → (if b then xs else c.lists p) ≡ c.lists p
    one_of true xs e = e
    one_of false xs e = refl

    by_answer : (b : Bool) → is_answer c.core r.0 r.1 ≡ b → told_list c p (if is_answer c.core r.0 r.1 then Some r else None) ≡ c.lists p
    by_answer false e = ap (λ b. told_list c p (if b then Some r else None)) e
    by_answer true e = ap (λ b. told_list c p (if b then Some r else None)) e ∙ one_of (r.0 == p) (reported c p r.1) (reported_same c c.core (on_report r.0 r.1 c.core) p r.0 r.1 (reports r.0 r.1 c.core h.alone h.settled e))

told_same : (c : Whole) (e : Event) (p : ℕ) → IsSane c → told_list c p (taken_report c.core e) ≡ c.lists p
told_same c e p h = go (report_in e) refl
  where
    go : (o : Option (ℕ × Done)) → report_in e ≡ o → told_list c p (taken_report c.core e) ≡ c.lists p
    go None q = ap (λ o. told_list c p (option_and_then (λ (r : ℕ × Done). if is_answer c.core r.0 r.1 then Some r else None) o)) q
    go (Some r) q = ap (λ o. told_list c p (option_and_then (λ (r : ℕ × Done). if is_answer c.core r.0 r.1 then Some r else None) o)) q ∙ told_one c p r h

-- ---- lists that don't grow

grown_none : (g : Group) (p : ℕ) (list : Numbered) → length_of g p ≤ length list → grown g p list ≡ list
grown_none g p list le =
    let none : length_of g p - length list ≡ 0 = omega (arith, le) in
    ap (λ k. list ++ take k (entries_above (length list) g)) none ∙ append-nil list

length_past : (c : Core) (p : ℕ) → AreAlone (face c) → c.members.shape.shards ≤ p → length_of (group_of p c) p ≡ 0
length_past c p h high = ap (λ (g : Group). length_of g p) (nowhere c p h high)

length_here : (c : Core) (p : ℕ) → AreAlone (face c) → p < c.members.shape.shards → length_of (group_of p c) p ≡ last_number (group_of p c)
length_here c p h low = ap (λ (r : Replica). length r.stamps) (copy_alone c.members.shape p (group_of p c) h.copies (h.each p low)) ∙ (h.each p low).long

-- ---- one event of a sane store

module _ (c : Whole) (e : Event) (at : ℕ) (h : IsSane c) where
  abbrev x : Core
  x = begun e at c.core

  abbrev b : Core
  b = do_event e (begun e at c.core)

  abbrev after : Core
  after = step e at c.core

  abbrev new : Whole
  new = step_whole e at c

  pub alone_x : AreAlone (face x)
  alone_x = alone_begun e at c.core h.alone

  after_is : after ≡ end_event b
  after_is = step_is e at c.core h.going

  face_is : face after ≡ face b
  face_is = ap face after_is ∙ (ends b).same

  -- its list by what is told, as a group has it
  list_is : (p : ℕ) → (shape_of after).copies ≡ 1 → new.lists p ≡ grown (group_of p after) p (c.lists p)
  list_is p one = ap (λ ts. grown (group_of (home p after) after) p ts) (told_same c e p h) ∙ ap (λ k. grown (group_of k after) p (c.lists p)) (home_here after p one)

  -- no peer copies
  adds_by : (p : ℕ) (s : PeerStatus) → status_of p after ≡ s → is_joining s ≡ false → new.adds p ≡ []
  adds_by p s is not_joining = ap (λ s. added_by (c.adds p) (lists_after e c after) s (rejoin_of p after) (first_job p after)) is ∙ by_status s not_joining
    where
      by_status : (s : PeerStatus) → is_joining s ≡ false → added_by (c.adds p) (lists_after e c after) s (rejoin_of p after) (first_job p after) ≡ []
      by_status Good n = refl
      by_status Joining n = cc
      by_status Down n = h.adds p

  -- ---- where the core goes on

  module _ (w : GoesWell x (face after)) where
    members_same : after.members ≡ c.core.members
    members_same = w.moves.members ∙ w.members

    alone_after : AreAlone (face after)
    alone_after = w.moves.alone

    within : (p : ℕ) → p < c.core.members.shape.shards → p < after.members.shape.shards
    within p low = subst (λ (m : Members). p < m.shape.shards) (sym members_same) low

    back : (p : ℕ) → p < after.members.shape.shards → p < c.core.members.shape.shards
    back p low = subst (λ (m : Members). p < m.shape.shards) members_same low

    from_within : (p : ℕ) → p < c.core.members.shape.shards → p < w.from.members.shape.shards
    from_within p low = subst (λ (m : Members). p < m.shape.shards) (sym w.members) low

    pub goes : (p : ℕ) → p < c.core.members.shape.shards → Goes (group_in p w.from) (group_of p after) (tasks_in p w.from) (tasks_of p after)
    goes p low = w.moves.each p (from_within p low)

    alone_from : (p : ℕ) → p < c.core.members.shape.shards → IsAlone c.core.members.shape p (group_in p w.from)
    alone_from p low = subst (λ (m : Members). IsAlone m.shape p (group_in p w.from)) w.members (w.alone.each p (from_within p low))

    alone_new : (p : ℕ) → p < c.core.members.shape.shards → IsAlone c.core.members.shape p (group_of p after)
    alone_new p low = subst (λ (m : Members). IsAlone m.shape p (group_of p after)) members_same (alone_after.each p (within p low))

    counted_from : (p : ℕ) → p < c.core.members.shape.shards → IsCounted (c.lists p) (group_in p w.from)
    counted_from p low =
        let l = h.lists p low in
        let same = w.lists p low in
        record {
          taken = l.taken;
          counted = subst (λ ws. c.lists p ≡ enumerate_from 1 (l.taken ++ ws)) (sym same.1) l.counted;
          handed = l.handed ∙ sym same.0;
          plain = subst (λ ws. All (λ (entry : Entry). is_of_base entry ≡ false) (l.taken ++ ws)) (sym same.1) l.plain;
        }

    list_grows : (p : ℕ) (low : p < c.core.members.shape.shards) → new.lists p ≡ c.lists p ++ enumerate_from (last_number (group_in p w.from) + 1) (goes p low).more
    list_grows p low =
        list_is p alone_after.copies
        ∙ grows c.core.members.shape p (group_in p w.from) (group_of p after) (tasks_in p w.from) (tasks_of p after) (c.lists p) h.alone.copies (alone_from p low) (alone_new p low) (goes p low)
        (length_counted (c.lists p) (group_in p w.from) (counted_from p low))

    list_past : (p : ℕ) → c.core.members.shape.shards ≤ p → new.lists p ≡ c.lists p
    list_past p high =
        let up : after.members.shape.shards ≤ p = subst (λ (m : Members). m.shape.shards ≤ p) (sym members_same) high in
        let none = length_past after p alone_after up in
        list_is p alone_after.copies ∙ grown_none (group_of p after) p (c.lists p) (omega (arith, none))

    adds_none : (p : ℕ) → new.adds p ≡ []
    adds_none p = elim (cases_lt p after.members.shape.shards) [
      | inl low ↦ adds_by p Good (alone_after.good p low) refl
      | inr high ↦ adds_by p Down (status_past after p alone_after high) refl
    ]

    pub sane_well : after.ended ≡ None → IsSane new
    sane_well going = record {
      going = going;
      alone = alone_after;
      settled = λ p low. let l = back p low in settles c.core.members.shape p (group_in p w.from) (group_of p after) (tasks_in p w.from) (tasks_of p after) (alone_from p l) (alone_new p l) (goes p l) (w.reached p l) (w.jobs p l);
      lists = λ p low. let l = back p low in subst (λ es. IsCounted es (group_of p after)) (sym (list_grows p l)) (counts_on (group_in p w.from) (group_of p after) (tasks_in p w.from) (tasks_of p after) (c.lists p) (goes p l) (counted_from p l));
      past = λ p high. let up : c.core.members.shape.shards ≤ p = subst (λ (m : Members). m.shape.shards ≤ p) members_same high in list_past p up ∙ h.past p up;
      adds = adds_none;
      counted = λ p low. ap (λ a. a && not (is_good_status (status_of p after))) (h.counted p (back p low));
    }

    pub reach_grows : (p : ℕ) → (more : Numbered) × (reach new p ≡ reach c p ++ more)
    reach_grows p = elim (cases_lt p c.core.members.shape.shards) [
      | inl low ↦ (enumerate_from (last_number (group_in p w.from) + 1) (goes p low).more, ap (λ es. new.lists p ++ es) (adds_none p) ∙ append-nil (new.lists p) ∙ list_grows p low ∙ ap (λ es. es ++ enumerate_from (last_number (group_in p w.from) + 1) (goes p low).more) (sym (reach_sane c p h)))
      | inr high ↦ ([], ap (λ es. new.lists p ++ es) (adds_none p) ∙ append-nil (new.lists p) ∙ list_past p high ∙ sym (reach_sane c p h) ∙ sym (append-nil (reach c p)))
    ]

    -- ---- floors, and what stands unsealed

    pub floor_well : (p : ℕ) → p < c.core.members.shape.shards → floor new p ≡ (own (group_in p w.from)).sealed
    floor_well p low = floor_alone new p alone_after (within p low) ∙ (goes p low).sealed

    pub floor_none : (p : ℕ) → c.core.members.shape.shards ≤ p → floor new p ≡ 0
    floor_none p high = floor_past new p alone_after (subst (λ (m : Members). m.shape.shards ≤ p) (sym members_same) high)

    -- front, sealed and last number, one after the other
    between : (p : ℕ) (low : p < c.core.members.shape.shards) → ((group_of p after).front ≤ (own (group_in p w.from)).sealed) × ((own (group_in p w.from)).sealed ≤ last_number (group_in p w.from))
    between p low = let one = (alone_new p low).handed in let two = (goes p low).sealed in (omega (arith, one, two), (alone_from p low).within)

    pub appended_none : (p : ℕ) → p < c.core.members.shape.shards → AreJobs (Above p w.from) (tasks_in p w.from) → appended_of p after ≡ None
    appended_none p low j =
        let a = goes p low in let k = between p low in
        none_appended after p alone_after (within p low)
        (subst (λ s. AreJobs (entries_above s (group_of p after)) (tasks_of p after)) (sym a.sealed) (are_grow (group_in p w.from) (group_of p after) (tasks_in p w.from) (tasks_of p after) a (own (group_in p w.from)).sealed k.0 k.1 j))

    pub appended_some : (p : ℕ) → p < c.core.members.shape.shards → (begun : AreBegun (Above p w.from) (tasks_in p w.from)) → appended_of p after ≡ Some begun.first.1
    appended_some p low begun =
        let a = goes p low in let k = between p low in
        let same : BegunAs begun.first (Above p (face after)) (tasks_of p after) =
        subst (λ s. BegunAs begun.first (entries_above s (group_of p after)) (tasks_of p after)) (sym a.sealed) (begun_grow (group_in p w.from) (group_of p after) (tasks_in p w.from) (tasks_of p after) a (own (group_in p w.from)).sealed k.0 k.1 begun) in
        begun_appended after p alone_after (within p low) same.begun ∙ ap (λ (y : ℕ × Entry). Some y.1) same.same

  -- ---- where a shard is lost

  module _ (q : ℕ) (f : Falls q x b) where
    fallen_members : after.members ≡ b.members
    fallen_members = ap (λ (y : Face). y.members) face_is

    fallen_shape : after.members.shape ≡ c.core.members.shape
    fallen_shape = ap (λ (m : Members). m.shape) fallen_members ∙ f.shape

    fallen_group : (p : ℕ) → group_of p after ≡ group_of p c.core
    fallen_group p =
        ap (λ gs. slice_index_or gs p (new_group after.members.shape p 0 0 [])) (ap (λ (y : Face). y.groups) face_is ∙ f.groups)
        ∙ ap (λ s. slice_index_or c.core.groups p (new_group s p 0 0 [])) fallen_shape

    fallen_status : (p : ℕ) → (status_of p after ≡ Down) ⊎ (status_of p after ≡ status_of p c.core)
    fallen_status p = elim (cases_eq p q) [
      | inl same ↦ inl (ap (status p) fallen_members ∙ ap (λ k. status k b.members) same ∙ f.down)
      | inr ne ↦ inr (ap (status p) fallen_members ∙ f.others p ne)
    ]

    fallen_list : (p : ℕ) → new.lists p ≡ c.lists p
    fallen_list p =
        list_is p (ap (λ (s : Shape). s.copies) fallen_shape ∙ h.alone.copies)
        ∙ ap (λ g. grown g p (c.lists p)) (fallen_group p)
        ∙ grown_none (group_of p c.core) p (c.lists p) (elim (cases_lt p c.core.members.shape.shards) [
          | inl low ↦ let one = length_here c.core p h.alone low in let two = length_counted (c.lists p) (group_of p c.core) (h.lists p low) in omega (arith, one, two)
          | inr high ↦ let none = length_past c.core p h.alone high in omega (arith, none)
        ])

    old_status : (p : ℕ) → (status_of p c.core ≡ Good) ⊎ (status_of p c.core ≡ Down)
    old_status p = elim (cases_lt p c.core.members.shape.shards) [
      | inl low ↦ inl (h.alone.good p low)
      | inr high ↦ inr (status_past c.core p h.alone high)
    ]

    fallen_adds : (p : ℕ) → new.adds p ≡ []
    fallen_adds p = elim (fallen_status p) [
      | inl down ↦ adds_by p Down down refl
      | inr same ↦ elim (old_status p) [
        | inl good ↦ adds_by p Good (same ∙ good) refl
        | inr down ↦ adds_by p Down (same ∙ down) refl
      ]
    ]

    pub fallen_reach : (p : ℕ) → reach new p ≡ reach c p
    fallen_reach p = ap (λ es. new.lists p ++ es) (fallen_adds p) ∙ append-nil (new.lists p) ∙ fallen_list p ∙ sym (reach_sane c p h)

    fallen_sealed : (p : ℕ) → sealed_of p after ≡ sealed_of p c.core
    fallen_sealed p =
        ap (λ (g : Group). (copy_of g p).sealed) (fallen_group (home p after))
        ∙ ap (λ (s : Shape). (copy_of (group_of (home_of s p) c.core) p).sealed) fallen_shape

    pub fallen_floor : (p : ℕ) → (floor new p ≡ 0) ⊎ (floor new p ≡ floor c p)
    fallen_floor p = elim (fallen_status p) [
      | inl down ↦ inl (ap (λ s. if is_good_status s then sealed_of p after else 0) down)
      | inr same ↦ inr (ap (λ s. if is_good_status s then sealed_of p after else 0) same ∙ ap (λ n. if is_good_status (status_of p c.core) then n else 0) (fallen_sealed p))
    ]

    pub fallen_peer : floor new q ≡ 0
    fallen_peer = ap (λ s. if is_good_status s then sealed_of q after else 0) (ap (status q) fallen_members ∙ f.down)

    pub fallen_ended : after.ended ≡ None → ⊥
    fallen_ended none = elim (ends b).ended [
      | inl full ↦ let bad : None ≡ Some fault.OpsFull = sym none ∙ ap (λ (y : Core). y.ended) after_is ∙ full in cc
      | inr told ↦ lost (lost_shard b) (one_lost q x b alone_x f) (sym none ∙ ap (λ (y : Core). y.ended) after_is ∙ told)
    ]
      where
        lost : (o : Option ℕ) → is_some o ≡ true → None ≡ option_map fault.ShardLost o → ⊥
        lost None some bad = cc
        lost (Some s) some bad = cc

  -- ---- what counts

  -- a disk that counts counted before
  counted_by : (p : ℕ) → (c.core.members.shape.shards ≤ p → is_good_status (status_of p after) ≡ false) → counts new p ≡ true → counts c p ≡ true
  counted_by p past counted = elim (cases_lt p c.core.members.shape.shards) [
    | inl low ↦ ap not (h.counted p low)
    | inr high ↦ go (c.aside p) (sym (ap (λ b. not (c.aside p && not b)) (past high)) ∙ counted)
  ]
    where
      go : (a : Bool) → not (a && not false) ≡ true → not a ≡ true
      go true e = e
      go false e = refl

  counted_well : GoesWell x (face after) → (p : ℕ) → counts new p ≡ true → counts c p ≡ true
  counted_well w p counted = counted_by p (λ high. ap is_good_status (status_past after p (alone_after w) (subst (λ (m : Members). m.shape.shards ≤ p) (sym (members_same w)) high))) counted

  counted_fallen : (q : ℕ) → Falls q x b → (p : ℕ) → counts new p ≡ true → counts c p ≡ true
  counted_fallen q f p counted = counted_by p (λ high. elim (fallen_status q f p) [ inl down ↦ ap is_good_status down | inr same ↦ ap is_good_status (same ∙ status_past c.core p h.alone high) ]) counted

  -- ---- how an event may go

  quiet_goes : report_in e ≡ None → Moves (face x) (face after) ⊎ ((q : ℕ) × Falls q x b)
  quiet_goes q = elim (quiet e x alone_x q) [
    | inl m ↦ inl (subst (Moves (face x)) (sym face_is) m)
    | inr f ↦ inr f
  ]

  well_by : Moves (face x) (face after) → GoesWell x (face after)
  well_by m = quiet_well x (face after) alone_x h.settled m

  answers_by : (p : ℕ) (d : Done) → Answered x p d b → GoesWell x (face after)
  answers_by p d a = answered_well x p d b (face after) face_is h.settled a

  front_by : (p : ℕ) (more : Numbered) → reach new p ≡ reach c p ++ more → (list : Numbered) → IsFrontOf p list (reach c p) → IsFrontOf p list (reach new p)
  front_by p more is list front = (front.0 ++ more, is ∙ ap (λ es. es ++ more) front.1 ∙ append_assoc list front.0 more)

  front_well : GoesWell x (face after) → (p : ℕ) (list : Numbered) → IsFrontOf p list (reach c p) → IsFrontOf p list (reach new p)
  front_well w p = let g = reach_grows w p in front_by p g.0 g.1

  front_fallen : (q : ℕ) → Falls q x b → (p : ℕ) (list : Numbered) → IsFrontOf p list (reach c p) → IsFrontOf p list (reach new p)
  front_fallen q f p = front_by p [] (fallen_reach q f p ∙ sym (append-nil (reach c p)))

  -- a peer that has sealed as much as before
  long_well : (w : GoesWell x (face after)) (p : ℕ) → (p < c.core.members.shape.shards → (own (group_in p w.from)).sealed ≡ (own (group_of p c.core)).sealed) → floor new p ≡ floor c p
  long_well w p same = elim (cases_lt p c.core.members.shape.shards) [
    | inl low ↦ floor_well w p low ∙ same low ∙ sym (floor_alone c p h.alone low)
    | inr high ↦ floor_none w p high ∙ sym (floor_past c p h.alone high)
  ]

  grows_well : (w : GoesWell x (face after)) (p : ℕ) → (p < c.core.members.shape.shards → (own (group_in p w.from)).sealed ≡ (own (group_of p c.core)).sealed) → Grows whole_machine c new p
  grows_well w p same = record { counted = counted_well w p; front = front_well w p; long = let n = long_well w p same in omega (arith, n) }

  grows_fallen : (q : ℕ) → Falls q x b → (p : ℕ) → Grows whole_machine c new p
  grows_fallen q f p = record {
    counted = counted_fallen q f p;
    front = front_fallen q f p;
    long = elim (fallen_floor q f p) [ inl none ↦ omega (arith, none) | inr same ↦ omega (arith, same) ];
  }

  -- what stood unsealed stands so still
  appended_well : (w : GoesWell x (face after)) (p : ℕ) → p < c.core.members.shape.shards → group_in p w.from ≡ group_of p c.core → tasks_in p w.from ≡ tasks_of p c.core → appended_of p after ≡ appended_of p c.core
  appended_well w p low group tasks = elim (h.settled p low).jobs [
    | inl j ↦ appended_none w p low (subst (λ (g : Group). AreJobs (entries_above (own g).sealed g) (tasks_in p w.from)) (sym group) (subst (λ (ts : List Task). AreJobs (Above p (face c.core)) ts) (sym tasks) j)) ∙ sym (none_appended c.core p h.alone low j)
    | inr s ↦
        let same : BegunAs s.first (Above p w.from) (tasks_in p w.from) =
        subst (λ (g : Group). BegunAs s.first (entries_above (own g).sealed g) (tasks_in p w.from)) (sym group) (subst (λ (ts : List Task). BegunAs s.first (Above p (face c.core)) ts) (sym tasks) (record { begun = s; same = refl })) in
        appended_some w p low same.begun ∙ ap (λ (y : ℕ × Entry). Some y.1) same.same ∙ sym (begun_appended c.core p h.alone low s)
  ]

  appended_past : AreAlone (face after) → (p : ℕ) → c.core.members.shape.shards ≤ p → after.members.shape.shards ≤ p → appended_of p after ≡ appended_of p c.core
  appended_past a p high up = past_appended after p a up ∙ sym (past_appended c.core p h.alone high)

-- ---- events without a report

pub growing_without_call : (c : Whole) (e : Event) (at peer : ℕ) → IsSane c → report_in e ≡ None → is_refused (step e at c.core).ended ≡ false → Grows whole_machine c (step_whole e at c) peer
unfolding quiet_well
growing_without_call c e at p h q r = elim (quiet_goes c e at h q) [
  | inl m ↦ grows_well c e at h (quiet_well (begun e at c.core) (face (step e at c.core)) (alone_x c e at h) h.settled m) p (λ low. refl)
  | inr f ↦ grows_fallen c e at h f.0 f.1 p
]

pub appended_stays : (c : Whole) (e : Event) (at peer : ℕ) → IsSane c → report_in e ≡ None → (step e at c.core).ended ≡ None → (appended_of peer (step e at c.core) ≡ appended_of peer c.core) × (floor (step_whole e at c) peer ≡ floor c peer)
unfolding quiet_well
appended_stays c e at p h q going = elim (quiet_goes c e at h q) [
  | inl m ↦
      let w : GoesWell (begun e at c.core) (face (step e at c.core)) = quiet_well (begun e at c.core) (face (step e at c.core)) (alone_x c e at h) h.settled m in (
        elim (cases_lt p c.core.members.shape.shards) [
          | inl low ↦ appended_well c e at h w p low refl refl
          | inr high ↦ appended_past c e at h m.alone p high (subst (λ (y : Members). y.shape.shards ≤ p) (sym m.members) high)
        ],
        long_well c e at h w p (λ low. refl),
      )
  | inr f ↦ absurd (fallen_ended c e at h f.0 f.1 going)
]

-- ---- reports

-- a report that is no failure
module _ (c : Whole) (p : ℕ) (d : Done) (at : ℕ) (h : IsSane c) where
  abbrev told : Event
  told = event.Report p d

  abbrev y : Core
  y = begun (event.Report p d) at c.core

  beside_grows : (a : Answered y p d (on_report p d y)) (q : ℕ) → q ≢ p → Grows whole_machine c (step_whole told at c) q
  unfolding answered_well
  beside_grows a q ne =
      let w : GoesWell y (face (step told at c.core)) = answered_well y p d (on_report p d y) (face (step told at c.core)) (face_is c told at h) h.settled a in
      grows_well c told at h w q (λ low. ap (λ (g : Group). (own g).sealed) (a.start.others q ne).0)

  beside_stays : (a : Answered y p d (on_report p d y)) (q : ℕ) → q ≢ p → (appended_of q (step told at c.core) ≡ appended_of q c.core) × (floor (step_whole told at c) q ≡ floor c q)
  unfolding answered_well
  beside_stays a q ne =
      let w : GoesWell y (face (step told at c.core)) = answered_well y p d (on_report p d y) (face (step told at c.core)) (face_is c told at h) h.settled a in (
        elim (cases_lt q c.core.members.shape.shards) [
          | inl low ↦ appended_well c told at h w q low (a.start.others q ne).0 (a.start.others q ne).1
          | inr high ↦ appended_past c told at h (alone_after c told at h w) q high (subst (λ (m : Members). m.shape.shards ≤ q) (sym (members_same c told at h w)) high)
        ],
        long_well c told at h w q (λ low. ap (λ (g : Group). (own g).sealed) (a.start.others q ne).0),
      )

-- the peer itself
module _ (c : Whole) (p : ℕ) (at : ℕ) (h : IsSane c) (low : p < c.core.members.shape.shards) where
  has_reported : (d : Done) → Answered (y c p d at h) p d (on_report p d (y c p d at h)) → HasReported c (step_whole (event.Report p d) at c) p d
  unfolding answered_well
  has_reported (done.Stored n) a =
      let d : Done = done.Stored n in
      let w : GoesWell (y c p d at h) (face (step (event.Report p d) at c.core)) = answered_well (y c p d at h) p d (on_report p d (y c p d at h)) (face (step (event.Report p d) at c.core)) (face_is c (event.Report p d) at h) h.settled a in (
        floor_well c (event.Report p d) at h w p low ∙ a.left.0 ∙ sym (floor_alone c p h.alone low),
        λ entry is.
            let one : Some (job.Append a.left.1.first.0 a.left.1.first.1) ≡ Some (job.Append n entry) = sym a.left.2 ∙ is in
            let two : a.left.1.first.1 ≡ entry = cc in
            appended_some c (event.Report p d) at h w p low a.left.1 ∙ ap Some two,
      )
  has_reported (done.Sealed n) a =
      let d : Done = done.Sealed n in
      let w : GoesWell (y c p d at h) (face (step (event.Report p d) at c.core)) = answered_well (y c p d at h) p d (on_report p d (y c p d at h)) (face (step (event.Report p d) at c.core)) (face_is c (event.Report p d) at h) h.settled a in
      (floor_well c (event.Report p d) at h w p low ∙ a.left.0, appended_none c (event.Report p d) at h w p low a.left.1)
  has_reported (done.Bytes n bytes) a =
      let d : Done = done.Bytes n bytes in
      let w : GoesWell (y c p d at h) (face (step (event.Report p d) at c.core)) = answered_well (y c p d at h) p d (on_report p d (y c p d at h)) (face (step (event.Report p d) at c.core)) (face_is c (event.Report p d) at h) h.settled a in
      (floor_well c (event.Report p d) at h w p low ∙ a.left.0 ∙ sym (floor_alone c p h.alone low), appended_none c (event.Report p d) at h w p low a.left.1)
  has_reported (done.Gone n) a =
      let d : Done = done.Gone n in
      let w : GoesWell (y c p d at h) (face (step (event.Report p d) at c.core)) = answered_well (y c p d at h) p d (on_report p d (y c p d at h)) (face (step (event.Report p d) at c.core)) (face_is c (event.Report p d) at h) h.settled a in
      (floor_well c (event.Report p d) at h w p low ∙ a.left.0 ∙ sym (floor_alone c p h.alone low), appended_none c (event.Report p d) at h w p low a.left.1)
  has_reported done.Emptied a = absurd a.left
  has_reported (done.Copied n) a = absurd a.left
  has_reported (done.Stepped switched) a = absurd a.left
  has_reported (done.Failed disk) a = absurd a.left

  behind_answered : (d : Done) → Answered (y c p d at h) p d (on_report p d (y c p d at h)) → IsBehind c (step_whole (event.Report p d) at c) p d
  behind_answered d a =
      let w : GoesWell (y c p d at h) (face (step (event.Report p d) at c.core)) = answered_well (y c p d at h) p d (on_report p d (y c p d at h)) (face (step (event.Report p d) at c.core)) (face_is c (event.Report p d) at h) h.settled a in
      record { told = has_reported d a; counted = counted_well c (event.Report p d) at h w p; front = front_well c (event.Report p d) at h w p }

  behind_report : (d : Done) → Reports (y c p d at h) p d (on_report p d (y c p d at h)) → IsBehind c (step_whole (event.Report p d) at c) p d
  behind_report (done.Stored n) r = behind_answered (done.Stored n) r
  behind_report (done.Sealed n) r = behind_answered (done.Sealed n) r
  behind_report (done.Bytes n bytes) r = behind_answered (done.Bytes n bytes) r
  behind_report (done.Gone n) r = behind_answered (done.Gone n) r
  behind_report done.Emptied r = absurd r
  behind_report (done.Copied n) r = absurd r
  behind_report (done.Stepped switched) r = absurd r
  behind_report (done.Failed disk) r =
      let e : Event = event.Report p (done.Failed disk) in
      record { told = fallen_peer c e at h p r; counted = counted_fallen c e at h p r p; front = front_fallen c e at h p r p }

pub after_reports : (c : Whole) (d : Done) (at peer : ℕ) → IsSane c → is_answer c.core peer d ≡ true → is_refused (step (event.Report peer d) at c.core).ended ≡ false → IsBehind c (step_whole (event.Report peer d) at c) peer d
after_reports c d at p h e r = behind_report c p at h (answered_within p d c.core h.alone e) d (reports p d (y c p d at h) (alone_x c (event.Report p d) at h) h.settled e)

-- and the others
pub growing_beside : (c : Whole) (d : Done) (at peer other : ℕ) → IsSane c → is_answer c.core peer d ≡ true → other ≢ peer → is_refused (step (event.Report peer d) at c.core).ended ≡ false → Grows whole_machine c (step_whole (event.Report peer d) at c) other
growing_beside c d at p q h e ne r = by_report d (reports p d (y c p d at h) (alone_x c (event.Report p d) at h) h.settled e)
  where
    by_report : (d : Done) → Reports (y c p d at h) p d (on_report p d (y c p d at h)) → Grows whole_machine c (step_whole (event.Report p d) at c) q
    by_report (done.Stored n) a = beside_grows c p (done.Stored n) at h a q ne
    by_report (done.Sealed n) a = beside_grows c p (done.Sealed n) at h a q ne
    by_report (done.Bytes n bytes) a = beside_grows c p (done.Bytes n bytes) at h a q ne
    by_report (done.Gone n) a = beside_grows c p (done.Gone n) at h a q ne
    by_report done.Emptied a = absurd a
    by_report (done.Copied n) a = absurd a
    by_report (done.Stepped switched) a = absurd a
    by_report (done.Failed disk) f = grows_fallen c (event.Report p (done.Failed disk)) at h p f q

pub appended_beside : (c : Whole) (d : Done) (at peer other : ℕ) → IsSane c → is_answer c.core peer d ≡ true → other ≢ peer → (step (event.Report peer d) at c.core).ended ≡ None
    → (appended_of other (step (event.Report peer d) at c.core) ≡ appended_of other c.core) × (floor (step_whole (event.Report peer d) at c) other ≡ floor c other)
appended_beside c d at p q h e ne going = by_report d (reports p d (y c p d at h) (alone_x c (event.Report p d) at h) h.settled e) going
  where
    by_report : (d : Done) → Reports (y c p d at h) p d (on_report p d (y c p d at h)) → (step (event.Report p d) at c.core).ended ≡ None
        → (appended_of q (step (event.Report p d) at c.core) ≡ appended_of q c.core) × (floor (step_whole (event.Report p d) at c) q ≡ floor c q)
    by_report (done.Stored n) a going = beside_stays c p (done.Stored n) at h a q ne
    by_report (done.Sealed n) a going = beside_stays c p (done.Sealed n) at h a q ne
    by_report (done.Bytes n bytes) a going = beside_stays c p (done.Bytes n bytes) at h a q ne
    by_report (done.Gone n) a going = beside_stays c p (done.Gone n) at h a q ne
    by_report done.Emptied a going = absurd a
    by_report (done.Copied n) a going = absurd a
    by_report (done.Stepped switched) a going = absurd a
    by_report (done.Failed disk) f going = absurd (fallen_ended c (event.Report p (done.Failed disk)) at h p f going)

-- ---- it stays sane

sane_quiet : (c : Whole) (e : Event) (at : ℕ) → IsSane c → report_in e ≡ None → (step e at c.core).ended ≡ None → IsSane (step_whole e at c)
sane_quiet c e at h q going = elim (quiet_goes c e at h q) [
  | inl m ↦ sane_well c e at h (well_by c e at h m) going
  | inr f ↦ absurd (fallen_ended c e at h f.0 f.1 going)
]

sane_reported : (c : Whole) (p : ℕ) (d : Done) (at : ℕ) → IsSane c → (step (event.Report p d) at c.core).ended ≡ None → IsSane (step_whole (event.Report p d) at c)
sane_reported c p d at h going = by_answer (is_answer c.core p d) refl
  where
    answered : (d : Done) → Answered (y c p d at h) p d (on_report p d (y c p d at h)) → (step (event.Report p d) at c.core).ended ≡ None → IsSane (step_whole (event.Report p d) at c)
    answered d a going = sane_well c (event.Report p d) at h (answers_by c (event.Report p d) at h p d a) going

    by_report : (d : Done) → Reports (y c p d at h) p d (on_report p d (y c p d at h)) → (step (event.Report p d) at c.core).ended ≡ None → IsSane (step_whole (event.Report p d) at c)
    by_report (done.Stored n) a going = answered (done.Stored n) a going
    by_report (done.Sealed n) a going = answered (done.Sealed n) a going
    by_report (done.Bytes n bytes) a going = answered (done.Bytes n bytes) a going
    by_report (done.Gone n) a going = answered (done.Gone n) a going
    by_report done.Emptied a going = absurd a
    by_report (done.Copied n) a going = absurd a
    by_report (done.Stepped switched) a going = absurd a
    by_report (done.Failed disk) f going = absurd (fallen_ended c (event.Report p (done.Failed disk)) at h p f going)

    by_answer : (b : Bool) → is_answer c.core p d ≡ b → IsSane (step_whole (event.Report p d) at c)
    by_answer true e = by_report d (reports p d (y c p d at h) (alone_x c (event.Report p d) at h) h.settled e) going
    by_answer false e =
        let z : Core = y c p d at h in
        let m : Moves (face z) (face (step (event.Report p d) at c.core)) =
        subst (Moves (face z)) (sym (face_is c (event.Report p d) at h ∙ ap face (reports_not p d z e))) (moves_same (face z) (alone_x c (event.Report p d) at h)) in
        sane_well c (event.Report p d) at h (well_by c (event.Report p d) at h m) going

pub sane_stays : (c : Whole) (e : Event) (at : ℕ) → IsSane c → (step e at c.core).ended ≡ None → IsSane (step_whole e at c)
sane_stays c (event.Line line o) at h going = sane_quiet c (event.Line line o) at h refl going
sane_stays c (event.Report p d) at h going = sane_reported c p d at h going
sane_stays c (event.Turn line p) at h going = sane_quiet c (event.Turn line p) at h refl going
sane_stays c (event.Deliver line number) at h going = sane_quiet c (event.Deliver line number) at h refl going
sane_stays c (event.Lose line number) at h going = sane_quiet c (event.Lose line number) at h refl going
sane_stays c (event.Repeat line number) at h going = sane_quiet c (event.Repeat line number) at h refl going
sane_stays c (event.Nudge line p) at h going = sane_quiet c (event.Nudge line p) at h refl going
sane_stays c (event.Fail line p) at h going = sane_quiet c (event.Fail line p) at h refl going
sane_stays c (event.Start line p) at h going = sane_quiet c (event.Start line p) at h refl going
