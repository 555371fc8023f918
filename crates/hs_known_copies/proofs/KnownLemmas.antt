-- A core in step has its seats, and knows its copies; so it is behind each event.
use Rattle.std.proofs.Common.{◌≡◌, ◌⊎◌, ◌∙◌, ap, sym, refl, inl, inr, arith, ℕ, ◌*◌, ◌/◌, ◌<◌, ◌≤◌, ◌==◌, eqb-true, Bool, true, false, List, [], ◌∷◌, Option, Some, None}
use Rattle.std.proofs.lemmas.Bool.{cases_lt}
use Rattle.std.proofs.lemmas.List.{get_or_past}
use Rattle.std.proofs.Math.Nat.{div-mul-le_self}
use Rattle.std.proofs.lemmas.Option.{slice_get_within}
use Rattle.std.specs.List.{list_any}
use Rattle.std.specs.Option.{option_map}
use Rattle.hs_anatomy.proofs.EventLemmas.{does_acts}
use Rattle.hs_anatomy.proofs.SizeLemmas.{sizes_same}
use Rattle.hs_anatomy.proofs.StepLemmas.{step_is}
use Rattle.hs_anatomy.proofs.StrokeLemmas.{strokes_of}
use Rattle.hs_anatomy.specs.Acts.{begun}
use Rattle.hs_anatomy.specs.Sizes.{Sizes}
use Rattle.hs_copies.proofs.StandLemmas.{HasLead, and_left, and_right, length_is, stands_lead}
use Rattle.hs_copies.specs.Lists.{IsAmong, Item}
use Rattle.hs_copies.specs.Machine.{Copies, after_events}
use Rattle.hs_core_copies.proofs.BesideLemmas.{home_of_peer, peer_of_shard}
use Rattle.hs_core_copies.proofs.DeliverLemmas.{message_has}
use Rattle.hs_core_copies.proofs.FallLemmas.{in_peers}
use Rattle.hs_core_copies.proofs.KnowingLemmas.{knows}
use Rattle.hs_core_copies.proofs.LeadLemmas.{good_as_told, good_only, lead_is}
use Rattle.hs_core_copies.proofs.NextLemmas.{first_is_next}
use Rattle.hs_core_copies.proofs.OpeningLemmas.{opened_core_in_step, told_members}
use Rattle.hs_core_copies.proofs.StepLemmas.{lead_in_step}
use Rattle.hs_core_copies.proofs.StepsLemmas.{ends, steps_on, was_going}
use Rattle.hs_core_copies.specs.InStep.{IsInStep, IsOf, IsWithin, copies_in}
use Rattle.hs_core_copies.specs.Knowing.{TellsWhatIs, IsKnown}
use Rattle.hs_core_copies.specs.Opening.{MayOpen, opened_with}
use Rattle.hs_core_words.specs.declared.event.Event.{Event}
use Rattle.hs_core_words.specs.declared.task.Task.{Task}
use Rattle.hs_core_words.specs.Looking.{first_job, first_task, group_of, home, shape_of, status_of, tasks_of}
use Rattle.hs_core_words.specs.Opening.{Taken, begin_views, new_core, note_down, open_core}
use Rattle.hs_core_words.specs.State.{Core}
use Rattle.hs_core_words.specs.Step.{do_event, end_event, step}
use Rattle.hs_desk.specs.declared.fault.CoreFault.{CoreFault}
use Rattle.hs_desk.specs.declared.job.Job.{Job}
use Rattle.hs_desk.specs.declared.job.Job.TheVariants as job
use Rattle.hs_entry.specs.declared.entry.Entry.{Entry}
use Rattle.hs_events.specs.Due.{Events}
use Rattle.hs_events.specs.Found.{Found, first_core}
use Rattle.hs_fold.specs.Shards.Setting.{Setting}
use Rattle.hs_known_copies.specs.Known.{AllComeWithRoom, AllKnowTheirCopies, AreInStep, AreTakenLogs}
use Rattle.hs_limits.specs.declared.limits.Limits.{Limits}
use Rattle.hs_limits.specs.declared.limits.PeerStatus.TheVariants.{Down, Good, Joining}
use Rattle.hs_limits.specs.declared.shape.Shape.{Shape}
use Rattle.hs_members.specs.Members.{IsShard, Members, has_good, is_good_status, peers_of}
use Rattle.hs_post.specs.declared.message.Message.TheVariants as message
use Rattle.hs_post.specs.Pool.{message_at}
use Rattle.hs_replica.specs.Group.{Group, IsHome, copy_of, hears, last_number, new_group}
use Rattle.hs_standing.proofs.KnownAlongLemmas.{knows_ended}
use Rattle.hs_standing.proofs.OpeningLemmas.{opened_rises}
use Rattle.hs_standing.specs.Copies.{AllComeOn, IsSeated, IsWithinLists, KnowsCopies, KnowsItsCopies, is_of_joining}
use Rattle.hs_standing.specs.Opening.{OpensSoundly}
use Rattle.hs_whole_copies.proofs.OpenLemmas.{opens_whole}
use Rattle.hs_whole_copies.specs.Opening.{MayOpenWhole}

any_among : (test : ℕ → Bool) (q : ℕ) (qs : List ℕ) → test q ≡ true → IsAmong q qs → list_any test qs ≡ true
any_among test q [] e k = absurd k
any_among test q (p ∷ qs) e k = go (test p) refl k (λ rest. any_among test q qs e rest)
  where
    go : (b : Bool) → test p ≡ b → IsAmong q (p ∷ qs) → (IsAmong q qs → list_any test qs ≡ true) → list_any test (p ∷ qs) ≡ true
    go true i k h = rw i refl
    go false i (inl same) h = let wrong : true ≡ false = sym e ∙ ap test same ∙ i in absurd (cc wrong)
    go false i (inr rest) h = rw i (h rest)

far : (n w p : ℕ) → n ≤ p / w → n * w ≤ p
far n w p h =
    let low : p / w * w ≤ p = div-mul-le_self p w in
    let more : n * w ≤ p / w * w = grind (arith, h) in
    omega (arith, low, more)

-- ---- one shard

module _ (g : ℕ) (c : Core) (s : Copies Entry) (st : IsInStep g c s) where
  within_lists : (p : ℕ) → IsHome (group_of g c) p → is_good_status (status_of p c) ≡ true → IsWithinLists (group_of g c) p
  within_lists p h e =
      let k : IsKnown (group_of g c) p = (knows g c s st).each p (peer_of_shard g c s st p h) (good_only (status_of p c) e) in
      record { own = k.sealed; all = omega (arith, k.sealed, k.within) }

  led : has_good g c.members ≡ true
  led =
      let d : HasLead (copies_in g st.sent c) s = stands_lead (copies_in g st.sent c) s st.stands in
      let good : status_of d.peer c ≡ Good = (lead_is g c d.peer (st.seated.placed g).few (lead_in_step g c s st ∙ d.is)).good in
      any_among (λ q. is_good_status (status_of q c)) d.peer (peers_of c.members.shape g) (ap is_good_status good)
      (in_peers c.members.shape g (group_of g c) d.peer st.stands.shape (st.seated.placed g).same_shard d.leads.home)

  knows_shard : KnowsCopies g c
  knows_shard = record {
    same_shape = (st.seated.placed g).same_shape;
    same_shard = (st.seated.placed g).same_shard;
    copies = st.stands.copies ∙ ap (λ (x : Shape). x.copies) (st.seated.placed g).same_shape;
    led = led;
    known = (knows g c s st).committed;
    sealed = within_lists;
  }

  first_of : (p : ℕ) (task : Task) → first_task p c ≡ Some task → first_job p c ≡ Some task.job
  first_of p task e = ap (λ (o : Option Task). option_map (λ (t : Task). t.job) o) e

  seal_within : (p number : ℕ) (task : Task) → IsOf c.members.shape g p → first_task p c ≡ Some task → task.job ≡ job.Seal number → number ≤ last_number (group_of g c)
  seal_within p number task own e is =
      let next = first_is_next g p c s (job.Seal number) st own (first_of p task e ∙ ap Some is) in
      let n = next.1 in
      let h : IsHome (group_of g c) p = home_of_peer g c s st p own in
      let low = slice_get_within (s.peers p).list (copy_of (group_of g c) p).sealed _ n.there in
      let k : IsKnown (group_of g c) p = (knows g c s st).each p own n.good in
      let l = length_is (copies_in g st.sent c) s st.stands p h in
      omega (arith, n.next, low, l, k.within)

  joining_not : (p : ℕ) (task : Task) → IsOf c.members.shape g p → first_task p c ≡ Some task → is_of_joining task.job ≡ true → is_good_status (status_of p c) ≡ false
  joining_not p task own e is = go task.job refl is
    where
      not_good : status_of p c ≡ Joining → is_good_status (status_of p c) ≡ false
      not_good j = ap is_good_status j

      go : (j : Job) → task.job ≡ j → is_of_joining j ≡ true → is_good_status (status_of p c) ≡ false
      go (job.Append number entry) i w = let wrong : false ≡ true = w in absurd (cc wrong)
      go (job.Seal number) i w = let wrong : false ≡ true = w in absurd (cc wrong)
      go (job.Read number) i w = let wrong : false ≡ true = w in absurd (cc wrong)
      go job.Reset i w = not_good (first_is_next g p c s job.Reset st own (first_of p task e ∙ ap Some i)).joins
      go (job.Copy from number) i w = not_good (first_is_next g p c s (job.Copy from number) st own (first_of p task e ∙ ap Some i)).joins
      go job.Reclaim i w = let wrong : false ≡ true = w in absurd (cc wrong)

  have_within : (number from to view sealed : ℕ) → message_at number c.pool ≡ Some (message.Have g from to view sealed) → hears from view (group_of g c) ≡ true → sealed ≤ last_number (group_of g c)
  have_within number from to view sealed at heard =
      let own : IsOf c.members.shape g from = message_has (IsWithin c.members.shape) number c.pool (message.Have g from to view sealed) at st.seated.within in
      let tells = message_has (TellsWhatIs g (group_of g c)) number c.pool (message.Have g from to view sealed) at (knows g c s st).under_way in
      let same : view ≡ (group_of g c).view = eqb-true view (group_of g c).view (and_left (view == (group_of g c).view) (copy_of (group_of g c) from).good heard) in
      let has = tells refl same in
      let h : IsHome (group_of g c) from = home_of_peer g c s st from own in
      let good : status_of from c ≡ Good = good_only (status_of from c) (sym (good_as_told (copies_in g st.sent c) s st.stands from h) ∙ has.good) in
      let k : IsKnown (group_of g c) from = (knows g c s st).each from own good in
      omega (arith, has.sealed, k.sealed, k.within)

-- ---- the core

module _ (c : Core) (machines : ℕ → Copies Entry) (w : AreInStep c machines) where
  some_shard : IsShard (shape_of c) 0
  some_shard = elim w.shape.shards [
    | inl one ↦ omega (arith, one)
    | inr more ↦ elim more [
      | inl two ↦ omega (arith, two)
      | inr most ↦ elim most [ inl four ↦ omega (arith, four) | inr eight ↦ omega (arith, eight) ]
    ]
  ]

  first : IsInStep 0 c (machines 0)
  first = w.each 0 some_shard

  pub seated : IsSeated c
  seated = record { lists = first.seated.groups; peers = first.stands.members.statuses; copies = let k = w.shape.some_copy in omega (arith, k) }

  -- a peer that has a job is one
  pub peer_low : (p : ℕ) (task : Task) → first_task p c ≡ Some task → home p c < (shape_of c).shards
  peer_low p task e = elim (cases_lt (home p c) (shape_of c).shards) [
    | inl low ↦ low
    | inr high ↦
        let past : (shape_of c).shards * (shape_of c).copies ≤ p = far (shape_of c).shards (shape_of c).copies p high in
        let status : status_of p c ≡ Down = get_or_past c.members.statuses p Down (let n = first.stands.members.statuses in omega (arith, n, past)) in
        let tasks : tasks_of p c ≡ [] = get_or_past c.tasks p [] (let n = first.seated.tasks in omega (arith, n, past)) in
        let none : first_task p c ≡ None = rw (status, tasks) refl in
        let wrong : None ≡ Some task = sym none ∙ e in absurd (cc wrong)
  ]

  past_group : (g : ℕ) → (shape_of c).shards ≤ g → group_of g c ≡ new_group (shape_of c) g 0 0 []
  past_group g high = get_or_past c.groups g (new_group (shape_of c) g 0 0 []) (let n = first.seated.groups in omega (arith, n, high))

  pub known : KnowsItsCopies c
  known = record {
    each = λ g low. knows_shard g c (machines g) (w.each g low);
    seals = λ p number task e is. seal_within (home p c) c (machines (home p c)) (w.each (home p c) (peer_low p task e)) p number task refl e is;
    haves = λ number g from to view sealed at heard. elim (cases_lt g (shape_of c).shards) [
      | inl low ↦ have_within g c (machines g) (w.each g low) number from to view sealed at heard
      | inr high ↦ let wrong : false ≡ true = none_heard g from view high heard in absurd (cc wrong)
    ];
    joining = λ p task e is. joining_not (home p c) c (machines (home p c)) (w.each (home p c) (peer_low p task e)) p task refl e is;
  }
    where
      none_heard : (g from view : ℕ) → (shape_of c).shards ≤ g → hears from view (group_of g c) ≡ true → false ≡ true
      none_heard g from view high heard =
          sym (ap (λ (x : Group). (copy_of x from).good) (past_group g high)) ∙ and_right (view == (group_of g c).view) (copy_of (group_of g c) from).good heard

-- ---- behind an event

shape_after : (e : Event) (at : ℕ) (c : Core) → (step e at c).ended ≡ None → (step e at c).members.shape ≡ c.members.shape
shape_after e at c on =
    let a : Core = begun e at c in
    let b : Core = do_event e a in
    let is : step e at c ≡ end_event b = step_is e at c (was_going e at c on) in
    ap (λ (y : Core). y.members.shape) is ∙ ap (λ (m : Members). m.shape) (ends b).members ∙ ap (λ (z : Sizes). z.shape) (sizes_same b (strokes_of (does_acts a e)))

module _ (e : Event) (at : ℕ) (c : Core) (machines : ℕ → Copies Entry) (w : AreInStep c machines) (on : (step e at c).ended ≡ None) where
  pick : (g : ℕ) → (g < c.members.shape.shards) ⊎ (c.members.shape.shards ≤ g) → Copies Entry
  pick g (inl low) = after_events (machines g) (steps_on g e at c (machines g) (w.each g low) on).events
  pick g (inr high) = machines g

  picked : (g : ℕ) (o : (g < c.members.shape.shards) ⊎ (c.members.shape.shards ≤ g)) → g < c.members.shape.shards → IsInStep g (step e at c) (pick g o)
  unfolding pick
  picked g (inl low) inside = (steps_on g e at c (machines g) (w.each g low) on).keeps
  picked g (inr high) inside = absurd (omega (arith, high, inside))

  pub in_step_after : (new : ℕ → Copies Entry) × AreInStep (step e at c) new
  in_step_after = (
    λ g. pick g (cases_lt g c.members.shape.shards),
    record {
      shape = rw (shape_after e at c on) w.shape;
      each = λ g low. picked g (cases_lt g c.members.shape.shards) (rw (shape_after e at c on) at low);
    },
  )

-- ---- along events

pub knows_along : (c : Core) (es : Events) (machines : ℕ → Copies Entry) → AreInStep c machines → AllKnowTheirCopies c es
knows_along c [] machines w = tt
knows_along c (e ∷ es) machines w =
    ((λ on. (seated c machines w, known c machines w)), rest (λ new k. knows_along (step e.0 e.1 c) es new k) (step e.0 e.1 c).ended refl)
  where
    rest : ((new : ℕ → Copies Entry) → AreInStep (step e.0 e.1 c) new → AllKnowTheirCopies (step e.0 e.1 c) es) → (o : Option CoreFault) → (step e.0 e.1 c).ended ≡ o → AllKnowTheirCopies (step e.0 e.1 c) es
    rest h None on = let k = in_step_after e.0 e.1 c machines w on in h k.0 k.1
    rest h (Some f) i = knows_ended (step e.0 e.1 c) es f i

-- so events come on that may come, where the core has few root records as long as it goes on
pub comes_on : (May : Event → Core → Type 0) (c : Core) (es : Events) → AllKnowTheirCopies c es → AllComeWithRoom May c es → AllComeOn May c es
comes_on May c [] k h = tt
comes_on May c (e ∷ es) k h =
    ((λ on. record { seated = (k.0 on).0; known = (k.0 on).1; room = (h.0 on).0; may = (h.0 on).1 }), comes_on May (step e.0 e.1 c) es k.1 h.1)

-- ---- the opening

module _ (shape : Shape) (limits : Limits) (taken : Taken) (moment : ℕ) (logs : ℕ → List (Item Entry)) (may : AreTakenLogs shape taken logs) (on : (open_core shape limits taken moment).ended ≡ None) where
  may_open : (g : ℕ) → g < shape.shards → MayOpen shape taken g (logs g)
  may_open g low = record { fits = may.fits; count = may.count; here = low; log_is = may.each g low }

  opened_pick : (g : ℕ) → (g < shape.shards) ⊎ (shape.shards ≤ g) → Copies Entry
  opened_pick g (inl low) = let o = opened_core_in_step shape limits taken moment g (logs g) (may_open g low) on in after_events (opened_with shape taken g (logs g) o.0) o.2.events
  opened_pick g (inr high) = opened_with shape taken g (logs g) 0

  opened_each : (g : ℕ) (o : (g < shape.shards) ⊎ (shape.shards ≤ g)) → g < shape.shards → IsInStep g (open_core shape limits taken moment) (opened_pick g o)
  unfolding opened_pick
  opened_each g (inl low) inside = (opened_core_in_step shape limits taken moment g (logs g) (may_open g low) on).2.keeps
  opened_each g (inr high) inside = absurd (omega (arith, high, inside))

  pub opens_in_step : (machines : ℕ → Copies Entry) × AreInStep (open_core shape limits taken moment) machines
  opens_in_step = (
    λ g. opened_pick g (cases_lt g shape.shards),
    record {
      shape = rw shape_is may.fits;
      each = λ g low. opened_each g (cases_lt g shape.shards) (rw shape_is at low);
    },
  )
    where
      shape_is : (open_core shape limits taken moment).members.shape ≡ shape
      shape_is = ap (λ (m : Members). m.shape) ((ends (note_down (begin_views (new_core shape limits taken moment)))).members ∙ told_members shape limits taken moment)

pub opens_along : (shape : Shape) (limits : Limits) (taken : Taken) (moment : ℕ) (logs : ℕ → List (Item Entry)) (es : Events) → AreTakenLogs shape taken logs
    → AllKnowTheirCopies (open_core shape limits taken moment) es
opens_along shape limits taken moment logs es may = go (open_core shape limits taken moment).ended refl
  where
    go : (o : Option CoreFault) → (open_core shape limits taken moment).ended ≡ o → AllKnowTheirCopies (open_core shape limits taken moment) es
    go None on = let k = opens_in_step shape limits taken moment logs may on in knows_along (open_core shape limits taken moment) es k.0 k.1
    go (Some f) i = knows_ended (open_core shape limits taken moment) es f i

-- ---- a store that opens over sound lists

module _ (set : Setting) (found : Found) (o : OpensSoundly set found) where
  pub whole_opens : MayOpenWhole set found
  whole_opens = record { shape = o.shape; count = o.many; lists = o.lists; views = λ g low. opened_rises set found o.sound g low }

  pub soundly_knows : (es : Events) → AllKnowTheirCopies (first_core set found) es
  soundly_knows es = go (first_core set found).ended refl
    where
      go : (x : Option CoreFault) → (first_core set found).ended ≡ x → AllKnowTheirCopies (first_core set found) es
      go None on =
          let w = opens_whole set found whole_opens on in
          knows_along (first_core set found) es w.0 (record { shape = w.1.shape; each = λ g low. (w.1.each g low).in_step })
      go (Some f) i = knows_ended (first_core set found) es f i
