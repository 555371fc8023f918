-- Behind each event, until the core ends, copies keep up.
use Rattle.std.proofs.Common.{◌≡◌, ◌⊎◌, ◌∙◌, ap, sym, subst, refl, inl, inr, arith, ℕ, ◌+◌, ◌<◌, ◌≤◌, ◌==◌, ◌&&◌, not, nat_lt, Bool, true, false, if◌then◌else◌, List, Option, Some, None, is_none, length, []}
use Rattle.std.proofs.lemmas.Bool.{cases_eq, cases_lt}
use Rattle.std.specs.List.{All}
use Rattle.std.specs.Map.{values_of}
use Rattle.std.specs.Option.{option_map_or}
use Rattle.hs_anatomy.proofs.EventLemmas.{does_acts}
use Rattle.hs_anatomy.proofs.SizeLemmas.{sizes_same}
use Rattle.hs_anatomy.proofs.StrokeLemmas.{strokes_of}
use Rattle.hs_anatomy.specs.Sizes.{Sizes}
use Rattle.hs_awaiting.specs.Words.{change_if}
use Rattle.hs_copies.proofs.ListLemmas.{front_length}
use Rattle.hs_copies.proofs.PeerLemmas.{put_here, put_other}
use Rattle.hs_copies.proofs.StandLemmas.{and_right, length_is}
use Rattle.hs_copies.specs.Lists.{Item}
use Rattle.hs_copies.specs.Machine.{Copies, after_events, put_at}
use Rattle.hs_core_words.specs.Changing.{change_pool}
use Rattle.hs_core_words.specs.declared.event.Event.{Event}
use Rattle.hs_core_words.specs.declared.event.Event.TheVariants as event
use Rattle.hs_core_words.specs.Looking.{first_job, group_of, home, rejoin_of, shape_of, status_of}
use Rattle.hs_core_words.specs.State.{Core}
use Rattle.hs_core_words.specs.Step.{begin_event, do_event, end_event, keep_entries, line_of, refuse_entries, run_event, step}
use Rattle.hs_desk.specs.Answers.{answers}
use Rattle.hs_desk.specs.declared.done.Done.{Done}
use Rattle.hs_desk.specs.declared.done.Done.TheVariants as done
use Rattle.hs_desk.specs.declared.job.Job.{Job}
use Rattle.hs_entry.specs.declared.entry.Entry.{Entry}
use Rattle.hs_limits.specs.declared.limits.PeerStatus.TheVariants.{Good, Joining}
use Rattle.hs_limits.specs.declared.shape.Shape.{Shape}
use Rattle.hs_members.specs.Members.{Members, home_of}
use Rattle.hs_post.specs.Pool.{is_empty, restart_numbers}
use Rattle.hs_replica.specs.Group.{last_number, lead, length_of, new_group}
use Rattle.hs_core_copies.proofs.BesideLemmas.{home_of_peer}
use Rattle.hs_core_copies.proofs.GoingLemmas.{GoesTold}
use Rattle.hs_core_copies.proofs.NextLemmas.{first_is_next}
use Rattle.hs_core_copies.proofs.ReportLemmas.{copy_is, reset_is}
use Rattle.hs_core_copies.proofs.StepsLemmas.{begins, ends, lost_told, steps_on, steps_tell, was_going}
use Rattle.hs_core_copies.specs.InStep.{GoesOn, IsInStep, IsOf, copies_in}
use Rattle.hs_core_copies.specs.Lists.{is_taken, list_by, lists_told}
use Rattle.hs_core_copies.specs.Next.{IsNextFor}
use Rattle.hs_quiet.specs.Keeping.{AreInStep, IsForGood, IsShort, KeepsUp}
use Rattle.hs_quiet.proofs.FineLemmas.{Fine, Follows, NoOne, fine_same}
use Rattle.hs_quiet.proofs.KeepLemmas.{does_fine}
use Rattle.hs_quiet.proofs.StartLemmas.{fine_first, good_lead, knows_here, lead_here, lead_whole, past_of, seated_all}

-- ---- what is told of a good peer's list

module _ (g : ℕ) (c : Core) (s : Copies Entry) (st : IsInStep g c s) (l : ℕ) (own : IsOf c.members.shape g l) (good : status_of l c ≡ Good) where
  not_joining : status_of l c ≡ Joining → ⊥
  not_joining j = let wrong : Good ≡ Joining = sym good ∙ j in cc wrong

  -- it is neither emptied nor copied to
  by_done : (d : Done) (j : Job) → first_job l c ≡ Some j → answers l j d ≡ true → list_by s l d ≡ (s.peers l).list
  by_done (done.Stored number) j e a = refl
  by_done (done.Sealed number) j e a = refl
  by_done (done.Bytes number bytes) j e a = refl
  by_done (done.Gone number) j e a = refl
  by_done done.Emptied j e a =
      absurd (not_joining (subst (λ (k : Job). IsNextFor g c s l k) (reset_is j a) (first_is_next g l c s j st own e)).joins)
  by_done (done.Copied number) j e a =
      let is = copy_is number j a in
      absurd (not_joining (subst (λ (k : Job). IsNextFor g c s l k) is.1 (first_is_next g l c s j st own e)).joins)
  by_done (done.Stepped switched) j e a = refl
  by_done (done.Failed disk) j e a = refl

  reported : (p : ℕ) (d : Done) → lists_told g (event.Report p d) c s l ≡ (s.peers l).list
  reported p d = go (is_taken g p d c) refl
    where
      job_of : (o : Option Job) → first_job p c ≡ o → option_map_or (λ j. answers p j d) o false ≡ true → (j : Job) × (first_job p c ≡ Some j) × (answers p j d ≡ true)
      job_of None e a = let wrong : false ≡ true = a in absurd (cc wrong)
      job_of (Some j) e a = (j, e, a)

      taken : is_taken g p d c ≡ true → put_at p (list_by s p d) (λ q. (s.peers q).list) l ≡ (s.peers l).list
      taken e = elim (cases_eq l p) [
        | inl same ↦
            let k = job_of (first_job p c) refl (and_right (home p c == g) (option_map_or (λ j. answers p j d) (first_job p c) false) e) in
            ap (λ q. put_at p (list_by s p d) (λ q. (s.peers q).list) q) same ∙ put_here p (list_by s p d) (λ q. (s.peers q).list)
            ∙ subst (λ q. list_by s q d ≡ (s.peers q).list) same (by_done d k.0 (ap (λ q. first_job q c) same ∙ k.1) (ap (λ q. answers q k.0 d) same ∙ k.2)) ∙ ap (λ q. (s.peers q).list) (sym same)
        | inr n ↦ put_other p (list_by s p d) (λ q. (s.peers q).list) l n
      ]

      go : (b : Bool) → is_taken g p d c ≡ b → lists_told g (event.Report p d) c s l ≡ (s.peers l).list
      go true e = ap (λ b. (if b then put_at p (list_by s p d) (λ q. (s.peers q).list) else (λ q. (s.peers q).list)) l) e ∙ taken e
      go false e = ap (λ b. (if b then put_at p (list_by s p d) (λ q. (s.peers q).list) else (λ q. (s.peers q).list)) l) e

  told_good : (e : Event) → lists_told g e c s l ≡ (s.peers l).list
  told_good (event.Line line op) = refl
  told_good (event.Report p d) = reported p d
  told_good (event.Turn line peer) = refl
  told_good (event.Deliver line number) = refl
  told_good (event.Lose line number) = refl
  told_good (event.Repeat line number) = refl
  told_good (event.Nudge line peer) = refl
  told_good (event.Fail line peer) = refl
  told_good (event.Start line peer) = refl

-- ---- how an event begins and ends

pub record IsBegun (c a : Core) : Type 0 where
  pub members : a.members ≡ c.members
  pub groups : a.groups ≡ c.groups
  pub rejoins : a.progress.rejoins ≡ c.progress.rejoins
  pub messages : a.pool.messages ≡ c.pool.messages

pub is_begun : (line at : ℕ) (c : Core) → IsBegun c (begin_event line at c)
is_begun line at c = go ((c.progress.event_line == 0 && not (line == 0)) && is_empty c.pool)
  where
    go : (b : Bool) → IsBegun c (record (change_if b (change_pool restart_numbers) c) {
      moment = at;
      progress = record c.progress { event_line = if line == 0 then c.progress.event_line else line };
    })
    go true = record { members = refl; groups = refl; rejoins = refl; messages = refl }
    go false = record { members = refl; groups = refl; rejoins = refl; messages = refl }

pub is_ended : (c : Core) → IsBegun c (end_event c)
is_ended c = go (nat_lt c.limits.ops (length c.journal + length c.entries))
  where
    go : (b : Bool) → IsBegun c (if b then refuse_entries c else keep_entries c)
    go true = record { members = refl; groups = refl; rejoins = refl; messages = refl }
    go false = record { members = refl; groups = refl; rejoins = refl; messages = refl }

pub fine_as : (s a b : Core) → IsBegun a b → Fine s NoOne NoOne a → Fine s NoOne NoOne b
fine_as s a b k f = fine_same s NoOne NoOne a b k.members k.groups k.rejoins (λ h. subst (λ es. All (IsForGood a.members) (values_of es)) (sym k.messages) h) f

-- ---- an event

module _ (e : Event) (at : ℕ) (c : Core) (all : AreInStep c) (up : KeepsUp c) (on : (step e at c).ended ≡ None) where
  begun : Core
  begun = begin_event (line_of e) at c

  begun_is : IsBegun c (begin_event (line_of e) at c)
  begun_is = is_begun (line_of e) at c

  begun_step : AreInStep (begin_event (line_of e) at c)
  begun_step = record {
    some = subst (λ (m : Members). 0 < m.shape.shards) (sym begun_is.members) all.some;
    each = λ g low. let t = all.each g (subst (λ (m : Members). g < m.shape.shards) begun_is.members low) in (t.0, begins g (line_of e) at c t.0 t.1);
  }

  is : step e at c ≡ run_event e at c
  is = ap (λ o. change_if (is_none o) (run_event e at) c) (was_going e at c on)

  did : Fine c NoOne NoOne (end_event (do_event e (begin_event (line_of e) at c)))
  did =
      let b : Core = do_event e (begin_event (line_of e) at c) in
      elim (does_fine c (begin_event (line_of e) at c) begun_step begun_is.members begun_is.groups (fine_as c c (begin_event (line_of e) at c) begun_is (fine_first c all up)) e) [
        | inl f ↦ fine_as c b (end_event b) (is_ended b) f
        | inr lost ↦ absurd (lost_told lost.0 b lost.1.low lost.1.none ((ends b).ended (ap (λ (y : Core). y.ended) (sym is) ∙ on)))
      ]

  pub step_fine : Fine c NoOne NoOne (step e at c)
  step_fine = subst (λ (y : Core). Fine c NoOne NoOne y) (sym is) did

  -- a lead's list is no shorter behind it, where it is still good
  grown : (g : ℕ) (low : g < c.members.shape.shards) → ((l : ℕ) → lead (group_of g c) ≡ Some l → status_of l (step e at c) ≡ Good) → last_number (group_of g c) ≤ last_number (group_of g (step e at c))
  grown g low good =
      let t = all.each g low in
      let l = lead_here g c t.0 t.1 in
      let led = good_lead g c t.0 t.1 l.0 l.1 in
      let k : GoesTold g (step e at c) t.0 (lists_told g e c t.0) = steps_tell g e at c t.0 t.1 (was_going e at c on) on in
      let after : Copies Entry = after_events t.0 k.events in
      let own : IsOf (step e at c).members.shape g l.0 = ap (λ (x : Shape). home_of x l.0) step_fine.shape ∙ led.own in
      let was : length_of (group_of g c) l.0 ≡ length (t.0.peers l.0).list = length_is (copies_in g t.1.sent c) t.0 t.1.stands l.0 (home_of_peer g c t.0 t.1 l.0 led.own) in
      let now : length_of (group_of g (step e at c)) l.0 ≡ length (after.peers l.0).list = length_is (copies_in g k.keeps.sent (step e at c)) after k.keeps.stands l.0 (home_of_peer g (step e at c) after k.keeps l.0 own) in
      let front = front_length (lists_told g e c t.0 l.0) (after.peers l.0).list (k.tells.lists l.0) in
      let same : length (lists_told g e c t.0 l.0) ≡ length (t.0.peers l.0).list = ap (λ (xs : List (Item Entry)). length xs) (told_good g c t.0 t.1 l.0 led.own led.good e) in
      let within = ((knows_here g (step e at c) after k.keeps).each l.0 own (good l.0 l.1)).within in
      let whole = lead_whole g c t.0 t.1 l.0 l.1 in
      omega (arith, was, now, front, same, within, whole)

  step_joins : (p : ℕ) → status_of p (step e at c) ≡ Joining → IsShort (step e at c) p
  step_joins p j = elim (step_fine.joins p j) [
    | inl none ↦ absurd none
    | inr k ↦ record { rejoin = k.rejoin; at = k.is; less = λ loose. go k loose (cases_lt (home p c) c.members.shape.shards) }
  ]
    where
      same : home p (step e at c) ≡ home p c
      same = ap (λ (x : Shape). home_of x p) step_fine.shape

      -- a shard that there is not has no list
      past_last : (g : ℕ) → c.members.shape.shards ≤ g → last_number (group_of g c) ≡ 0
      past_last g high = ap last_number (past_of c.groups g (new_group (shape_of c) g 0 0 []) (let n = (seated_all c all).groups in omega (arith, n, high)))

      go : (k : Follows c (step e at c) p (rejoin_of p (step e at c))) → k.rejoin.empty ≡ false → (home p c < c.members.shape.shards) ⊎ (c.members.shape.shards ≤ home p c)
          → k.rejoin.len < last_number (group_of (home p (step e at c)) (step e at c))
      go k loose (inl low) =
          let less = k.less loose in
          let n = grown (home p c) low (λ l led. k.leads loose l led) in
          subst (λ g. k.rejoin.len < last_number (group_of g (step e at c))) (sym same) (omega (arith, less, n))
      go k loose (inr high) =
          let less = k.less loose in
          absurd (omega (arith, less, past_last (home p c) high))

  pub step_up : KeepsUp (step e at c)
  step_up = record {
    receivers = step_fine.receivers;
    joins = step_joins;
    leads = λ g. elim (step_fine.fits g) [ inl none ↦ absurd none | inr k ↦ k.leads ];
  }

-- the store is as large
pub step_shape : (e : Event) (at : ℕ) (c : Core) → (step e at c).ended ≡ None → shape_of (step e at c) ≡ shape_of c
step_shape e at c on =
    let a : Core = begin_event (line_of e) at c in
    let b : Core = do_event e a in
    ap (λ (y : Core). shape_of y) (ap (λ o. change_if (is_none o) (run_event e at) c) (was_going e at c on)) ∙ ap (λ (m : Members). m.shape) (is_ended b).members
    ∙ ap (λ (x : Sizes). x.shape) (sizes_same b (strokes_of (does_acts a e))) ∙ ap (λ (m : Members). m.shape) (is_begun (line_of e) at c).members

-- and in step
pub step_tuned : (e : Event) (at : ℕ) (c : Core) → AreInStep c → (step e at c).ended ≡ None → AreInStep (step e at c)
step_tuned e at c all on = record {
  some = subst (λ (x : Shape). 0 < x.shards) (sym (step_shape e at c on)) all.some;
  each = λ g low.
      let t = all.each g (subst (λ (x : Shape). g < x.shards) (step_shape e at c on) low) in
      let k : GoesOn g (step e at c) t.0 = steps_on g e at c t.0 t.1 on in
      (after_events t.0 k.events, k.keeps);
}
