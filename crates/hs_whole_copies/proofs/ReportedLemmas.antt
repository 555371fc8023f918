-- Behind the report of its emptying, or of an entry that was copied to it, a peer is good or follows the lead's list.
use Rattle.std.proofs.Common.{◌≡◌, ◌⊎◌, ◌∙◌, ap, sym, subst, refl, inl, inr, ℕ, Bool, true, false, List, [], ◌∷◌, Option, Some, None, length}
use Rattle.std.specs.Option.{option_map}
use Rattle.std.specs.Prelude.{drop, if◌then◌else◌, nat_lt, not, unwrap_or, ◌&&◌, ◌+◌, ◌==◌}
use Rattle.hs_anatomy.proofs.StepLemmas.{step_is}
use Rattle.hs_anatomy.specs.Acts.{begun}
use Rattle.hs_awaiting.specs.Words.{change_if, change_with, each}
use Rattle.hs_copies.proofs.StatusLemmas.{become_here}
use Rattle.hs_copies.specs.Machine.{Copies}
use Rattle.hs_core_copies.proofs.BesideLemmas.{home_of_peer}
use Rattle.hs_core_copies.proofs.OpeningLemmas.{viewed_members}
use Rattle.hs_core_copies.proofs.PlaceLemmas.{rejoin_here}
use Rattle.hs_core_copies.proofs.ReportLemmas.{copies_next, copy_is, found, queued_copy, queued_reset, reset_is}
use Rattle.hs_core_copies.proofs.StepLemmas.{has_peer}
use Rattle.hs_core_copies.proofs.StepsLemmas.{begins, was_going}
use Rattle.hs_core_copies.proofs.WalkLemmas.{StepLeaves, keeps_commits}
use Rattle.hs_core_copies.specs.InStep.{IsInStep, IsOf, rejoin_at}
use Rattle.hs_core_words.specs.Changing.{add_entry_tasks, change_group, change_pool, change_rejoin, set_rejoin, set_status, set_tasks}
use Rattle.hs_core_words.specs.declared.event.Event.{Event}
use Rattle.hs_core_words.specs.declared.event.Event.TheVariants as event
use Rattle.hs_core_words.specs.declared.task.Task.{Task}
use Rattle.hs_core_words.specs.Joining.{follow_lead, is_level_with_lead, join, join_if_level, joining_peers}
use Rattle.hs_core_words.specs.Looking.{first_task, home, lead_of, rejoin_of, sealed_of, status_of, tasks_of}
use Rattle.hs_core_words.specs.Operating.{add_read}
use Rattle.hs_core_words.specs.Reporting.{on_report}
use Rattle.hs_core_words.specs.State.{Core}
use Rattle.hs_core_words.specs.Step.{do_event, end_event, keep_entries, line_of, refuse_entries, step}
use Rattle.hs_post.specs.Pool.{is_empty, restart_numbers}
use Rattle.hs_core_words.specs.Views.{change_view}
use Rattle.hs_desk.specs.Answers.{answers}
use Rattle.hs_desk.specs.declared.done.Done.{Done}
use Rattle.hs_desk.specs.declared.done.Done.TheVariants as done
use Rattle.hs_desk.specs.declared.job.Job.TheVariants as job
use Rattle.hs_entry.specs.declared.entry.Entry.{Entry}
use Rattle.hs_limits.specs.declared.limits.PeerStatus.TheVariants.{Good, Joining}
use Rattle.hs_members.specs.Members.{IsMembers, IsPeer, become, status}
use Rattle.hs_rejoin.specs.Rejoin.{Rejoin, copied, emptied, follow, new_rejoin}
use Rattle.hs_replica.specs.Group.{on_copied, on_emptied}

-- ---- neither members nor joining peers are touched

abbrev pub IsSameJoining : Core → Core → Type 0
IsSameJoining a b = (b.members ≡ a.members) × (b.progress.rejoins ≡ a.progress.rejoins)

pub steps_same : StepLeaves IsSameJoining
steps_same = record {
  same = λ c. (refl, refl);
  both = λ a b c f h. (h.0 ∙ f.0, h.1 ∙ f.1);
  catalogue = λ x y c. (refl, refl);
  viewed = λ x y c. (refl, refl);
  operations = λ x c. (refl, refl);
  sessions = λ x c. (refl, refl);
  noted = λ of did told c. (refl, refl);
  proposes = λ x entry c plain. entry_same (lead_of x c) _ _ entry;
  reads = λ x number line c. read_same (lead_of x c) number line c;
  sends = λ x sent c. (refl, refl);
  commits = λ x c. (refl, refl);
}
  where
    entry_same : (o : Option ℕ) (n : ℕ) (c : Core) (entry : Entry) → IsSameJoining c (change_with o (λ peer. add_entry_tasks peer n entry) c)
    entry_same None n c entry = (refl, refl)
    entry_same (Some l) n c entry = (refl, refl)

    read_same : (o : Option ℕ) (number line : ℕ) (c : Core) → IsSameJoining c (change_with o (add_read number line) c)
    read_same None number line c = (refl, refl)
    read_same (Some l) number line c = (refl, refl)

pub ends_same : (c : Core) → IsSameJoining c (end_event c)
ends_same c = go (nat_lt c.limits.ops (length c.journal + length c.entries))
  where
    go : (b : Bool) → IsSameJoining c (if b then refuse_entries c else keep_entries c)
    go true = (refl, refl)
    go false = (refl, refl)

-- joining peers that follow a lead change no status
pub follow_members : (x : ℕ) (c : Core) → (follow_lead x c).members ≡ c.members
follow_members x c = go (lead_of x c)
  where
    all : (l : ℕ) (qs : List ℕ) (y : Core) → (each qs (λ peer. change_rejoin peer (follow l)) y).members ≡ y.members
    all l [] y = refl
    all l (q ∷ qs) y = all l qs (change_rejoin q (follow l) y)

    go : (o : Option ℕ) → (change_with o (λ l core. each (joining_peers x core) (λ peer. change_rejoin peer (follow l)) core) c).members ≡ c.members
    go None = refl
    go (Some l) = all l (joining_peers x c) c

-- ---- a peer that is good, or follows

abbrev pub IsOn : ℕ → Core → Type 0
IsOn q c = (status_of q c ≡ Good) ⊎ ((status_of q c ≡ Joining) × ((rejoin_at c q).empty ≡ false))

pub on_same : (q : ℕ) (a b : Core) → IsSameJoining a b → IsOn q a → IsOn q b
on_same q a b e (inl good) = inl (ap (status q) e.0 ∙ good)
on_same q a b e (inr f) = inr (ap (status q) e.0 ∙ f.0, rw e.1 f.1)

joins_on : (q : ℕ) (c : Core) → IsMembers c.members → IsPeer c.members.shape q → IsOn q (join q c)
joins_on q c valid low =
    let x : ℕ = home q c in
    let c2 : Core = set_rejoin q None (set_status q Good c) in
    let c3 : Core = change_view x c2 in
    let c4 : Core = follow_lead x c3 in
    let members : (join q c).members ≡ become q Good c.members = (keeps_commits steps_same x c4).0 ∙ follow_members x c3 ∙ viewed_members x c2 in
    inl (ap (status q) members ∙ become_here q Good c.members valid low)

level_on : (q : ℕ) (c : Core) → IsMembers c.members → IsPeer c.members.shape q → IsOn q c → IsOn q (join_if_level q c)
level_on q c valid low on = go (is_level_with_lead q c)
  where
    go : (b : Bool) → IsOn q (change_if b (join q) c)
    go true = joins_on q c valid low
    go false = on

-- ---- the reports

-- what is told of the peer's list
abbrev pub TellsList : Done → Type 0
TellsList (done.Stored number) = ⊥
TellsList (done.Sealed number) = ⊥
TellsList (done.Bytes number bytes) = ⊥
TellsList (done.Gone number) = ⊥
TellsList done.Emptied = Unit {0}
TellsList (done.Copied number) = Unit {0}
TellsList (done.Stepped switched) = ⊥
TellsList (done.Failed disk) = ⊥

module _ (g q : ℕ) (c : Core) (s : Copies Entry) (st : IsInStep g c s) (own : IsOf c.members.shape g q) (task : Task) (first : first_task q c ≡ Some task) where
  low : IsPeer c.members.shape q
  low = has_peer g c s st q (home_of_peer g c s st q own)

  behind : (r : Rejoin) (f : Rejoin → Rejoin) (b : Core) → status_of q c ≡ Joining → rejoin_of q c ≡ Some r → (f r).empty ≡ false
      → b.members ≡ c.members → b.progress.rejoins ≡ (change_rejoin q f (set_tasks q (drop 1 (tasks_of q c)) c)).progress.rejoins → IsOn q (join_if_level q b)
  behind r f b joins came is members rejoins =
      let d : Core = set_tasks q (drop 1 (tasks_of q c)) c in
      let now : rejoin_of q (change_rejoin q f d) ≡ Some (f r) = rejoin_here q (option_map f (rejoin_of q c)) d (rw st.seated.rejoins low) ∙ ap (λ (o : Option Rejoin). option_map f o) came in
      let here : rejoin_at (change_rejoin q f d) q ≡ f r = ap (λ (o : Option Rejoin). unwrap_or o (new_rejoin 0)) now in
      let on : IsOn q b = inr (ap (status q) members ∙ joins, rw rejoins (ap (λ (k : Rejoin). k.empty) here ∙ is)) in
      level_on q b (rw members st.stands.members) (rw members low) on

  takes_on : (d : Done) → TellsList d → answers q task.job d ≡ true → IsOn q (on_report q d c)
  takes_on (done.Stored number) tells a = absurd tells
  takes_on (done.Sealed number) tells a = absurd tells
  takes_on (done.Bytes number bytes) tells a = absurd tells
  takes_on (done.Gone number) tells a = absurd tells
  takes_on (done.Stepped switched) tells a = absurd tells
  takes_on (done.Failed disk) tells a = absurd tells
  takes_on done.Emptied tells a =
      let is : task.job ≡ job.Reset = reset_is task.job a in
      elim (found g q c s st own task first) [
        | inl k ↦ absurd (queued_reset g q c s st own task first k is)
        | inr t ↦ rw (first, a) (behind t.rejoin emptied (change_group (home q c) (on_emptied q) (change_rejoin q emptied (set_tasks q (drop 1 (tasks_of q c)) c))) t.joins t.came refl refl refl)
      ]
  takes_on (done.Copied number) tells a =
      let is = copy_is number task.job a in
      elim (found g q c s st own task first) [
        | inl k ↦ absurd (queued_copy g q c s st own task first is.0 number k is.1)
        | inr t ↦
            rw (first, a) (behind t.rejoin (copied number) (change_group (home q c) (on_copied q number) (change_rejoin q (copied number) (set_tasks q (drop 1 (tasks_of q c)) c))) t.joins t.came (copies_next (sealed_of t.lead_now c) t.rejoin is.0 number (t.next ∙ ap Some is.1)).done refl refl)
      ]

-- the event has begun
pub begun_in_step : (g : ℕ) (e : Event) (at : ℕ) (c : Core) (s : Copies Entry) → IsInStep g c s → IsInStep g (begun e at c) s
begun_in_step g e at c s st = go ((c.progress.event_line == 0 && not (line_of e == 0)) && is_empty c.pool) (begins g (line_of e) at c s st)
  where
    go : (b : Bool) → IsInStep g (record (change_if b (change_pool restart_numbers) c) { moment = at; progress = record c.progress { event_line = if line_of e == 0 then c.progress.event_line else line_of e } }) s
        → IsInStep g (record c { pool = change_if b restart_numbers c.pool; moment = at; progress = record c.progress { event_line = if line_of e == 0 then c.progress.event_line else line_of e } }) s
    go true h = h
    go false h = h

pub reported_on : (g q : ℕ) (d : Done) (at : ℕ) (c : Core) (s : Copies Entry) → IsInStep g c s → IsOf c.members.shape g q → TellsList d → (task : Task) → first_task q c ≡ Some task → answers q task.job d ≡ true
    → (step (event.Report q d) at c).ended ≡ None → IsOn q (step (event.Report q d) at c)
reported_on g q d at c s st own tells task first a on =
    let e : Event = event.Report q d in
    let c0 : Core = begun e at c in
    let st0 : IsInStep g c0 s = begun_in_step g e at c s st in
    let is : step e at c ≡ end_event (do_event e c0) = step_is e at c (was_going e at c on) in
    subst (IsOn q) (sym is) (on_same q (on_report q d c0) (end_event (on_report q d c0)) (ends_same (on_report q d c0)) (takes_on g q c0 s st0 own task first d tells a))
