-- Nobody begins to join but by the line that starts it.
use Rattle.std.proofs.Common.{◌≡◌, ◌∙◌, inl, inr, ap, subst, sym, ℕ, zero, suc, ◌+◌, false, List, [], ◌∷◌, Option, Some, None, refl}
use Rattle.std.proofs.lemmas.Bool.{cases_eq}
use Rattle.std.proofs.lemmas.List.{get_or-set_other}
use Rattle.std.specs.Prelude.{slice_index_or, slice_set}
use Rattle.hs_anatomy.proofs.EventLemmas.{does_acts, opening_acts}
use Rattle.hs_anatomy.proofs.StillLemmas.{strokes_keep}
use Rattle.hs_anatomy.proofs.StrokeLemmas.{strokes_of}
use Rattle.hs_anatomy.specs.Acts.{Aside, Copies, Empties, Hears, Loses, Repeats, Reports, Resends, Seals, Starts, Takes, Views}
use Rattle.hs_anatomy.specs.Strokes.{Adds, Answers, BeginsAgain, Besides, Follows, IsStill, Leaves, Notes, Proposes, Reads, Renews, SendsAgain, Still, Stroke, TakesOut, TurnsGood, Waits}
use Rattle.hs_awaiting.specs.Words.{change_with, each}
use Rattle.hs_core_words.specs.Changing.{add_entry_tasks, change_group, change_pool, change_rejoin, post}
use Rattle.hs_core_words.specs.declared.event.Event.{Event}
use Rattle.hs_core_words.specs.declared.event.Event.TheVariants as event
use Rattle.hs_core_words.specs.Joining.{begin_joining, follow_lead, joining_peers}
use Rattle.hs_core_words.specs.Looking.{group_of, lead_of, status_of}
use Rattle.hs_core_words.specs.Opening.{begin_views, note_down}
use Rattle.hs_core_words.specs.Operating.{add_read}
use Rattle.hs_core_words.specs.State.{Core}
use Rattle.hs_core_words.specs.Step.{begin_event, do_event, end_event, line_of, step}
use Rattle.hs_events.proofs.FrameLemmas.{begun_is, ended_same, step_by}
use Rattle.hs_limits.specs.declared.limits.PeerStatus.{PeerStatus}
use Rattle.hs_limits.specs.declared.limits.PeerStatus.TheVariants.{Down, Good, Joining}
use Rattle.hs_members.specs.Members.{Members, is_joining, status}
use Rattle.hs_post.specs.Pool.{without}
use Rattle.hs_rejoin.specs.Rejoin.{follow}
use Rattle.hs_replica.specs.Group.{last_number, proposal, propose, take_entry}

-- ---- who is good stays

members_with : {B : Type 0} (o : Option B) (f : B → Core → Core) (c : Core) → ((y : B) (x : Core) → (f y x).members ≡ x.members) → (change_with o f c).members ≡ c.members
members_with None f c h = refl
members_with (Some y) f c h = h y c

members_each : {B : Type 0} (ys : List B) (f : B → Core → Core) (c : Core) → ((y : B) (x : Core) → (f y x).members ≡ x.members) → (each ys f c).members ≡ c.members
members_each [] f c h = refl
members_each (y ∷ ys) f c h = members_each ys f (f y c) h ∙ h y c

members_follow : (shard : ℕ) (c : Core) → (follow_lead shard c).members ≡ c.members
members_follow shard c =
    members_with (lead_of shard c) (λ lead x. each (joining_peers shard x) (λ peer. change_rejoin peer (follow lead)) x) c
    (λ lead x. members_each (joining_peers shard x) (λ peer. change_rejoin peer (follow lead)) x (λ peer y. refl))

-- ---- of each stroke

module _ (q : ℕ) where
  abbrev Calm : Core → Type 0
  Calm c = is_joining (status_of q c) ≡ false

  same_members : (a b : Core) → b.members ≡ a.members → Calm a → Calm b
  same_members a b same h = ap (λ (m : Members). is_joining (status q m)) same ∙ h

  becomes : (statuses : List PeerStatus) (p : ℕ) (new : PeerStatus) → (q ≡ p → is_joining new ≡ false) → is_joining (slice_index_or statuses q Down) ≡ false → is_joining (slice_index_or (slice_set statuses p new) q Down) ≡ false
  becomes statuses p new is h = elim (cases_eq q p) [
    | inl same ↦ subst (λ k. is_joining (slice_index_or (slice_set statuses k new) q Down) ≡ false) same (here statuses q new (is same) h)
    | inr differs ↦ ap is_joining (get_or-set_other statuses p q new Down differs) ∙ h
  ]
    where
      here : (statuses : List PeerStatus) (k : ℕ) (new : PeerStatus) → is_joining new ≡ false → is_joining (slice_index_or statuses k Down) ≡ false → is_joining (slice_index_or (slice_set statuses k new) k Down) ≡ false
      here [] k new is h = h
      here (s ∷ statuses) zero new is h = is
      here (s ∷ statuses) (suc k) new is h = here statuses k new is h

  module _ {s : Core} {e : Option Event} (none : (line : ℕ) → e ≡ Some (event.Start line q) → ⊥) where
    calm_aside : (a b : Core) → Aside s e a b → Calm a → Calm b
    calm_aside a b (Reports peer d known) h = h
    calm_aside a b (Seals peer number known) h = h
    calm_aside a b (Empties peer known) h = h
    calm_aside a b (Copies peer number known) h = h
    calm_aside a b (Loses number m at) h = h
    calm_aside a b (Takes number shard to view next entry known fits) h =
        let one : Core = add_entry_tasks to next entry (change_group shard (take_entry to entry) (change_pool (without number) a)) in
        same_members one b (members_follow shard one) h
    calm_aside a b (Hears number shard from to view sealed known good) h = h
    calm_aside a b (Repeats number m at room) h = h
    calm_aside a b (Resends shard peer known) h = h
    calm_aside a b (Starts line peer start is may) h = becomes a.members.statuses peer Joining (λ same. absurd (none line (is ∙ ap (λ p. Some (event.Start line p)) (sym same)))) h
    calm_aside a b (Views shard) h = h

    calm_still : (a b : Core) → Still s e a b → Calm a → Calm b
    calm_still a b (Besides x) h = calm_aside a b x h
    calm_still a b (Proposes shard entry by) h =
        let one : Core = post (proposal entry (group_of shard a)) (change_group shard (propose entry) a) in
        same_members one b (members_with (lead_of shard a) (λ peer. add_entry_tasks peer (last_number (group_of shard a) + 1) entry) one (λ peer x. refl)) h
    calm_still a b (Reads line number w at waits) h = same_members a b (members_with (lead_of w.shard a) (add_read number line) a (λ peer x. refl)) h
    calm_still a b (SendsAgain back shard peer known) h = same_members a b (members_with _ _ a (λ sent x. refl)) h
    calm_still a b (Leaves peer known) h = becomes a.members.statuses peer Down (λ same. refl) h
    calm_still a b (TurnsGood peer) h = becomes a.members.statuses peer Good (λ same. refl) h
    calm_still a b (BeginsAgain shard) h = same_members a b (members_each (joining_peers shard a) begin_joining a (λ peer x. refl)) h
    calm_still a b (Follows shard) h = same_members a b (members_follow shard a) h

    calm_stroke : (a b : Core) → Stroke s e a b → Calm a → Calm b
    calm_stroke a b (IsStill x) h = calm_still a b x h
    calm_stroke a b (Notes by) h = h
    calm_stroke a b (Adds line o start is) h = h
    calm_stroke a b (Waits line w was at one) h = h
    calm_stroke a b (Answers line w was told at one by) h = h
    calm_stroke a b (TakesOut shard number entry next) h = h
    calm_stroke a b (Renews shard) h = h

  -- ---- of an event, and of an opening

  pub nobody_joins : (e : Event) (at : ℕ) (c : Core) → ((line : ℕ) → e ≡ event.Start line q → ⊥) → is_joining (status_of q c) ≡ false → is_joining (status_of q (step e at c)) ≡ false
  nobody_joins e at c none h = step_by (λ (x : Core). Calm x) e at c h (ended_same (λ (x : Core). is_joining (status_of q x)) d refl refl ∙ done)
    where
      b : Core
      b = begin_event (line_of e) at c

      d : Core
      d = do_event e b

      done : Calm d
      done = strokes_keep (λ (x : Core). Calm x) (calm_stroke (λ line is. none line (cc is))) d (strokes_of (does_acts b e)) (ap (λ (x : Core). is_joining (status_of q x)) (begun_is e at c) ∙ h)

  pub nobody_joins_yet : (c : Core) → is_joining (status_of q c) ≡ false → is_joining (status_of q (end_event (note_down (begin_views c)))) ≡ false
  nobody_joins_yet c h =
      let d : Core = note_down (begin_views c) in
      ended_same (λ (x : Core). is_joining (status_of q x)) d refl refl ∙ strokes_keep (λ (x : Core). Calm x) (calm_stroke (λ line is. cc is)) d (strokes_of (opening_acts c)) h
