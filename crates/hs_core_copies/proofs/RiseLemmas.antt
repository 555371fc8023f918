-- A peer begins to join, is emptied, gets an entry, and is good.
use Rattle.std.proofs.Common.{◌≡◌, ◌≢◌, ◌⊎◌, ◌∙◌, ap, sym, subst, refl, inl, inr, arith, ℕ, ◌*◌, ◌<◌, ◌≤◌, ◌==◌, not, Bool, true, false, eqb-true, List, [], ◌∷◌, ◌++◌, Option, Some, None, length}
use Rattle.std.proofs.lemmas.Bool.{cases_eq}
use Rattle.std.specs.List.{list_any}
use Rattle.std.specs.Option.{option_map, option_map_or}
use Rattle.hs_awaiting.specs.Words.{change_if, ◌▸◌}
use Rattle.hs_copies.proofs.CoreLemmas.{front_within, last_is_leads}
use Rattle.hs_copies.proofs.FailLemmas.{joined}
use Rattle.hs_copies.proofs.HomeLemmas.{Leads, lead_found}
use Rattle.hs_copies.proofs.JoinLemmas.{started}
use Rattle.hs_copies.proofs.NewViewLemmas.{told_good, told_length}
use Rattle.hs_copies.proofs.QuietLemmas.{Quietly}
use Rattle.hs_copies.proofs.PeerLemmas.{put_here, put_other}
use Rattle.hs_copies.proofs.StandLemmas.{HasLead, and_left, and_right, length_is, stands_lead}
use Rattle.hs_copies.proofs.StatusLemmas.{become_here, become_members, become_other, view_elsewhere}
use Rattle.hs_copies.specs.CoreCopies.{begin_with, core_join, core_start, core_view}
use Rattle.hs_copies.specs.Lists.{IsAmong}
use Rattle.hs_copies.specs.Machine.{Copies, Following, after_events}
use Rattle.hs_copies.specs.Standing.{stage_of}
use Rattle.hs_core_words.specs.Changing.{set_rejoin, set_status}
use Rattle.hs_core_words.specs.Effects.{commit}
use Rattle.hs_core_words.specs.Joining.{follow_lead, is_level_with_lead, join, join_if_level, start}
use Rattle.hs_core_words.specs.Looking.{group_of, home, lead_of, rejoin_of, status_of, tasks_of}
use Rattle.hs_core_words.specs.State.{Core}
use Rattle.hs_core_words.specs.Views.{begin_view, change_view}
use Rattle.hs_entry.specs.declared.entry.Entry.{Entry}
use Rattle.hs_limits.specs.declared.limits.PeerStatus.{PeerStatus}
use Rattle.hs_limits.specs.declared.limits.PeerStatus.TheVariants.{Down, Good, Joining}
use Rattle.hs_members.specs.Members.{Members, become, has_good, home_of, is_good_status, peers_of, status}
use Rattle.hs_rejoin.specs.Rejoin.{Rejoin, is_level, new_rejoin}
use Rattle.hs_replica.specs.Group.{Group, IsHome, copy_of, last_number, lead, length_of, told, view_messages}
use Rattle.hs_core_copies.proofs.GoingLemmas.{Goes, Moves, goes_then, moves_both, moves_same}
use Rattle.hs_core_copies.proofs.BesideLemmas.{IsBeside, home_of_peer, moves_beside, peer_of_shard, rejoin_beside}
use Rattle.hs_core_copies.proofs.DeliverLemmas.{follows_lead}
use Rattle.hs_core_copies.proofs.FallLemmas.{IsFresh, fresh_new, in_peers, same_jobs}
use Rattle.hs_core_copies.proofs.JobLemmas.{no_jobs}
use Rattle.hs_core_copies.proofs.LeadLemmas.{good_as_told, good_only}
use Rattle.hs_core_copies.proofs.LikeLemmas.{like_stands}
use Rattle.hs_core_copies.proofs.PlaceLemmas.{rejoin_here, rejoin_other, seated_rejoin}
use Rattle.hs_core_copies.proofs.StepLemmas.{has_group, has_peer, has_tasks, held_in_step, lead_in_step, sealed_within, steps_move}
use Rattle.hs_core_copies.proofs.UnsealedLemmas.{IsHeld, none_unsealed}
use Rattle.hs_core_copies.proofs.ViewLemmas.{HasBegun, IsNewLead, view_here, views_beside}
use Rattle.hs_core_copies.proofs.WalkLemmas.{keeps_commits}
use Rattle.hs_core_copies.specs.InStep.{IsInStep, IsOf, IsSeated, copies_in, no_line, rejoin_at}
use Rattle.hs_core_copies.specs.Jobs.{HasItsJobs, unsealed}

-- ---- another status

pub seated_status : (p : ℕ) (k : PeerStatus) (c : Core) → IsSeated c → IsSeated (set_status p k c)
seated_status p k c st = record { groups = st.groups; tasks = st.tasks; rejoins = st.rejoins; placed = st.placed; within = st.within }

status_beside : (g p : ℕ) (k : PeerStatus) (c : Core) → (IsOf c.members.shape g p → ⊥) → IsSeated c → IsBeside g c (set_status p k c)
status_beside g p k c n st = record {
  seated = seated_status p k c st;
  shape = refl;
  valid = become_members p k c.members;
  view = view_elsewhere p g k c.members (λ e. n (sym e));
  statuses = λ q of. become_other p q k c.members (apart q of);
  group = refl;
  empties = λ q of j. refl;
  counts = λ q of j. refl;
  pool = λ sent h. h;
  jobs = λ q of h. same_jobs g c (set_status p k c) q (become_other p q k c.members (apart q of)) refl refl h;
}
  where
    apart : (q : ℕ) → IsOf c.members.shape g q → q ≢ p
    apart q of e = n (rw (← e) of)

-- ---- a peer that is down begins to join

starts_beside : (g p : ℕ) (c : Core) → (IsOf c.members.shape g p → ⊥) → Moves g c (start p c)
starts_beside g p c n =
    let c1 : Core = set_status p Joining c in
    moves_both g c c1 (start p c) (moves_beside g c c1 (status_beside g p Joining c n))
    (moves_beside g c1 (start p c) (rejoin_beside g p (option_map new_rejoin (lead_of (home p c1) c1)) c1 n))

starts_here : (g p : ℕ) (c : Core) (s : Copies Entry) → IsInStep g c s → IsOf c.members.shape g p → status_of p c ≡ Down → Goes g (start p c) s
starts_here g p c s st own down =
    let home_p : IsHome (group_of g c) p = home_of_peer g c s st p own in
    let c1 : Core = set_status p Joining c in
    let now : Option ℕ = lead_of (home p c1) c1 in
    let b : Core = start p c in
    let k : Quietly no_line (core_start p (copies_in g st.sent c)) s = started (copies_in g st.sent c) s st.stands p home_p down in
    let d : HasLead (copies_in g st.sent c) s = stands_lead (copies_in g st.sent c) s st.stands in
    let inside : p < length c.progress.rejoins = rw st.seated.rejoins (has_peer g c s st p home_p) in
    let begun : Rejoin = begin_with (lead (group_of g c)) (rejoin_at c p) in
    let old : IsFresh begun = rw d.is (refl, refl) in
    let here : IsFresh (rejoin_at b p) = rw (rejoin_here p (option_map new_rejoin now) c1 inside) (fresh_new now) in
    record {
      events = k.events;
      allowed = k.allowed;
      stays = k.stays;
      keeps = record {
        seated = seated_rejoin p _ c1 (seated_status p Joining c st.seated);
        here = st.here;
        sent = st.sent;
        stands = like_stands (core_start p (copies_in g st.sent c)) (copies_in g st.sent b) (after_events s k.events)
            (record {
              group = refl;
              shape = refl;
              valid = become_members p Joining c.members st.stands.members;
              view = refl;
              statuses = λ q h. refl;
              empties = λ q h j. elim (cases_eq q p) [
                | inl e ↦ rw (e, put_here p begun (rejoin_at c), old.0) here.0
                | inr n ↦ rw (put_other p begun (rejoin_at c) q n, rejoin_other p q (option_map new_rejoin now) c1 n) refl
              ];
              counts = λ q h j. elim (cases_eq q p) [
                | inl e ↦ rw (e, put_here p begun (rejoin_at c), old.1) here.1
                | inr n ↦ rw (put_other p begun (rejoin_at c) q n, rejoin_other p q (option_map new_rejoin now) c1 n) refl
              ];
              sent = λ m h. h;
            }) k.stands;
        under_way = st.under_way;
        jobs = λ q of. started_jobs q (has_peer g c s st p home_p) (st.jobs q of);
      };
    }
  where
    started_jobs : (q : ℕ) → p < c.members.shape.shards * c.members.shape.copies → HasItsJobs g c q → HasItsJobs g (start p c) q
    started_jobs q low h = elim (cases_eq q p) [
      | inl e ↦ rw e (record {
        good = λ i. let wrong : Joining ≡ Good = sym (become_here p Joining c.members st.stands.members low) ∙ i in absurd (cc wrong);
        other = λ i. (rw e at h).other (λ j. let wrong : Down ≡ Good = sym down ∙ j in cc wrong);
      })
      | inr n ↦ same_jobs g c (start p c) q (become_other p q Joining c.members n) refl refl h
    ]

pub starts : (g p : ℕ) (c : Core) → status_of p c ≡ Down → Moves g c (start p c)
starts g p c down s st = elim (cases_eq (home_of c.members.shape p) g) [
  | inl own ↦ starts_here g p c s st own down
  | inr n ↦ starts_beside g p c n s st
]

-- ---- a joining peer is level with the lead, and is good

abbrev pub join_with : ℕ → ℕ → Core → Core
join_with x p c = c ▸ set_status p Good ▸ set_rejoin p None ▸ change_view x ▸ follow_lead x ▸ commit x

joins_beside : (g p : ℕ) (c : Core) → (IsOf c.members.shape g p → ⊥) → Moves g c (join p c)
joins_beside g p c n =
    let x : ℕ = home p c in
    let c1 : Core = set_status p Good c in
    let c2 : Core = set_rejoin p None c1 in
    let c3 : Core = change_view x c2 in
    let c4 : Core = follow_lead x c3 in
    moves_both g c c1 (join p c) (moves_beside g c c1 (status_beside g p Good c n))
    (moves_both g c1 c2 (join p c) (moves_beside g c1 c2 (rejoin_beside g p None c1 n))
    (moves_both g c2 c3 (join p c) (views_beside g x c2 (λ e. n (sym e)))
    (moves_both g c3 c4 (join p c) (follows_lead g x c3) (keeps_commits (steps_move g) x c4))))

any_among : (test : ℕ → Bool) (q : ℕ) (qs : List ℕ) → test q ≡ true → IsAmong q qs → list_any test qs ≡ true
any_among test q [] e k = absurd k
any_among test q (p ∷ qs) e k = go (test p) refl k (λ rest. any_among test q qs e rest)
  where
    go : (b : Bool) → test p ≡ b → IsAmong q (p ∷ qs) → (IsAmong q qs → list_any test qs ≡ true) → list_any test (p ∷ qs) ≡ true
    go true i k h = rw i refl
    go false i (inl same) h = let wrong : true ≡ false = sym e ∙ ap test same ∙ i in absurd (cc wrong)
    go false i (inr rest) h = rw i (h rest)

not_due : (b : Bool) → not b ≡ true → b ≡ false
not_due false e = refl
not_due true e = let wrong : false ≡ true = e in absurd (cc wrong)

module _ (g : ℕ) (c : Core) (s : Copies Entry) (st : IsInStep g c s) (p : ℕ) (own : IsOf c.members.shape g p) (joins : status_of p c ≡ Joining)
    (l : ℕ) (leads : lead (group_of g c) ≡ Some l) (level : is_level (length_of (group_of g c) l) (rejoin_at c p) ≡ true) where
  home_p : IsHome (group_of g c) p
  home_p = home_of_peer g c s st p own

  here : status p (become p Good c.members) ≡ Good
  here = become_here p Good c.members st.stands.members (has_peer g c s st p home_p)

  done : (rejoin_at c p).empty ≡ false
  done = not_due (rejoin_at c p).empty (and_left (not (rejoin_at c p).empty) ((rejoin_at c p).len == length_of (group_of g c) l) level)

  follows : (s.peers p).stage ≡ Following
  follows = st.stands.peers.stage p home_p ∙ ap (λ k. stage_of k (rejoin_at c p).empty) joins ∙ ap (λ b. stage_of Joining b) done

  -- its list is as long as the lead's
  level_with : length_of (group_of g c) p ≡ last_number (group_of g c)
  level_with =
      let n : (rejoin_at c p).len ≡ length_of (group_of g c) l = eqb-true (rejoin_at c p).len (length_of (group_of g c) l) (and_right (not (rejoin_at c p).empty) ((rejoin_at c p).len == length_of (group_of g c) l) level) in
      length_is (copies_in g st.sent c) s st.stands p home_p ∙ sym (st.stands.peers.counted p home_p follows) ∙ n ∙ sym (last_is_leads (copies_in g st.sent c) s st.stands l leads)

  sealed_all : (copy_of (group_of g c) p).sealed ≤ length_of (group_of g c) p
  sealed_all = omega (arith, (st.stands.peers.each p home_p).sealed, (st.stands.faithful.following p follows).1, length_is (copies_in g st.sent c) s st.stands p home_p)

  -- and nothing of it is left to seal
  nothing_left : length_of (group_of g c) p ≤ (copy_of (group_of g c) p).sealed
  nothing_left = omega (arith, (st.stands.peers.each p home_p).sealed, (st.stands.faithful.following p follows).1, length_is (copies_in g st.sent c) s st.stands p home_p)

  joined_held : (q : ℕ) → IsHome (group_of g c) q → status q (become p Good c.members) ≡ Good → IsHeld (group_of g c) q
  joined_held q h e = elim (cases_eq q p) [
    | inl i ↦ rw i (record { front = omega (arith, nothing_left, level_with); sealed = sealed_all; within = omega (arith, level_with) })
    | inr n ↦ held_in_step g c s st q h (sym (become_other p q Good c.members n) ∙ e)
  ]

  new_lead : (k : ℕ) × IsNewLead (become p Good c.members) (group_of g c) k × IsHome (group_of g c) k
  new_lead =
      let x : Group = group_of g c in
      let n : length (told (become p Good c.members) x).copies ≡ x.shape.copies = told_length (become p Good c.members) x ∙ st.stands.copies in
      let f = lead_found (told (become p Good c.members) x) p n home_p (told_good (become p Good c.members) x p st.stands.copies home_p ∙ ap is_good_status here) in
      let k : Leads (told (become p Good c.members) x) f.0 = f.2 in
      (f.0, lead_now f.0 f.1 k (cases_eq f.0 p), k.home)
    where
      lead_now : (k : ℕ) → lead (told (become p Good c.members) (group_of g c)) ≡ Some k → Leads (told (become p Good c.members) (group_of g c)) k → (k ≡ p) ⊎ (k ≢ p)
          → IsNewLead (become p Good c.members) (group_of g c) k
      lead_now k e h (inl same) = record {
        chosen = e;
        leads = h;
        low = rw same (let n = level_with in omega (arith, n));
        high = rw same (let n = level_with in omega (arith, n));
        held = rw same sealed_all;
      }
      lead_now k e h (inr apart) =
          let x : Group = group_of g c in
          let is_good : is_good_status (status k (become p Good c.members)) ≡ true = sym (told_good (become p Good c.members) x k st.stands.copies h.home) ∙ h.good in
          let was : status_of k c ≡ Good = good_only (status_of k c) (ap is_good_status (sym (become_other p k Good c.members apart)) ∙ is_good) in
          let copy : (copy_of x k).good ≡ true = good_as_told (copies_in g st.sent c) s st.stands k h.home ∙ ap is_good_status was in
          let d : HasLead (copies_in g st.sent c) s = stands_lead (copies_in g st.sent c) s st.stands in
          record {
            chosen = e;
            leads = h;
            low = front_within (copies_in g st.sent c) s st.stands k h.home copy;
            high = omega (arith, d.leads.longest k h.home copy, last_is_leads (copies_in g st.sent c) s st.stands d.peer d.is);
            held = sealed_within g c s st k h.home was;
          }

  good_jobs : (q : ℕ) → HasItsJobs g c q → HasItsJobs g (set_rejoin p None (set_status p Good c)) q
  good_jobs q h = elim (cases_eq q p) [
    | inl e ↦ rw e (record {
      good = λ i. let none : tasks_of p c ≡ [] = (rw e at h).other (λ j. let wrong : Joining ≡ Good = sym joins ∙ j in cc wrong) in
          rw none (no_jobs (unsealed p (group_of g c)) (none_unsealed (group_of g c) p nothing_left));
      other = λ i. absurd (i here);
    })
    | inr n ↦ same_jobs g c (set_rejoin p None (set_status p Good c)) q (become_other p q Good c.members n) refl refl h
  ]

  view : HasBegun g (set_rejoin p None (set_status p Good c)) (group_of g c) st.sent (begin_view g (set_rejoin p None (set_status p Good c)))
  view =
      let k = new_lead in
      view_here g (set_rejoin p None (set_status p Good c)) st.sent (seated_rejoin p None _ (seated_status p Good c st.seated)) (has_group g c s st) st.stands.copies st.under_way
      (λ q h. good_jobs q (st.jobs q (peer_of_shard g c s st q h))) joined_held
      k.0 k.1 (has_tasks g c s st k.0 k.2)

  apart : (q : ℕ) → status q (become p Good c.members) ≡ Joining → q ≢ p
  apart q j e = let wrong : Good ≡ Joining = sym here ∙ ap (λ i. status i (become p Good c.members)) (sym e) ∙ j in cc wrong

  goes_on : Goes g (begin_view g (set_rejoin p None (set_status p Good c))) s
  goes_on =
      let m : Members = become p Good c.members in
      let x : Group = group_of g c in
      let b : Core = begin_view g (set_rejoin p None (set_status p Good c)) in
      let v : HasBegun g (set_rejoin p None (set_status p Good c)) x st.sent b = view in
      let k : Quietly no_line (core_join p (copies_in g st.sent c)) s = joined (copies_in g st.sent c) s st.stands p l home_p joins leads level in
      let came : (q : ℕ) → status q m ≡ Joining → rejoin_of q b ≡ rejoin_of q c = λ q j. rw v.rejoins (rejoin_other p q None c (apart q j)) in
      record {
        events = k.events;
        allowed = k.allowed;
        stays = k.stays;
        keeps = record {
          seated = v.seated;
          here = rw v.members st.here;
          sent = view_messages m x ++ st.sent;
          stands = like_stands (core_view m (copies_in g st.sent c)) (copies_in g (view_messages m x ++ st.sent) b) (after_events s k.events)
              (record {
                group = v.group;
                shape = ap (λ (n : Members). n.shape) v.members;
                valid = rw v.members (become_members p Good c.members st.stands.members);
                view = rw v.members refl;
                statuses = λ q h. rw v.members refl;
                empties = λ q h j. rw (came q j) refl;
                counts = λ q h j. rw (came q j) refl;
                sent = λ n h. h;
              }) k.stands;
          under_way = v.under_way;
          jobs = λ q of. v.jobs q (home_of_peer g c s st q (rw v.members at of));
        };
      }

  some_good : has_good g (become p Good c.members) ≡ true
  some_good =
      any_among (λ q. is_good_status (status q (become p Good c.members))) p (peers_of c.members.shape g) (ap is_good_status here)
      (in_peers c.members.shape g (group_of g c) p st.stands.shape (st.seated.placed g).same_shard home_p)

  pub joins_before : Goes g (follow_lead g (change_view g (set_rejoin p None (set_status p Good c)))) s
  joins_before =
      let c2 : Core = set_rejoin p None (set_status p Good c) in
      let b : Core = begin_view g c2 in
      let viewed : change_view g c2 ≡ b = ap (λ t. change_if t (begin_view g) c2) some_good in
      rw viewed (goes_then g b (follow_lead g b) s goes_on (follows_lead g g b))

  joins_here : Goes g (join_with g p c) s
  joins_here =
      let b : Core = follow_lead g (change_view g (set_rejoin p None (set_status p Good c))) in
      goes_then g b (commit g b) s joins_before (keeps_commits (steps_move g) g b)

-- where it is level
pub level_beside : (g p : ℕ) (c : Core) → (IsOf c.members.shape g p → ⊥) → Moves g c (join_if_level p c)
level_beside g p c n = go (is_level_with_lead p c)
  where
    go : (b : Bool) → Moves g c (change_if b (join p) c)
    go true = joins_beside g p c n
    go false = moves_same g c

abbrev level_at : ℕ → ℕ → Core → Bool
level_at x p c = option_map_or (is_level (option_map_or (length_of (group_of x c)) (lead_of x c) 0)) (rejoin_of p c) false

-- what is so where it is not, and of a peer that joins where it is, is so
pub level_by : (P : Core → Type 0) (g p : ℕ) (c : Core) (s : Copies Entry) (st : IsInStep g c s) → IsOf c.members.shape g p → P c
    → ((l : ℕ) → lead (group_of g c) ≡ Some l → is_level (length_of (group_of g c) l) (rejoin_at c p) ≡ true → P (join_with g p c)) → P (join_if_level p c)
level_by P g p c s st own same other = go (is_level_with_lead p c) refl
  where
    leads : lead_of g c ≡ Some (stands_lead (copies_in g st.sent c) s st.stands).peer
    leads = lead_in_step g c s st ∙ (stands_lead (copies_in g st.sent c) s st.stands).is

    found : (o : Option Rejoin) → rejoin_of p c ≡ o → option_map_or (is_level (length_of (group_of g c) (stands_lead (copies_in g st.sent c) s st.stands).peer)) o false ≡ true
        → is_level (length_of (group_of g c) (stands_lead (copies_in g st.sent c) s st.stands).peer) (rejoin_at c p) ≡ true
    found None e i = let wrong : false ≡ true = i in absurd (cc wrong)
    found (Some r) e i = rw e i

    level : level_at g p c ≡ true → is_level (length_of (group_of g c) (stands_lead (copies_in g st.sent c) s st.stands).peer) (rejoin_at c p) ≡ true
    level e = found (rejoin_of p c) refl (sym (ap (λ o. option_map_or (is_level (option_map_or (length_of (group_of g c)) o 0)) (rejoin_of p c) false) leads) ∙ e)

    go : (b : Bool) → is_level_with_lead p c ≡ b → P (change_if b (join p) c)
    go false e = same
    go true e =
        subst (λ (x : ℕ). P (join_with x p c)) (sym own)
        (other (stands_lead (copies_in g st.sent c) s st.stands).peer (stands_lead (copies_in g st.sent c) s st.stands).is (level (subst (λ (x : ℕ). level_at x p c ≡ true) own e)))

pub level_here : (g p : ℕ) (c : Core) (s : Copies Entry) → IsInStep g c s → IsOf c.members.shape g p → status_of p c ≡ Joining → Goes g (join_if_level p c) s
level_here g p c s st own joins = level_by (λ y. Goes g y s) g p c s st own (moves_same g c s st) (λ l leads level. joins_here g c s st p own joins l leads level)
