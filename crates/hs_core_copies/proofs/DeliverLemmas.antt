-- A message that comes, is lost or is sent again is events of the machine of a shard's copies.
use Rattle.std.proofs.Common.{◌≡◌, ◌≢◌, ◌⊎◌, ◌∙◌, ap, sym, subst, refl, inl, inr, ℕ, ◌+◌, ◌-◌, ◌≤◌, arith, max, Bool, true, false, if◌then◌else◌, eqb-true, [], ◌∷◌, ◌++◌, Option, Some, None, length}
use Rattle.std.proofs.lemmas.Bool.{cases_eq, cases_lt}
use Rattle.std.proofs.lemmas.List.{set_past}
use Rattle.std.proofs.lemmas.List.Elements.{All-cons, All-nil}
use Rattle.std.proofs.lemmas.Map.Views.{All-map-remove_entry, IfSome-lookup_from_All}
use Rattle.std.specs.BTreeMap.{is_at}
use Rattle.std.specs.List.{All}
use Rattle.std.specs.Map.{values_of}
use Rattle.std.specs.Option.{option_map}
use Rattle.std.specs.Ordering.{nat_cmp}
use Rattle.std.specs.Prelude.{IfSome, slice_get, slice_index_or, unwrap_or, ◌&&◌, ◌==◌}
use Rattle.hs_awaiting.specs.Words.{change_if, change_with, each}
use Rattle.hs_copies.proofs.CallLemmas.{appended, heard}
use Rattle.hs_copies.proofs.HomeLemmas.{set_other, set_same}
use Rattle.hs_copies.proofs.QuietLemmas.{Quietly, same_stays}
use Rattle.hs_copies.proofs.StandLemmas.{and_left, and_right}
use Rattle.hs_copies.specs.CoreCopies.{core_append, core_have}
use Rattle.hs_copies.specs.Lists.{IsAmong, Item}
use Rattle.hs_copies.specs.Machine.{Copies, EntryNotice, after_events}
use Rattle.hs_core_words.specs.Asking.{deliver, lose, send_again, with_message}
use Rattle.hs_core_words.specs.Changing.{add_entry_tasks, add_task, change_group, change_pool, change_rejoin, post, refuse, set_rejoin}
use Rattle.hs_core_words.specs.declared.task.Task.{Task}
use Rattle.hs_core_words.specs.Delivering.{handle, is_new_round, on_copy, take_copy, take_have}
use Rattle.hs_core_words.specs.Effects.{commit}
use Rattle.hs_core_words.specs.Joining.{follow_lead, joining_peers}
use Rattle.hs_core_words.specs.Looking.{group_of, lead_of, rejoin_of, status_of, tasks_of}
use Rattle.hs_core_words.specs.Operating.{propose_entry}
use Rattle.hs_core_words.specs.State.{Core}
use Rattle.hs_desk.specs.declared.job.Job.TheVariants as job
use Rattle.hs_entry.specs.declared.entry.Entry.{Entry}
use Rattle.hs_entry.specs.declared.entry.Entry.TheVariants as kind
use Rattle.hs_limits.specs.declared.limits.PeerStatus.TheVariants.{Good}
use Rattle.hs_members.specs.Members.{is_good_status}
use Rattle.hs_model.specs.declared.reply.Reply.{Reply}
use Rattle.hs_model.specs.declared.reply.Reply.TheVariants as reply
use Rattle.hs_post.specs.declared.message.Message.{Message}
use Rattle.hs_post.specs.declared.message.Message.TheVariants as message
use Rattle.hs_post.specs.Pool.{Pool, is_full, message_at, without}
use Rattle.hs_rejoin.specs.Rejoin.{Rejoin, follow, new_rejoin}
use Rattle.hs_replica.specs.declared.replica.Replica.{Replica}
use Rattle.hs_replica.specs.Group.{Group, IsHome, change_copy, copy_of, hears, length_of, on_have, stamp, take_entry, takes}
use Rattle.hs_core_copies.proofs.GoingLemmas.{Keeps, moves_kept, Goes, Moves, goes_then, moves_both, moves_same}
use Rattle.hs_core_copies.proofs.BesideLemmas.{IsBeside, group_beside, home_of_peer, moves_beside, moves_quiet, seated_post, tasks_beside}
use Rattle.hs_core_copies.proofs.JobLemmas.{IsTakenAt, taken_at, takes_jobs}
use Rattle.hs_core_copies.proofs.LeadLemmas.{good_as_told, good_only}
use Rattle.hs_core_copies.proofs.LikeLemmas.{like_stands}
use Rattle.hs_core_copies.proofs.PlaceLemmas.{changed_kept, group_here, heard_kept, rejoin_here, rejoin_other, seated_group, seated_rejoin, seated_tasks}
use Rattle.hs_core_copies.proofs.PostLemmas.{posted}
use Rattle.hs_core_copies.proofs.StepLemmas.{has_group, has_tasks, held_in_step, proposes, steps_move}
use Rattle.hs_core_copies.proofs.UnsealedLemmas.{IsHeld, unsealed_by, waits_at}
use Rattle.hs_core_copies.proofs.WalkLemmas.{keeps_commits, keeps_each, keeps_if, message_by}
use Rattle.hs_core_copies.specs.InStep.{IsInStep, IsOf, IsSeated, IsUnderWay, IsWithin, copies_in, no_line, rejoin_at}
use Rattle.hs_core_copies.specs.Jobs.{HasJobs, unsealed}

-- ---- joining peers follow another lead

-- how far a joining peer has come is what it is set to, or as it was
pub rejoin_either : (P : Option Rejoin → Type 0) (p : ℕ) (r : Option Rejoin) (c : Core) → P r → P (rejoin_of p c) → P (rejoin_of p (set_rejoin p r c))
rejoin_either P p r c new old = elim (cases_lt p (length c.progress.rejoins)) [
  | inl low ↦ rw (rejoin_here p r c low) new
  | inr high ↦
      let same : rejoin_of p (set_rejoin p r c) ≡ rejoin_of p c = ap (λ rs. slice_index_or rs p None) (set_past c.progress.rejoins p r high) in
      rw same old
]

follows_empty : (l : ℕ) (o : Option Rejoin) → (unwrap_or (option_map (follow l) o) (new_rejoin 0)).empty ≡ (unwrap_or o (new_rejoin 0)).empty
follows_empty l None = refl
follows_empty l (Some r) = refl

follows_len : (l : ℕ) (o : Option Rejoin) → (unwrap_or (option_map (follow l) o) (new_rejoin 0)).len ≡ (unwrap_or o (new_rejoin 0)).len
follows_len l None = refl
follows_len l (Some r) = refl

follow_beside : (g q l : ℕ) (c : Core) → IsSeated c → IsBeside g c (change_rejoin q (follow l) c)
follow_beside g q l c st = record {
  seated = seated_rejoin q _ c st;
  shape = refl;
  valid = λ k. k;
  view = refl;
  statuses = λ p of. refl;
  group = refl;
  empties = λ p of j. elim (cases_eq p q) [
    | inl e ↦ rw e (rejoin_either (λ o. (unwrap_or o (new_rejoin 0)).empty ≡ (rejoin_at c q).empty) q (option_map (follow l) (rejoin_of q c)) c (follows_empty l (rejoin_of q c)) refl)
    | inr n ↦ rw (rejoin_other q p (option_map (follow l) (rejoin_of q c)) c n) refl
  ];
  counts = λ p of j. elim (cases_eq p q) [
    | inl e ↦ rw e (rejoin_either (λ o. (unwrap_or o (new_rejoin 0)).len ≡ (rejoin_at c q).len) q (option_map (follow l) (rejoin_of q c)) c (follows_len l (rejoin_of q c)) refl)
    | inr n ↦ rw (rejoin_other q p (option_map (follow l) (rejoin_of q c)) c n) refl
  ];
  pool = λ sent k. k;
  jobs = λ p of k. record { good = k.good; other = k.other };
}

pub follows_lead : (g x : ℕ) (c : Core) → Moves g c (follow_lead x c)
follows_lead g x c = go (lead_of x c)
  where
    go : (o : Option ℕ) → Moves g c (change_with o (λ lead core. each (joining_peers x core) (λ peer. change_rejoin peer (follow lead)) core) c)
    go None = moves_same g c
    go (Some l) = keeps_each (steps_move g) (joining_peers x c) (λ peer. change_rejoin peer (follow l)) c (λ q y. moves_beside g y (change_rejoin q (follow l) y) (follow_beside g q l y))

-- ---- the pool has fewer

abbrev pub Fewer : Pool → Pool → Type 1
Fewer old new = (P : Message → Type 0) → All P (values_of old.messages) → All P (values_of new.messages)

abbrev pub thinned : (g : ℕ) (c : Core) (s : Copies Entry) (pool : Pool) → Fewer c.pool pool → IsInStep g c s → IsInStep g (record c { pool = pool }) s
thinned g c s pool fewer st = record {
  seated = record { groups = st.seated.groups; tasks = st.seated.tasks; rejoins = st.seated.rejoins; placed = st.seated.placed; within = fewer (IsWithin c.members.shape) st.seated.within };
  here = st.here;
  sent = st.sent;
  stands = st.stands;
  under_way = fewer (IsUnderWay g st.sent) st.under_way;
  jobs = λ p of. record { good = (st.jobs p of).good; other = (st.jobs p of).other };
}

pub keeps_thinned : (g : ℕ) (c : Core) (pool : Pool) → Fewer c.pool pool → Keeps g c (record c { pool = pool })
keeps_thinned g c pool fewer s st = thinned g c s pool fewer st

pub moves_thinned : (g : ℕ) (c : Core) (pool : Pool) → Fewer c.pool pool → Moves g c (record c { pool = pool })
moves_thinned g c pool fewer = moves_kept g c (record c { pool = pool }) (keeps_thinned g c pool fewer)

pub taken_out : (number : ℕ) (pool : Pool) → Fewer pool (without number pool)
taken_out number pool P h = All-map-remove_entry (is_at (nat_cmp number)) (λ e. e.1) P pool.messages h

pub message_has : (P : Message → Type 0) (number : ℕ) (pool : Pool) (m : Message) → message_at number pool ≡ Some m → All P (values_of pool.messages) → P m
message_has P number pool m e h =
    let k : IfSome (message_at number pool) P = IfSome-lookup_from_All P (is_at (nat_cmp number)) pool.messages h in
    subst (λ (o : Option Message). IfSome o P) e k

-- ---- a Copy comes

-- the entry of a Copy of the view waits in the lead's list at its number
copied_waits : (g : ℕ) (c : Core) (s : Copies Entry) (st : IsInStep g c s) (shard to view number : ℕ) (entry : Entry) → IsAmong (message.Copy shard to view number entry) st.sent
    → view ≡ s.view → (group_of g c).front ≤ length_of (group_of g c) to → number ≡ length_of (group_of g c) to + 1
    → slice_get (group_of g c).waiting (length_of (group_of g c) to - (group_of g c).front) ≡ Some entry
copied_waits g c s st shard to view number entry among same low next =
    let m = st.stands.sent (message.Copy shard to view number entry) among in
    let y : Item Entry = m.1.0 in
    let is : y.what ≡ entry = m.1.1 in
    let there : slice_get s.log (number - 1) ≡ Some y = (st.stands.faithful.sent (EntryNotice to view (number - 1) y) m.1.2).1 same in
    let place : length_of (group_of g c) to ≡ number - 1 = omega (arith, next) in
    waits_at (copies_in g st.sent c) s st.stands (length_of (group_of g c) to) y low (ap (slice_get s.log) place ∙ there) ∙ ap Some is

module _ (g : ℕ) (c : Core) (s : Copies Entry) (st : IsInStep g c s) (shard to view number : ℕ) (entry : Entry)
    (own : IsOf c.members.shape g to) (among : IsAmong (message.Copy shard to view number entry) st.sent) (next : takes to view number (group_of g c) ≡ true) where
  home : IsHome (group_of g c) to
  home = home_of_peer g c s st to own

  appends : (to : ℕ) (home : IsHome (group_of g c) to) → takes to view number (group_of g c) ≡ true → IsAmong (message.Copy shard to view number entry) st.sent
      → Goes g (add_entry_tasks to number entry (change_group g (take_entry to entry) c)) s
  appends to home next among =
      let x : Group = group_of g c in
      let a : Core = change_group g (take_entry to entry) c in
      let b : Core = add_entry_tasks to number entry a in
      let k : Quietly no_line (core_append to view number entry (copies_in g st.sent c)) s = appended (copies_in g st.sent c) s st.stands shard to view number entry home among in
      let both = and_left ((copy_of x to).good && view == x.view) (number == length_of x to + 1) next in
      let is_next : number ≡ length_of x to + 1 = eqb-true number (length_of x to + 1) (and_right ((copy_of x to).good && view == x.view) (number == length_of x to + 1) next) in
      let good : status_of to c ≡ Good = good_only (status_of to c) (sym (good_as_told (copies_in g st.sent c) s st.stands to home) ∙ and_left (copy_of x to).good (view == x.view) both) in
      let here : group_of g a ≡ take_entry to entry x = group_here g (take_entry to entry) c (has_group g c s st) in
      let held : IsHeld x to = held_in_step g c s st to home good in
      let same_view : view ≡ s.view = eqb-true view x.view (and_right (copy_of x to).good (view == x.view) both) ∙ st.stands.view in
      let waits : slice_get x.waiting (length_of x to - x.front) ≡ Some entry = copied_waits g c s st shard to view number entry among same_view (omega (arith, held.front, held.sealed)) is_next in
      let taken : IsTakenAt to number entry x (take_entry to entry x) =
      subst (λ (k : ℕ). IsTakenAt to k entry x (take_entry to entry x)) (sym is_next) (taken_at to entry x st.stands.copies home held waits) in
      record {
        events = k.events;
        allowed = k.allowed;
        stays = k.stays;
        keeps = record {
          seated = seated_tasks to _ _ (seated_tasks to _ _ (seated_group g (take_entry to entry) c (changed_kept to (λ r. record r { stamps = stamp entry r.stamps }) x) st.seated));
          here = st.here;
          sent = st.sent;
          stands = like_stands (core_append to view number entry (copies_in g st.sent c)) (copies_in g st.sent b) (after_events s k.events)
              (record { group = here ∙ sym (ap (λ t. if t then take_entry to entry x else x) next); shape = refl; valid = st.stands.members; view = refl; statuses = λ p h. refl; empties = λ p h j. refl; counts = λ p h j. refl; sent = λ m h. h }) k.stands;
          under_way = st.under_way;
          jobs = λ q of.
              takes_jobs g c a to number entry refl refl (has_tasks g c s st to home) good (rw here taken)
              (λ r h k. held_in_step g c s st r h k) q (home_of_peer g c s st q of) (st.jobs q of);
        };
      }

  pub takes_here : Goes g (take_copy g to number entry c) s
  takes_here =
      let b : Core = add_entry_tasks to number entry (change_group g (take_entry to entry) c) in
      goes_then g b (follow_lead g b) s (appends to home next among) (follows_lead g g b)

-- at another shard
takes_beside : (g x to number : ℕ) (entry : Entry) (c : Core) → g ≢ x → IsOf c.members.shape x to → Moves g c (take_copy x to number entry c)
takes_beside g x to number entry c ne own =
    let t : Task = record { job = job.Append number entry; line = 0 } in
    let u : Task = record { job = job.Seal number; line = 0 } in
    let a : Core = change_group x (take_entry to entry) c in
    let b : Core = add_task to t a in
    let d : Core = add_task to u b in
    let far : IsOf c.members.shape g to → ⊥ = λ of. ne (sym of ∙ own) in
    moves_both g c a (follow_lead x d)
    (moves_beside g c a (group_beside g x (take_entry to entry) c ne (changed_kept to (λ r. record r { stamps = stamp entry r.stamps }) (group_of x c))))
    (moves_both g a b (follow_lead x d) (moves_beside g a b (tasks_beside g to (tasks_of to a ++ t ∷ []) a far))
    (moves_both g b d (follow_lead x d) (moves_beside g b d (tasks_beside g to (tasks_of to b ++ u ∷ []) b far)) (follows_lead g x d)))

copies_come : (g : ℕ) (c : Core) (s : Copies Entry) (st : IsInStep g c s) (shard to view number : ℕ) (entry : Entry) → IsOf c.members.shape shard to
    → (shard ≡ g → IsAmong (message.Copy shard to view number entry) st.sent) → Goes g (on_copy shard to view number entry c) s
copies_come g c s st shard to view number entry own among = go (takes to view number (group_of shard c)) refl
  where
    taken : takes to view number (group_of shard c) ≡ true → Goes g (take_copy shard to number entry c) s
    taken e = elim (cases_eq shard g) [
      | inl same ↦ rw same (takes_here g c s st shard to view number entry (rw same at own) (among same) (rw same at e))
      | inr ne ↦ takes_beside g shard to number entry c (λ i. ne (sym i)) own s st
    ]

    go : (b : Bool) → takes to view number (group_of shard c) ≡ b → Goes g (on_copy shard to view number entry c) s
    go true e = rw e (taken e)
    go false e = rw e (moves_same g c s st)

-- ---- a Have comes

-- a Have changes what is known alone
heard_unsealed : (from view sealed : ℕ) (x : Group) (q : ℕ) → length x.copies ≡ x.shape.copies → IsHome x from → IsHome x q → unsealed q (on_have from view sealed x) ≡ unsealed q x
heard_unsealed from view sealed x q long own home = go (hears from view x) refl
  where
    told : Replica → Replica
    told c = record c { known = max c.known sealed }

    by_copy : (copy_of (change_copy from (λ c. record c { known = max c.known sealed }) x) q ≡ told (copy_of x q)) ⊎ (copy_of (change_copy from (λ c. record c { known = max c.known sealed }) x) q ≡ copy_of x q)
        → unsealed q (change_copy from (λ c. record c { known = max c.known sealed }) x) ≡ unsealed q x
    by_copy (inl e) = unsealed_by x (change_copy from (λ c. record c { known = max c.known sealed }) x) q (ap (λ (c : Replica). c.sealed) e) (ap (λ (c : Replica). length c.stamps) e) refl
    by_copy (inr e) = unsealed_by x (change_copy from (λ c. record c { known = max c.known sealed }) x) q (ap (λ (c : Replica). c.sealed) e) (ap (λ (c : Replica). length c.stamps) e) refl

    changed : unsealed q (change_copy from (λ c. record c { known = max c.known sealed }) x) ≡ unsealed q x
    changed = by_copy (elim (cases_eq q from) [
      | inl e ↦ inl (rw e (set_same x from (λ c. record c { known = max c.known sealed }) long own))
      | inr n ↦ inr (set_other x from q (λ c. record c { known = max c.known sealed }) own home n)
    ])

    go : (b : Bool) → hears from view x ≡ b → unsealed q (on_have from view sealed x) ≡ unsealed q x
    go true e = ap (λ b. unsealed q (if b then change_copy from (λ c. record c { known = max c.known sealed }) x else x)) e ∙ changed
    go false e = ap (λ b. unsealed q (if b then change_copy from (λ c. record c { known = max c.known sealed }) x else x)) e

pub hears_here : (g : ℕ) (c : Core) (s : Copies Entry) (st : IsInStep g c s) (shard from to view sealed : ℕ) → IsOf c.members.shape g from
    → IsAmong (message.Have shard from to view sealed) st.sent → Goes g (change_group g (on_have from view sealed) c) s
hears_here g c s st shard from to view sealed own among =
    let x : Group = group_of g c in
    let b : Core = change_group g (on_have from view sealed) c in
    let home : IsHome x from = home_of_peer g c s st from own in
    let k : Quietly no_line (core_have from view sealed (copies_in g st.sent c)) s = heard (copies_in g st.sent c) s st.stands shard from to view sealed home among in
    let here : group_of g b ≡ on_have from view sealed x = group_here g (on_have from view sealed) c (has_group g c s st) in
    record {
      events = k.events;
      allowed = k.allowed;
      stays = k.stays;
      keeps = record {
        seated = seated_group g (on_have from view sealed) c (heard_kept from view sealed x) st.seated;
        here = st.here;
        sent = st.sent;
        stands = like_stands (core_have from view sealed (copies_in g st.sent c)) (copies_in g st.sent b) (after_events s k.events)
            (record { group = here; shape = refl; valid = st.stands.members; view = refl; statuses = λ p h. refl; empties = λ p h j. refl; counts = λ p h j. refl; sent = λ m h. h }) k.stands;
        under_way = st.under_way;
        jobs = λ q of.
            let same : unsealed q (group_of g b) ≡ unsealed q x = ap (λ (z : Group). unsealed q z) here ∙ heard_unsealed from view sealed x q st.stands.copies home (home_of_peer g c s st q of) in
            record { good = λ e. subst (λ es. HasJobs es (tasks_of q c)) (sym same) ((st.jobs q of).good e); other = (st.jobs q of).other };
      };
    }

haves_come : (g : ℕ) (c : Core) (s : Copies Entry) (st : IsInStep g c s) (shard from to view sealed : ℕ) → IsOf c.members.shape shard from
    → (shard ≡ g → IsAmong (message.Have shard from to view sealed) st.sent) → Goes g (take_have shard from to view sealed c) s
haves_come g c s st shard from to view sealed own among = go (is_good_status (status_of to c))
  where
    raised : Goes g (change_group shard (on_have from view sealed) c) s
    raised = elim (cases_eq shard g) [
      | inl same ↦ rw same (hears_here g c s st shard from to view sealed (rw same at own) (among same))
      | inr ne ↦ moves_beside g c (change_group shard (on_have from view sealed) c) (group_beside g shard (on_have from view sealed) c (λ i. ne (sym i)) (heard_kept from view sealed (group_of shard c))) s st
    ]

    go : (b : Bool) → Goes g (change_if b (λ core. commit shard (change_group shard (on_have from view sealed) core)) c) s
    go true =
        let a : Core = change_group shard (on_have from view sealed) c in
        goes_then g a (commit shard a) s raised (keeps_commits (steps_move g) shard a)
    go false = moves_same g c s st

-- ---- messages

handles : (g : ℕ) (m : Message) (c : Core) (s : Copies Entry) (st : IsInStep g c s) → IsWithin c.members.shape m → IsUnderWay g st.sent m → Goes g (handle m c) s
handles g (message.Copy shard to view number entry) c s st own among = copies_come g c s st shard to view number entry own among
handles g (message.Have shard from to view sealed) c s st own among = haves_come g c s st shard from to view sealed own among
handles g (message.Round from to epoch round total deltas) c s st own among =
    keeps_if (steps_move g) (is_new_round to from epoch round c) (propose_entry to (kind.Got from epoch round total deltas)) c (λ x. proposes g to (kind.Got from epoch round total deltas) x (λ view. refl)) s st

pub delivers : (g number : ℕ) (m : Message) (c : Core) → message_at number c.pool ≡ Some m → Moves g c (deliver number m c)
delivers g number m c at s st =
    handles g m (change_pool (without number) c) s (thinned g c s (without number c.pool) (taken_out number c.pool) st)
    (message_has (IsWithin c.members.shape) number c.pool m at st.seated.within) (message_has (IsUnderWay g st.sent) number c.pool m at st.under_way)

sends_again : (g line number : ℕ) (m : Message) (c : Core) → message_at number c.pool ≡ Some m → Moves g c (send_again line m c)
sends_again g line number m c at s st = go (is_full c.pool)
  where
    once_more : Goes g (post (m ∷ []) c) s
    once_more =
        let own = message_has (IsWithin c.members.shape) number c.pool m at st.seated.within in
        let among = message_has (IsUnderWay g st.sent) number c.pool m at st.under_way in
        record {
          events = [];
          allowed = tt;
          stays = same_stays s;
          keeps = record {
            seated = seated_post (m ∷ []) c (All-cons (IsWithin c.members.shape) m [] own (All-nil (IsWithin c.members.shape))) st.seated;
            here = st.here;
            sent = st.sent;
            stands = st.stands;
            under_way = posted (IsUnderWay g st.sent) (m ∷ []) c.pool (All-cons (IsUnderWay g st.sent) m [] among (All-nil (IsUnderWay g st.sent))) st.under_way;
            jobs = λ p of. record { good = (st.jobs p of).good; other = (st.jobs p of).other };
          };
        }

    go : (b : Bool) → Goes g (if b then refuse line (reply.PoolFull c.pool.limit) c else post (m ∷ []) c) s
    go true = moves_quiet g c _ (record { members = refl; groups = refl; tasks = refl; rejoins = refl; pool = refl }) s st
    go false = once_more

pub refuses : (g line : ℕ) (c : Core) (refusal : Reply) → Moves g c (refuse line refusal c)
refuses g line c refusal = moves_quiet g c _ (record { members = refl; groups = refl; tasks = refl; rejoins = refl; pool = refl })

-- ---- lines of messages

pub delivered : (g line number : ℕ) (c : Core) → Moves g c (with_message line number (deliver number) c)
delivered g line number c = message_by line number (deliver number) c (Moves g c) (refuses g line c) (λ m at. delivers g number m c at)

pub lost : (g line number : ℕ) (c : Core) → Moves g c (with_message line number (lose number) c)
lost g line number c = message_by line number (lose number) c (Moves g c) (refuses g line c) (λ m at. moves_thinned g c (without number c.pool) (taken_out number c.pool))

pub repeated : (g line number : ℕ) (c : Core) → Moves g c (with_message line number (send_again line) c)
repeated g line number c = message_by line number (send_again line) c (Moves g c) (refuses g line c) (λ m at. sends_again g line number m c at)
