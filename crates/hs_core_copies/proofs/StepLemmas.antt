-- What operations and entries that take effect do is events of the machine of a shard's copies.
use Rattle.std.proofs.Common.{◌≡◌, ◌≢◌, ◌∙◌, ap, sym, subst, refl, inl, inr, arith, ℕ, ◌+◌, ◌*◌, ◌<◌, ◌≤◌, true, List, [], ◌∷◌, ◌++◌, Option, Some, None, length}
use Rattle.std.proofs.lemmas.Bool.{cases_eq}
use Rattle.std.specs.List.{All}
use Rattle.std.specs.Map.{values_of}
use Rattle.hs_awaiting.specs.Words.{change_with}
use Rattle.hs_copies.proofs.CallLemmas.{proposed, took_effect}
use Rattle.hs_copies.proofs.CoreLemmas.{last_is_leads}
use Rattle.hs_copies.proofs.QuietLemmas.{Quietly}
use Rattle.hs_copies.proofs.StandLemmas.{HasLead, good_peer, length_is, stands_lead}
use Rattle.hs_copies.proofs.StatusLemmas.{home_peer}
use Rattle.hs_copies.specs.CoreCopies.{core_commit, core_propose}
use Rattle.hs_copies.specs.Machine.{Copies, after_events}
use Rattle.hs_copies.specs.Standing.{TellsNoView}
use Rattle.hs_core_words.specs.declared.task.Task.{Task}
use Rattle.hs_core_words.specs.Changing.{add_entry_tasks, add_task, change_group, post}
use Rattle.hs_core_words.specs.Effects.{round_messages}
use Rattle.hs_core_words.specs.Looking.{group_of, lead_of, status_of, tasks_of}
use Rattle.hs_core_words.specs.Operating.{add_read, propose_entry}
use Rattle.hs_core_words.specs.State.{Core}
use Rattle.hs_desk.specs.declared.job.Job.TheVariants as job
use Rattle.hs_entry.specs.declared.entry.Entry.{Entry}
use Rattle.hs_limits.specs.declared.limits.PeerStatus.TheVariants.{Good}
use Rattle.hs_members.specs.Members.{is_good_status}
use Rattle.hs_replica.specs.declared.replica.Replica.{Replica}
use Rattle.hs_replica.specs.Group.{Group, IsHome, copy_of, last_number, lead, length_of, proposal, propose, take_committed}
use Rattle.hs_shard.specs.declared.effect.Sent.{Sent}
use Rattle.hs_core_copies.proofs.GoingLemmas.{Goes, Moves, moves_both, moves_same}
use Rattle.hs_core_copies.proofs.BesideLemmas.{Besides, IsBeside, besides_both, group_beside, home_of_peer, moves_beside, moves_quiet, posts_beside, seated_post, tasks_beside}
use Rattle.hs_core_copies.proofs.JobLemmas.{IsTakenAt, jobs_with_read, proposed_at, takes_jobs}
use Rattle.hs_core_copies.proofs.LeadLemmas.{IsGoodLead, good_as_told, lead_is, same_lead}
use Rattle.hs_core_copies.proofs.LikeLemmas.{like_stands}
use Rattle.hs_core_copies.proofs.PlaceLemmas.{IsKept, committed_copies, committed_kept, group_here, proposed_kept, seated_group, seated_tasks, tasks_other}
use Rattle.hs_core_copies.proofs.PostLemmas.{posted, proposal_beside, proposal_within, rounds_beside, rounds_within, under_way_more, under_way_now}
use Rattle.hs_core_copies.proofs.UnsealedLemmas.{IsHeld, committed_unsealed, held_by}
use Rattle.hs_core_copies.proofs.WalkLemmas.{StepLeaves}
use Rattle.hs_core_copies.specs.InStep.{IsInStep, IsOf, IsSeated, IsUnderWay, IsWithin, copies_in, no_line}
use Rattle.hs_core_copies.specs.Jobs.{HasJobs, unsealed}

-- ---- what follows for a shard in step

module _ (g : ℕ) (c : Core) (s : Copies Entry) (st : IsInStep g c s) where
  pub has_group : g < length c.groups
  has_group = omega (arith, st.here, st.seated.groups)

  -- its lead is that of its group
  pub lead_in_step : lead_of g c ≡ lead (group_of g c)
  lead_in_step =
      same_lead g (group_of g c) c.members st.stands.shape (st.seated.placed g).same_shard st.stands.copies
      (λ p h. good_as_told (copies_in g st.sent c) s st.stands p h)

  -- a good peer has no more sealed than its list has
  pub sealed_within : (p : ℕ) → IsHome (group_of g c) p → status_of p c ≡ Good → (copy_of (group_of g c) p).sealed ≤ length_of (group_of g c) p
  sealed_within p h good =
      let is_good : (copy_of (group_of g c) p).good ≡ true = good_as_told (copies_in g st.sent c) s st.stands p h ∙ ap is_good_status good in
      let stage = good_peer (copies_in g st.sent c) s st.stands p h is_good in
      omega (arith, (st.stands.peers.each p h).sealed, (st.stands.faithful.good p stage).held, length_is (copies_in g st.sent c) s st.stands p h)

  -- and what took effect is sealed
  pub held_in_step : (p : ℕ) → IsHome (group_of g c) p → status_of p c ≡ Good → IsHeld (group_of g c) p
  held_in_step p h good = held_by (copies_in g st.sent c) s st.stands p h (good_as_told (copies_in g st.sent c) s st.stands p h ∙ ap is_good_status good)

  -- its peers are peers of the store
  pub has_peer : (p : ℕ) → IsHome (group_of g c) p → p < c.members.shape.shards * c.members.shape.copies
  has_peer p h = rw st.stands.shape (home_peer (group_of g c) p st.stands.shard h)

  pub has_tasks : (p : ℕ) → IsHome (group_of g c) p → p < length c.tasks
  has_tasks p h = rw st.seated.tasks (has_peer p h)

-- ---- an entry is proposed

module _ (g : ℕ) (c : Core) (s : Copies Entry) (st : IsInStep g c s) (entry : Entry) (plain : TellsNoView entry) where
  led : HasLead (copies_in g st.sent c) s
  led = stands_lead (copies_in g st.sent c) s st.stands

  proposes_with : (d : ℕ) → lead (group_of g c) ≡ Some d → IsHome (group_of g c) d → status_of d c ≡ Good
      → Goes g (add_entry_tasks d (last_number (group_of g c) + 1) entry (post (proposal entry (group_of g c)) (change_group g (propose entry) c))) s
  proposes_with d e home good =
      let x : Group = group_of g c in
      let a : Core = post (proposal entry x) (change_group g (propose entry) c) in
      let b : Core = add_entry_tasks d (last_number x + 1) entry a in
      let k : Quietly no_line (core_propose entry (copies_in g st.sent c)) s =
      proposed (copies_in g st.sent c) s st.stands entry plain (λ line f. let wrong : None ≡ Some line = f in absurd (cc wrong)) in
      let own = (st.seated.placed g).same_shape in
      let few = (st.seated.placed g).few in
      let within : All (IsWithin c.members.shape) (proposal entry x) = proposal_within c.members.shape x own few entry in
      let here : group_of g a ≡ propose entry x = group_here g (propose entry) c (has_group g c s st) in
      let number : length_of x d ≡ last_number x = sym (last_is_leads (copies_in g st.sent c) s st.stands d e) in
      let taken : IsTakenAt d (last_number x + 1) entry x (propose entry x) =
      subst (λ (k : ℕ). IsTakenAt d (k + 1) entry x (propose entry x)) number (proposed_at d entry x e st.stands.copies home (held_in_step g c s st d home good) number) in
      record {
        events = k.events;
        allowed = k.allowed;
        stays = k.stays;
        keeps = record {
          seated = seated_tasks d _ _ (seated_tasks d _ _ (seated_post (proposal entry x) (change_group g (propose entry) c) within (seated_group g (propose entry) c (proposed_kept entry x) st.seated)));
          here = st.here;
          sent = proposal entry x ++ st.sent;
          stands = like_stands (core_propose entry (copies_in g st.sent c)) (copies_in g (proposal entry x ++ st.sent) b) (after_events s k.events)
              (record { group = here; shape = refl; valid = st.stands.members; view = refl; statuses = λ p h. refl; empties = λ p h j. refl; counts = λ p h j. refl; sent = λ m h. h }) k.stands;
          under_way = posted (IsUnderWay g (proposal entry x ++ st.sent)) (proposal entry x) c.pool (under_way_now g (proposal entry x) st.sent) (under_way_more g (proposal entry x) st.sent (values_of c.pool.messages) st.under_way);
          jobs = λ q of.
              takes_jobs g c a d (last_number x + 1) entry refl refl (has_tasks g c s st d home) good (rw here taken)
              (λ r h k. held_in_step g c s st r h k) q (home_of_peer g c s st q of) (st.jobs q of);
        };
      }

  pub proposes_here : Goes g (propose_entry g entry c) s
  proposes_here =
      let d = led in
      let e : lead_of g c ≡ Some d.peer = lead_in_step g c s st ∙ d.is in
      let good : status_of d.peer c ≡ Good = (lead_is g c d.peer (st.seated.placed g).few e).good in
      rw e (proposes_with d.peer d.is d.leads.home good)

-- at another shard
pub proposes_apart : (g x : ℕ) (entry : Entry) (c : Core) → g ≢ x → Besides g c (propose_entry x entry c)
proposes_apart g x entry c ne st = go (lead_of x c) refl
  where
    apart : (group_of x c).shard ≢ g
    apart e = ne (sym e ∙ (st.placed x).same_shard)

    posts : Besides g c (post (proposal entry (group_of x c)) (change_group x (propose entry) c))
    posts =
        besides_both g c (change_group x (propose entry) c) (post (proposal entry (group_of x c)) (change_group x (propose entry) c))
        (group_beside g x (propose entry) c ne (proposed_kept entry (group_of x c)))
        (posts_beside g (change_group x (propose entry) c) (proposal entry (group_of x c)) (proposal_beside (group_of x c) g apart entry) (proposal_within c.members.shape (group_of x c) (st.placed x).same_shape (st.placed x).few entry))

    given : (l n : ℕ) (b : Core) → (IsOf b.members.shape g l → ⊥) → Besides g b (add_entry_tasks l n entry b)
    given l n b far =
        let t : Task = record { job = job.Append n entry; line = 0 } in
        let u : Task = record { job = job.Seal n; line = 0 } in
        besides_both g b (add_task l t b) (add_task l u (add_task l t b))
        (tasks_beside g l (tasks_of l b ++ t ∷ []) b far)
        (tasks_beside g l (tasks_of l (add_task l t b) ++ u ∷ []) (add_task l t b) far)

    go : (o : Option ℕ) → lead_of x c ≡ o → IsBeside g c (propose_entry x entry c)
    go None e = rw e (posts st)
    go (Some l) e =
        let d : IsGoodLead c.members.shape x c.members l = lead_is x c l (st.placed x).few e in
        let b : Core = post (proposal entry (group_of x c)) (change_group x (propose entry) c) in
        rw e (besides_both g c b (add_entry_tasks l (last_number (group_of x c) + 1) entry b) posts
        (given l (last_number (group_of x c) + 1) b (λ own. ne (sym own ∙ d.own))) st)

pub proposes : (g x : ℕ) (entry : Entry) (c : Core) → TellsNoView entry → Moves g c (propose_entry x entry c)
proposes g x entry c plain s st = elim (cases_eq x g) [
  | inl e ↦ rw e (proposes_here g c s st entry plain)
  | inr n ↦ moves_beside g c (propose_entry x entry c) (proposes_apart g x entry c (λ e. n (sym e))) s st
]

-- ---- an entry takes effect

commits_here : (g : ℕ) (c : Core) → Moves g c (change_group g take_committed c)
commits_here g c s st =
    let x : Group = group_of g c in
    let b : Core = change_group g take_committed c in
    let k : Quietly no_line (core_commit (copies_in g st.sent c)) s = took_effect (copies_in g st.sent c) s st.stands in
    let here : group_of g b ≡ take_committed x = group_here g take_committed c (has_group g c s st) in
    let keep : IsKept x (take_committed x) = committed_kept x in
    record {
      events = k.events;
      allowed = k.allowed;
      stays = k.stays;
      keeps = record {
        seated = seated_group g take_committed c keep st.seated;
        here = st.here;
        sent = st.sent;
        stands = like_stands (core_commit (copies_in g st.sent c)) (copies_in g st.sent b) (after_events s k.events)
            (record { group = here; shape = refl; valid = st.stands.members; view = refl; statuses = λ p h. refl; empties = λ p h j. refl; counts = λ p h j. refl; sent = λ m h. h }) k.stands;
        under_way = st.under_way;
        jobs = λ q of. record {
          good = λ e.
              let h : IsHome x q = home_of_peer g c s st q of in
              let good : (copy_of (take_committed x) q).good ≡ true =
              ap (λ (r : Replica). r.good) (same_copy (take_committed x) x q keep.shape keep.shard (committed_copies x)) ∙ good_as_told (copies_in g st.sent c) s st.stands q h ∙ ap is_good_status e in
              let held : IsHeld (take_committed x) q = held_by (core_commit (copies_in g st.sent c)) (after_events s k.events) k.stands q (kept_home x (take_committed x) q keep h) good in
              subst (λ es. HasJobs es (tasks_of q c)) (sym (ap (λ (z : Group). unsealed q z) here ∙ committed_unsealed x q held)) ((st.jobs q of).good e);
          other = (st.jobs q of).other;
        };
      };
    }
  where
    same_copy : (y z : Group) (p : ℕ) → y.shape ≡ z.shape → y.shard ≡ z.shard → y.copies ≡ z.copies → copy_of y p ≡ copy_of z p
    same_copy y z p a b e = rw (a, b, e) refl

    kept_home : (y z : Group) (p : ℕ) → IsKept y z → IsHome y p → IsHome z p
    kept_home y z p k h = rw (k.shape, k.shard) h

pub commits : (g x : ℕ) (c : Core) → Moves g c (change_group x take_committed c)
commits g x c = elim (cases_eq x g) [
  | inl e ↦ rw e (commits_here g c)
  | inr n ↦ moves_beside g c (change_group x take_committed c) (group_beside g x take_committed c (λ e. n (sym e)) (committed_kept (group_of x c)))
]

-- ---- a Read, and Rounds

read_beside : (g l number line : ℕ) (c : Core) → status_of l c ≡ Good → IsSeated c → IsBeside g c (add_read number line l c)
read_beside g l number line c good st = record {
  seated = seated_tasks l _ c st;
  shape = refl;
  valid = λ k. k;
  view = refl;
  statuses = λ p of. refl;
  group = refl;
  empties = λ p of j. refl;
  counts = λ p of j. refl;
  pool = λ sent k. k;
  jobs = λ p of k. elim (cases_eq p l) [
    | inl e ↦ record { good = λ i. rw e (jobs_with_read l number line (unsealed l (group_of g c)) c (rw e at (k.good i))); other = λ i. absurd (i (rw e good)) }
    | inr n ↦
        let same : tasks_of p (add_read number line l c) ≡ tasks_of p c = tasks_other l p _ c n in
        record { good = λ i. rw same (k.good i); other = λ i. same ∙ k.other i }
  ];
}

pub reads : (g x number line : ℕ) (c : Core) → Moves g c (change_with (lead_of x c) (add_read number line) c)
reads g x number line c s st = go (lead_of x c) refl
  where
    go : (o : Option ℕ) → lead_of x c ≡ o → Goes g (change_with (lead_of x c) (add_read number line) c) s
    go None e = rw e (moves_same g c s st)
    go (Some l) e = rw e (moves_beside g c (add_read number line l c) (read_beside g l number line c (lead_is x c l (st.seated.placed x).few e).good) s st)

pub sends : (g x : ℕ) (sent : List Sent) (c : Core) → Moves g c (post (round_messages x sent) c)
sends g x sent c = moves_beside g c (post (round_messages x sent) c) (posts_beside g c (round_messages x sent) (rounds_beside g x sent) (rounds_within c.members.shape x sent))

-- ---- all of them

pub steps_move : (g : ℕ) → StepLeaves (Moves g)
steps_move g = record {
  same = moves_same g;
  both = moves_both g;
  catalogue = λ x y c. moves_quiet g c _ (record { members = refl; groups = refl; tasks = refl; rejoins = refl; pool = refl });
  viewed = λ x y c. moves_quiet g c _ (record { members = refl; groups = refl; tasks = refl; rejoins = refl; pool = refl });
  operations = λ x c. moves_quiet g c _ (record { members = refl; groups = refl; tasks = refl; rejoins = refl; pool = refl });
  sessions = λ x c. moves_quiet g c _ (record { members = refl; groups = refl; tasks = refl; rejoins = refl; pool = refl });
  noted = λ of did told c. moves_quiet g c _ (record { members = refl; groups = refl; tasks = refl; rejoins = refl; pool = refl });
  proposes = λ x entry c plain. proposes g x entry c plain.0;
  reads = reads g;
  sends = sends g;
  commits = commits g;
}
