-- A message that comes: some peer has a job by it, or more is known of one, or nothing changes but that it is gone.
use Rattle.hs_limits.specs.declared.shape.Shape.{Shape}
use Rattle.hs_core_copies.proofs.ReportLemmas.{same_number}
use Rattle.hs_quiet.proofs.FineLemmas.{same_group}
use Rattle.hs_limits.specs.Shape.{peer_of}
use Rattle.hs_core_copies.proofs.LeadLemmas.{good_only}
use Rattle.hs_rejoin.specs.Rejoin.{follow}
use Rattle.std.proofs.Common.{◌≡◌, ◌∙◌, ◌⊎◌, inl, inr, sym, ap, subst, ℕ, ◌+◌, ◌-◌, ◌*◌, ◌<◌, ◌≤◌, ◌==◌, ◌&&◌, Bool, true, false, List, [], ◌∷◌, ◌++◌, Option, Some, None, refl, arith, length, max, slice_get, slice_index_or, if◌then◌else◌}
use Rattle.std.proofs.lemmas.Bool.{cases_lt}
use Rattle.std.proofs.lemmas.List.{set-get_or, length-set}
use Rattle.std.specs.Option.{option_map}
use Rattle.std.specs.Prelude.{slice_set}
use Rattle.hs_awaiting.specs.Words.{change_if, change_with, each, times}
use Rattle.hs_copies.proofs.StandLemmas.{and_right}
use Rattle.hs_core_words.specs.Changing.{add_entry_tasks, change_group, change_pool, post, set_tasks, change_rejoin}
use Rattle.hs_core_words.specs.declared.task.Task.{Task}
use Rattle.hs_core_words.specs.Delivering.{handle, is_new_round, take_copy}
use Rattle.hs_core_words.specs.Effects.{commit, commit_next}
use Rattle.hs_core_words.specs.Joining.{follow_lead, joining_peers}
use Rattle.hs_core_words.specs.Looking.{front_of, group_of, home, known_of, lead_of, shape_of, status_of, tasks_of, copying_step}
use Rattle.hs_core_words.specs.Operating.{add_read, propose_entry}
use Rattle.hs_core_words.specs.State.{Core}
use Rattle.hs_core_copies.proofs.DeliverLemmas.{message_has}
use Rattle.hs_core_copies.proofs.PlaceLemmas.{committed_copies, group_here, tasks_here, committed_kept}
use Rattle.hs_core_copies.proofs.WalkLemmas.{StepLeaves, keeps_commits}
use Rattle.hs_core_copies.specs.InStep.{IsWithin}
use Rattle.hs_desk.specs.declared.job.Job.{Job}
use Rattle.hs_desk.specs.declared.job.Job.TheVariants as job
use Rattle.hs_entry.specs.declared.entry.Entry.{Entry}
use Rattle.hs_entry.specs.declared.entry.Entry.TheVariants as kind
use Rattle.hs_limits.specs.declared.delta.Delta.{Delta}
use Rattle.hs_limits.specs.declared.limits.PeerStatus.TheVariants.{Down, Good}
use Rattle.hs_members.specs.Members.{home_of, is_good_status, is_joining, status, Members}
use Rattle.hs_post.specs.declared.message.Message.{Message}
use Rattle.hs_post.specs.declared.message.Message.TheVariants as message
use Rattle.hs_post.specs.Pool.{message_at, without}
use Rattle.hs_replica.specs.declared.replica.Replica.{Replica}
use Rattle.hs_replica.specs.Group.{Group, change_copy, commit_front, copy_of, first_peer, hears, last_number, lead_takes, no_copy, on_have, propose, proposal, take_committed, take_entry, takes, stamp, lead, new_group}
use Rattle.hs_quiet.specs.Keeping.{AreInStep, IsForGood, KeepsUp}
use Rattle.hs_quiet.proofs.CopyLemmas.{changed_at, copy_at, group_cases, past}
use Rattle.hs_quiet.proofs.StartLemmas.{copy_good, knows_here, lead_here, low_home, low_peer, seated_all, good_lead, past_of}
use Rattle.hs_quiet.proofs.StillLemmas.{Busy, IsSpent, IsStill}

-- ---- a good peer with a job more

some_first : (ts : List Task) (t : Task) (more : List Task) → (x : Task) × (slice_get (ts ++ t ∷ more) 0 ≡ Some x)
some_first [] t more = (t, refl)
some_first (y ∷ ts) t more = (y, refl)

-- one whose jobs are some is busy
busy_with : (p : ℕ) (c : Core) → status_of p c ≡ Good → (x : Task) → slice_get (tasks_of p c) 0 ≡ Some x → Busy c
busy_with p c good x at = record {
  peer = p;
  job = x.job;
  is = ap (option_map (λ (t : Task). t.job)) (ap (λ k. if is_joining k then option_map (λ (j : Job). record { job = j; line = 0 }) (copying_step p c) else slice_get (tasks_of p c) 0) good ∙ at);
}

pub busy_tasks : (p number : ℕ) (entry : Entry) (c : Core) → p < length c.tasks → status_of p c ≡ Good → Busy (add_entry_tasks p number entry c)
busy_tasks p number entry c low good =
    let t : Task = record { job = job.Append number entry; line = 0 } in
    let u : Task = record { job = job.Seal number; line = 0 } in
    let a : Core = set_tasks p (tasks_of p c ++ t ∷ []) c in
    let one : tasks_of p a ≡ tasks_of p c ++ t ∷ [] = tasks_here p (tasks_of p c ++ t ∷ []) c low in
    let two : tasks_of p (add_entry_tasks p number entry c) ≡ tasks_of p a ++ u ∷ [] = tasks_here p (tasks_of p a ++ u ∷ []) a (let n = length-set c.tasks p (tasks_of p c ++ t ∷ []) in omega (arith, n, low)) in
    let first = some_first (tasks_of p a) u [] in
    busy_with p (add_entry_tasks p number entry c) good first.0 (ap (λ (ts : List Task). slice_get ts 0) two ∙ first.1)

-- what is sent, and who is followed, takes no job
busy_as : (a b : Core) → b.members ≡ a.members → b.groups ≡ a.groups → b.tasks ≡ a.tasks → b.progress.rejoins ≡ a.progress.rejoins → Busy a → Busy b
busy_as a b m gs ts rs busy = record { peer = busy.peer; job = busy.job; is = rw (m, gs, ts, rs) busy.is }

-- a good peer's job stays where others follow
follow_jobs : (x : ℕ) (c : Core) (p : ℕ) → status_of p c ≡ Good → (t : Task) → slice_get (tasks_of p c) 0 ≡ Some t → Busy (follow_lead x c)
follow_jobs x c p good t at = busy_with p (follow_lead x c) (ap (λ m. status p m) (followed x c).0 ∙ good) t (ap (λ ts. slice_get (slice_index_or ts p []) 0) (followed x c).1 ∙ at)
  where
    each_same : (l : ℕ) (qs : List ℕ) (y : Core) → ((each qs (λ peer. change_rejoin peer (follow l)) y).members ≡ y.members) × ((each qs (λ peer. change_rejoin peer (follow l)) y).tasks ≡ y.tasks)
    each_same l [] y = (refl, refl)
    each_same l (q ∷ qs) y = each_same l qs (change_rejoin q (follow l) y)

    followed : (x : ℕ) (c : Core) → ((follow_lead x c).members ≡ c.members) × ((follow_lead x c).tasks ≡ c.tasks)
    followed x c = go (lead_of x c)
      where
        go : (o : Option ℕ) → ((change_with o (λ lead core. each (joining_peers x core) (λ peer. change_rejoin peer (follow lead)) core) c).members ≡ c.members)
            × ((change_with o (λ lead core. each (joining_peers x core) (λ peer. change_rejoin peer (follow lead)) core) c).tasks ≡ c.tasks)
        go None = (refl, refl)
        go (Some l) = each_same l (joining_peers x c) c

-- an entry is proposed in a shard that has a lead
pub busy_propose : (x : ℕ) (entry : Entry) (c : Core) (l : ℕ) → lead_of x c ≡ Some l → l < length c.tasks → status_of l c ≡ Good → Busy (propose_entry x entry c)
busy_propose x entry c l led low good =
    let a : Core = post (proposal entry (group_of x c)) (change_group x (propose entry) c) in
    subst (λ o. Busy (change_with o (λ peer. add_entry_tasks peer (last_number (group_of x c) + 1) entry) a)) (sym led) (busy_tasks l (last_number (group_of x c) + 1) entry a low good)

-- ---- what is known never falls

record Knows (a b : Core) : Type 0 where
  pub shape : b.members.shape ≡ a.members.shape
  pub first : (g : ℕ) → first_peer (group_of g b) ≡ first_peer (group_of g a)
  pub known : (g i : ℕ) → (copy_at i (group_of g a)).known ≤ (copy_at i (group_of g b)).known

knows_same : (a b : Core) → b.members ≡ a.members → b.groups ≡ a.groups → Knows a b
knows_same a b m gs = record {
  shape = ap (λ (x : Members). x.shape) m;
  first = λ g. ap first_peer (same_group g a b m gs);
  known = λ g i. (let e = ap (λ (y : Group). (copy_at i y).known) (same_group g a b m gs) in omega (arith, e));
}

knows_group : (x : ℕ) (f : Group → Group) (c : Core) → first_peer (f (group_of x c)) ≡ first_peer (group_of x c) → ((i : ℕ) → (copy_at i (group_of x c)).known ≤ (copy_at i (f (group_of x c))).known) → Knows c (change_group x f c)
knows_group x f c first h = record {
  shape = refl;
  first = λ g. elim (group_cases x f c g) [
    | inl same ↦ ap first_peer same
    | inr is ↦ ap first_peer is.1 ∙ first ∙ ap (λ k. first_peer (group_of k c)) (sym is.0)
  ];
  known = λ g i. elim (group_cases x f c g) [
    | inl same ↦ (let e = ap (λ (y : Group). (copy_at i y).known) same in omega (arith, e))
    | inr is ↦ (let e = ap (λ (y : Group). (copy_at i y).known) is.1 in let d = ap (λ k. (copy_at i (group_of k c)).known) is.0 in let n = h i in omega (arith, e, d, n))
  ];
}

knows_both : (a b c : Core) → Knows a b → Knows b c → Knows a c
knows_both a b c x y = record {
  shape = y.shape ∙ x.shape;
  first = λ g. y.first g ∙ x.first g;
  known = λ g i. (let n = x.known g i in let m = y.known g i in omega (arith, n, m));
}

takes_first : (o : Option ℕ) (entry : Entry) (x : Group) → first_peer (lead_takes o entry x) ≡ first_peer x
takes_first None entry x = refl
takes_first (Some l) entry x = refl

takes_known : (o : Option ℕ) (entry : Entry) (x : Group) (i : ℕ) → (copy_at i x).known ≤ (copy_at i (lead_takes o entry x)).known
takes_known None entry x i = omega arith
takes_known (Some l) entry x i = elim (changed_at x l (λ r. record r { stamps = stamp entry r.stamps }) i) [
  | inl same ↦ (let e = ap (λ (r : Replica). r.known) same.0 in omega (arith, e))
  | inr is ↦ (let e = ap (λ (r : Replica). r.known) is.1 in let d = ap (λ k. (copy_at k x).known) is.0 in omega (arith, e, d))
]

propose_knows : (x : ℕ) (entry : Entry) (c : Core) → Knows c (propose_entry x entry c)
propose_knows x entry c = go (lead_of x c)
  where
    first : Knows c (change_group x (propose entry) c)
    first = knows_group x (propose entry) c (takes_first (lead (group_of x c)) entry (group_of x c)) (λ i. takes_known (lead (group_of x c)) entry (group_of x c) i)

    go : (o : Option ℕ) → Knows c (change_with o (λ peer. add_entry_tasks peer (last_number (group_of x c) + 1) entry) (post (proposal entry (group_of x c)) (change_group x (propose entry) c)))
    go None = knows_both c (change_group x (propose entry) c) _ first (knows_same (change_group x (propose entry) c) _ refl refl)
    go (Some l) = knows_both c (change_group x (propose entry) c) _ first (knows_same (change_group x (propose entry) c) _ refl refl)

reads_known : (o : Option ℕ) (number line : ℕ) (c : Core) → Knows c (change_with o (add_read number line) c)
reads_known None number line c = knows_same c c refl refl
reads_known (Some l) number line c = knows_same c (add_read number line l c) refl refl

commit_first : (x : Group) → first_peer (take_committed x) ≡ first_peer x
commit_first x = let k = committed_kept x in ap (λ s. peer_of s (take_committed x).shard 0) k.shape ∙ ap (λ g. peer_of x.shape g 0) k.shard

steps_know : StepLeaves Knows
steps_know = record {
  same = λ c. knows_same c c refl refl;
  both = knows_both;
  catalogue = λ x y c. knows_same c _ refl refl;
  viewed = λ x y c. knows_same c _ refl refl;
  operations = λ x c. knows_same c _ refl refl;
  sessions = λ x c. knows_same c _ refl refl;
  noted = λ of did told c. knows_same c _ refl refl;
  proposes = λ x entry c plain. propose_knows x entry c;
  reads = λ x number line c. reads_known (lead_of x c) number line c;
  sends = λ x sent c. knows_same c _ refl refl;
  commits = λ x c. knows_group x take_committed c (commit_first (group_of x c)) (λ i. (let e = ap (λ (cs : List Replica). (slice_index_or cs i no_copy).known) (committed_copies (group_of x c)) in omega (arith, e)));
}

-- ---- a message comes

module _ (c : Core) (all : AreInStep c) (up : KeepsUp c) (fronts : (g : ℕ) → g < c.members.shape.shards → front_of g c ≡ commit_front (group_of g c))
    (low_rounds : (number from to epoch round total : ℕ) (deltas : List Delta) → message_at number c.pool ≡ Some (message.Round from to epoch round total deltas) → to < c.members.shape.shards) where
  -- more is known of some peer
  pub record Raised (b : Core) : Type 0 where
    pub peer : ℕ
    pub low : peer < c.members.shape.shards * c.members.shape.copies
    pub more : known_of peer c < known_of peer b

  -- some peer has a job, or more is known of one, or nothing changes but that the message is gone, which has nothing new
  pub record Gone (m : Message) (number : ℕ) (b : Core) : Type 0 where
    pub still : IsStill c b
    pub spent : IsSpent b m
    pub pool : b.pool ≡ without number c.pool

  abbrev Comes : Message → ℕ → Core → Type 0
  Comes m number b = Busy b ⊎ Raised b ⊎ Gone m number b

  gone : ℕ → Core
  gone number = change_pool (without number) c

  low_tasks : (p : ℕ) → status_of p c ≡ Good → p < length c.tasks
  low_tasks p good =
      let n = (seated_all c all).tasks in
      let low = low_peer c all p (λ d. let wrong : Good ≡ Down = sym good ∙ d in cc wrong) in
      omega (arith, n, low)

  copy_comes : (number shard to view next : ℕ) (entry : Entry) → message_at number c.pool ≡ Some (message.Copy shard to view next entry) → Comes (message.Copy shard to view next entry) number (handle (message.Copy shard to view next entry) (change_pool (without number) c))
  copy_comes number shard to view next entry at = go (takes to view next (group_of shard c)) refl
    where
      good : status_of to c ≡ Good
      good = message_has (IsForGood c.members) number c.pool (message.Copy shard to view next entry) at up.receivers

      taken : Busy (take_copy shard to next entry (change_pool (without number) c))
      taken =
          let a : Core = change_group shard (take_entry to entry) (change_pool (without number) c) in
          let b : Core = add_entry_tasks to next entry a in
          let busy = busy_tasks to next entry a (low_tasks to good) good in
          let t : Task = record { job = job.Append next entry; line = 0 } in
          let u : Task = record { job = job.Seal next; line = 0 } in
          let a1 : Core = set_tasks to (tasks_of to a ++ t ∷ []) a in
          let one : tasks_of to a1 ≡ tasks_of to a ++ t ∷ [] = tasks_here to (tasks_of to a ++ t ∷ []) a (low_tasks to good) in
          let two : tasks_of to b ≡ tasks_of to a1 ++ u ∷ [] = tasks_here to (tasks_of to a1 ++ u ∷ []) a1 (let n = length-set a.tasks to (tasks_of to a ++ t ∷ []) in let l = low_tasks to good in omega (arith, n, l)) in
          let first = some_first (tasks_of to a1) u [] in
          follow_jobs shard b to good first.0 (ap (λ (ts : List Task). slice_get ts 0) two ∙ first.1)

      go : (t : Bool) → takes to view next (group_of shard c) ≡ t → Comes (message.Copy shard to view next entry) number (change_if t (take_copy shard to next entry) (change_pool (without number) c))
      go true e = inl taken
      go false e = inr (inr (record { still = record { members = refl; groups = refl; tasks = refl; rejoins = refl; catalogues = refl }; spent = e; pool = refl }))

  round_comes : (number from to epoch round total : ℕ) (deltas : List Delta) → message_at number c.pool ≡ Some (message.Round from to epoch round total deltas)
      → Comes (message.Round from to epoch round total deltas) number (handle (message.Round from to epoch round total deltas) (change_pool (without number) c))
  round_comes number from to epoch round total deltas at = go (is_new_round to from epoch round (change_pool (without number) c)) refl
    where
      t : (l : ℕ) × (lead (group_of to c) ≡ Some l) × (lead_of to c ≡ Some l)
      t = let k = all.each to (low_rounds number from to epoch round total deltas at) in lead_here to c k.0 k.1

      good : status_of t.0 c ≡ Good
      good = let k = all.each to (low_rounds number from to epoch round total deltas at) in (good_lead to c k.0 k.1 t.0 t.1).good

      go : (b : Bool) → is_new_round to from epoch round (change_pool (without number) c) ≡ b
          → Comes (message.Round from to epoch round total deltas) number (change_if b (propose_entry to (kind.Got from epoch round total deltas)) (change_pool (without number) c))
      go true e = inl (busy_propose to (kind.Got from epoch round total deltas) (change_pool (without number) c) t.0 t.2 (low_tasks t.0 good) good)
      go false e = inr (inr (record { still = record { members = refl; groups = refl; tasks = refl; rejoins = refl; catalogues = refl }; spent = e; pool = refl }))

  -- ---- a Have

  module _ (number shard from to view sealed : ℕ) (at : message_at number c.pool ≡ Some (message.Have shard from to view sealed)) where
    x : Group
    x = group_of shard c

    heard : Core
    heard = change_group shard (on_have from view sealed) (change_pool (without number) c)

    -- the sender is of the shard
    own : home from c ≡ shard
    own = message_has (IsWithin c.members.shape) number c.pool (message.Have shard from to view sealed) at (seated_all c all).within

    -- where nothing is heard nothing takes effect
    unheard : on_have from view sealed (group_of shard c) ≡ group_of shard c → IsSpent c (message.Have shard from to view sealed) → Gone (message.Have shard from to view sealed) number (commit shard (change_group shard (on_have from view sealed) (change_pool (without number) c)))
    unheard same spent = subst (λ (y : Core). Gone (message.Have shard from to view sealed) number y) (sym nothing) (record {
      still = record { members = refl; groups = groups_same; tasks = refl; rejoins = refl; catalogues = refl };
      spent = λ h g v s.
          let k = spent h g (v ∙ ap (λ (y : Group). y.view) here) (s ∙ ap (λ (y : Group). (copy_of y from).sealed) (at_home h)) in
          ap (λ (y : Group). (copy_of y from).known) (at_home h) ∙ k ∙ sym (ap (λ (y : Group). (copy_of y from).sealed) (at_home h));
      pool = refl;
    })
      where
        groups_same : (change_group shard (on_have from view sealed) (change_pool (without number) c)).groups ≡ c.groups
        groups_same = ap (λ (y : Group). slice_set c.groups shard y) same ∙ set-get_or c.groups shard (new_group (shape_of c) shard 0 0 [])

        here : group_of shard (change_group shard (on_have from view sealed) (change_pool (without number) c)) ≡ group_of shard c
        here = ap (λ gs. slice_index_or gs shard (new_group (shape_of c) shard 0 0 [])) groups_same

        at_home : home from c ≡ shard → group_of (home from c) (change_group shard (on_have from view sealed) (change_pool (without number) c)) ≡ group_of (home from c) c
        at_home h = ap (λ gs. slice_index_or gs (home from c) (new_group (shape_of c) (home from c) 0 0 [])) groups_same

        none : commit_front (group_of shard (change_group shard (on_have from view sealed) (change_pool (without number) c))) - front_of shard (change_group shard (on_have from view sealed) (change_pool (without number) c)) ≡ 0
        none = elim (cases_lt shard c.members.shape.shards) [
          | inl low ↦
              let a = ap commit_front here in
              let b = ap (λ (y : Group). y.front) here in
              let f = fronts shard low in
              omega (arith, a, b, f)
          | inr high ↦
              let past_group : group_of shard c ≡ new_group (shape_of c) shard 0 0 [] = past_of c.groups shard (new_group (shape_of c) shard 0 0 []) (let n = (seated_all c all).groups in omega (arith, n, high)) in
              let a = ap commit_front (here ∙ past_group) in
              omega (arith, a)
        ]

        nothing : commit shard (change_group shard (on_have from view sealed) (change_pool (without number) c)) ≡ change_group shard (on_have from view sealed) (change_pool (without number) c)
        nothing = ap (λ n. times n (commit_next shard) (change_group shard (on_have from view sealed) (change_pool (without number) c))) none

    good_to : status_of to c ≡ Good
    good_to = message_has (IsForGood c.members) number c.pool (message.Have shard from to view sealed) at up.receivers

    abbrev end : Core
    end = commit shard (change_group shard (on_have from view sealed) (change_pool (without number) c))

    -- what is heard
    module _ (e : hears from view (group_of shard c) ≡ true) where
      good : (copy_of (group_of shard c) from).good ≡ true
      good = and_right (view == (group_of shard c).view) (copy_of (group_of shard c) from).good e

      on : on_have from view sealed (group_of shard c) ≡ change_copy from (λ r. record r { known = max r.known sealed }) (group_of shard c)
      on = ap (λ b. if b then change_copy from (λ r. record r { known = max r.known sealed }) (group_of shard c) else group_of shard c) e

      low : shard < c.members.shape.shards
      low = elim (cases_lt shard c.members.shape.shards) [
        | inl k ↦ k
        | inr high ↦
            let none : group_of shard c ≡ new_group (shape_of c) shard 0 0 [] = past_of c.groups shard (new_group (shape_of c) shard 0 0 []) (let n = (seated_all c all).groups in omega (arith, n, high)) in
            let bad : (copy_of (group_of shard c) from).good ≡ false = ap (λ (y : Group). (copy_of y from).good) none ∙ ap (λ (r : Replica). r.good) (past [] (from - first_peer (new_group (shape_of c) shard 0 0 [])) (omega arith)) in
            let wrong : false ≡ true = sym bad ∙ good in
            absurd (cc wrong)
      ]

      good_from : status_of from c ≡ Good
      good_from = let t = all.each shard low in good_only (status_of from c) (sym ((knows_here shard c t.0 t.1).good from own) ∙ good)

      low_from : from < c.members.shape.shards * c.members.shape.copies
      low_from = low_peer c all from (λ d. let wrong : Good ≡ Down = sym good_from ∙ d in cc wrong)

      -- what is known of it rises, and does not fall behind
      risen : (copy_of (group_of shard c) from).known < sealed → known_of from c < known_of from end
      risen more =
          let a : Core = change_group shard (on_have from view sealed) (change_pool (without number) c) in
          let inside : shard < length c.groups = (let n = (seated_all c all).groups in omega (arith, n, low)) in
          let here : group_of shard a ≡ change_copy from (λ r. record r { known = max r.known sealed }) (group_of shard c) = group_here shard (on_have from view sealed) (change_pool (without number) c) inside ∙ on in
          let i : ℕ = from - first_peer (group_of shard c) in
          let now : (copy_at i (group_of shard a)).known ≡ max (copy_of (group_of shard c) from).known sealed = elim (changed_at (group_of shard c) from (λ r. record r { known = max r.known sealed }) i) [
            | inl same ↦ absurd (same.1 good refl)
            | inr is ↦ ap (λ (y : Group). (copy_at i y).known) here ∙ ap (λ (r : Replica). r.known) is.1
          ] in
          let after : Knows a end = keeps_commits steps_know shard a in
          let n = after.known shard i in
          let place : from - first_peer (group_of shard end) ≡ i = ap (λ k. from - k) (after.first shard ∙ ap first_peer here) in
          let at_end : known_of from end ≡ (copy_at i (group_of shard end)).known =
          ap (λ (s : Shape). (copy_of (group_of (home_of s from) end) from).known) after.shape ∙ ap (λ g. (copy_of (group_of g end) from).known) own ∙ ap (λ k. (copy_at k (group_of shard end)).known) place in
          let at_first : known_of from c ≡ (copy_of (group_of shard c) from).known = ap (λ g. (copy_of (group_of g c) from).known) own in
          omega (arith, more, now, n, at_end, at_first)

      by_known : Comes (message.Have shard from to view sealed) number end
      by_known = elim (cases_lt (copy_of (group_of shard c) from).known sealed) [
        | inl more ↦ inr (inl (record { peer = from; low = low_from; more = risen more }))
        | inr less ↦
            let kept : max (copy_of (group_of shard c) from).known sealed ≡ (copy_of (group_of shard c) from).known = omega (arith, less) in
            let same : on_have from view sealed (group_of shard c) ≡ group_of shard c =
            on ∙ ap (λ n. record (group_of shard c) { copies = slice_set (group_of shard c).copies (from - first_peer (group_of shard c)) (record (copy_of (group_of shard c) from) { known = n }) }) kept
            ∙ ap (λ cs. record (group_of shard c) { copies = cs }) (set-get_or (group_of shard c).copies (from - first_peer (group_of shard c)) no_copy) in
            inr (inr (unheard same (λ h g v s.
            let t = all.each shard low in
            let at_home : copy_of (group_of (home from c) c) from ≡ copy_of (group_of shard c) from = ap (λ k. copy_of (group_of k c) from) own in
            let known = ((knows_here shard c t.0 t.1).each from own good_from).known in
            let a = ap (λ (r : Replica). r.known) at_home in
            let b = ap (λ (r : Replica). r.sealed) at_home in
            omega (arith, less, s, known, a, b))))
      ]

    have_comes : Comes (message.Have shard from to view sealed) number (handle (message.Have shard from to view sealed) (change_pool (without number) c))
    have_comes = subst (λ b. Comes (message.Have shard from to view sealed) number (change_if b (λ core. commit shard (change_group shard (on_have from view sealed) core)) (change_pool (without number) c))) (sym (ap is_good_status good_to)) (by_hears (hears from view (group_of shard c)) refl)
      where
        by_hears : (b : Bool) → hears from view (group_of shard c) ≡ b → Comes (message.Have shard from to view sealed) number end
        by_hears true e = by_known e
        by_hears false e =
            inr (inr (unheard (ap (λ b. if b then change_copy from (λ r. record r { known = max r.known sealed }) (group_of shard c) else group_of shard c) e) (λ h g v s.
            let low_home_from : home from c < c.members.shape.shards = low_home c all from (low_peer c all from (λ d. let wrong : Good ≡ Down = sym g ∙ d in cc wrong)) in
            let t = all.each (home from c) low_home_from in
            let is_good : (copy_of (group_of shard c) from).good ≡ true = ap (λ k. (copy_of (group_of k c) from).good) (sym own) ∙ copy_good (home from c) c t.0 t.1 from refl g in
            let is_view : (view == (group_of shard c).view) ≡ true = ap (λ n. n == (group_of shard c).view) v ∙ same_number (group_of shard c).view in
            let wrong : true ≡ false = sym (λ i. is_view i && is_good i) ∙ e in
            absurd (cc wrong))))

  -- ---- any message

  pub message_comes : (number : ℕ) (m : Message) → message_at number c.pool ≡ Some m → Comes m number (handle m (change_pool (without number) c))
  message_comes number (message.Copy shard to view next entry) at = copy_comes number shard to view next entry at
  message_comes number (message.Have shard from to view sealed) at = have_comes number shard from to view sealed at
  message_comes number (message.Round from to epoch round total deltas) at = round_comes number from to epoch round total deltas at
