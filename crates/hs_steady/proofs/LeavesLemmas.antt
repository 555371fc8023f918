-- What an event leaves of a peer that it tells nothing of: how much it has sealed, its jobs, its status, and whether it follows.
use Rattle.std.proofs.Common.{◌≡◌, ◌≢◌, ◌∙◌, ap, sym, refl, inl, inr, ℕ, zero, suc, ◌+◌, ◌-◌, ◌≤◌, Bool, true, false, List, [], ◌∷◌, ◌++◌, Option, Some, None, flat_map, length, max, arith}
use Rattle.std.proofs.lemmas.Bool.{cases_eq, cases_lt}
use Rattle.std.proofs.lemmas.List.{append-nil, append_assoc, length-set, set_past}
use Rattle.std.proofs.lemmas.List.Concat.{flat_map-append}
use Rattle.std.specs.Option.{option_map}
use Rattle.std.specs.Prelude.{slice_index_or, slice_set, unwrap_or}
use Rattle.hs_awaiting.specs.Words.{change_if, change_with, each, ◌▸◌}
use Rattle.hs_copies.proofs.StatusLemmas.{become_other}
use Rattle.hs_core_copies.proofs.FallLemmas.{after_leave, fresh_new}
use Rattle.hs_core_copies.proofs.JobLemmas.{append_of, entry_tasks_here, entry_tasks_other, read_of}
use Rattle.hs_core_copies.proofs.PlaceLemmas.{group_here, group_other, group_past, rejoin_here, rejoin_other, tasks_here, tasks_other, tasks_past}
use Rattle.hs_core_copies.proofs.WalkLemmas.{StepLeaves, keeps_commits, keeps_each, keeps_if}
use Rattle.hs_core_copies.specs.InStep.{rejoin_at}
use Rattle.hs_core_copies.specs.Jobs.{Queued, seal_of, tasks_for}
use Rattle.hs_core_words.specs.Changing.{add_entry_tasks, add_task, change_group, change_rejoin, post, set_rejoin, set_status, set_tasks, set_viewed}
use Rattle.hs_core_words.specs.Effects.{commit}
use Rattle.hs_core_words.specs.Failing.{commit_rest, go_down, leave}
use Rattle.hs_core_words.specs.Joining.{begin_joining, follow_lead, join, joining_peers}
use Rattle.hs_core_words.specs.Looking.{group_of, home, lead_of, rejoin_of, sealed_of, status_of, tasks_of}
use Rattle.hs_core_words.specs.Operating.{add_read, propose_entry}
use Rattle.hs_core_words.specs.State.{Core}
use Rattle.hs_core_words.specs.Views.{begin_view, change_view, restart}
use Rattle.hs_entry.specs.declared.entry.Entry.{Entry}
use Rattle.hs_entry.specs.declared.entry.Entry.TheVariants as kind
use Rattle.hs_limits.specs.declared.limits.PeerStatus.TheVariants.{Down, Good}
use Rattle.hs_members.specs.Members.{Members, has_good, is_good_status, status, view_of}
use Rattle.hs_rejoin.specs.Rejoin.{Rejoin, follow, new_rejoin}
use Rattle.hs_replica.specs.declared.replica.Replica.{Replica}
use Rattle.hs_replica.specs.Group.{Group, change_copy, committed, copy_of, first_peer, hears, is_peer, last_number, lead, lead_takes, no_copy, on_have, proposal, propose, renew, renewal, stamp, take_committed, take_entry, tell_from}

-- ---- how much of a copy is sealed

-- another copy at a place, with as much sealed
set_sealed : (cs : List Replica) (j i : ℕ) (r : Replica) → r.sealed ≡ (slice_index_or cs j no_copy).sealed → (slice_index_or (slice_set cs j r) i no_copy).sealed ≡ (slice_index_or cs i no_copy).sealed
set_sealed [] j i r e = refl
set_sealed (c ∷ cs) zero zero r e = e
set_sealed (c ∷ cs) zero (suc i) r e = refl
set_sealed (c ∷ cs) (suc j) zero r e = refl
set_sealed (c ∷ cs) (suc j) (suc i) r e = set_sealed cs j i r e

told_sealed : (m : Members) (n : ℕ) (cs : List Replica) (i : ℕ) → (slice_index_or (tell_from m n cs) i no_copy).sealed ≡ (slice_index_or cs i no_copy).sealed
told_sealed m n [] i = refl
told_sealed m n (c ∷ cs) zero = refl
told_sealed m n (c ∷ cs) (suc i) = told_sealed m (n + 1) cs i

-- ---- what is left

-- what a peer has sealed is as it was, and jobs come behind those that it has
pub record LeavesWork (q : ℕ) (a b : Core) : Type 0 where
  pub shape : b.members.shape ≡ a.members.shape
  pub sealed : sealed_of q b ≡ sealed_of q a
  pub queue : List Queued
  pub tasks : tasks_of q b ≡ tasks_of q a ++ flat_map tasks_for queue

-- so is its status, and where it follows it did before
pub record Leaves (q : ℕ) (a b : Core) : Type 0 where
  pub work : LeavesWork q a b
  pub status : status_of q b ≡ status_of q a
  pub follows : (rejoin_at b q).empty ≡ false → (rejoin_at a q).empty ≡ false

module _ (q : ℕ) where
  pub work_same : (a b : Core) → b.members.shape ≡ a.members.shape → sealed_of q b ≡ sealed_of q a → tasks_of q b ≡ tasks_of q a → LeavesWork q a b
  work_same a b shape sealed tasks = record { shape = shape; sealed = sealed; queue = []; tasks = tasks ∙ sym (append-nil (tasks_of q a)) }

  pub work_both : (a b c : Core) → LeavesWork q a b → LeavesWork q b c → LeavesWork q a c
  work_both a b c h k = record {
    shape = k.shape ∙ h.shape;
    sealed = k.sealed ∙ h.sealed;
    queue = h.queue ++ k.queue;
    tasks = k.tasks ∙ ap (λ ts. ts ++ flat_map tasks_for k.queue) h.tasks ∙ append_assoc (tasks_of q a) (flat_map tasks_for h.queue) (flat_map tasks_for k.queue)
        ∙ ap (λ ts. tasks_of q a ++ ts) (sym (flat_map-append tasks_for h.queue k.queue));
  }

  pub leaves_quiet : (a b : Core) → b.members ≡ a.members → b.groups ≡ a.groups → b.tasks ≡ a.tasks → b.progress.rejoins ≡ a.progress.rejoins → Leaves q a b
  leaves_quiet a b members groups tasks rejoins = record {
    work = work_same a b (ap (λ (m : Members). m.shape) members) (rw (members, groups) refl) (rw tasks refl);
    status = ap (status q) members;
    follows = λ h. rw rejoins at h;
  }

  pub leaves_same : (c : Core) → Leaves q c c
  leaves_same c = leaves_quiet c c refl refl refl refl

  pub leaves_both : (a b c : Core) → Leaves q a b → Leaves q b c → Leaves q a c
  leaves_both a b c h k = record { work = work_both a b c h.work k.work; status = k.status ∙ h.status; follows = λ e. h.follows (k.follows e) }

  -- ---- groups

  -- the group of a shard changes, in which the peer has sealed as much
  pub sealed_at : (x : ℕ) (f : Group → Group) (c : Core) → (home q c ≡ x → (copy_of (f (group_of x c)) q).sealed ≡ (copy_of (group_of x c) q).sealed) → sealed_of q (change_group x f c) ≡ sealed_of q c
  sealed_at x f c h = elim (cases_eq (home q c) x) [
    | inl e ↦ ap (λ k. (copy_of (group_of k (change_group x f c)) q).sealed) e ∙ here (h e) ∙ ap (λ k. (copy_of (group_of k c) q).sealed) (sym e)
    | inr n ↦ ap (λ (y : Group). (copy_of y q).sealed) (group_other (home q c) x f c n)
  ]
    where
      here : (copy_of (f (group_of x c)) q).sealed ≡ (copy_of (group_of x c) q).sealed → (copy_of (group_of x (change_group x f c)) q).sealed ≡ (copy_of (group_of x c) q).sealed
      here e = elim (cases_lt x (length c.groups)) [
        | inl low ↦ ap (λ (y : Group). (copy_of y q).sealed) (group_here x f c low) ∙ e
        | inr high ↦ ap (λ (y : Group). (copy_of y q).sealed) (group_past x f c high)
      ]

  pub leaves_group : (x : ℕ) (f : Group → Group) (c : Core) → (home q c ≡ x → (copy_of (f (group_of x c)) q).sealed ≡ (copy_of (group_of x c) q).sealed) → Leaves q c (change_group x f c)
  leaves_group x f c h = record { work = work_same c (change_group x f c) refl (sealed_at x f c h) refl; status = refl; follows = λ e. e }

  copy_sealed : (p : ℕ) (f : Replica → Replica) (x : Group) → ((r : Replica) → (f r).sealed ≡ r.sealed) → (copy_of (change_copy p f x) q).sealed ≡ (copy_of x q).sealed
  copy_sealed p f x h = set_sealed x.copies (p - first_peer x) (q - first_peer x) (f (copy_of x p)) (h (copy_of x p))

  takes_sealed : (o : Option ℕ) (entry : Entry) (x : Group) → (copy_of (lead_takes o entry x) q).sealed ≡ (copy_of x q).sealed
  takes_sealed None entry x = refl
  takes_sealed (Some l) entry x = copy_sealed l (λ r. record r { stamps = stamp entry r.stamps }) x (λ r. refl)

  heard_sealed : (from view sealed : ℕ) (x : Group) → (copy_of (on_have from view sealed x) q).sealed ≡ (copy_of x q).sealed
  heard_sealed from view sealed x = go (hears from view x) refl
    where
      go : (b : Bool) → hears from view x ≡ b → (copy_of (on_have from view sealed x) q).sealed ≡ (copy_of x q).sealed
      go true e = rw e (copy_sealed from (λ r. record r { known = max r.known sealed }) x (λ r. refl))
      go false e = rw e refl

  committed_sealed : (x : Group) → (copy_of (take_committed x) q).sealed ≡ (copy_of x q).sealed
  committed_sealed x = go (committed x) refl
    where
      go : (o : Option (ℕ × Entry)) → committed x ≡ o → (copy_of (take_committed x) q).sealed ≡ (copy_of x q).sealed
      go None e = rw e refl
      go (Some y) e = rw e refl

  -- ---- jobs

  leaves_entry : (l n : ℕ) (entry : Entry) (c : Core) → Leaves q c (add_entry_tasks l n entry c)
  leaves_entry l n entry c = record { work = elim (cases_eq q l) [ inl e ↦ here e | inr ne ↦ work_same c (add_entry_tasks l n entry c) refl refl (entry_tasks_other l q n entry c ne) ]; status = refl; follows = λ e. e }
    where
      past : length c.tasks ≤ l → tasks_of l (add_entry_tasks l n entry c) ≡ tasks_of l c
      past high =
          let one : Core = add_task l (append_of n entry) c in
          let long = length-set c.tasks l (tasks_of l c ++ append_of n entry ∷ []) in
          tasks_past l (tasks_of l one ++ seal_of n ∷ []) one (omega (arith, long, high)) ∙ tasks_past l (tasks_of l c ++ append_of n entry ∷ []) c high

      here : q ≡ l → LeavesWork q c (add_entry_tasks l n entry c)
      here e = elim (cases_lt l (length c.tasks)) [
        | inl low ↦ record {
          shape = refl;
          sealed = refl;
          queue = record { number = n; entry = Some entry; line = 0 } ∷ [];
          tasks = ap (λ i. tasks_of i (add_entry_tasks l n entry c)) e ∙ entry_tasks_here l n entry c low ∙ append_assoc (tasks_of l c) (append_of n entry ∷ []) (seal_of n ∷ [])
              ∙ ap (λ i. tasks_of i c ++ append_of n entry ∷ seal_of n ∷ []) (sym e);
        }
        | inr high ↦ work_same c (add_entry_tasks l n entry c) refl refl (ap (λ i. tasks_of i (add_entry_tasks l n entry c)) e ∙ past high ∙ ap (λ i. tasks_of i c) (sym e))
      ]

  leaves_read : (l number line : ℕ) (c : Core) → Leaves q c (add_read number line l c)
  leaves_read l number line c = record { work = elim (cases_eq q l) [ inl e ↦ here e | inr n ↦ work_same c (add_read number line l c) refl refl (tasks_other l q (tasks_of l c ++ read_of number line ∷ []) c n) ]; status = refl; follows = λ e. e }
    where
      here : q ≡ l → LeavesWork q c (add_read number line l c)
      here e = elim (cases_lt l (length c.tasks)) [
        | inl low ↦ record {
          shape = refl;
          sealed = refl;
          queue = record { number = number; entry = None; line = line } ∷ [];
          tasks = ap (λ i. tasks_of i (add_read number line l c)) e ∙ tasks_here l (tasks_of l c ++ read_of number line ∷ []) c low ∙ ap (λ i. tasks_of i c ++ read_of number line ∷ []) (sym e);
        }
        | inr high ↦ work_same c (add_read number line l c) refl refl
            (ap (λ i. tasks_of i (add_read number line l c)) e ∙ tasks_past l (tasks_of l c ++ read_of number line ∷ []) c high ∙ ap (λ i. tasks_of i c) (sym e))
      ]

  pub leaves_propose : (x : ℕ) (entry : Entry) (c : Core) → Leaves q c (propose_entry x entry c)
  leaves_propose x entry c = go (lead_of x c)
    where
      one : Leaves q c (post (proposal entry (group_of x c)) (change_group x (propose entry) c))
      one = leaves_both c (change_group x (propose entry) c) (post (proposal entry (group_of x c)) (change_group x (propose entry) c))
          (leaves_group x (propose entry) c (λ e. takes_sealed (lead (group_of x c)) entry (group_of x c))) (leaves_quiet (change_group x (propose entry) c) (post (proposal entry (group_of x c)) (change_group x (propose entry) c)) refl refl refl refl)

      go : (o : Option ℕ) → Leaves q c (change_with o (λ peer. add_entry_tasks peer (last_number (group_of x c) + 1) entry) (post (proposal entry (group_of x c)) (change_group x (propose entry) c)))
      go None = one
      go (Some l) = leaves_both c (post (proposal entry (group_of x c)) (change_group x (propose entry) c)) (add_entry_tasks l (last_number (group_of x c) + 1) entry (post (proposal entry (group_of x c)) (change_group x (propose entry) c))) one
          (leaves_entry l (last_number (group_of x c) + 1) entry (post (proposal entry (group_of x c)) (change_group x (propose entry) c)))

  -- ---- how far a peer joins

  pub leaves_rejoin : (p : ℕ) (r : Option Rejoin) (c : Core) → (q ≡ p → (unwrap_or r (new_rejoin 0)).empty ≡ false → (rejoin_at c q).empty ≡ false) → Leaves q c (set_rejoin p r c)
  leaves_rejoin p r c h = record { work = work_same c (set_rejoin p r c) refl refl refl; status = refl; follows = follows }
    where
      at : (o : Option Rejoin) → rejoin_of q (set_rejoin p r c) ≡ o → (rejoin_at (set_rejoin p r c) q).empty ≡ false → (unwrap_or o (new_rejoin 0)).empty ≡ false
      at o e k = sym (ap (λ (i : Option Rejoin). (unwrap_or i (new_rejoin 0)).empty) e) ∙ k

      follows : (rejoin_at (set_rejoin p r c) q).empty ≡ false → (rejoin_at c q).empty ≡ false
      follows k = elim (cases_eq q p) [
        | inl e ↦ elim (cases_lt p (length c.progress.rejoins)) [
          | inl low ↦ h e (at r (ap (λ i. rejoin_of i (set_rejoin p r c)) e ∙ rejoin_here p r c low) k)
          | inr high ↦ at (rejoin_of q c) (ap (λ all. slice_index_or all q None) (set_past c.progress.rejoins p r high)) k
        ]
        | inr n ↦ at (rejoin_of q c) (rejoin_other p q r c n) k
      ]

  leaves_follow : (x : ℕ) (c : Core) → Leaves q c (follow_lead x c)
  leaves_follow x c = go (lead_of x c)
    where
      followed : (l : ℕ) (o : Option Rejoin) → (unwrap_or (option_map (follow l) o) (new_rejoin 0)).empty ≡ false → (unwrap_or o (new_rejoin 0)).empty ≡ false
      followed l None k = k
      followed l (Some r) k = k

      one : (l p : ℕ) (y : Core) → Leaves q y (change_rejoin p (follow l) y)
      one l p y = leaves_rejoin p (option_map (follow l) (rejoin_of p y)) y (λ e k. ap (λ i. (rejoin_at y i).empty) e ∙ followed l (rejoin_of p y) k)

      all : (l : ℕ) (ps : List ℕ) (y : Core) → Leaves q y (each ps (λ p. change_rejoin p (follow l)) y)
      all l [] y = leaves_same y
      all l (p ∷ ps) y = leaves_both y (change_rejoin p (follow l) y) (each ps (λ p. change_rejoin p (follow l)) (change_rejoin p (follow l) y)) (one l p y) (all l ps (change_rejoin p (follow l) y))

      go : (o : Option ℕ) → Leaves q c (change_with o (λ l core. each (joining_peers x core) (λ p. change_rejoin p (follow l)) core) c)
      go None = leaves_same c
      go (Some l) = all l (joining_peers x c) c

  pub leaves_begin : (p : ℕ) (c : Core) → Leaves q c (begin_joining p c)
  leaves_begin p c = leaves_rejoin p (option_map new_rejoin (lead_of (home p c) c)) c (λ e k. let wrong : true ≡ false = sym (fresh_new (lead_of (home p c) c)).0 ∙ k in absurd (cc wrong))

  -- ---- all of them

  pub steps_leave : StepLeaves (Leaves q)
  steps_leave = record {
    same = leaves_same;
    both = leaves_both;
    catalogue = λ x y c. leaves_quiet c _ refl refl refl refl;
    viewed = λ x y c. leaves_quiet c _ refl refl refl refl;
    operations = λ x c. leaves_quiet c _ refl refl refl refl;
    sessions = λ x c. leaves_quiet c _ refl refl refl refl;
    noted = λ of did told c. leaves_quiet c _ refl refl refl refl;
    proposes = λ x entry c plain. leaves_propose x entry c;
    reads = λ x number line c. read_with (lead_of x c) number line c;
    sends = λ x sent c. leaves_quiet c _ refl refl refl refl;
    commits = λ x c. leaves_group x take_committed c (λ e. committed_sealed (group_of x c));
  }
    where
      read_with : (o : Option ℕ) (number line : ℕ) (c : Core) → Leaves q c (change_with o (add_read number line) c)
      read_with None number line c = leaves_same c
      read_with (Some l) number line c = leaves_read l number line c

  leaves_begin_view : (x : ℕ) (c : Core) → Leaves q c (begin_view x c)
  leaves_begin_view x c =
      let a : Core = set_viewed x false c in
      let b : Core = change_group x (renew c.members) a in
      let d : Core = post (renewal (group_of x (restart x b))) (restart x b) in
      leaves_both c a (begin_view x c) (leaves_quiet c a refl refl refl refl)
      (leaves_both a b (begin_view x c) (leaves_group x (renew c.members) a (λ e. told_sealed c.members (first_peer (group_of x a)) (group_of x a).copies (q - first_peer (group_of x a))))
      (leaves_both b d (begin_view x c) (leaves_quiet b d refl refl refl refl) (leaves_propose x (kind.View (view_of x c.members)) d)))

  pub leaves_view : (x : ℕ) (c : Core) → Leaves q c (change_view x c)
  leaves_view x c = keeps_if steps_leave (has_good x c.members) (begin_view x) c (leaves_begin_view x)

  leaves_rest : (x : ℕ) (c : Core) → Leaves q c (commit_rest x c)
  leaves_rest x c = keeps_if steps_leave (has_good x c.members) (commit x) c (λ y. keeps_commits steps_leave x y)

  -- ---- a peer falls, or joins

  pub leaves_after : (good led : Bool) (x : ℕ) (c : Core) → Leaves q c (after_leave good led x c)
  leaves_after good led x c =
      let two : Core = change_if good (change_view x) c in
      let three : Core = change_if led (λ core. core ▸ each (joining_peers x core) begin_joining) two in
      leaves_both c two (after_leave good led x c) (keeps_if steps_leave good (change_view x) c (leaves_view x))
      (leaves_both two three (after_leave good led x c) (keeps_if steps_leave led (λ core. core ▸ each (joining_peers x core) begin_joining) two (λ y. keeps_each steps_leave (joining_peers x y) begin_joining y leaves_begin))
      (keeps_if steps_leave good (commit_rest x) three (leaves_rest x)))

  -- another one
  pub leaves_fall : (p : ℕ) (c : Core) → q ≢ p → Leaves q c (go_down p c)
  leaves_fall p c n =
      leaves_both c (leave p c) (go_down p c)
      (record {
        work = work_same c (leave p c) refl refl (tasks_other p q [] c n);
        status = become_other p q Down c.members n;
        follows = λ e. sym (ap (λ (o : Option Rejoin). (unwrap_or o (new_rejoin 0)).empty) (rejoin_other p q None (set_tasks p [] (set_status p Down c)) n)) ∙ e;
      })
      (leaves_after (is_good_status (status_of p c)) (is_peer p (lead_of (home p c) c)) (home p c) (leave p c))

  -- behind the status of one that joins
  leaves_joined : (x : ℕ) (c : Core) → Leaves q c (commit x (follow_lead x (change_view x c)))
  leaves_joined x c =
      let one : Core = change_view x c in
      let two : Core = follow_lead x one in
      leaves_both c one (commit x two) (leaves_view x c) (leaves_both one two (commit x two) (leaves_follow x one) (keeps_commits steps_leave x two))

  pub leaves_join : (p : ℕ) (c : Core) → q ≢ p → Leaves q c (join p c)
  leaves_join p c n =
      let a : Core = set_status p Good c in
      let b : Core = set_rejoin p None a in
      leaves_both c a (join p c) (record { work = work_same c a refl refl refl; status = become_other p q Good c.members n; follows = λ e. e })
      (leaves_both a b (join p c) (leaves_rejoin p None a (λ e. absurd (n e))) (leaves_joined (home p c) b))

  -- its own
  pub work_join : (c : Core) → LeavesWork q c (join q c)
  work_join c = let b : Core = set_rejoin q None (set_status q Good c) in work_both c b (join q c) (work_same c b refl refl refl) (leaves_joined (home q c) b).work

  -- ---- a Copy is taken, a Have is heard

  pub leaves_copy : (x p n : ℕ) (entry : Entry) (c : Core) → Leaves q c (follow_lead x (add_entry_tasks p n entry (change_group x (take_entry p entry) c)))
  leaves_copy x p n entry c =
      let a : Core = change_group x (take_entry p entry) c in
      let b : Core = add_entry_tasks p n entry a in
      leaves_both c a (follow_lead x b) (leaves_group x (take_entry p entry) c (λ e. takes_sealed (Some p) entry (group_of x c))) (leaves_both a b (follow_lead x b) (leaves_entry p n entry a) (leaves_follow x b))

  pub leaves_have : (x from view sealed : ℕ) (c : Core) → Leaves q c (commit x (change_group x (on_have from view sealed) c))
  leaves_have x from view sealed c =
      let a : Core = change_group x (on_have from view sealed) c in
      leaves_both c a (commit x a) (leaves_group x (on_have from view sealed) c (λ e. heard_sealed from view sealed (group_of x c))) (keeps_commits steps_leave x a)
