-- What is known of a core whose shards are in step: its peers, its leads, and that its groups fit.
use Rattle.std.proofs.Common.{◌≡◌, ◌≢◌, ◌∙◌, ap, sym, subst, refl, inl, inr, arith, ℕ, zero, suc, ◌+◌, ◌-◌, ◌*◌, ◌/◌, ◌<◌, ◌≤◌, Bool, true, false, List, [], ◌∷◌, Option, Some, None, length, if◌then◌else◌, nat_le, not, slice_get}
use Rattle.std.proofs.lemmas.Bool.{cases_lt, leb-false}
use Rattle.std.proofs.Math.Nat.{div-lt_iff_lt-mul}
use Rattle.std.specs.Prelude.{slice_index_or, slice_set}
use Rattle.hs_copies.proofs.CoreLemmas.{last_is_leads}
use Rattle.hs_copies.proofs.StandLemmas.{HasLead, length_is, stands_lead}
use Rattle.hs_copies.specs.Lists.{Item}
use Rattle.hs_copies.specs.Machine.{Copies}
use Rattle.std.specs.Option.{option_map}
use Rattle.hs_core_words.specs.Asking.{no_peer, not_down}
use Rattle.hs_core_words.specs.declared.task.Task.{Task}
use Rattle.hs_desk.specs.declared.job.Job.{Job}
use Rattle.hs_model.specs.declared.reply.Reply.TheVariants as reply
use Rattle.hs_model.specs.Refusals.{first, refused_when}
use Rattle.hs_members.specs.Members.{is_down, is_joining, IsMembers, Members, become, is_good_status, status}
use Rattle.hs_core_words.specs.Looking.{copying_step, first_job, first_task, group_of, home, lead_of, shape_of, status_of, tasks_of}
use Rattle.hs_core_words.specs.State.{Core}
use Rattle.hs_core_copies.proofs.KnowingLemmas.{knows}
use Rattle.hs_core_copies.proofs.LeadLemmas.{IsGoodLead, good_only, lead_is, of_home}
use Rattle.hs_core_copies.proofs.StepLemmas.{lead_in_step}
use Rattle.hs_core_copies.specs.InStep.{IsInStep, IsOf, IsSeated, copies_in}
use Rattle.hs_core_copies.specs.Knowing.{IsKnown, KnowsItsCopies}
use Rattle.hs_entry.specs.declared.entry.Entry.{Entry}
use Rattle.hs_limits.specs.declared.limits.PeerStatus.{PeerStatus}
use Rattle.hs_limits.specs.declared.limits.PeerStatus.TheVariants.{Down, Good, Joining}
use Rattle.hs_replica.specs.declared.replica.Replica.{Replica}
use Rattle.hs_replica.specs.Group.{Group, copy_of, first_peer, last_number, lead, length_of, new_group, no_copy}
use Rattle.hs_quiet.specs.Keeping.{AreInStep, IsLeadKnown, KeepsUp}
use Rattle.hs_quiet.proofs.CopyLemmas.{IsFit, copy_at, lead_placed, past}
use Rattle.hs_quiet.proofs.FineLemmas.{Fine, NoOne}

-- ---- statuses

-- behind the end of a list nothing stands
pub past_of : {X : Type 0} (xs : List X) (k : ℕ) (d : X) → length xs ≤ k → slice_index_or xs k d ≡ d
past_of [] k d h = refl
past_of (x ∷ xs) zero d h = absurd (omega (arith, h))
past_of (x ∷ xs) (suc k) d h = past_of xs k d (omega (arith, h))

-- a peer that goes down is down
pub down_now : (p : ℕ) (m : Members) → status p (become p Down m) ≡ Down
down_now p m = go m.statuses p
  where
    go : (xs : List PeerStatus) (k : ℕ) → slice_index_or (slice_set xs k Down) k Down ≡ Down
    go [] k = refl
    go (x ∷ xs) zero = refl
    go (x ∷ xs) (suc k) = go xs k

-- a peer that is not down is one of the store's
pub peer_low : (p : ℕ) (c : Core) → length c.members.statuses ≡ c.members.shape.shards * c.members.shape.copies → status_of p c ≢ Down → p < c.members.shape.shards * c.members.shape.copies
peer_low p c long n = elim (cases_lt p (length c.members.statuses)) [
  | inl low ↦ omega (arith, low, long)
  | inr high ↦ absurd (n (past_of c.members.statuses p Down high))
]

pub home_within : (p shards copies : ℕ) → p < shards * copies → p / copies < shards
home_within p shards zero low = absurd (omega (arith, low))
home_within p shards (suc copies) low = (div-lt_iff_lt-mul {k = suc copies} {x = p} {y = shards} (omega arith)).1 low

-- no line is refused of a peer that is there, and down
pub down_there : (p : ℕ) (c : Core) → first (no_peer p c ∷ not_down p c ∷ []) ≡ None → (p < length c.members.statuses) × (status_of p c ≡ Down)
down_there p c e = go (nat_le (length c.members.statuses) p) refl (status_of p c) refl
  where
    told : (b : Bool) → nat_le (length c.members.statuses) p ≡ b → (k : PeerStatus) → status_of p c ≡ k
        → first (refused_when b (reply.NoPeer p) ∷ refused_when (not (is_down k)) (reply.NotDown p) ∷ []) ≡ None
    told b i k j = sym (ap (λ t. first (refused_when t (reply.NoPeer p) ∷ not_down p c ∷ [])) i ∙ ap (λ x. first (refused_when b (reply.NoPeer p) ∷ refused_when (not (is_down x)) (reply.NotDown p) ∷ [])) j) ∙ e

    go : (b : Bool) → nat_le (length c.members.statuses) p ≡ b → (k : PeerStatus) → status_of p c ≡ k → (p < length c.members.statuses) × (status_of p c ≡ Down)
    go true i k j = let wrong : Some (reply.NoPeer p) ≡ None = told true i k j in absurd (cc wrong)
    go false i Down j = (leb-false (length c.members.statuses) p i, j)
    go false i Good j = let wrong : Some (reply.NotDown p) ≡ None = told false i Good j in absurd (cc wrong)
    go false i Joining j = let wrong : Some (reply.NotDown p) ≡ None = told false i Joining j in absurd (cc wrong)

-- ---- peers of a group

-- a good copy is of a peer of its shard
pub peer_own : (c : Core) (g i : ℕ) → IsSeated c → (copy_at i (group_of g c)).good ≡ true → IsOf c.members.shape g (first_peer (group_of g c) + i)
peer_own c g i st good = elim (cases_lt i (length (group_of g c).copies)) [
  | inl low ↦
      let k = st.placed g in
      let copies : (group_of g c).shape.copies ≡ c.members.shape.copies = ap (λ s. s.copies) k.same_shape in
      of_home c.members.shape g (group_of g c) (first_peer (group_of g c) + i) (sym k.same_shape) k.same_shard (omega arith, omega (arith, low, k.few, copies))
  | inr high ↦
      let wrong : false ≡ true = sym (ap (λ (r : Replica). r.good) (past (group_of g c).copies i high)) ∙ good in
      absurd (cc wrong)
]

module _ (g : ℕ) (c : Core) (s : Copies Entry) (st : IsInStep g c s) where
  pub knows_here : KnowsItsCopies g c
  knows_here = knows g c s st

  -- the lead, as the group and as the core tell it
  pub lead_here : (l : ℕ) × (lead (group_of g c) ≡ Some l) × (lead_of g c ≡ Some l)
  lead_here =
      let d : HasLead (copies_in g st.sent c) s = stands_lead (copies_in g st.sent c) s st.stands in
      (d.peer, d.is, lead_in_step g c s st ∙ d.is)

  pub good_lead : (l : ℕ) → lead (group_of g c) ≡ Some l → IsGoodLead c.members.shape g c.members l
  good_lead l e = lead_is g c l (st.seated.placed g).few (lead_in_step g c s st ∙ e)

  -- the lead's list has as many entries as the machine's
  pub last_is : last_number (group_of g c) ≡ length s.log
  last_is =
      let d : HasLead (copies_in g st.sent c) s = stands_lead (copies_in g st.sent c) s st.stands in
      last_is_leads (copies_in g st.sent c) s st.stands d.peer d.is ∙ length_is (copies_in g st.sent c) s st.stands d.peer d.leads.home ∙ ap (λ (xs : List (Item Entry)). length xs) d.whole

  -- it has the whole list
  pub lead_whole : (l : ℕ) → lead (group_of g c) ≡ Some l → length_of (group_of g c) l ≡ last_number (group_of g c)
  lead_whole l e =
      let k = knows_here in
      let same : k.lead ≡ l = (let both : Some k.lead ≡ Some l = sym k.leads ∙ lead_in_step g c s st ∙ e in cc both) in
      ap (length_of (group_of g c)) (sym same) ∙ k.whole

  -- where a copy is good its peer is, and where a peer is its copy
  pub copy_good : (p : ℕ) → IsOf c.members.shape g p → status_of p c ≡ Good → (copy_of (group_of g c) p).good ≡ true
  copy_good p own e = knows_here.good p own ∙ ap is_good_status e

  pub peer_good : (i : ℕ) → (copy_at i (group_of g c)).good ≡ true → status_of (first_peer (group_of g c) + i) c ≡ Good
  peer_good i good =
      let q : ℕ = first_peer (group_of g c) + i in
      let at : q - first_peer (group_of g c) ≡ i = omega arith in
      good_only (status_of q c) (sym (knows_here.good q (peer_own c g i st.seated good)) ∙ ap (λ k. (copy_at k (group_of g c)).good) at ∙ good)

  pub known_at : (i : ℕ) → (copy_at i (group_of g c)).good ≡ true → ((copy_at i (group_of g c)).known ≤ (copy_at i (group_of g c)).sealed) × ((copy_at i (group_of g c)).sealed ≤ length (copy_at i (group_of g c)).stamps)
  known_at i good =
      let q : ℕ = first_peer (group_of g c) + i in
      let at : q - first_peer (group_of g c) ≡ i = omega arith in
      let k : IsKnown (group_of g c) q = knows_here.each q (peer_own c g i st.seated good) (peer_good i good) in
      subst (λ j. ((copy_at j (group_of g c)).known ≤ (copy_at j (group_of g c)).sealed) × ((copy_at j (group_of g c)).sealed ≤ length (copy_at j (group_of g c)).stamps)) at (k.known, k.sealed)

  -- so its group fits
  pub fit_here : IsLeadKnown (group_of g c) → IsFit c.members (group_of g c)
  fit_here leads = record { good = peer_good; held = λ i e. (known_at i e).1; known = λ i e. (known_at i e).0; leads = leads }

-- a group that is not there has no copy
pub fit_none : (m : Members) (x : Group) → x.copies ≡ [] → IsFit m x
fit_none m x none = record {
  good = λ i e. absurd (nobody i e);
  held = λ i e. absurd (nobody i e);
  known = λ i e. absurd (nobody i e);
  leads = λ l e. (let k = lead_placed x l e in absurd (nobody k.place k.good));
}
  where
    nobody : (i : ℕ) → (copy_at i x).good ≡ true → ⊥
    nobody i e = let wrong : false ≡ true = sym (ap (λ cs. (slice_index_or cs i no_copy).good) none ∙ ap (λ (r : Replica). r.good) (past [] i (omega arith))) ∙ e in cc wrong

-- ---- all shards

module _ (c : Core) (all : AreInStep c) where
  pub seated_all : IsSeated c
  seated_all = (all.each 0 all.some).1.seated

  pub members_all : IsMembers c.members
  members_all = (all.each 0 all.some).1.stands.members

  pub low_peer : (p : ℕ) → status_of p c ≢ Down → p < c.members.shape.shards * c.members.shape.copies
  low_peer p n = peer_low p c members_all.statuses n

  pub low_home : (p : ℕ) → p < c.members.shape.shards * c.members.shape.copies → home p c < c.members.shape.shards
  low_home p low = home_within p c.members.shape.shards c.members.shape.copies low

  pub fit_all : KeepsUp c → (g : ℕ) → IsFit c.members (group_of g c)
  fit_all up g = elim (cases_lt g c.members.shape.shards) [
    | inl low ↦ let k = all.each g low in fit_here g c k.0 k.1 (up.leads g)
    | inr high ↦
        let at : group_of g c ≡ new_group (shape_of c) g 0 0 [] = past_of c.groups g (new_group (shape_of c) g 0 0 []) (let n = seated_all.groups in omega (arith, n, high)) in
        fit_none c.members (group_of g c) (ap (λ (x : Group). x.copies) at)
  ]

  -- at the start of an event all is fine
  pub fine_first : KeepsUp c → Fine c NoOne NoOne c
  fine_first up = record {
    shape = refl;
    seats = refl;
    receivers = up.receivers;
    joins = λ p j.
        let k = up.joins p j in
        inr (record {
          rejoin = k.rejoin;
          is = k.at;
          less = k.less;
          leads = λ e l led.
              let low : home p c < c.members.shape.shards = low_home p (low_peer p (λ d. let wrong : Joining ≡ Down = sym j ∙ d in cc wrong)) in
              let t = all.each (home p c) low in
              (good_lead (home p c) c t.0 t.1 l led).good;
        });
    fits = λ g. inr (fit_all up g);
  }

  -- who has a job is a peer
  pub task_low : (p : ℕ) (task : Task) → first_task p c ≡ Some task → p < c.members.shape.shards * c.members.shape.copies
  task_low p task first_is = go (status_of p c) refl
    where
      queued : is_joining (status_of p c) ≡ false → p < c.members.shape.shards * c.members.shape.copies
      queued j = elim (cases_lt p (length c.tasks)) [
        | inl low ↦ (let n = seated_all.tasks in omega (arith, n, low))
        | inr high ↦
            let none : tasks_of p c ≡ [] = past_of c.tasks p [] high in
            let is : None ≡ Some task = sym (ap (λ b. if b then option_map (λ (j : Job). record { job = j; line = 0 }) (copying_step p c) else slice_get (tasks_of p c) 0) j ∙ ap (λ (ts : List Task). slice_get ts 0) none) ∙ first_is in
            absurd (cc is)
      ]

      go : (k : PeerStatus) → status_of p c ≡ k → p < c.members.shape.shards * c.members.shape.copies
      go Good e = low_peer p (λ d. let wrong : Good ≡ Down = sym e ∙ d in cc wrong)
      go Joining e = low_peer p (λ d. let wrong : Joining ≡ Down = sym e ∙ d in cc wrong)
      go Down e = queued (ap is_joining e)

  pub job_low : (p : ℕ) (j : Job) → first_job p c ≡ Some j → p < c.members.shape.shards * c.members.shape.copies
  job_low p j e = go (first_task p c) refl e
    where
      go : (o : Option Task) → first_task p c ≡ o → option_map (λ (t : Task). t.job) o ≡ Some j → p < c.members.shape.shards * c.members.shape.copies
      go None is f = absurd (cc f)
      go (Some task) is f = task_low p task is
