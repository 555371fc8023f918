-- Each first job of a store in step asks for what is next.
use Rattle.std.proofs.Common.{◌≡◌, ◌∙◌, ap, sym, subst, refl, inl, inr, ℕ, zero, suc, ◌+◌, ◌-◌, ◌*◌, ◌/◌, ◌<◌, ◌≤◌, ◌==◌, eqb-true, Bool, true, false, if◌then◌else◌, List, [], ◌∷◌, ◌++◌, Option, Some, None, length, map, arith}
use Rattle.std.proofs.lemmas.Bool.{cases_lt, eq-eqb, ne_eqb}
use Rattle.std.proofs.lemmas.List.{get_or_past, length-append}
use Rattle.std.proofs.Math.Nat.{div-mul-le_self, mul-le-mul_right}
use Rattle.std.specs.List.{enumerate_from}
use Rattle.std.specs.Option.{option_map}
use Rattle.std.specs.Prelude.{slice_get, take}
use Rattle.hs_cluster.specs.Sealed.{sealed_front}
use Rattle.hs_cluster.specs.Steady.{AsksFor, IsNextCopy, IsSteady}
use Rattle.hs_copies.specs.Lists.{Item}
use Rattle.hs_copies.specs.Machine.{Copies}
use Rattle.hs_core_copies.proofs.BesideLemmas.{home_of_peer}
use Rattle.hs_core_copies.proofs.JobLemmas.{AppendsFirst, FirstTask, ReadsFirst, SealsFirst}
use Rattle.hs_core_copies.proofs.LeadLemmas.{IsGoodLead, lead_is}
use Rattle.hs_core_copies.proofs.NextLemmas.{first_is_next}
use Rattle.hs_core_copies.proofs.ReportLemmas.{IsQueued, IsStepping, copies_next, found, queued_first, resets}
use Rattle.hs_core_copies.proofs.StepLemmas.{has_peer}
use Rattle.hs_core_copies.specs.InStep.{IsOf}
use Rattle.hs_core_copies.specs.Jobs.{unsealed}
use Rattle.hs_core_words.specs.declared.task.Task.{Task}
use Rattle.hs_core_words.specs.Looking.{first_job, first_task, group_of, home, lead_of, sealed_of, shape_of, status_of}
use Rattle.hs_desk.specs.declared.job.Job.{Job}
use Rattle.hs_desk.specs.declared.job.Job.TheVariants as job
use Rattle.hs_entry.specs.declared.entry.Entry.{Entry}
use Rattle.hs_events.specs.Taken.{peer_count}
use Rattle.hs_events.specs.Whole.{Whole, floor, reach}
use Rattle.hs_limits.specs.declared.limits.PeerStatus.TheVariants.{Down, Good, Joining}
use Rattle.hs_limits.specs.declared.shape.Shape.{Shape}
use Rattle.hs_members.specs.Members.{IsPeer, IsShard, home_of, is_good_status}
use Rattle.hs_peerlog.specs.Lists.{numbered_entry}
use Rattle.hs_whole_copies.proofs.CopiedLemmas.{next_copied}
use Rattle.hs_whole_copies.specs.Copying.{IsNextCopied}
use Rattle.hs_whole_copies.specs.Whole.{IsShardInStep, IsWholeInStep}
use Rattle.hs_steady.proofs.EffectLemmas.{good_effect}
use Rattle.hs_steady.proofs.PeerLemmas.{appended_is, floor_bad, floor_held, log_good, next_is, reach_good}

-- ---- the entry of a number

-- it stands at its place
entry_at : (m k i n : ℕ) (es : List Entry) (entry : Entry) → n ≡ m + i → numbered_entry (take k (enumerate_from m es)) n ≡ Some entry → slice_get (enumerate_from m es) i ≡ Some (n, entry)
entry_at m zero i n es entry is e = let wrong : None ≡ Some entry = e in absurd (cc wrong)
entry_at m (suc k) i n [] entry is e = let wrong : None ≡ Some entry = e in absurd (cc wrong)
entry_at m (suc k) i n (x ∷ es) entry is e = by (m == n) refl e i is (λ j on h. entry_at (m + 1) k j n es entry on h)
  where
    differs : (a b : ℕ) → (a == b) ≡ false → a ≡ b → ⊥
    differs a b t e = grind arith

    by : (b : Bool) → (m == n) ≡ b → (if b then Some x else numbered_entry (take k (enumerate_from (m + 1) es)) n) ≡ Some entry → (j : ℕ) → n ≡ m + j
        → ((j : ℕ) → n ≡ m + 1 + j → numbered_entry (take k (enumerate_from (m + 1) es)) n ≡ Some entry → slice_get (enumerate_from (m + 1) es) j ≡ Some (n, entry))
        → slice_get (enumerate_from m (x ∷ es)) j ≡ Some (n, entry)
    by true f h zero at rest = let same : x ≡ entry = cc h in let number : m ≡ n = omega (arith, at) in ap (λ y. Some (m, y)) same ∙ ap (λ y. Some (y, entry)) number
    by true f h (suc j) at rest = let number : m ≡ n = eqb-true m n f in absurd (omega (arith, at, number))
    by false f h zero at rest = let number : m ≡ n = omega (arith, at) in absurd (differs m n f number)
    by false f h (suc j) at rest = rest j (omega (arith, at)) h

-- and what stands at its place among those that are taken is the entry of its number
there_entry : (m k i n : ℕ) (es : List Entry) (entry : Entry) → n ≡ m + i → i < k → slice_get (enumerate_from m es) i ≡ Some (n, entry) → numbered_entry (take k (enumerate_from m es)) n ≡ Some entry
there_entry m zero i n es entry is low e = absurd (omega (arith, low))
there_entry m (suc k) i n [] entry is low e = let wrong : None ≡ Some (n, entry) = e in absurd (cc wrong)
there_entry m (suc k) zero n (x ∷ es) entry is low e =
    let both : Some (m, x) ≡ Some (n, entry) = e in
    let pair : (m, x) ≡ (n, entry) = cc both in
    ap (λ (b : Bool). if b then Some x else numbered_entry (take k (enumerate_from (m + 1) es)) n) (eq-eqb m n (omega (arith, is))) ∙ ap (λ (p : ℕ × Entry). Some p.1) pair
there_entry m (suc k) (suc j) n (x ∷ es) entry is low e =
    ap (λ (b : Bool). if b then Some x else numbered_entry (take k (enumerate_from (m + 1) es)) n) (ne_eqb m n (λ s. omega (arith, s, is))) ∙ there_entry (m + 1) k j n es entry (omega (arith, is)) (omega (arith, low)) e

-- ---- the first job of a peer

module _ (g q : ℕ) (c : Whole) (s : Copies Entry) (k : IsShardInStep g c s) (own : IsOf c.core.members.shape g q) where
  -- of a good one
  queued_asks : (task : Task) → IsQueued q c.core task → first_job q c.core ≡ Some task.job → AsksFor c q task.job
  queued_asks task i e = go (queued_first g q c.core s k.in_step own task i)
    where
      go : FirstTask (unsealed q (group_of g c.core)) task i.rest → AsksFor c q task.job
      go (ReadsFirst number is jobs) = subst (AsksFor c q) (sym is) (record { log = log_good c q i.good; next = rw (e ∙ ap Some is) refl })
      go (AppendsFirst first others behind all is left jobs) =
          subst (AsksFor c q) (sym is) (record { log = log_good c q i.good; next = (next_is g q c s k own i.good first others all, rw (e ∙ ap Some is) refl) })
      go (SealsFirst first others all is jobs) =
          subst (AsksFor c q) (sym is) (record { log = log_good c q i.good; next = record { entry = first.1; appended = appended_is g q c s k own i.good first others all first.0 (e ∙ ap Some is); next = next_is g q c s k own i.good first others all } })

  -- of one that copies
  copy_asks : (from number : ℕ) → IsStepping q c.core (job.Copy from number) → first_job q c.core ≡ Some (job.Copy from number) → IsNextCopy c q from number
  copy_asks from number t e = record {
    there = has_peer g c.core s k.in_step from (home_of_peer g c.core s k.in_step from led.own);
    other = λ i. let wrong : Joining ≡ Good = sym t.joins ∙ ap (λ p. status_of p c.core) (sym i) ∙ led.good in cc wrong;
    source = log_good c from led.good;
    follows = rw (t.joins, t.came, (copies_next (sealed_of t.lead_now c.core) t.rejoin from number t.next).done) refl;
    unsealed = floor_bad c q (ap is_good_status t.joins);
    sealed = (n.entry, sealed_there);
    added = λ entry at. n.adds ∙ ap (λ x. (number, x) ∷ []) (same entry at);
  }
    where
      n : IsNextCopied c q from number
      n = next_copied g c s k q from number own e

      led : IsGoodLead c.core.members.shape g c.core.members from
      led = lead_is g c.core from (k.in_step.seated.placed g).few (ap (λ x. lead_of x c.core) (sym own) ∙ n.leads)

      floor_is : floor c from ≡ sealed_of from c.core
      floor_is = ap (λ b. if b then sealed_of from c.core else 0) (ap is_good_status led.good)

      sealed_there : numbered_entry (sealed_front c from) number ≡ Some n.entry
      sealed_there =
          let es : List Entry = map (λ (x : Item Entry). x.what) (s.peers from).list in
          let list : reach c from ≡ enumerate_from 1 es = reach_good g from c s k led.own led.good ∙ k.lists from led.own in
          let place : number ≡ 1 + (number - 1) = omega (arith, n.next) in
          let low : number - 1 < floor c from = omega (arith, n.next, n.sealed, floor_is) in
          ap (λ xs. numbered_entry (take (floor c from) xs) number) list
          ∙ there_entry 1 (floor c from) (number - 1) number es n.entry place low (ap (λ xs. slice_get xs (number - 1)) (sym (k.lists from led.own)) ∙ n.there)

      same : (entry : Entry) → numbered_entry (sealed_front c from) number ≡ Some entry → n.entry ≡ entry
      same entry at =
          let es : List Entry = map (λ (x : Item Entry). x.what) (s.peers from).list in
          let list : reach c from ≡ enumerate_from 1 es = reach_good g from c s k led.own led.good ∙ k.lists from led.own in
          let place : number ≡ 1 + (number - 1) = omega (arith, n.next) in
          let there : slice_get (enumerate_from 1 es) (number - 1) ≡ Some (number, entry) =
          entry_at 1 (floor c from) (number - 1) number es entry place (ap (λ xs. numbered_entry (take (floor c from) xs) number) (sym list) ∙ at) in
          let both : Some (number, n.entry) ≡ Some (number, entry) = sym n.there ∙ ap (λ xs. slice_get xs (number - 1)) (k.lists from led.own) ∙ there in
          let pair : (number, n.entry) ≡ (number, entry) = cc both in
          ap (λ (x : ℕ × Entry). x.1) pair

  stepping_asks : (j : Job) → IsStepping q c.core j → first_job q c.core ≡ Some j → AsksFor c q j
  stepping_asks (job.Append number entry) t e = absurd (bad t.joins (first_is_next g q c.core s (job.Append number entry) k.in_step own e).good)
    where
      bad : status_of q c.core ≡ Joining → status_of q c.core ≡ Good → ⊥
      bad i h = let wrong : Joining ≡ Good = sym i ∙ h in cc wrong
  stepping_asks (job.Seal number) t e = absurd (bad t.joins (first_is_next g q c.core s (job.Seal number) k.in_step own e).1.good)
    where
      bad : status_of q c.core ≡ Joining → status_of q c.core ≡ Good → ⊥
      bad i h = let wrong : Joining ≡ Good = sym i ∙ h in cc wrong
  stepping_asks (job.Read number) t e = absurd (bad t.joins (first_is_next g q c.core s (job.Read number) k.in_step own e))
    where
      bad : status_of q c.core ≡ Joining → status_of q c.core ≡ Good → ⊥
      bad i h = let wrong : Joining ≡ Good = sym i ∙ h in cc wrong
  stepping_asks job.Reset t e = rw (t.joins, t.came, resets (sealed_of t.lead_now c.core) t.rejoin t.next) refl
  stepping_asks (job.Copy from number) t e = copy_asks from number t e
  stepping_asks job.Reclaim t e = first_is_next g q c.core s job.Reclaim k.in_step own e

  pub asks_next : (j : Job) → first_job q c.core ≡ Some j → AsksFor c q j
  asks_next j e = go (first_task q c.core) refl
    where
      go : (o : Option Task) → first_task q c.core ≡ o → AsksFor c q j
      go None f = let wrong : None ≡ Some j = sym (ap (λ (o : Option Task). option_map (λ (t : Task). t.job) o) f) ∙ e in absurd (cc wrong)
      go (Some task) f =
          let first : first_job q c.core ≡ Some task.job = ap (λ (o : Option Task). option_map (λ (t : Task). t.job) o) f in
          let both : Some task.job ≡ Some j = sym first ∙ e in
          let is : task.job ≡ j = cc both in
          subst (AsksFor c q) is (elim (found g q c.core s k.in_step own task f) [
            | inl i ↦ queued_asks task i first
            | inr t ↦ stepping_asks task.job t first
          ])

-- ---- all of them

-- a peer keeps a copy of some shard
pub home_low : (shape : Shape) (q : ℕ) → IsPeer shape q → IsShard shape (home_of shape q)
home_low shape q low = elim (cases_lt (home_of shape q) shape.shards) [
  | inl inside ↦ inside
  | inr high ↦
      let up : q / shape.copies * shape.copies ≤ q = div-mul-le_self q shape.copies in
      let row : shape.shards * shape.copies ≤ q / shape.copies * shape.copies = mul-le-mul_right shape.copies high in
      absurd (omega (arith, low, up, row))
]

module _ (c : Whole) (machines : ℕ → Copies Entry) (w : IsWholeInStep c machines) where
  pub some_shard : IsShard (shape_of c.core) 0
  some_shard = elim w.shape.shards [
    | inl one ↦ omega (arith, one)
    | inr more ↦ elim more [
      | inl two ↦ omega (arith, two)
      | inr most ↦ elim most [ inl four ↦ omega (arith, four) | inr eight ↦ omega (arith, eight) ]
    ]
  ]

  -- the shard of a peer is in step
  pub its_shard : (q : ℕ) → IsPeer c.core.members.shape q → IsShardInStep (home q c.core) c (machines (home q c.core))
  its_shard q low = w.each (home q c.core) (home_low c.core.members.shape q low)

  pub past_down : (q : ℕ) → peer_count (shape_of c.core) ≤ q → status_of q c.core ≡ Down
  past_down q high =
      let n = (w.each 0 some_shard).in_step.stands.members.statuses in
      get_or_past c.core.members.statuses q Down (omega (arith, n, high))

  pub floor_within : (q : ℕ) → floor c q ≤ length (reach c q)
  floor_within q = elim (cases_lt q (peer_count (shape_of c.core))) [
    | inl low ↦ (let n = floor_held (home q c.core) q c (machines (home q c.core)) (its_shard q low) refl in let l = longer (c.lists q) (c.adds q) in omega (arith, n, l))
    | inr high ↦ (let n = floor_bad c q (ap is_good_status (past_down q high)) in omega (arith, n))
  ]
    where
      longer : {X : Type 0} (xs ys : List X) → length xs ≤ length (xs ++ ys)
      longer xs ys = let n = length-append xs ys in omega (arith, n)

  pub steady : IsSteady c
  steady = record {
    within = floor_within;
    asks = λ q j low e. asks_next (home q c.core) q c (machines (home q c.core)) (its_shard q low) refl j e;
    reads = λ q number low e. good_effect c q (machines (home q c.core)) (its_shard q low) (first_is_next (home q c.core) q c.core (machines (home q c.core)) (job.Read number) (its_shard q low).in_step refl e);
  }
