-- Where no peer has a job each good peer has sealed its list, and none is joining.
use Rattle.std.proofs.Common.{◌≡◌, ◌∙◌, sym, ap, subst, inl, inr, ℕ, zero, suc, ◌+◌, ◌-◌, ◌<◌, ◌≤◌, Bool, true, false, if◌then◌else◌, List, [], ◌∷◌, length, Option, Some, None, refl, arith, tests, nat_lt, map, drop, flat_map, slice_get}
use Rattle.std.proofs.lemmas.Bool.{cases_lt}
use Rattle.std.proofs.lemmas.List.{length-map}
use Rattle.std.specs.List.{enumerate_from}
use Rattle.std.specs.Option.{option_map, option_map_or}
use Rattle.hs_copies.proofs.StandLemmas.{length_is}
use Rattle.hs_copies.specs.Lists.{Item}
use Rattle.hs_copies.specs.Machine.{Copies}
use Rattle.hs_core_words.specs.declared.task.Task.{Task}
use Rattle.hs_core_words.specs.Looking.{copying_step, first_job, first_task, front_of, group_of, home, sealed_of, status_of, tasks_of}
use Rattle.hs_core_words.specs.State.{Core}
use Rattle.hs_core_copies.proofs.BesideLemmas.{home_of_peer}
use Rattle.hs_core_copies.proofs.NextLemmas.{unsealed_is}
use Rattle.hs_core_copies.proofs.StillLemmas.{least_above, some_known}
use Rattle.hs_core_copies.specs.InStep.{IsInStep, IsOf, copies_in}
use Rattle.hs_core_copies.specs.Jobs.{HasJobs, Queued, entry_for, tasks_for, unsealed}
use Rattle.hs_desk.specs.declared.job.Job.{Job}
use Rattle.hs_desk.specs.declared.job.Job.TheVariants as job
use Rattle.hs_entry.specs.declared.entry.Entry.{Entry}
use Rattle.hs_limits.specs.declared.limits.PeerStatus.TheVariants.{Down, Good, Joining}
use Rattle.hs_members.specs.Members.{is_joining}
use Rattle.hs_rejoin.specs.Rejoin.{Rejoin, next_job}
use Rattle.hs_replica.specs.declared.replica.Replica.{Replica}
use Rattle.hs_replica.specs.Group.{Group, commit_front, copy_of, first_peer, last_number, lead, least_known, length_of}
use Rattle.hs_quiet.specs.Keeping.{AreInStep, KeepsUp}
use Rattle.hs_quiet.proofs.CopyLemmas.{copy_at, lead_placed, past}
use Rattle.hs_quiet.proofs.StartLemmas.{good_lead, knows_here, lead_here, lead_whole, low_home, low_peer, peer_good, peer_own}

-- ---- no job, nothing to seal

numbered_long : {X : Type 0} (n : ℕ) (xs : List X) → length (enumerate_from n xs) ≡ length xs
numbered_long n [] = refl
numbered_long n (x ∷ xs) = ap suc (numbered_long (n + 1) xs)

drop_long : {X : Type 0} (k : ℕ) (xs : List X) → length xs ≤ k + length (drop k xs)
drop_long zero xs = omega arith
drop_long (suc k) [] = omega arith
drop_long (suc k) (x ∷ xs) = let n = drop_long k xs in omega (arith, n)

no_queue : (queue : List Queued) → flat_map tasks_for queue ≡ [] → flat_map entry_for queue ≡ []
no_queue [] e = refl
no_queue (q ∷ queue) e = go q.entry refl
  where
    go : (o : Option Entry) → q.entry ≡ o → flat_map entry_for (q ∷ queue) ≡ []
    go None f =
        let wrong : record { job = job.Read q.number; line = q.line } ∷ flat_map tasks_for queue ≡ [] = rw f at e in
        absurd (cc wrong)
    go (Some entry) f =
        let wrong : record { job = job.Append q.number entry; line = 0 } ∷ record { job = job.Seal q.number; line = 0 } ∷ flat_map tasks_for queue ≡ [] = rw f at e in
        absurd (cc wrong)

no_entry : (es : List (ℕ × Entry)) (ts : List Task) → ts ≡ [] → HasJobs es ts → es ≡ []
no_entry es ts none (inl j) = j.all ∙ no_queue j.queue (sym j.jobs ∙ none)
no_entry es ts none (inr b) = absurd (cc (sym b.jobs ∙ none))

abbrev as_task : Job → Task
as_task j = record { job = j; line = 0 }

pub first_none : {X : Type 0} (xs : List X) → slice_get xs 0 ≡ None → xs ≡ []
first_none [] e = refl
first_none (x ∷ xs) e = absurd (cc e)

pub no_task : (o : Option Task) → option_map (λ (t : Task). t.job) o ≡ None → o ≡ None
no_task None e = refl
no_task (Some task) e = absurd (cc e)

module _ (g : ℕ) (c : Core) (s : Copies Entry) (st : IsInStep g c s) (p : ℕ) (own : IsOf c.members.shape g p) (good : status_of p c ≡ Good) (none : first_job p c ≡ None) where
  no_tasks : tasks_of p c ≡ []
  no_tasks =
      first_none (tasks_of p c)
      (sym (ap (λ k. if is_joining k then option_map (λ (j : Job). record { job = j; line = 0 }) (copying_step p c) else slice_get (tasks_of p c) 0) good) ∙ no_task (first_task p c) none)

  -- it has sealed its list
  pub sealed_here : (copy_of (group_of g c) p).sealed ≡ length_of (group_of g c) p
  sealed_here =
      let x : Group = group_of g c in
      let nothing : unsealed p x ≡ [] = no_entry (unsealed p x) (tasks_of p c) no_tasks ((st.jobs p own).good good) in
      let is : unsealed p x ≡ drop (copy_of x p).sealed (enumerate_from 1 (map (λ y. y.what) (s.peers p).list)) = unsealed_is g c s st p own good in
      let long : length (drop (copy_of x p).sealed (enumerate_from 1 (map (λ (y : Item Entry). y.what) (s.peers p).list))) ≡ 0 = ap (λ es. length es) (sym is ∙ nothing) in
      let cut = drop_long (copy_of x p).sealed (enumerate_from 1 (map (λ (y : Item Entry). y.what) (s.peers p).list)) in
      let many = numbered_long 1 (map (λ (y : Item Entry). y.what) (s.peers p).list) in
      let mapped = length-map (s.peers p).list (λ (y : Item Entry). y.what) in
      let len = length_is (copies_in g st.sent c) s st.stands p (home_of_peer g c s st p own) in
      let within = ((knows_here g c s st).each p own good).sealed in
      omega (arith, long, cut, many, mapped, len, within)

-- what is known of the least that is known
above : (f : ℕ) (o : Option ℕ) → (o ≡ None → ⊥) → ((n : ℕ) → o ≡ Some n → f ≤ n) → f ≤ option_map_or (λ n. n) o 0
above f None some h = absurd (some refl)
above f (Some n) some h = h n refl

-- ---- no peer has a job

module _ (c : Core) (all : AreInStep c) (up : KeepsUp c) (idle : (p : ℕ) → first_job p c ≡ None) where
  -- of a lead its whole list is known
  pub lead_level : (g : ℕ) (low : g < c.members.shape.shards) (l : ℕ) → lead (group_of g c) ≡ Some l → (copy_of (group_of g c) l).known ≡ last_number (group_of g c)
  lead_level g low l e =
      let t = all.each g low in
      let led = good_lead g c t.0 t.1 l e in
      let sealed = sealed_here g c t.0 t.1 l led.own led.good (idle l) in
      let whole = lead_whole g c t.0 t.1 l e in
      elim (up.leads g l e) [
        | inl known ↦ known ∙ sealed ∙ whole
        | inr more ↦ absurd (omega (arith, more, sealed))
      ]

  -- nobody is joining: there would be an emptying, or an entry to copy
  pub none_joins : (p : ℕ) → status_of p c ≡ Joining → ⊥
  none_joins p joins =
      let low : home p c < c.members.shape.shards = low_home c all p (low_peer c all p (λ d. let wrong : Joining ≡ Down = sym joins ∙ d in cc wrong)) in
      let t = all.each (home p c) low in
      let l = lead_here (home p c) c t.0 t.1 in
      let led = good_lead (home p c) c t.0 t.1 l.0 l.1 in
      let k = up.joins p joins in
      let sealed : sealed_of l.0 c ≡ last_number (group_of (home p c) c) =
      ap (λ g. (copy_of (group_of g c) l.0).sealed) led.own ∙ sealed_here (home p c) c t.0 t.1 l.0 led.own led.good (idle l.0) ∙ lead_whole (home p c) c t.0 t.1 l.0 l.1 in
      let step : copying_step p c ≡ next_job (sealed_of l.0 c) k.rejoin = rw (l.2, k.at) refl in
      let nothing : first_task p c ≡ None = no_task (first_task p c) (idle p) in
      let is : option_map as_task (next_job (sealed_of l.0 c) k.rejoin) ≡ None =
      ap (option_map as_task) (sym step) ∙ sym (ap (λ b. if is_joining b then option_map as_task (copying_step p c) else slice_get (tasks_of p c) 0) joins) ∙ nothing in
      there (sealed_of l.0 c) k.rejoin (λ due. (let n = k.less due in omega (arith, n, sealed))) is
    where
      there : (n : ℕ) (r : Rejoin) → (r.empty ≡ false → r.len < n) → option_map as_task (next_job n r) ≡ None → ⊥
      there n r less e = go r.empty refl
        where
          copies : r.empty ≡ false → (b : Bool) → nat_lt r.len n ≡ b → ⊥
          copies f true h = let wrong : Some (as_task (job.Copy r.from (r.len + 1))) ≡ None = rw (f, h) at e in cc wrong
          copies f false h = let low = less f in grind (arith, tests, low, h)

          go : (b : Bool) → r.empty ≡ b → ⊥
          go true f = let wrong : Some (as_task job.Reset) ≡ None = rw f at e in cc wrong
          go false f = copies f (nat_lt r.len n) refl

  -- where all is known of each good peer nothing waits
  pub nothing_waits_in : (g : ℕ) (low : g < c.members.shape.shards) → front_of g c ≡ commit_front (group_of g c)
      → ((p : ℕ) → home p c ≡ g → status_of p c ≡ Good → last_number (group_of g c) ≤ (copy_of (group_of g c) p).known) → (group_of g c).waiting ≡ []
  nothing_waits_in g low same level =
      let t = all.each g low in
      let x : Group = group_of g c in
      let l = lead_here g c t.0 t.1 in
      let k = lead_placed x l.0 l.1 in
      let inside : k.place < length x.copies = elim (cases_lt k.place (length x.copies)) [
        | inl lo ↦ lo
        | inr high ↦ absurd (let wrong : false ≡ true = sym (ap (λ (r : Replica). r.good) (past x.copies k.place high)) ∙ k.good in cc wrong)
      ] in
      let each : (i : ℕ) → i < length x.copies → (copy_at i x).good ≡ true → last_number x ≤ (copy_at i x).known = λ i lo good.
      (let q : ℕ = first_peer x + i in
      let at : q - first_peer x ≡ i = omega arith in
      subst (λ j. last_number x ≤ (copy_at j x).known) at (level q (peer_own c g i t.1.seated good) (peer_good g c t.0 t.1 i good))) in
      let top : last_number x ≤ commit_front x = above (last_number x) (least_known x.copies) (some_known x.copies k.place inside k.good) (least_above (last_number x) x.copies each) in
      let none : length x.waiting ≡ 0 = omega (arith, same, top) in
      nothing x.waiting none
    where
      nothing : (xs : List Entry) → length xs ≡ 0 → xs ≡ []
      nothing [] e = refl
      nothing (x ∷ xs) e = absurd (omega (arith, e))

-- each good peer has sealed its list
pub sealed_at : (c : Core) → AreInStep c → ((p : ℕ) → first_job p c ≡ None) → (p : ℕ) → status_of p c ≡ Good → sealed_of p c ≡ length_of (group_of (home p c) c) p
sealed_at c all idle p good =
    let low = low_peer c all p (λ d. let wrong : Good ≡ Down = sym good ∙ d in cc wrong) in
    let t = all.each (home p c) (low_home c all p low) in
    sealed_here (home p c) c t.0 t.1 p refl good (idle p)
