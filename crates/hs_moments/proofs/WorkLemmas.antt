-- What a peer of a sane store has appended, and what comes next on its disk.
use Rattle.std.proofs.Common.{◌≡◌, ◌∙◌, ap, sym, subst, inl, inr, ℕ, zero, suc, ◌+◌, ◌<◌, ◌≤◌, false, List, [], ◌∷◌, ◌++◌, Option, Some, None, refl, arith, length}
use Rattle.std.proofs.lemmas.Bool.{cases_lt}
use Rattle.std.proofs.lemmas.List.{append-nil, append_assoc, length-append, length-take-le, take_at}
use Rattle.std.proofs.lemmas.List.Elements.{All-head, All-tail, All-take}
use Rattle.std.proofs.lemmas.List.FromFn.{length-enumerate_from}
use Rattle.std.specs.List.{All, enumerate_from}
use Rattle.std.specs.Option.{option_map}
use Rattle.std.specs.Prelude.{fold, if◌then◌else◌, slice_get, take}
use Rattle.hs_core_words.specs.declared.task.Task.{Task}
use Rattle.hs_core_words.specs.Looking.{first_job, group_of, home, sealed_of, tasks_of}
use Rattle.hs_core_words.specs.State.{Core}
use Rattle.hs_desk.specs.declared.job.Job.{Job}
use Rattle.hs_desk.specs.declared.job.Job.TheVariants as job
use Rattle.hs_entry.specs.declared.entry.Entry.{Entry}
use Rattle.hs_entry.specs.declared.entry.Entry.TheVariants as kind
use Rattle.hs_entry.specs.declared.rank.Rank.{Rank}
use Rattle.hs_entry.specs.Entries.{is_of_base, rank_after, rank_of}
use Rattle.hs_fold.specs.Shards.Setting.{Numbered}
use Rattle.hs_members.specs.Members.{is_good_status}
use Rattle.hs_replica.specs.declared.replica.Replica.{Replica}
use Rattle.hs_replica.specs.Group.{Group, copy_of, entries_above}
use Rattle.hs_events.specs.Alone.{AreAlone, AreBegun, AreJobs, HasJobs, IsCounted, face, own, seal_of}
use Rattle.hs_events.specs.Sane.{IsSane, appended_of, next_entry}
use Rattle.hs_events.specs.Whole.{Whole, floor, reach}
use Rattle.hs_moments.specs.WholeMachine.{last_of}
use Rattle.hs_moments.specs.Working.{IsNextEntry, NextJob}
use Rattle.hs_moments.proofs.AloneEventLemmas.{home_here, status_past}
use Rattle.hs_moments.proofs.AloneLemmas.{copy_alone}
use Rattle.hs_moments.proofs.AloneReportLemmas.{Above, first_here, first_past}
use Rattle.hs_moments.proofs.JobLemmas.{above_front, length_counted, next_of}
use Rattle.hs_moments.proofs.MoveLemmas.{enumerate_append}

-- ---- how much is sealed

pub sealed_here : (c : Core) (p : ℕ) → AreAlone (face c) → p < c.members.shape.shards → sealed_of p c ≡ (own (group_of p c)).sealed
sealed_here c p h low =
    ap (λ k. (copy_of (group_of k c) p).sealed) (home_here c p h.copies)
    ∙ ap (λ (r : Replica). r.sealed) (copy_alone c.members.shape p (group_of p c) h.copies (h.each p low))

pub floor_alone : (c : Whole) (p : ℕ) → AreAlone (face c.core) → p < c.core.members.shape.shards → floor c p ≡ (own (group_of p c.core)).sealed
floor_alone c p h low = ap (λ s. if is_good_status s then sealed_of p c.core else 0) (h.good p low) ∙ sealed_here c.core p h low

pub floor_past : (c : Whole) (p : ℕ) → AreAlone (face c.core) → c.core.members.shape.shards ≤ p → floor c p ≡ 0
floor_past c p h high = ap (λ s. if is_good_status s then sealed_of p c.core else 0) (status_past c.core p h high)

-- ---- the first job

first_job_here : (c : Core) (p : ℕ) (ts : List Task) → AreAlone (face c) → p < c.members.shape.shards → tasks_of p c ≡ ts → first_job p c ≡ option_map (λ (t : Task). t.job) (slice_get ts 0)
first_job_here c p ts h low e = ap (option_map (λ (t : Task). t.job)) (first_here c p h low ∙ ap (λ (us : List Task). slice_get us 0) e)

-- nobody but the peers of the store has one
pub job_within : (c : Core) (p : ℕ) (j : Job) → AreAlone (face c) → c.members.shape.shards ≤ p → first_job p c ≡ Some j → ⊥
job_within c p j h high e = let bad : None ≡ Some j = sym (ap (option_map (λ (t : Task). t.job)) (first_past c p h high)) ∙ e in cc

pub past_appended : (c : Core) (p : ℕ) → AreAlone (face c) → c.members.shape.shards ≤ p → appended_of p c ≡ None
past_appended c p h high = let e : first_job p c ≡ None = ap (option_map (λ (t : Task). t.job)) (first_past c p h high) in rw e refl

-- what the first job may be
pub data FirstJob (entries : Numbered) (tasks : List Task) (first : Option Job) : Type 0 where
  idle : AreJobs entries tasks → first ≡ None → FirstJob entries tasks first
  reads : (number : ℕ) → AreJobs entries tasks → first ≡ Some (job.Read number) → FirstJob entries tasks first
  appends : (next : ℕ × Entry) (others : Numbered) → AreJobs entries tasks → entries ≡ next ∷ others → first ≡ Some (job.Append next.0 next.1) → FirstJob entries tasks first
  seals : (b : AreBegun entries tasks) → first ≡ Some (job.Seal b.first.0) → FirstJob entries tasks first

pub first_of : (c : Core) (p : ℕ) → AreAlone (face c) → p < c.members.shape.shards → HasJobs (Above p (face c)) (tasks_of p c) → FirstJob (Above p (face c)) (tasks_of p c) (first_job p c)
first_of c p h low (inl j) = elim (next_of (Above p (face c)) (tasks_of p c) j) [
  | inl i ↦ idle j (first_job_here c p [] h low i.jobs)
  | inr (inl r) ↦ reads r.number j (first_job_here c p (record { job = job.Read r.number; line = r.line } ∷ r.behind) h low r.jobs)
  | inr (inr a) ↦ appends a.first a.others j a.all (first_job_here c p (record { job = job.Append a.first.0 a.first.1; line = 0 } ∷ seal_of a.first.0 ∷ a.behind) h low a.jobs)
]
first_of c p h low (inr b) = seals b (first_job_here c p (seal_of b.first.0 ∷ b.behind) h low b.jobs)

-- ---- what stands unsealed

pub none_appended : (c : Core) (p : ℕ) → AreAlone (face c) → p < c.members.shape.shards → AreJobs (Above p (face c)) (tasks_of p c) → appended_of p c ≡ None
none_appended c p h low j = elim (next_of (Above p (face c)) (tasks_of p c) j) [
  | inl i ↦ let e = first_job_here c p [] h low i.jobs in rw e refl
  | inr (inl r) ↦ let e = first_job_here c p (record { job = job.Read r.number; line = r.line } ∷ r.behind) h low r.jobs in rw e refl
  | inr (inr a) ↦ let e = first_job_here c p (record { job = job.Append a.first.0 a.first.1; line = 0 } ∷ seal_of a.first.0 ∷ a.behind) h low a.jobs in rw e refl
]

above_here : (c : Core) (p : ℕ) → AreAlone (face c) → p < c.members.shape.shards → entries_above (sealed_of p c) (group_of (home p c) c) ≡ Above p (face c)
above_here c p h low = ap (λ k. entries_above (sealed_of p c) (group_of k c)) (home_here c p h.copies) ∙ ap (λ n. entries_above n (group_of p c)) (sealed_here c p h low)

pub begun_appended : (c : Core) (p : ℕ) → AreAlone (face c) → p < c.members.shape.shards → (b : AreBegun (Above p (face c)) (tasks_of p c)) → appended_of p c ≡ Some b.first.1
begun_appended c p h low b =
    let e : first_job p c ≡ Some (job.Seal b.first.0) = first_job_here c p (seal_of b.first.0 ∷ b.behind) h low b.jobs in
    let n : next_entry p c ≡ Some b.first.1 = ap (λ (es : Numbered). option_map (λ (y : ℕ × Entry). y.1) (slice_get es 0)) (above_here c p h low ∙ b.all) in
    rw e n

-- ---- what comes next

-- the first entry above the front is the next of the list
next_in : (list : Numbered) (g : Group) (first : ℕ × Entry) (others : Numbered) → IsCounted list g → enumerate_from (g.front + 1) g.waiting ≡ first ∷ others → (first.0 ≡ g.front + 1) × (take (g.front + 1) list ≡ take g.front list ++ first ∷ [])
next_in list g first others l e =
    let front : Numbered = enumerate_from 1 l.taken in
    let long : length front ≡ g.front = length-enumerate_from 1 l.taken ∙ l.handed in
    let begins : 1 + length l.taken ≡ g.front + 1 = let n = l.handed in omega (arith, n) in
    let is : list ≡ front ++ first ∷ others = l.counted ∙ enumerate_append 1 l.taken g.waiting ∙ ap (λ n. front ++ enumerate_from n g.waiting) begins ∙ ap (λ es. front ++ es) e in
    let more : length (front ++ first ∷ []) ≡ g.front + 1 = length-append front (first ∷ []) ∙ omega (arith, long) in (
      number g.waiting refl,
      ap (take (g.front + 1)) (is ∙ sym (append_assoc front (first ∷ []) others)) ∙ take_at (front ++ first ∷ []) others (g.front + 1) more
          ∙ ap (λ es. es ++ first ∷ []) (sym (ap (take g.front) is ∙ take_at front (first ∷ others) g.front long)),
    )
  where
    number : (ws : List Entry) → g.waiting ≡ ws → first.0 ≡ g.front + 1
    number [] w = let bad : [] ≡ first ∷ others = sym (ap (enumerate_from (g.front + 1)) w) ∙ e in cc
    number (v ∷ ws) w =
        let is : (g.front + 1, v) ∷ enumerate_from (g.front + 1 + 1) ws ≡ first ∷ others = sym (ap (enumerate_from (g.front + 1)) w) ∙ e in
        let one : (g.front + 1, v) ≡ first = cc in
        sym (ap (λ (y : ℕ × Entry). y.0) one)

pub reach_sane : (c : Whole) (p : ℕ) → IsSane c → reach c p ≡ c.lists p
reach_sane c p h = ap (λ es. c.lists p ++ es) (h.adds p) ∙ append-nil (c.lists p)

is_next_entry : (c : Whole) (p : ℕ) (first : ℕ × Entry) (others : Numbered) → IsSane c → p < c.core.members.shape.shards → Above p (face c.core) ≡ first ∷ others → IsNextEntry c p first.0 first.1
is_next_entry c p first others h low all =
    let g : Group = group_of p c.core in
    let settled = (h.settled p low).settled in
    let floor_is : floor c p ≡ g.front = floor_alone c p h.alone low ∙ settled in
    let n = next_in (c.lists p) g first others (h.lists p low) (sym (above_front g (own g).sealed settled) ∙ all) in
    record {
      next = n.0 ∙ ap (λ k. k + 1) (sym floor_is);
      list = ap (λ k. take k (reach c p)) n.0 ∙ ap (take (g.front + 1)) (reach_sane c p h) ∙ n.1
          ∙ ap (λ es. take g.front es ++ first ∷ []) (sym (reach_sane c p h)) ∙ ap (λ k. take k (reach c p) ++ first ∷ []) (sym floor_is);
    }

-- which jobs there are
pub next_job : (c : Whole) (p : ℕ) (j : Job) → IsSane c → first_job p c.core ≡ Some j → NextJob c p j
next_job c p j h e = elim (cases_lt p c.core.members.shape.shards) [
  | inl low ↦ by_first low (first_of c.core p h.alone low (h.settled p low).jobs)
  | inr high ↦ absurd (job_within c.core p j h.alone high e)
]
  where
    by_first : p < c.core.members.shape.shards → FirstJob (Above p (face c.core)) (tasks_of p c.core) (first_job p c.core) → NextJob c p j
    by_first low (idle a f) = let bad : None ≡ Some j = sym f ∙ e in cc
    by_first low (reads number a f) =
        let same : job.Read number ≡ j = let k : Some (job.Read number) ≡ Some j = sym f ∙ e in cc in
        subst (NextJob c p) same (none_appended c.core p h.alone low a)
    by_first low (appends next others a all f) =
        let same : job.Append next.0 next.1 ≡ j = let k : Some (job.Append next.0 next.1) ≡ Some j = sym f ∙ e in cc in
        subst (NextJob c p) same (is_next_entry c p next others h low all, none_appended c.core p h.alone low a)
    by_first low (seals b f) =
        let same : job.Seal b.first.0 ≡ j = let k : Some (job.Seal b.first.0) ≡ Some j = sym f ∙ e in cc in
        subst (NextJob c p) same (record { entry = b.first.1; appended = begun_appended c.core p h.alone low b; next = is_next_entry c p b.first b.others h low b.all })

pub floor_within : (c : Whole) (p : ℕ) → IsSane c → p < c.core.members.shape.shards → floor c p ≤ length (reach c p)
floor_within c p h low =
    let g : Group = group_of p c.core in
    let floor_is = floor_alone c p h.alone low in
    let within = (h.alone.each p low).within in
    let long = ap length (reach_sane c p h) ∙ length_counted (c.lists p) g (h.lists p low) in
    omega (arith, floor_is, within, long)

-- ---- the number of the last entry

number_after : (r : Rank) (n : ℕ) (e : Entry) → is_of_base e ≡ false → (rank_after r n e).number ≡ n
number_after r n (kind.View view) h = refl
number_after r n (kind.Block op least bytes) h = refl
number_after r n (kind.Mark op least block address) h = refl
number_after r n (kind.Root op held address key) h = refl
number_after r n (kind.Drop op key) h = refl
number_after r n (kind.Enter op epoch) h = refl
number_after r n (kind.Got sender epoch round total deltas) h = refl
number_after r n (kind.Base view epoch swept round frames) h = cc
number_after r n (kind.KeptBlock born mark flags count bytes) h = cc
number_after r n (kind.KeptRoot created dropped counted address key) h = cc
number_after r n (kind.KeptRound way other epoch round total deltas) h = cc

ranks_on : (r : Rank) (n : ℕ) (es : List Entry) → All (λ e. is_of_base e ≡ false) es → r.number ≡ n → (fold (λ (rank : Rank) (x : ℕ × Entry). rank_after rank x.0 x.1) r (enumerate_from (n + 1) es)).number ≡ n + length es
ranks_on r n [] plain e = e ∙ omega arith
ranks_on r n (x ∷ es) plain e =
    ranks_on (rank_after r (n + 1) x) (n + 1) es (All-tail (λ e. is_of_base e ≡ false) x es plain) (number_after r (n + 1) x (All-head (λ e. is_of_base e ≡ false) x es plain)) ∙ omega arith

pub last_is : (es : List Entry) → All (λ e. is_of_base e ≡ false) es → (rank_of (enumerate_from 1 es)).number ≡ length es
unfolding rank_of
last_is es plain = ranks_on (record { view = 0; number = 0 }) 0 es plain refl ∙ omega arith

take_counted : {X : Type 0} (k n : ℕ) (xs : List X) → take k (enumerate_from n xs) ≡ enumerate_from n (take k xs)
take_counted zero n xs = refl
take_counted (suc k) n [] = refl
take_counted (suc k) n (x ∷ xs) = ap (λ ys. (n, x) ∷ ys) (take_counted k (n + 1) xs)

-- the first entries of a list end in the number of how many they are
pub last_of_front : (c : Whole) (p n : ℕ) → IsSane c → p < c.core.members.shape.shards → n ≤ length (reach c p) → last_of (take n (reach c p)) ≡ n
last_of_front c p n h low le =
    let l = h.lists p low in
    let all : List Entry = l.taken ++ (group_of p c.core).waiting in
    let is : reach c p ≡ enumerate_from 1 all = reach_sane c p h ∙ l.counted in
    let long : length (reach c p) ≡ length all = ap length is ∙ length-enumerate_from 1 all in
    ap (λ es. last_of (take n es)) is ∙ ap last_of (take_counted n 1 all)
    ∙ last_is (take n all) (All-take (λ (e : Entry). is_of_base e ≡ false) n all l.plain) ∙ length-take-le n all (omega (arith, le, long))
