-- The queue of a good peer of a shard that is in step: what its first job tells, and what is first behind more jobs.
use Rattle.std.proofs.Common.{◌≡◌, ◌∙◌, ap, sym, refl, inl, inr, ℕ, ◌≤◌, true, false, if◌then◌else◌, List, [], ◌∷◌, ◌++◌, Option, Some, None, flat_map, length}
use Rattle.std.proofs.lemmas.List.{drop-append-le}
use Rattle.std.proofs.lemmas.List.Concat.{flat_map-append}
use Rattle.std.specs.Option.{option_map, option_map_or}
use Rattle.std.specs.Prelude.{drop, slice_get}
use Rattle.hs_copies.specs.Machine.{Copies}
use Rattle.hs_core_copies.proofs.JobLemmas.{AppendsFirst, FirstTask, ReadsFirst, SealsFirst}
use Rattle.hs_core_copies.proofs.NextLemmas.{first_is_next}
use Rattle.hs_core_copies.proofs.ReportLemmas.{IsQueued, found, queued_first}
use Rattle.hs_core_copies.specs.InStep.{IsInStep, IsOf}
use Rattle.hs_core_copies.specs.Jobs.{AreJobs, Queued, seal_of, tasks_for, unsealed}
use Rattle.hs_core_words.specs.declared.task.Task.{Task}
use Rattle.hs_core_words.specs.Looking.{copying_step, first_job, first_task, group_of, status_of, tasks_of}
use Rattle.hs_core_words.specs.State.{Core}
use Rattle.hs_desk.specs.Answers.{answers}
use Rattle.hs_desk.specs.declared.done.Done.{Done}
use Rattle.hs_desk.specs.declared.job.Job.{Job}
use Rattle.hs_desk.specs.declared.job.Job.TheVariants as job
use Rattle.hs_entry.specs.declared.entry.Entry.{Entry}
use Rattle.hs_events.specs.Due.{is_answer}
use Rattle.hs_events.specs.Sane.{appended_of}
use Rattle.hs_fold.specs.Shards.Setting.{Numbered}
use Rattle.hs_limits.specs.declared.limits.PeerStatus.TheVariants.{Good, Joining}
use Rattle.hs_members.specs.Members.{is_joining}

-- ---- first jobs

pub first_job_by : (q : ℕ) (c : Core) (task : Task) → first_task q c ≡ Some task → first_job q c ≡ Some task.job
first_job_by q c task e = ap (λ (o : Option Task). option_map (λ (t : Task). t.job) o) e

pub task_there : (q : ℕ) (c : Core) (j : Job) → first_job q c ≡ Some j → (task : Task) × (first_task q c ≡ Some task) × (task.job ≡ j)
task_there q c j e = go (first_task q c) refl
  where
    go : (o : Option Task) → first_task q c ≡ o → (task : Task) × (first_task q c ≡ Some task) × (task.job ≡ j)
    go None f = let wrong : None ≡ Some j = sym (ap (λ (o : Option Task). option_map (λ (t : Task). t.job) o) f) ∙ e in absurd (cc wrong)
    go (Some task) f = (task, f, let both : Some task.job ≡ Some j = sym (first_job_by q c task f) ∙ e in cc both)

-- the job that a report answers
pub record IsAnswered (q : ℕ) (d : Done) (c : Core) : Type 0 where
  pub task : Task
  pub first : first_task q c ≡ Some task
  pub fits : answers q task.job d ≡ true

pub job_answered : (q : ℕ) (d : Done) (c : Core) → is_answer c q d ≡ true → IsAnswered q d c
job_answered q d c a = go (first_task q c) refl
  where
    by : (o : Option Task) → first_task q c ≡ o → option_map_or (λ j. answers q j d) (option_map (λ (t : Task). t.job) o) false ≡ true
    by o f = sym (ap (λ (o : Option Task). option_map_or (λ j. answers q j d) (option_map (λ (t : Task). t.job) o) false) f) ∙ a

    go : (o : Option Task) → first_task q c ≡ o → IsAnswered q d c
    go None f = let wrong : false ≡ true = by None f in absurd (cc wrong)
    go (Some task) f = record { task = task; first = f; fits = by (Some task) f }

-- a good peer's is the first of its queue
pub first_queued : (q : ℕ) (c : Core) (ts : List Task) → status_of q c ≡ Good → tasks_of q c ≡ ts → first_job q c ≡ option_map (λ (t : Task). t.job) (slice_get ts 0)
first_queued q c ts good e =
    ap (λ x. option_map (λ (t : Task). t.job) (if is_joining x then option_map (λ (j : Job). record { job = j; line = 0 }) (copying_step q c) else slice_get (tasks_of q c) 0)) good
    ∙ ap (λ (us : List Task). option_map (λ (t : Task). t.job) (slice_get us 0)) e

-- nothing waits where no Seal comes first
pub none_by : (q : ℕ) (c : Core) → ((number : ℕ) → first_job q c ≡ Some (job.Seal number) → ⊥) → appended_of q c ≡ None
none_by q c n = go (first_job q c) refl
  where
    go : (o : Option Job) → first_job q c ≡ o → appended_of q c ≡ None
    go None e = rw e refl
    go (Some (job.Append number entry)) e = rw e refl
    go (Some (job.Seal number)) e = absurd (n number e)
    go (Some (job.Read number)) e = rw e refl
    go (Some job.Reset) e = rw e refl
    go (Some (job.Copy from number)) e = rw e refl
    go (Some job.Reclaim) e = rw e refl

-- of entries that are to be appended, and Reads, no Seal comes first
pub queue_first : (queue : List Queued) (number : ℕ) → option_map (λ (t : Task). t.job) (slice_get (flat_map tasks_for queue) 0) ≡ Some (job.Seal number) → ⊥
queue_first [] number e = let wrong : None ≡ Some (job.Seal number) = e in cc wrong
queue_first (x ∷ queue) number e = by x.entry refl
  where
    by : (o : Option Entry) → x.entry ≡ o → ⊥
    by None f = let wrong : Some (job.Read x.number) ≡ Some (job.Seal number) = rw f at e in cc wrong
    by (Some entry) f = let wrong : Some (job.Append x.number entry) ≡ Some (job.Seal number) = rw f at e in cc wrong

pub queue_none : (q : ℕ) (c : Core) (queue : List Queued) → status_of q c ≡ Good → tasks_of q c ≡ flat_map tasks_for queue → appended_of q c ≡ None
queue_none q c queue good e = none_by q c (λ number f. queue_first queue number (sym (first_queued q c (flat_map tasks_for queue) good e) ∙ f))

-- so behind more such jobs
pub more_none : (q : ℕ) (c : Core) (entries : Numbered) (ts : List Task) (queue : List Queued) → status_of q c ≡ Good → AreJobs entries ts → tasks_of q c ≡ ts ++ flat_map tasks_for queue → appended_of q c ≡ None
more_none q c entries ts queue good jobs e =
    queue_none q c (jobs.queue ++ queue) good (e ∙ ap (λ us. us ++ flat_map tasks_for queue) jobs.jobs ∙ sym (flat_map-append tasks_for jobs.queue queue))

-- ---- what the first job tells

-- its first entry is to be appended
pub record ToAppend (q : ℕ) (c : Core) (entries : Numbered) (number : ℕ) (entry : Entry) : Type 0 where
  pub good : status_of q c ≡ Good
  pub others : Numbered
  pub all : entries ≡ (number, entry) ∷ others
  pub task : Task
  pub behind : List Task
  pub tasks : tasks_of q c ≡ task ∷ seal_of number ∷ behind

-- or was, and is to be sealed
pub record ToSeal (q : ℕ) (c : Core) (entries : Numbered) (number : ℕ) : Type 0 where
  pub good : status_of q c ≡ Good
  pub first : ℕ × Entry
  pub others : Numbered
  pub all : entries ≡ first ∷ others
  pub number_is : number ≡ first.0
  pub task : Task
  pub rest : List Task
  pub tasks : tasks_of q c ≡ task ∷ rest
  pub jobs : AreJobs others rest

-- or an entry is to be read
pub record ToRead (q : ℕ) (c : Core) (entries : Numbered) : Type 0 where
  pub good : status_of q c ≡ Good
  pub task : Task
  pub rest : List Task
  pub tasks : tasks_of q c ≡ task ∷ rest
  pub jobs : AreJobs entries rest

module _ (g q : ℕ) (c : Core) (s : Copies Entry) (st : IsInStep g c s) (own : IsOf c.members.shape g q) where
  queued : status_of q c ≡ Good → (task : Task) → first_task q c ≡ Some task → IsQueued q c task
  queued good task f = elim (found g q c s st own task f) [
    | inl i ↦ i
    | inr t ↦ (let wrong : Good ≡ Joining = sym good ∙ t.joins in absurd (cc wrong))
  ]

  pub to_append : (number : ℕ) (entry : Entry) → first_job q c ≡ Some (job.Append number entry) → ToAppend q c (unsealed q (group_of g c)) number entry
  to_append number entry e =
      let good = (first_is_next g q c s (job.Append number entry) st own e).good in
      let t = task_there q c (job.Append number entry) e in
      let i = queued good t.0 t.1 in
      go good t.0 t.2 i (queued_first g q c s st own t.0 i)
    where
      go : status_of q c ≡ Good → (task : Task) → task.job ≡ job.Append number entry → (i : IsQueued q c task) → FirstTask (unsealed q (group_of g c)) task i.rest → ToAppend q c (unsealed q (group_of g c)) number entry
      go good task is i (ReadsFirst n other jobs) = let wrong : job.Append number entry ≡ job.Read n = sym is ∙ other in absurd (cc wrong)
      go good task is i (AppendsFirst first others behind all other left jobs) =
          let same : job.Append number entry ≡ job.Append first.0 first.1 = sym is ∙ other in
          let n : first.0 ≡ number = cc same in
          let x : first.1 ≡ entry = cc same in
          record {
            good = good;
            others = others;
            all = all ∙ ap (λ k. (k, first.1) ∷ others) n ∙ ap (λ y. (number, y) ∷ others) x;
            task = task;
            behind = behind;
            tasks = i.all ∙ ap (λ ts. task ∷ ts) left ∙ ap (λ k. task ∷ seal_of k ∷ behind) n;
          }
      go good task is i (SealsFirst first others all other jobs) = let wrong : job.Append number entry ≡ job.Seal first.0 = sym is ∙ other in absurd (cc wrong)

  pub to_seal : (number : ℕ) → first_job q c ≡ Some (job.Seal number) → ToSeal q c (unsealed q (group_of g c)) number
  to_seal number e =
      let good = (first_is_next g q c s (job.Seal number) st own e).1.good in
      let t = task_there q c (job.Seal number) e in
      let i = queued good t.0 t.1 in
      go good t.0 t.2 i (queued_first g q c s st own t.0 i)
    where
      go : status_of q c ≡ Good → (task : Task) → task.job ≡ job.Seal number → (i : IsQueued q c task) → FirstTask (unsealed q (group_of g c)) task i.rest → ToSeal q c (unsealed q (group_of g c)) number
      go good task is i (ReadsFirst n other jobs) = let wrong : job.Seal number ≡ job.Read n = sym is ∙ other in absurd (cc wrong)
      go good task is i (AppendsFirst first others behind all other left jobs) = let wrong : job.Seal number ≡ job.Append first.0 first.1 = sym is ∙ other in absurd (cc wrong)
      go good task is i (SealsFirst first others all other jobs) =
          let same : job.Seal number ≡ job.Seal first.0 = sym is ∙ other in
          record { good = good; first = first; others = others; all = all; number_is = cc same; task = task; rest = i.rest; tasks = i.all; jobs = jobs }

  pub to_read : (number : ℕ) → first_job q c ≡ Some (job.Read number) → ToRead q c (unsealed q (group_of g c))
  to_read number e =
      let good = first_is_next g q c s (job.Read number) st own e in
      let t = task_there q c (job.Read number) e in
      let i = queued good t.0 t.1 in
      go good t.0 t.2 i (queued_first g q c s st own t.0 i)
    where
      go : status_of q c ≡ Good → (task : Task) → task.job ≡ job.Read number → (i : IsQueued q c task) → FirstTask (unsealed q (group_of g c)) task i.rest → ToRead q c (unsealed q (group_of g c))
      go good task is i (ReadsFirst n other jobs) = record { good = good; task = task; rest = i.rest; tasks = i.all; jobs = jobs }
      go good task is i (AppendsFirst first others behind all other left jobs) = let wrong : job.Read number ≡ job.Append first.0 first.1 = sym is ∙ other in absurd (cc wrong)
      go good task is i (SealsFirst first others all other jobs) = let wrong : job.Read number ≡ job.Seal first.0 = sym is ∙ other in absurd (cc wrong)

-- ---- the next entry stays

-- of a list that grew
pub same_next : (n : ℕ) (old new more : Numbered) (x y : ℕ × Entry) (xs ys : Numbered) → n ≤ length old → new ≡ old ++ more → drop n old ≡ x ∷ xs → drop n new ≡ y ∷ ys → y ≡ x
same_next n old new more x y xs ys low is a b =
    let all : y ∷ ys ≡ x ∷ (xs ++ more) = sym b ∙ ap (drop n) is ∙ drop-append-le n old more low ∙ ap (λ zs. zs ++ more) a in
    cc all
