-- A disk that fails is of a peer that is not down.
use Rattle.std.proofs.Common.{◌≡◌, ◌≢◌, ◌∙◌, ap, sym, refl, inl, inr, ℕ, ◌+◌, ◌<◌, ◌==◌, ◌||◌, if◌then◌else◌, nat_lt, Bool, true, false, Option, Some, None, eqb-true}
use Rattle.std.specs.Option.{option_map, option_map_or}
use Rattle.hs_copies.specs.Machine.{Copies}
use Rattle.hs_core_copies.proofs.LeadLemmas.{lead_is}
use Rattle.hs_core_copies.proofs.ReportLemmas.{found, queued_disk}
use Rattle.hs_core_copies.specs.InStep.{IsInStep}
use Rattle.hs_core_words.specs.declared.task.Task.{Task}
use Rattle.hs_core_words.specs.Looking.{first_task, home, rejoin_of, sealed_of, shape_of, status_of}
use Rattle.hs_core_words.specs.State.{Core}
use Rattle.hs_desk.specs.Answers.{answers, is_copy_from}
use Rattle.hs_desk.specs.declared.done.Done.TheVariants as done
use Rattle.hs_desk.specs.declared.job.Job.{Job}
use Rattle.hs_desk.specs.declared.job.Job.TheVariants as job
use Rattle.hs_entry.specs.declared.entry.Entry.{Entry}
use Rattle.hs_events.specs.Due.{is_answer}
use Rattle.hs_limits.specs.declared.limits.PeerStatus.TheVariants.{Down, Good, Joining}
use Rattle.hs_rejoin.specs.Rejoin.{Rejoin, next_job}
use Rattle.hs_whole_copies.specs.Whole.{FollowsLead}
use Rattle.hs_quiet.specs.Keeping.{AreInStep}
use Rattle.hs_quiet.proofs.StartLemmas.{low_home, seated_all, task_low}

-- a copying step reads the disk of whom its peer follows
copies_from : (n : ℕ) (r : Rejoin) (j : Job) (disk : ℕ) → next_job n r ≡ Some j → is_copy_from disk j ≡ true → disk ≡ r.from
copies_from n r j disk e a = go r.empty refl (nat_lt r.len n) refl
  where
    go : (b : Bool) → r.empty ≡ b → (d : Bool) → nat_lt r.len n ≡ d → disk ≡ r.from
    go true f d h =
        let is : job.Reset ≡ j = (let both : Some job.Reset ≡ Some j = sym (ap (λ t. if t then Some job.Reset else (if nat_lt r.len n then Some (job.Copy r.from (r.len + 1)) else None)) f) ∙ e in cc both) in
        let wrong : false ≡ true = ap (is_copy_from disk) is ∙ a in absurd (cc wrong)
    go false f true h =
        let is : job.Copy r.from (r.len + 1) ≡ j = (let both : Some (job.Copy r.from (r.len + 1)) ≡ Some j =
        sym (ap (λ t. if t then Some job.Reset else (if nat_lt r.len n then Some (job.Copy r.from (r.len + 1)) else None)) f ∙ ap (λ t. if t then Some (job.Copy r.from (r.len + 1)) else None) h) ∙ e in cc both) in
        eqb-true disk r.from (ap (is_copy_from disk) is ∙ a)
    go false f false h =
        let wrong : None ≡ Some j =
        sym (ap (λ t. if t then Some job.Reset else (if nat_lt r.len n then Some (job.Copy r.from (r.len + 1)) else None)) f ∙ ap (λ t. if t then Some (job.Copy r.from (r.len + 1)) else None) h) ∙ e in absurd (cc wrong)

module _ (c : Core) (all : AreInStep c) (follows : (shard : ℕ) → shard < (shape_of c).shards → FollowsLead shard c) (by disk : ℕ) where
  module _ (task : Task) (first_is : first_task by c ≡ Some task) (a : answers by task.job (done.Failed disk) ≡ true) where
    low_x : home by c < (shape_of c).shards
    low_x = low_home c all by (task_low c all by task first_is)

    abbrev copies : Copies Entry
    copies = (all.each (home by c) low_x).0

    st : IsInStep (home by c) c (all.each (home by c) low_x).0
    st = (all.each (home by c) low_x).1

    task_up : status_of disk c ≢ Down
    task_up down = elim (found (home by c) by c copies st refl task first_is) [
      | inl q ↦
          let same : disk ≡ by = queued_disk (home by c) by c copies st refl task first_is disk q a in
          let wrong : Good ≡ Down = sym q.good ∙ ap (λ k. status_of k c) (sym same) ∙ down in
          cc wrong
      | inr t ↦ go t.joins t.rejoin t.came t.lead_now t.next (disk == by) refl
    ]
      where
        go : status_of by c ≡ Joining → (r : Rejoin) → rejoin_of by c ≡ Some r → (l : ℕ) → next_job (sealed_of l c) r ≡ Some task.job → (b : Bool) → (disk == by) ≡ b → ⊥
        go joins r came l next true e =
            let wrong : Joining ≡ Down = sym joins ∙ ap (λ k. status_of k c) (sym (eqb-true disk by e)) ∙ down in
            cc wrong
        go joins r came l next false e =
            let copy : is_copy_from disk task.job ≡ true = sym (ap (λ b. b || is_copy_from disk task.job) e) ∙ a in
            let from : disk ≡ r.from = copies_from (sealed_of l c) r task.job disk next copy in
            let led = follows (home by c) low_x by r refl joins came in
            let good : status_of r.from c ≡ Good = (lead_is (home by c) c r.from ((seated_all c all).placed (home by c)).few led).good in
            let wrong : Good ≡ Down = sym good ∙ ap (λ k. status_of k c) (sym from) ∙ down in
            cc wrong

  pub failed_up : is_answer c by (done.Failed disk) ≡ true → status_of disk c ≢ Down
  failed_up a = go (first_task by c) refl a
    where
      go : (o : Option Task) → first_task by c ≡ o → option_map_or (λ j. answers by j (done.Failed disk)) (option_map (λ (t : Task). t.job) o) false ≡ true → status_of disk c ≢ Down
      go None is h = let wrong : false ≡ true = h in absurd (cc wrong)
      go (Some task) is h = task_up task is h
