-- What a report of a peer that is taken leaves of it.
use Rattle.std.proofs.Common.{◌≡◌, ◌∙◌, ap, sym, subst, refl, inl, inr, ℕ, ◌<◌, Bool, true, false, [], Option, Some, None, length}
use Rattle.std.specs.Option.{option_map, option_map_or}
use Rattle.std.specs.Prelude.{drop, if◌then◌else◌, max, slice_index_or, ◌++◌, ◌-◌, ◌∷◌}
use Rattle.hs_anatomy.proofs.StepLemmas.{step_is}
use Rattle.hs_anatomy.specs.Acts.{begun, without_job}
use Rattle.hs_awaiting.specs.Words.{change_if}
use Rattle.hs_copies.proofs.HomeLemmas.{set_same}
use Rattle.hs_copies.specs.Machine.{Copies}
use Rattle.hs_core_copies.proofs.BesideLemmas.{home_of_peer}
use Rattle.hs_core_copies.proofs.PlaceLemmas.{group_here, tasks_here}
use Rattle.hs_core_copies.proofs.ReportLemmas.{found, queued_disk}
use Rattle.hs_core_copies.proofs.StepLemmas.{has_group, has_tasks}
use Rattle.hs_core_copies.proofs.WalkLemmas.{keeps_commits, keeps_tell_bytes}
use Rattle.hs_core_copies.specs.InStep.{IsInStep, IsOf}
use Rattle.hs_core_words.specs.Changing.{change_group, change_rejoin, note, post}
use Rattle.hs_core_words.specs.declared.event.Event.{Event}
use Rattle.hs_core_words.specs.declared.event.Event.TheVariants as event
use Rattle.hs_core_words.specs.declared.task.Task.{Task}
use Rattle.hs_core_words.specs.Effects.{commit}
use Rattle.hs_core_words.specs.Failing.{go_down}
use Rattle.hs_core_words.specs.Joining.{is_level_with_lead, join, join_if_level}
use Rattle.hs_core_words.specs.Looking.{first_task, group_of, home, sealed_of, status_of, tasks_of}
use Rattle.hs_core_words.specs.Reporting.{on_report, take_report}
use Rattle.hs_core_words.specs.State.{Core}
use Rattle.hs_core_words.specs.Step.{end_event, step}
use Rattle.hs_desk.specs.Answers.{answers}
use Rattle.hs_desk.specs.declared.done.Done.{Done}
use Rattle.hs_desk.specs.declared.done.Done.TheVariants as done
use Rattle.hs_entry.specs.declared.entry.Entry.{Entry}
use Rattle.hs_journal.specs.declared.entry.Who.TheVariants as who
use Rattle.hs_limits.specs.declared.limits.PeerStatus.TheVariants.{Good, Joining}
use Rattle.hs_model.specs.declared.deed.Deed.TheVariants as deed
use Rattle.hs_model.specs.declared.reply.Reply.TheVariants as reply
use Rattle.hs_rejoin.specs.Rejoin.{copied, emptied}
use Rattle.hs_replica.specs.declared.replica.Replica.{Replica}
use Rattle.hs_replica.specs.Group.{Group, IsHome, copy_of, have, is_peer, lead, on_copied, on_emptied, on_sealed}
use Rattle.hs_whole_copies.proofs.ReportedLemmas.{IsOn, TellsList, begun_in_step}
use Rattle.hs_steady.proofs.FaresLemmas.{ByDisk, FallsBy, Fares, Off, fares_fall, fares_step, falls_down, leaves_end, off_down}
use Rattle.hs_steady.proofs.LeavesLemmas.{Leaves, LeavesWork, leaves_both, leaves_quiet, leaves_same, steps_leave, work_both, work_join, work_same}

-- a core with what a report tells, before anything comes of it
abbrev pub told_of : ℕ → Done → Core → Core
told_of q (done.Stored number) c = without_job q c
told_of q (done.Sealed number) c = change_group (home q c) (on_sealed q number) (without_job q c)
told_of q (done.Bytes number bytes) c = without_job q c
told_of q (done.Gone number) c = without_job q c
told_of q done.Emptied c = change_group (home q c) (on_emptied q) (without_job q c)
told_of q (done.Copied number) c = change_group (home q c) (on_copied q number) (without_job q c)
told_of q (done.Stepped switched) c = without_job q c
told_of q (done.Failed disk) c = without_job q c

-- what a good peer reports of its log
abbrev pub TellsWork : Done → Type 0
TellsWork (done.Stored number) = Unit {0}
TellsWork (done.Sealed number) = Unit {0}
TellsWork (done.Bytes number bytes) = Unit {0}
TellsWork (done.Gone number) = Unit {0}
TellsWork done.Emptied = ⊥
TellsWork (done.Copied number) = ⊥
TellsWork (done.Stepped switched) = ⊥
TellsWork (done.Failed disk) = ⊥

-- ---- what comes of it

module _ (q line : ℕ) (c : Core) where
  work_comes : (d : Done) → TellsWork d → Leaves q (told_of q d c) (take_report q line d (without_job q c))
  work_comes (done.Stored number) t = leaves_same q (without_job q c)
  work_comes (done.Sealed number) t =
      let a : Core = change_group (home q c) (on_sealed q number) (without_job q c) in
      let b : Core = change_group (home q c) (on_sealed q number) (post (have q number (group_of (home q c) (without_job q c))) (without_job q c)) in
      leaves_both q a b (commit (home q c) b) (leaves_quiet q a b refl refl refl refl) (keeps_commits (steps_leave q) (home q c) b)
  work_comes (done.Bytes number bytes) t = keeps_tell_bytes (steps_leave q) line number (Some bytes) (without_job q c)
  work_comes (done.Gone number) t = keeps_tell_bytes (steps_leave q) line number None (without_job q c)
  work_comes done.Emptied t = absurd t
  work_comes (done.Copied number) t = absurd t
  work_comes (done.Stepped switched) t = absurd t
  work_comes (done.Failed disk) t = absurd t

  level : (a b : Core) → LeavesWork q a b → LeavesWork q a (join_if_level q b)
  level a b k = go (is_level_with_lead q b)
    where
      go : (t : Bool) → LeavesWork q a (change_if t (join q) b)
      go true = work_both q a b (join q b) k (work_join q b)
      go false = k

  list_comes : (d : Done) → TellsList d → LeavesWork q (told_of q d c) (take_report q line d (without_job q c))
  list_comes (done.Stored number) t = absurd t
  list_comes (done.Sealed number) t = absurd t
  list_comes (done.Bytes number bytes) t = absurd t
  list_comes (done.Gone number) t = absurd t
  list_comes done.Emptied t =
      let a : Core = change_group (home q c) (on_emptied q) (without_job q c) in
      let b : Core = change_group (home q c) (on_emptied q) (change_rejoin q emptied (without_job q c)) in
      level a b (work_same q a b refl refl refl)
  list_comes (done.Copied number) t =
      let a : Core = change_group (home q c) (on_copied q number) (without_job q c) in
      let b : Core = change_group (home q c) (on_copied q number) (change_rejoin q (copied number) (without_job q c)) in
      level a b (work_same q a b refl refl refl)
  list_comes (done.Stepped switched) t = absurd t
  list_comes (done.Failed disk) t = absurd t

-- ---- the first job of a peer is done

module _ (g q : ℕ) (c : Core) (s : Copies Entry) (st : IsInStep g c s) (own : IsOf c.members.shape g q) where
  home_q : IsHome (group_of g c) q
  home_q = home_of_peer g c s st q own

  pub told_tasks : (d : Done) → tasks_of q (told_of q d c) ≡ drop 1 (tasks_of q c)
  told_tasks d = go d
    where
      here : tasks_of q (without_job q c) ≡ drop 1 (tasks_of q c)
      here = tasks_here q (drop 1 (tasks_of q c)) c (has_tasks g c s st q home_q)

      go : (d : Done) → tasks_of q (told_of q d c) ≡ drop 1 (tasks_of q c)
      go (done.Stored number) = here
      go (done.Sealed number) = here
      go (done.Bytes number bytes) = here
      go (done.Gone number) = here
      go done.Emptied = here
      go (done.Copied number) = here
      go (done.Stepped switched) = here
      go (done.Failed disk) = here

  -- another copy of the peer
  sealed_here : (f : Group → Group) (n : ℕ) → (copy_of (f (group_of g c)) q).sealed ≡ n → sealed_of q (change_group (home q c) f (without_job q c)) ≡ n
  sealed_here f n e =
      let low : home q c < length c.groups = (let l = has_group g c s st in rw own l) in
      ap (λ (x : Group). (copy_of x q).sealed) (group_here (home q c) f (without_job q c) low) ∙ ap (λ x. (copy_of (f (group_of x c)) q).sealed) own ∙ e

  pub sealed_sealed : (number : ℕ) → sealed_of q (told_of q (done.Sealed number) c) ≡ number
  sealed_sealed number = sealed_here (on_sealed q number) number (ap (λ (r : Replica). r.sealed) (set_same (group_of g c) q (λ r. record r { sealed = number; known = if is_peer q (lead (group_of g c)) then max r.known number else r.known }) st.stands.copies home_q))

  pub sealed_emptied : sealed_of q (told_of q done.Emptied c) ≡ 0
  sealed_emptied = sealed_here (on_emptied q) 0 (ap (λ (r : Replica). r.sealed) (set_same (group_of g c) q (λ r. record r { stamps = []; sealed = 0 }) st.stands.copies home_q))

  pub sealed_copied : (number : ℕ) → sealed_of q (told_of q (done.Copied number) c) ≡ number
  sealed_copied number = sealed_here (on_copied q number) number (ap (λ (r : Replica). r.sealed) (set_same (group_of g c) q (λ r. record r { stamps = r.stamps ++ slice_index_or (option_map_or (λ k. (copy_of (group_of g c) k).stamps) (lead (group_of g c)) []) (number - 1) 0 ∷ []; sealed = number }) st.stands.copies home_q))

  module _ (task : Task) (first : first_task q c ≡ Some task) where
    report_is : (d : Done) → answers q task.job d ≡ true → on_report q d c ≡ take_report q task.line d (without_job q c)
    report_is d a = rw (first, a) refl

    work_reports : (d : Done) → answers q task.job d ≡ true → TellsWork d → Leaves q (told_of q d c) (on_report q d c)
    work_reports d a t = subst (Leaves q (told_of q d c)) (sym (report_is d a)) (work_comes q task.line c d t)

    list_reports : (d : Done) → answers q task.job d ≡ true → TellsList d → LeavesWork q (told_of q d c) (on_report q d c)
    list_reports d a t = subst (LeavesWork q (told_of q d c)) (sym (report_is d a)) (list_comes q task.line c d t)

    -- a disk has failed: its own, or that of which it copies
    failed_reports : (disk : ℕ) → answers q task.job (done.Failed disk) ≡ true → Fares q (event.Report q (done.Failed disk)) c (on_report q (done.Failed disk) c)
    failed_reports disk a = subst (Fares q (event.Report q (done.Failed disk)) c) (sym (report_is (done.Failed disk) a)) (elim (found g q c s st own task first) [
      | inl k ↦ falls (queued_disk g q c s st own task first disk k a)
      | inr t ↦ fares_fall g q c s st own disk (event.Report q (done.Failed disk)) b why (leaves_both q c (without_job q c) b (joins t.joins) (leaves_quiet q (without_job q c) b refl refl refl refl))
    ])
      where
        b : Core
        b = note who.Store deed.Nothing (reply.Down disk (without_job q c).progress.event_line) (without_job q c)

        why : FallsBy disk (event.Report q (done.Failed disk)) c
        why = ByDisk q refl (ap (λ (o : Option Task). option_map_or (λ j. answers q j (done.Failed disk)) (option_map (λ (t : Task). t.job) o) false) first ∙ a)

        falls : disk ≡ q → Fares q (event.Report q (done.Failed disk)) c (go_down disk b)
        falls e = Off (subst (λ (i : ℕ). IsOn q (go_down i b) → ⊥) (sym e) (off_down q (go_down q b) (falls_down q b))) (inr (subst (λ (i : ℕ). FallsBy i (event.Report q (done.Failed disk)) c) e why))

        joins : status_of q c ≡ Joining → Leaves q c (without_job q c)
        joins j =
            let none : tasks_of q c ≡ [] = (st.jobs q own).other (λ i. let wrong : Joining ≡ Good = sym j ∙ i in cc wrong) in
            record { work = work_same q c (without_job q c) refl refl (tasks_here q (drop 1 (tasks_of q c)) c (has_tasks g c s st q home_q) ∙ ap (drop 1) none ∙ sym none); status = refl; follows = λ e. e }

-- ---- an event at a moment

told_begun : (q : ℕ) (d : Done) (at : ℕ) (c : Core) → Leaves q (told_of q d c) (told_of q d (begun (event.Report q d) at c))
told_begun q d at c = go d (begun (event.Report q d) at c) refl refl refl refl
  where
    go : (d : Done) (b : Core) → b.members ≡ c.members → b.groups ≡ c.groups → b.tasks ≡ c.tasks → b.progress.rejoins ≡ c.progress.rejoins → Leaves q (told_of q d c) (told_of q d b)
    go (done.Stored number) b m gs ts rs = leaves_quiet q _ _ m gs (rw ts refl) rs
    go (done.Sealed number) b m gs ts rs = leaves_quiet q _ _ m (rw (m, gs) refl) (rw ts refl) rs
    go (done.Bytes number bytes) b m gs ts rs = leaves_quiet q _ _ m gs (rw ts refl) rs
    go (done.Gone number) b m gs ts rs = leaves_quiet q _ _ m gs (rw ts refl) rs
    go done.Emptied b m gs ts rs = leaves_quiet q _ _ m (rw (m, gs) refl) (rw ts refl) rs
    go (done.Copied number) b m gs ts rs = leaves_quiet q _ _ m (rw (m, gs) refl) (rw ts refl) rs
    go (done.Stepped switched) b m gs ts rs = leaves_quiet q _ _ m gs (rw ts refl) rs
    go (done.Failed disk) b m gs ts rs = leaves_quiet q _ _ m gs (rw ts refl) rs

module _ (g q : ℕ) (d : Done) (at : ℕ) (c : Core) (s : Copies Entry) (st : IsInStep g c s) (own : IsOf c.members.shape g q) (going : c.ended ≡ None) (task : Task) (first : first_task q c ≡ Some task) (a : answers q task.job d ≡ true) where
  abbrev b : Core
  b = begun (event.Report q d) at c

  st_b : IsInStep g (begun (event.Report q d) at c) s
  st_b = begun_in_step g (event.Report q d) at c s st

  is : step (event.Report q d) at c ≡ end_event (on_report q d (begun (event.Report q d) at c))
  is = step_is (event.Report q d) at c going

  pub work_told : TellsWork d → Leaves q (told_of q d c) (step (event.Report q d) at c)
  work_told t =
      subst (Leaves q (told_of q d c)) (sym is)
      (leaves_both q (told_of q d c) (told_of q d b) (end_event (on_report q d b)) (told_begun q d at c)
      (leaves_both q (told_of q d b) (on_report q d b) (end_event (on_report q d b)) (work_reports g q b s st_b own task first d a t) (leaves_end q (on_report q d b))))

  pub list_told : TellsList d → LeavesWork q (told_of q d c) (step (event.Report q d) at c)
  list_told t =
      subst (LeavesWork q (told_of q d c)) (sym is)
      (work_both q (told_of q d c) (told_of q d b) (end_event (on_report q d b)) (told_begun q d at c).work
      (work_both q (told_of q d b) (on_report q d b) (end_event (on_report q d b)) (list_reports g q b s st_b own task first d a t) (leaves_end q (on_report q d b)).work))

pub failed_told : (g q disk at : ℕ) (c : Core) (s : Copies Entry) → IsInStep g c s → IsOf c.members.shape g q → c.ended ≡ None → (task : Task) → first_task q c ≡ Some task → answers q task.job (done.Failed disk) ≡ true
    → Fares q (event.Report q (done.Failed disk)) c (step (event.Report q (done.Failed disk)) at c)
failed_told g q disk at c s st own going task first a =
    let e : Event = event.Report q (done.Failed disk) in
    fares_step q e at c going (failed_reports g q (begun e at c) s (begun_in_step g e at c s st) own task first disk a)
