-- A step of an operation, and what is proposed, leave a core beside one whose writes have payloads that tell their addresses.
use Rattle.std.proofs.Common.{◌≡◌, ◌∙◌, sym, ap, subst, ℕ, ◌+◌, List, map, Option, Some, None, refl}
use Rattle.std.specs.BTreeMap.{insert_entry, is_at}
use Rattle.std.specs.Map.{remove_entry, set_value}
use Rattle.std.specs.Option.{option_map}
use Rattle.std.specs.Ordering.{nat_cmp}
use Rattle.std.specs.Prelude.{slice_set}
use Rattle.hs_any_events.proofs.CodedCoreLemmas.{IsCoded, coded_waiting, group_alike, holds_coded, operation_is, pointers_coded, same_last, same_sessions, view_coded}
use Rattle.hs_any_events.proofs.CodedEntryLemmas.{outline}
use Rattle.hs_any_events.proofs.CodedGroupLemmas.{bare, group_outline, proposal_alike, propose_alike}
use Rattle.hs_any_events.proofs.CodedLemmas.{Code, coded_op}
use Rattle.hs_any_events.proofs.CodedListLemmas.{insert_entry-map, remove_entry-map, set-map, set_value-map}
use Rattle.hs_any_events.proofs.CodedOpLemmas.{StepOutline, coded_operation, seats_kept, step_outline}
use Rattle.hs_any_events.proofs.CodedPoolLemmas.{sends_alike}
use Rattle.hs_awaiting.specs.declared.wait.Wait.{Wait}
use Rattle.hs_awaiting.specs.declared.wait.Wait.TheVariants as wait
use Rattle.hs_awaiting.specs.declared.waiting.Waiting.{Waiting}
use Rattle.hs_awaiting.specs.Words.{change_with}
use Rattle.hs_core_words.specs.Changing.{add_entry_tasks, add_operation, change_group, post, put_operation}
use Rattle.hs_core_words.specs.declared.task.Task.{Task}
use Rattle.hs_core_words.specs.Looking.{group_of, lead_of, operation_of}
use Rattle.hs_core_words.specs.Operating.{add_read, answer, go_on_with, propose_entry, take_step, what_holds}
use Rattle.hs_core_words.specs.Seeing.{pointers_for, view_for}
use Rattle.hs_core_words.specs.State.{Core}
use Rattle.hs_entry.specs.declared.entry.Entry.{Entry}
use Rattle.hs_journal.specs.declared.entry.JournalEntry.{JournalEntry}
use Rattle.hs_model.specs.declared.op.Op.{Op}
use Rattle.hs_model.specs.declared.reply.Reply.{Reply}
use Rattle.hs_ops.specs.Answers.{gained, seats_after}
use Rattle.hs_ops.specs.declared.step.OpStep.{OpStep}
use Rattle.hs_ops.specs.declared.step.OpStep.TheVariants as step
use Rattle.hs_ops.specs.Operations.{Operation, after_step}
use Rattle.hs_ops.specs.Views.{OpView}
use Rattle.hs_post.specs.declared.message.Message.{Message}
use Rattle.hs_replica.specs.Group.{Group, last_number, proposal, propose}

module _ (code : Code) where
  -- ---- single changes

  -- jobs, and what is told, are of no matter
  pub jobs_coded : (c d : Core) (x y : List (List Task)) → IsCoded code c d → IsCoded code (record c { tasks = x }) (record d { tasks = y })
  jobs_coded c d x y r = record { same = r.same; operations = r.operations; groups = r.groups; pool = r.pool }

  pub told_coded : (c d : Core) (x y : List JournalEntry) → IsCoded code c d → IsCoded code (record c { entries = x }) (record d { entries = y })
  told_coded c d x y r = record { same = r.same; operations = r.operations; groups = r.groups; pool = r.pool }

  pub post_coded : (c d : Core) (ms ns : List Message) → map bare ns ≡ map bare ms → IsCoded code c d → IsCoded code (post ms c) (post ns d)
  post_coded c d ms ns same r = record { same = r.same; operations = r.operations; groups = r.groups; pool = sends_alike ms ns c.pool d.pool same r.pool }

  pub group_coded : (c d : Core) (shard : ℕ) (f h : Group → Group) → group_outline (h (group_of shard d)) ≡ group_outline (f (group_of shard c)) → IsCoded code c d → IsCoded code (change_group shard f c) (change_group shard h d)
  group_coded c d shard f h alike r = record {
    same = r.same;
    operations = r.operations;
    groups = set-map group_outline d.groups shard (h (group_of shard d)) ∙ (λ i. slice_set (r.groups i) shard (alike i)) ∙ sym (set-map group_outline c.groups shard (f (group_of shard c)));
    pool = r.pool;
  }

  pub put_coded : (c d : Core) (line : ℕ) (w : Waiting) → IsCoded code c d → IsCoded code (put_operation line w c) (put_operation line (coded_waiting code w) d)
  put_coded c d line w r = record {
    same = r.same;
    operations =
        ap (λ (es : List (ℕ × Waiting)). set_value (is_at (nat_cmp line)) es (coded_waiting code w)) r.operations
        ∙ set_value-map (coded_waiting code) (is_at (nat_cmp line)) c.operations w;
    groups = r.groups;
    pool = r.pool;
  }

  pub add_coded : (c d : Core) (line : ℕ) (w : Waiting) → IsCoded code c d → IsCoded code (add_operation line w c) (add_operation line (coded_waiting code w) d)
  add_coded c d line w r = record {
    same = r.same;
    operations =
        ap (λ (es : List (ℕ × Waiting)). insert_entry nat_cmp es line (coded_waiting code w)) r.operations
        ∙ insert_entry-map (coded_waiting code) nat_cmp c.operations line w;
    groups = r.groups;
    pool = r.pool;
  }

  -- ---- an entry is proposed

  -- whichever peer leads
  with_jobs : (c d : Core) (x y : Option ℕ) (f g : ℕ → Core → Core) → ((peer : ℕ) → f peer c ≡ record c { tasks = (f peer c).tasks }) → ((peer : ℕ) → g peer d ≡ record d { tasks = (g peer d).tasks }) → IsCoded code c d
      → IsCoded code (change_with x f c) (change_with y g d)
  with_jobs c d None None f g one other r = r
  with_jobs c d (Some p) None f g one other r = subst (λ (x : Core). IsCoded code x d) (sym (one p)) (jobs_coded c d (f p c).tasks d.tasks r)
  with_jobs c d None (Some q) f g one other r = subst (λ (x : Core). IsCoded code c x) (sym (other q)) (jobs_coded c d c.tasks (g q d).tasks r)
  with_jobs c d (Some p) (Some q) f g one other r =
      subst (λ (x : Core). IsCoded code (f p c) x) (sym (other q)) (subst (λ (x : Core). IsCoded code x (record d { tasks = (g q d).tasks })) (sym (one p)) (jobs_coded c d (f p c).tasks (g q d).tasks r))

  pub propose_coded : (c d : Core) (shard : ℕ) (e f : Entry) → outline f ≡ outline e → IsCoded code c d → IsCoded code (propose_entry shard e c) (propose_entry shard f d)
  propose_coded c d shard e f same r =
      with_jobs (post (proposal e (group_of shard c)) (change_group shard (propose e) c)) (post (proposal f (group_of shard d)) (change_group shard (propose f) d)) (lead_of shard c) (lead_of shard d)
      (λ peer. add_entry_tasks peer (last_number (group_of shard c) + 1) e) (λ peer. add_entry_tasks peer (last_number (group_of shard d) + 1) f) (λ peer. refl) (λ peer. refl)
      (post_coded (change_group shard (propose e) c) (change_group shard (propose f) d) (proposal e (group_of shard c)) (proposal f (group_of shard d)) (proposal_alike e f (group_of shard c) (group_of shard d) alike)
      (group_coded c d shard (propose e) (propose f) (propose_alike e f (group_of shard c) (group_of shard d) same alike) r))
    where
      alike : group_outline (group_of shard d) ≡ group_outline (group_of shard c)
      alike = group_alike code c d r shard

  -- ---- an operation is answered

  pub answer_coded : (c d : Core) (line : ℕ) (w : Waiting) (r : Reply) → IsCoded code c d → IsCoded code (answer line w r c) (answer line (coded_waiting code w) r d)
  answer_coded c d line w reply r = record {
    same = λ i. record (r.same i) { sessions = seats i };
    operations =
        ap (λ (es : List (ℕ × Waiting)). remove_entry (is_at (nat_cmp line)) es) r.operations
        ∙ remove_entry-map (coded_waiting code) (is_at (nat_cmp line)) c.operations;
    groups = r.groups;
    pool = r.pool;
  }
    where
      o : Op
      o = w.operation.op

      seats : seats_after (gained (view_for w.shard (coded_op code o) d) (pointers_for w.shard (coded_op code o) d) (coded_op code o)) (coded_op code o) reply d.sessions
          ≡ seats_after (gained (view_for w.shard o c) (pointers_for w.shard o c) o) o reply c.sessions
      seats =
          (λ i. seats_after (gained (view_coded code c d r w.shard o i) (pointers_coded code c d r w.shard o i) (coded_op code o)) (coded_op code o) reply (same_sessions code c d r i))
          ∙ seats_kept code (view_for w.shard o c) (pointers_for w.shard o c) o reply c.sessions

  -- ---- a step

  same_answer : (q r : Reply) → step.Answer q ≡ step.Answer r → q ≡ r
  same_answer q r e = cc e

  same_number : (m n : ℕ) → step.Compare m ≡ step.Compare n → m ≡ n
  same_number m n e = cc e

  same_outline : (e f : Entry) → step_outline (step.Propose f) ≡ step_outline (step.Propose e) → outline f ≡ outline e
  same_outline e f same =
      let first : step.Propose (outline f).entry ≡ step.Propose (outline e).entry = ap (λ (s : StepOutline). s.step) same in
      let entry : (outline f).entry ≡ (outline e).entry = cc first in
      λ i. record { entry = entry i; pointers = (same i).pointers }

  pub step_coded : (c d : Core) (line : ℕ) (w : Waiting) (s t : OpStep) → step_outline t ≡ step_outline s → IsCoded code c d → IsCoded code (take_step line w s c) (take_step line (coded_waiting code w) t d)
  step_coded c d line w (step.Answer q) (step.Answer r) same its =
      subst (λ (x : Reply). IsCoded code (take_step line w (step.Answer q) c) (take_step line (coded_waiting code w) (step.Answer x) d)) (sym (same_answer r q (ap (λ (s : StepOutline). s.step) same)))
      (answer_coded c d line w q its)
  step_coded c d line w (step.Propose e) (step.Propose f) same its =
      propose_coded (put_operation line u c) (put_operation line v d) w.shard e f (same_outline e f same)
      (subst (λ (n : ℕ). IsCoded code (put_operation line u c) (put_operation line (record v { wait = wait.Entry (n + 1) }) d)) (sym (same_last code c d its w.shard)) (put_coded c d line u its))
    where
      u : Waiting
      u = record w { operation = after_step (step.Propose e) w.operation; wait = wait.Entry (last_number (group_of w.shard c) + 1) }

      v : Waiting
      v = record (coded_waiting code w) { operation = after_step (step.Propose f) (coded_operation code w.operation); wait = wait.Entry (last_number (group_of w.shard d) + 1) }
  step_coded c d line w (step.Compare m) (step.Compare n) same its =
      subst (λ (x : ℕ). IsCoded code (take_step line w (step.Compare m) c) (take_step line (coded_waiting code w) (step.Compare x) d)) (sym (same_number n m (ap (λ (s : StepOutline). s.step) same)))
      (with_jobs (put_operation line u c) (put_operation line (coded_waiting code u) d) (lead_of w.shard c) (lead_of w.shard d) (add_read m line) (add_read m line) (λ peer. refl) (λ peer. refl) (put_coded c d line u its))
    where
      u : Waiting
      u = record w { operation = after_step (step.Compare m) w.operation; wait = wait.Bytes m }
  step_coded c d line w step.Wait step.Wait same its =
      subst (λ (x : Wait). IsCoded code (put_operation line (record u { wait = what_holds u c }) c) (put_operation line (record (coded_waiting code u) { wait = x }) d)) (sym (holds_coded code c d its u))
      (put_coded c d line (record u { wait = what_holds u c }) its)
    where
      u : Waiting
      u = record w { operation = after_step step.Wait w.operation }
  step_coded c d line w (step.Answer q) (step.Propose f) same its = absurd (cc (ap (λ (s : StepOutline). s.step) same))
  step_coded c d line w (step.Answer q) (step.Compare n) same its = absurd (cc (ap (λ (s : StepOutline). s.step) same))
  step_coded c d line w (step.Answer q) step.Wait same its = absurd (cc (ap (λ (s : StepOutline). s.step) same))
  step_coded c d line w (step.Propose e) (step.Answer r) same its = absurd (cc (ap (λ (s : StepOutline). s.step) same))
  step_coded c d line w (step.Propose e) (step.Compare n) same its = absurd (cc (ap (λ (s : StepOutline). s.step) same))
  step_coded c d line w (step.Propose e) step.Wait same its = absurd (cc (ap (λ (s : StepOutline). s.step) same))
  step_coded c d line w (step.Compare m) (step.Answer r) same its = absurd (cc (ap (λ (s : StepOutline). s.step) same))
  step_coded c d line w (step.Compare m) (step.Propose f) same its = absurd (cc (ap (λ (s : StepOutline). s.step) same))
  step_coded c d line w (step.Compare m) step.Wait same its = absurd (cc (ap (λ (s : StepOutline). s.step) same))
  step_coded c d line w step.Wait (step.Answer r) same its = absurd (cc (ap (λ (s : StepOutline). s.step) same))
  step_coded c d line w step.Wait (step.Propose f) same its = absurd (cc (ap (λ (s : StepOutline). s.step) same))
  step_coded c d line w step.Wait (step.Compare n) same its = absurd (cc (ap (λ (s : StepOutline). s.step) same))

  -- ---- an operation goes on

  pub going_coded : (c d : Core) (next other : OpView → Operation → OpStep) (line : ℕ)
      → ((w : Waiting) → operation_of line c ≡ Some w → step_outline (other (view_for w.shard w.operation.op c) (coded_operation code w.operation)) ≡ step_outline (next (view_for w.shard w.operation.op c) w.operation))
      → IsCoded code c d → IsCoded code (go_on_with next line c) (go_on_with other line d)
  going_coded c d next other line alike r =
      subst (λ (x : Option Waiting). IsCoded code (go_on_with next line c) (change_with x (λ w. take_step line w (other (view_for w.shard w.operation.op d) w.operation)) d)) (sym (operation_is code c d r line))
      (by (operation_of line c) refl)
    where
      by : (x : Option Waiting) → operation_of line c ≡ x
          → IsCoded code (change_with x (λ w. take_step line w (next (view_for w.shard w.operation.op c) w.operation)) c)
          (change_with (option_map (coded_waiting code) x) (λ w. take_step line w (other (view_for w.shard w.operation.op d) w.operation)) d)
      by None at = r
      by (Some w) at =
          step_coded c d line w (next (view_for w.shard w.operation.op c) w.operation) (other (view_for w.shard (coded_op code w.operation.op) d) (coded_operation code w.operation))
          (ap (λ (v : OpView). step_outline (other v (coded_operation code w.operation))) (view_coded code c d r w.shard w.operation.op) ∙ alike w at) r
