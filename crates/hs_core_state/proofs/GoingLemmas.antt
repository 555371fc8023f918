-- An operation goes on: its parts are the whole.
use Rattle.std.proofs.Common.{◌≡◌, ◌∙◌, sym, ap, subst, ℕ, ◌+◌, not, List, Option, Some, None, option_map, refl, if◌then◌else◌}
use Rattle.std.specs.BTreeMap.{is_at}
use Rattle.std.specs.Map.{remove_entry, set_value}
use Rattle.std.specs.Ordering.{nat_cmp}
use Rattle.std.specs.Prelude.{false, slice_index_or}
use Rattle.hs_awaiting.proofs.EntryLemmas.{find_insert, find_set, insert_set, remove_set, set_twice}
use Rattle.hs_awaiting.specs.declared.next.Next.{Next}
use Rattle.hs_awaiting.specs.declared.next.Next.TheVariants as next
use Rattle.hs_awaiting.specs.declared.wait.Wait.{Wait}
use Rattle.hs_awaiting.specs.declared.wait.Wait.TheVariants as wait
use Rattle.hs_awaiting.specs.declared.waiting.Waiting.{Waiting}
use Rattle.hs_awaiting.specs.Going.{given_by, judge_in, judged_by, next_step}
use Rattle.hs_awaiting.specs.Indexing.{wait_in}
use Rattle.hs_awaiting.specs.Words.{change_with}
use Rattle.hs_core_state.proofs.SeatLemmas.{seats_told}
use Rattle.hs_core_state.proofs.SightLemmas.{coming_put, gained_alike, seen}
use Rattle.hs_core_words.specs.Changing.{add_operation, note, put_operation}
use Rattle.hs_core_state.specs.declared.aim.Aim.{Aim}
use Rattle.hs_core_state.specs.Going.{aim_of, answer_with, carry_by, go_by, gains_by, holds_by, seats_by, set_wait, sight_of, step_by, view_by}
use Rattle.hs_core_words.specs.Looking.{group_of, lead_of, operation_of, shape_of}
use Rattle.hs_core_words.specs.Operating.{add_read, begin_line, busy_line, propose_entry, take_step, wait_for, what_holds}
use Rattle.hs_core_words.specs.Seeing.{pointers_for, view_for}
use Rattle.hs_core_words.specs.State.{Core}
use Rattle.hs_journal.specs.declared.entry.Who.TheVariants as who
use Rattle.hs_limits.specs.declared.address.Held.{Held}
use Rattle.hs_model.specs.declared.op.Op.{Op}
use Rattle.hs_model.specs.declared.reply.Reply.{Reply}
use Rattle.hs_ops.specs.Answers.{deed_of, gained}
use Rattle.hs_ops.specs.declared.step.OpStep.{OpStep}
use Rattle.hs_ops.specs.declared.step.OpStep.TheVariants as step
use Rattle.hs_ops.specs.Operations.{Operation, after_step, go_step, new_operation}
use Rattle.hs_ops.specs.Speaking.{judging_shard, wanted_address}
use Rattle.hs_ops.specs.Views.{OpView}
use Rattle.hs_replica.specs.Group.{last_number}
use Rattle.hs_tokens.specs.Seats.{Seats}

-- what it is given to hold where it is answered
abbrev gains : Waiting → Core → List Held
gains w core = gained (view_for w.shard w.operation.op core) (pointers_for w.shard w.operation.op core) w.operation.op

-- the operation of a line waits
pub waits_in : (line : ℕ) (what : Wait) (core : Core) (operations : List (ℕ × Waiting)) → operations ≡ wait_in line what core.operations → record core { operations = operations } ≡ set_wait line what core
waits_in line what core operations made = ap (λ ops. record core { operations = ops }) made ∙ go (operation_of line core) refl
  where
    go : (o : Option Waiting) → operation_of line core ≡ o → record core { operations = wait_in line what core.operations } ≡ set_wait line what core
    go None e = rw e refl
    go (Some w) e = rw e refl

-- ---- what a step asks for, where the operation stands after the step already

module _ (line : ℕ) (w : Waiting) (core : Core) (found : operation_of line core ≡ Some w) where
  abbrev moved : OpStep → Core
  moved s = put_operation line (judged_by s w) core

  moved_found : (s : OpStep) → operation_of line (moved s) ≡ Some (judged_by s w)
  moved_found s = find_set (is_at (nat_cmp line)) core.operations w (judged_by s w) found

  waits : (s : OpStep) (what : Wait) → set_wait line what (moved s) ≡ wait_for line (judged_by s w) what core
  waits s what =
      let first : set_wait line what (moved s) ≡ wait_for line (judged_by s w) what (moved s) = rw (moved_found s) refl in
      first ∙ ap (λ ops. record core { operations = ops }) (set_twice (is_at (nat_cmp line)) core.operations (judged_by s w) (record w { operation = after_step s w.operation; wait = what }))

  holds : (s : OpStep) → holds_by (aim_of w.shard w.operation.op core) (moved s) ≡ what_holds (judged_by s w) core
  holds s =
      ap (λ b. if not (slice_index_or core.progress.viewed w.shard false) then wait.View else (if b then wait.Address else wait.Room))
      (coming_put line core w (judged_by s w) found refl w.shard (wanted_address core.sessions w.operation.op))

  answers : (reply : Reply) → change_with (operation_of line (moved (step.Answer reply))) (answer_with line reply (gains w core)) (moved (step.Answer reply))
      ≡ take_step line w (step.Answer reply) core
  answers reply =
      let s = step.Answer reply in
      let o : Op = w.operation.op in
      let make : List (ℕ × Waiting) → Seats → Core = λ ops seats. record (note (who.Line line) (deed_of core.sessions o reply) reply core) { operations = ops; sessions = seats } in
      let test = is_at (nat_cmp line) in
      let first : change_with (operation_of line (moved s)) (answer_with line reply (gains w core)) (moved s)
      ≡ make (remove_entry test (set_value test core.operations (judged_by s w))) (seats_by (deed_of core.sessions o reply) (gains w core) core.sessions) = rw (moved_found s) refl in
      first
      ∙ ap (λ ops. make ops (seats_by (deed_of core.sessions o reply) (gains w core) core.sessions)) (remove_set test core.operations (judged_by s w))
      ∙ ap (make (remove_entry test core.operations)) (seats_told (gains w core) o reply core.sessions)

  pub carried : (s : OpStep) → carry_by (aim_of w.shard w.operation.op core) line s (given_by s (gains w core)) (moved s) ≡ take_step line w s core
  carried (step.Answer reply) = answers reply
  carried (step.Propose entry) = ap (propose_entry w.shard entry) (waits (step.Propose entry) (wait.Entry (last_number (group_of w.shard core) + 1)))
  carried (step.Compare number) = ap (change_with (lead_of w.shard core) (add_read number line)) (waits (step.Compare number) (wait.Bytes number))
  carried step.Wait = ap (λ what. set_wait line what (moved step.Wait)) (holds step.Wait) ∙ waits step.Wait (what_holds (judged_by step.Wait w) core)

-- ---- one that waits goes on

-- the operation of a line stands after that step
abbrev judged_at : Next → ℕ → Core → Aim → Core
judged_at how line core aim = record core { operations = judge_in how (sight_of aim core).pointers (view_by (sight_of aim core) aim None core) line core.operations }

pub gone : (how : Next) (line : ℕ) (core between last : Core) (aim : Aim) (s : OpStep) (helds : List Held)
    → option_map (λ w. aim_of w.shard w.operation.op core) (operation_of line core) ≡ Some aim
    → between ≡ judged_at how line core aim
    → ((w : Waiting) → operation_of line core ≡ Some w → s ≡ step_by how aim None core w.operation)
    → ((w : Waiting) → operation_of line core ≡ Some w → helds ≡ given_by s (gains_by aim None core w.operation.op))
    → last ≡ carry_by aim line s helds between
    → last ≡ go_by how line core
gone how line core between last aim s helds about judged steps gives carries = go (operation_of line core) refl about
  where
    go : (o : Option Waiting) → operation_of line core ≡ o → option_map (λ w. aim_of w.shard w.operation.op core) o ≡ Some aim → last ≡ go_by how line core
    go None e q = cc q
    go (Some w) e q =
        let own : aim ≡ aim_of w.shard w.operation.op core = cc q in
        let o : Op = w.operation.op in
        let t : OpStep = next_step how (pointers_for w.shard o core) (view_for w.shard o core) w.operation in
        let view : view_by (sight_of (aim_of w.shard o core) core) (aim_of w.shard o core) None core ≡ view_for w.shard o core = seen w.shard o None core in
        let stepped : s ≡ t = steps w e ∙ ap (λ a. step_by how a None core w.operation) own ∙ ap (λ v. next_step how (pointers_for w.shard o core) v w.operation) view in
        let held : gains_by aim None core o ≡ gains w core = ap (λ a. gains_by a None core o) own ∙ ap (λ v. gained v (pointers_for w.shard o core) o) view in
        let given : helds ≡ given_by t (gains w core) = gives w e ∙ ap (given_by s) held ∙ ap (λ x. given_by x (gains w core)) stepped in
        let put : judged_at how line core aim ≡ put_operation line (judged_by (step_by how aim None core w.operation) w) core = rw e refl in
        let there : between ≡ put_operation line (judged_by t w) core = judged ∙ put ∙ ap (λ x. put_operation line (judged_by x w) core) (sym (steps w e) ∙ stepped) in
        let whole : take_step line w t core ≡ go_by how line core = rw e refl in
        carries
        ∙ ap (λ c. carry_by aim line s helds c) there
        ∙ ap (λ hs. carry_by aim line s hs (put_operation line (judged_by t w) core)) given
        ∙ ap (λ x. carry_by aim line x (given_by t (gains w core)) (put_operation line (judged_by t w) core)) stepped
        ∙ ap (λ a. carry_by a line t (given_by t (gains w core)) (put_operation line (judged_by t w) core)) own
        ∙ carried line w core e t
        ∙ whole

-- ---- one of a client's line

pub begun : (line : ℕ) (o : Op) (core last : Core) (s : OpStep) (helds : List Held)
    → s ≡ step_by next.Go (aim_of (judging_shard (shape_of core).shards core.sessions o) o core) (busy_line o core) (record core { progress = record core.progress { last_line = line } }) (new_operation line o)
    → helds ≡ given_by s (gains_by (aim_of (judging_shard (shape_of core).shards core.sessions o) o core) (busy_line o core) (record core { progress = record core.progress { last_line = line } }) o)
    → last ≡ carry_by (aim_of (judging_shard (shape_of core).shards core.sessions o) o core) line s helds
    (add_operation line (record {
      operation = after_step (step_by next.Go (aim_of (judging_shard (shape_of core).shards core.sessions o) o core) (busy_line o core) (record core { progress = record core.progress { last_line = line } }) (new_operation line o)) (new_operation line o);
      shard = judging_shard (shape_of core).shards core.sessions o;
      wait = wait.View;
    }) (record core { progress = record core.progress { last_line = line } }))
    → last ≡ begin_line line o core
begun line o core last s helds steps gives carries =
    let first : Core = record core { progress = record core.progress { last_line = line } } in
    let shard : ℕ = judging_shard (shape_of core).shards core.sessions o in
    let aim : Aim = aim_of shard o core in
    let w : Waiting = record { operation = new_operation line o; shard = shard; wait = wait.View } in
    let added : Core = add_operation line w first in
    let v : OpView = record (view_for shard o first) { busy = busy_line o core } in
    let t : OpStep = go_step v (new_operation line o) in
    let view : view_by (sight_of aim first) aim (busy_line o core) first ≡ v = seen shard o (busy_line o core) first in
    let first_step : step_by next.Go aim (busy_line o core) first (new_operation line o) ≡ t = ap (λ x. go_step x (new_operation line o)) view in
    let stepped : s ≡ t = steps ∙ first_step in
    let alike : gained v (pointers_for shard o first) o ≡ gains w added =
    gained_alike (view_for shard o first) (pointers_for shard o first) o (busy_line o core) (view_for shard o first).pending
    ∙ sym (gained_alike (view_for shard o first) (pointers_for shard o first) o None (view_for shard o added).pending) in
    let held : gains_by aim (busy_line o core) first o ≡ gains w added = ap (λ x. gained x (pointers_for shard o first) o) view ∙ alike in
    let given : helds ≡ given_by t (gains w added) = gives ∙ ap (given_by s) held ∙ ap (λ x. given_by x (gains w added)) stepped in
    let found : operation_of line added ≡ Some w = find_insert line core.operations w in
    let inserted : add_operation line (judged_by t w) first ≡ put_operation line (judged_by t w) added =
    ap (λ ops. record first { operations = ops }) (sym (insert_set line core.operations w (judged_by t w))) in
    carries
    ∙ ap (λ x. carry_by aim line s helds (add_operation line (judged_by x w) first)) first_step
    ∙ ap (λ c. carry_by aim line s helds c) inserted
    ∙ ap (λ hs. carry_by aim line s hs (put_operation line (judged_by t w) added)) given
    ∙ ap (λ x. carry_by aim line x (given_by t (gains w added)) (put_operation line (judged_by t w) added)) stepped
    ∙ carried line w added found t

-- the same of what a body has at hand
pub begun_by : (line : ℕ) (o : Op) (core middle inserted last : Core) (operation left : Operation) (shard : ℕ) (aim : Aim) (busy : Option ℕ) (s : OpStep) (helds : List Held)
    → operation ≡ new_operation line o
    → shard ≡ judging_shard (shape_of core).shards core.sessions operation.op
    → aim ≡ aim_of shard operation.op core
    → busy ≡ busy_line o core
    → s ≡ step_by next.Go aim busy (record core { progress = record core.progress { last_line = line } }) operation
    → helds ≡ given_by s (gains_by aim busy (record core { progress = record core.progress { last_line = line } }) operation.op)
    → left ≡ after_step (step_by next.Go aim busy (record core { progress = record core.progress { last_line = line } }) operation) operation
    → middle ≡ record core { progress = record core.progress { last_line = line } }
    → inserted ≡ add_operation line (record { operation = left; shard = shard; wait = wait.View }) middle
    → last ≡ carry_by aim line s helds inserted
    → last ≡ begin_line line o core
begun_by line o core middle inserted last operation left shard aim busy s helds made place about who steps gives leaves same puts carries =
    let first : Core = record core { progress = record core.progress { last_line = line } } in
    let new : Operation = new_operation line o in
    let J : ℕ = judging_shard (shape_of core).shards core.sessions o in
    let A : Aim = aim_of J o core in
    let B : Option ℕ = busy_line o core in
    let T : OpStep = step_by next.Go A B first new in
    let judges : shard ≡ J = place ∙ ap (λ (x : Operation). judging_shard (shape_of core).shards core.sessions x.op) made in
    let aims : aim ≡ A = about ∙ ap (λ (x : Operation). aim_of shard x.op core) made ∙ ap (λ k. aim_of k o core) judges in
    let step_is : step_by next.Go aim busy first operation ≡ T =
    ap (λ a. step_by next.Go a busy first operation) aims ∙ ap (λ b. step_by next.Go A b first operation) who ∙ ap (λ x. step_by next.Go A B first x) made in
    let held : gains_by aim busy first operation.op ≡ gains_by A B first o =
    ap (λ a. gains_by a busy first operation.op) aims ∙ ap (λ b. gains_by A b first operation.op) who ∙ ap (λ (x : Operation). gains_by A B first x.op) made in
    let after : left ≡ after_step T new = leaves ∙ ap (λ t. after_step t operation) step_is ∙ ap (λ x. after_step T x) made in
    let put : Operation → ℕ → Core → Core = λ x k m. add_operation line (record { operation = x; shard = k; wait = wait.View }) m in
    let there : inserted ≡ put (after_step T new) J first =
    puts ∙ ap (λ x. put x shard middle) after ∙ ap (λ k. put (after_step T new) k middle) judges ∙ ap (λ m. put (after_step T new) J m) same in
    let carried_on : last ≡ carry_by A line s helds (put (after_step T new) J first) =
    carries ∙ ap (λ m. carry_by aim line s helds m) there ∙ ap (λ a. carry_by a line s helds (put (after_step T new) J first)) aims in
    begun line o core last s helds (steps ∙ step_is) (gives ∙ ap (λ hs. given_by s hs) held) carried_on

-- and of the core in which that line is the last one already
pub begun_from : (line : ℕ) (o : Op) (core first middle inserted last : Core) (operation left : Operation) (shard : ℕ) (aim : Aim) (busy : Option ℕ) (s : OpStep) (helds : List Held)
    → first ≡ record core { progress = record core.progress { last_line = line } }
    → operation ≡ new_operation line o
    → shard ≡ judging_shard (shape_of first).shards first.sessions operation.op
    → aim ≡ aim_of shard operation.op first
    → busy ≡ busy_line o first
    → s ≡ step_by next.Go aim busy first operation
    → helds ≡ given_by s (gains_by aim busy first operation.op)
    → left ≡ after_step (step_by next.Go aim busy first operation) operation
    → middle ≡ first
    → inserted ≡ add_operation line (record { operation = left; shard = shard; wait = wait.View }) middle
    → last ≡ carry_by aim line s helds inserted
    → last ≡ begin_line line o core
begun_from line o core first middle inserted last operation left shard aim busy s helds at made =
    subst (λ (x : Core). shard ≡ judging_shard (shape_of x).shards x.sessions operation.op
    → aim ≡ aim_of shard operation.op x
    → busy ≡ busy_line o x
    → s ≡ step_by next.Go aim busy x operation
    → helds ≡ given_by s (gains_by aim busy x operation.op)
    → left ≡ after_step (step_by next.Go aim busy x operation) operation
    → middle ≡ x
    → inserted ≡ add_operation line (record { operation = left; shard = shard; wait = wait.View }) middle
    → last ≡ carry_by aim line s helds inserted
    → last ≡ begin_line line o core) (sym at)
    (λ place about who steps gives leaves same puts carries. begun_by line o core middle inserted last operation left shard aim busy s helds made place about who steps gives leaves same puts carries)
