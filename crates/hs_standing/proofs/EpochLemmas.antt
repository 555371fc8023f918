-- An Enter that a client's line asks for is of an epoch within the limit, as long as it waits.
use Rattle.std.proofs.Common.{◌≡◌, ◌∙◌, sym, ap, subst, ◌⊎◌, inl, inr, ℕ, suc, ◌+◌, ◌≤◌, ◌<◌, Bool, true, false, cond, not, List, [], ◌∷◌, length, Option, Some, None, refl, arith, nat_le, slice_get, slice_index}
use Rattle.std.proofs.lemmas.Bool.{leb-false}
use Rattle.std.specs.Option.{option_map_or}
use Rattle.hs_awaiting.specs.declared.wait.Wait.TheVariants as wait
use Rattle.hs_awaiting.specs.declared.waiting.Waiting.{Waiting}
use Rattle.hs_awaiting.specs.Words.{change_with}
use Rattle.hs_core_words.specs.Changing.{add_entry_tasks, add_operation, change_group, post, put_operation}
use Rattle.hs_core_words.specs.Looking.{group_of, lead_of, operation_of, shape_of}
use Rattle.hs_core_words.specs.Operating.{add_read, begin_line, busy_line, go_on_with, propose_entry, take_step, wait_for}
use Rattle.hs_core_words.specs.Seeing.{view_for}
use Rattle.hs_core_words.specs.State.{Core}
use Rattle.hs_desk.specs.declared.what.What.{What}
use Rattle.hs_effects.proofs.GroupLemmas.{IsTaken, at_end, at_front, group_changed, taken_or_same}
use Rattle.hs_effects.proofs.StepLemmas.{head_none, not_when, rest_none}
use Rattle.hs_effects.specs.Taking.{taken}
use Rattle.hs_entry.specs.declared.entry.Entry.{Entry}
use Rattle.hs_entry.specs.declared.entry.Entry.TheVariants as kind
use Rattle.hs_standing.specs.Epochs.{HaveEpochs}
use Rattle.hs_limits.specs.declared.address.Address.{Address}
use Rattle.hs_limits.specs.declared.limits.Limits.{Limits}
use Rattle.hs_model.specs.declared.op.Op.{Op}
use Rattle.hs_model.specs.declared.op.Op.TheVariants as op
use Rattle.hs_model.specs.declared.reply.Reply.{Reply}
use Rattle.hs_model.specs.declared.reply.Reply.TheVariants as reply
use Rattle.hs_ops.specs.declared.operation.Stage.{Stage}
use Rattle.hs_ops.specs.declared.operation.Stage.TheVariants as stage
use Rattle.hs_ops.specs.declared.step.OpStep.{OpStep}
use Rattle.hs_ops.specs.declared.step.OpStep.TheVariants.{Answer, Compare, Propose, Wait}
use Rattle.hs_ops.specs.Going.{asked_for, begin, block_entry, compared, data_of, effect_reply, go, is_reported, is_same_block, judged_in, mark_entry, on_bytes, on_effect, propose_unless, read_or, read_reply, root_entry}
use Rattle.hs_ops.specs.Operations.{Operation, after_step, bytes_step, effect_step, go_from, go_step, new_operation, wanted_number}
use Rattle.hs_ops.specs.Refusals.{epochs_end, is_running, refusal_of, refusals_of}
use Rattle.hs_ops.specs.Speaking.{asked_block, judging_shard}
use Rattle.hs_ops.specs.Views.{OpView}
use Rattle.hs_replica.specs.Group.{Group, last_number, proposal, propose, take_committed}
use Rattle.hs_told.proofs.BusyLemmas.{unjudged_refusal}

-- an entry is no client's Enter of an epoch above a limit
abbrev pub IsWithin : Limits → Entry → Type 0
IsWithin limits entry = (line epoch : ℕ) → entry ≡ kind.Enter line epoch → 1 ≤ line → epoch ≤ limits.epochs

-- and no step proposes one
abbrev pub ProposesWithin : Limits → OpStep → Type 0
ProposesWithin limits s = (entry : Entry) → s ≡ Propose entry → IsWithin limits entry

-- ---- what steps propose

proposed_is : (a b : Entry) → Propose a ≡ Propose b → a ≡ b
proposed_is a b e = cc e

same_epoch : (l m e f : ℕ) → kind.Enter l e ≡ kind.Enter m f → f ≡ e
same_epoch l m e f h = cc h

-- what is no Enter
not_enter : (limits : Limits) (a : Entry) → ((line epoch : ℕ) → a ≡ kind.Enter line epoch → ⊥) → ProposesWithin limits (Propose a)
not_enter limits a never entry e line epoch is counted = absurd (never line epoch (proposed_is a entry e ∙ is))

proposes_none : (limits : Limits) (s : OpStep) → ((entry : Entry) → s ≡ Propose entry → ⊥) → ProposesWithin limits s
proposes_none limits s never entry e = absurd (never entry e)

-- where there is an answer nothing is proposed
unless_answered : (limits : Limits) (answer : Option Reply) (other : OpStep) → (answer ≡ None → ProposesWithin limits other) → ProposesWithin limits (option_map_or Answer answer other)
unless_answered limits None other h = h refl
unless_answered limits (Some told) other h = proposes_none limits (Answer told) (λ entry e. cc e)

unless_pending : (limits : Limits) (pending : Bool) (a : Entry) → ProposesWithin limits (Propose a) → ProposesWithin limits (propose_unless pending a)
unless_pending limits true a h = proposes_none limits Wait (λ entry e. cc e)
unless_pending limits false a h = h

unless_read : (limits : Limits) (s : OpStep) (present : Option ℕ) → ProposesWithin limits s → ProposesWithin limits (read_or s present)
unless_read limits s None h = h
unless_read limits s (Some number) h = proposes_none limits (Compare number) (λ entry e. cc e)

module _ (v : OpView) (line : ℕ) where
  block_within : (name payload handles : List ℕ) → ProposesWithin v.limits (Propose (block_entry v line name payload handles))
  unfolding block_entry
  block_within name payload handles = not_enter v.limits (block_entry v line name payload handles) (λ l n is. cc is)

  mark_within : (number : ℕ) (name handles : List ℕ) (address : Option Address) → ProposesWithin v.limits (Propose (mark_entry v line number name handles address))
  unfolding mark_entry
  mark_within number name handles address = not_enter v.limits (mark_entry v line number name handles address) (λ l n is. cc is)

  -- a deletion is not refused below the limit of epochs
  below : refusal_of v op.Delete ≡ None → slice_index v.epochs 0 < v.limits.epochs
  unfolding refusals_of
  below e = leb-false v.limits.epochs (slice_index v.epochs 0) (not_when (nat_le v.limits.epochs (slice_index v.epochs 0)) (reply.EpochEnd v.limits.epochs) (head_none (epochs_end v) [] (rest_none (is_running v) (epochs_end v ∷ []) e)))

  delete_within : refusal_of v op.Delete ≡ None → ProposesWithin v.limits (Propose (kind.Enter line (slice_index v.epochs 0 + 1)))
  delete_within free entry e l n is counted =
      let next : n ≡ slice_index v.epochs 0 + 1 = same_epoch line l (slice_index v.epochs 0 + 1) n (proposed_is (kind.Enter line (slice_index v.epochs 0 + 1)) entry e ∙ is) in
      let less = below free in
      omega (arith, next, less)

  asked_within : (o : Op) → judged_in v o ≡ None → ProposesWithin v.limits (asked_for v line o)
  unfolding asked_for
  asked_within (op.Open name) j = proposes_none v.limits Wait (λ entry e. cc e)
  asked_within (op.Close name) j = proposes_none v.limits Wait (λ entry e. cc e)
  asked_within (op.Write name payload handles address) j =
      unless_read v.limits (propose_unless v.pending (block_entry v line name payload handles)) v.present
      (unless_pending v.limits v.pending (block_entry v line name payload handles) (block_within name payload handles))
  asked_within (op.Read name handle) j = unless_read v.limits (Answer (read_reply v name [])) v.present (proposes_none v.limits (Answer (read_reply v name [])) (λ entry e. cc e))
  asked_within (op.Look name key) j = proposes_none v.limits Wait (λ entry e. cc e)
  asked_within (op.Root name key handle) j = unless_pending v.limits v.pending (root_entry v line name key handle) (not_enter v.limits (root_entry v line name key handle) (λ l n is. cc is))
  asked_within (op.Drop key) j = not_enter v.limits (kind.Drop line key) (λ l n is. cc is)
  asked_within (op.Forget name handle) j = proposes_none v.limits Wait (λ entry e. cc e)
  asked_within (op.Name name handle) j = proposes_none v.limits Wait (λ entry e. cc e)
  asked_within op.Delete j = delete_within (unjudged_refusal v op.Delete j).0
  asked_within op.Stat j = proposes_none v.limits Wait (λ entry e. cc e)

  go_within : (o : Op) → ProposesWithin v.limits (go v line o)
  unfolding go
  go_within o = by_view v.viewed
    where
      by_view : (b : Bool) → ProposesWithin v.limits (cond b (option_map_or Answer (judged_in v o) (asked_for v line o)) Wait)
      by_view true = unless_answered v.limits (judged_in v o) (asked_for v line o) (λ j. asked_within o j)
      by_view false = proposes_none v.limits Wait (λ entry e. cc e)

  begin_within : (o : Op) → ProposesWithin v.limits (begin v line o)
  unfolding begin
  begin_within o = unless_answered v.limits (judged_in v o) (go v line o) (λ j. go_within o)

  compared_within : (number : ℕ) (bytes : Option (List ℕ)) (pointers : List Address) (o : Op) → ProposesWithin v.limits (compared v line (record { number = number; bytes = bytes; pointers = pointers }) o)
  unfolding compared
  compared_within number bytes pointers (op.Write name payload handles address) = by_report (not (is_reported v number bytes))
    where
      marks : OpStep
      marks = cond (is_same_block (asked_block v.seats name payload handles) bytes pointers) (Propose (mark_entry v line number name handles address)) (Answer reply.Collision)

      by_same : (b : Bool) → ProposesWithin v.limits (cond b (Propose (mark_entry v line number name handles address)) (Answer reply.Collision))
      by_same true = mark_within number name handles address
      by_same false = proposes_none v.limits (Answer reply.Collision) (λ entry e. cc e)

      by_report : (b : Bool) → ProposesWithin v.limits (cond b (go v line (op.Write name payload handles address)) marks)
      by_report true = go_within (op.Write name payload handles address)
      by_report false = by_same (is_same_block (asked_block v.seats name payload handles) bytes pointers)
  compared_within number bytes pointers (op.Read name handle) = proposes_none v.limits (Answer (read_reply v name (data_of bytes))) (λ entry e. cc e)
  compared_within number bytes pointers (op.Open name) = proposes_none v.limits Wait (λ entry e. cc e)
  compared_within number bytes pointers (op.Close name) = proposes_none v.limits Wait (λ entry e. cc e)
  compared_within number bytes pointers (op.Look name key) = proposes_none v.limits Wait (λ entry e. cc e)
  compared_within number bytes pointers (op.Root name key handle) = proposes_none v.limits Wait (λ entry e. cc e)
  compared_within number bytes pointers (op.Drop key) = proposes_none v.limits Wait (λ entry e. cc e)
  compared_within number bytes pointers (op.Forget name handle) = proposes_none v.limits Wait (λ entry e. cc e)
  compared_within number bytes pointers (op.Name name handle) = proposes_none v.limits Wait (λ entry e. cc e)
  compared_within number bytes pointers op.Delete = proposes_none v.limits Wait (λ entry e. cc e)
  compared_within number bytes pointers op.Stat = proposes_none v.limits Wait (λ entry e. cc e)

  bytes_within : (number : ℕ) (bytes : Option (List ℕ)) (pointers : List Address) (o : Op) → ProposesWithin v.limits (on_bytes v line (record { number = number; bytes = bytes; pointers = pointers }) o)
  unfolding on_bytes
  bytes_within number bytes pointers o = unless_answered v.limits (refusal_of v o) (compared v line (record { number = number; bytes = bytes; pointers = pointers }) o) (λ free. compared_within number bytes pointers o)

  effect_within : (did : What) (o : Op) → ProposesWithin v.limits (on_effect v line did o)
  unfolding on_effect
  effect_within did o = unless_answered v.limits (effect_reply v did o) (go v line o) (λ free. go_within o)

  from_within : (s : Stage) (o : Op) → ProposesWithin v.limits (go_from s v line o)
  from_within stage.New o = begin_within o
  from_within stage.Waiting o = go_within o
  from_within (stage.Reading number) o = go_within o
  from_within stage.Logged o = go_within o

-- a step by what an operation sees proposes none
abbrev pub StepsWithin : (OpView → Operation → OpStep) → Type 0
StepsWithin next = (v : OpView) (operation : Operation) → ProposesWithin v.limits (next v operation)

pub going_within : StepsWithin go_step
going_within v operation = from_within v operation.line operation.stage operation.op

pub telling_within : (bytes : Option (List ℕ)) (pointers : List Address) → StepsWithin (λ v o. bytes_step v bytes pointers o)
telling_within bytes pointers v operation = bytes_within v operation.line (wanted_number operation.stage) bytes pointers operation.op

pub hearing_within : (did : What) → StepsWithin (λ v o. effect_step v did o)
hearing_within did v operation = effect_within v operation.line did operation.op

-- ---- what waits

-- each entry that waits in a core waits in another, or is within its limit
pub epochs_by : (a b : Core) → b.limits ≡ a.limits
    → ((shard place : ℕ) (entry : Entry) → slice_get (group_of shard b).waiting place ≡ Some entry → ((k : ℕ) × (slice_get (group_of shard a).waiting k ≡ Some entry)) ⊎ IsWithin a.limits entry) → HaveEpochs a → HaveEpochs b
epochs_by a b limits from its shard place line epoch at counted = subst (λ (l : Limits). epoch ≤ l.epochs) (sym limits) (by_from (from shard place (kind.Enter line epoch) at))
  where
    by_from : ((k : ℕ) × (slice_get (group_of shard a).waiting k ≡ Some (kind.Enter line epoch))) ⊎ IsWithin a.limits (kind.Enter line epoch) → epoch ≤ a.limits.epochs
    by_from (inl old) = its shard old.0 line epoch old.1 counted
    by_from (inr new) = new line epoch refl counted

pub epochs_same : (a b : Core) → b.limits ≡ a.limits → ((g : ℕ) → (group_of g b).waiting ≡ (group_of g a).waiting) → HaveEpochs a → HaveEpochs b
epochs_same a b limits waiting its = epochs_by a b limits (λ shard place entry at. inl (place, sym (ap (λ (es : List Entry). slice_get es place) (waiting shard)) ∙ at)) its

-- an entry is proposed
pub epochs_propose : (shard : ℕ) (entry : Entry) (c : Core) → IsWithin c.limits entry → HaveEpochs c → HaveEpochs (propose_entry shard entry c)
epochs_propose shard entry c within its = by_lead (lead_of shard c)
  where
    from : (g place : ℕ) (e : Entry) → slice_get (group_of g (change_group shard (propose entry) c)).waiting place ≡ Some e → ((k : ℕ) × (slice_get (group_of g c).waiting k ≡ Some e)) ⊎ IsWithin c.limits e
    from g place e at = by_group (group_changed shard (propose entry) c g)
      where
        by_end : g ≡ shard → (slice_get (group_of shard c).waiting place ≡ Some e) ⊎ ((place ≡ length (group_of shard c).waiting) × (entry ≡ e)) → ((k : ℕ) × (slice_get (group_of g c).waiting k ≡ Some e)) ⊎ IsWithin c.limits e
        by_end is (inl old) = inl (place, subst (λ (k : ℕ). slice_get (group_of k c).waiting place ≡ Some e) (sym is) old)
        by_end is (inr last) = inr (subst (λ (x : Entry). IsWithin c.limits x) last.1 within)

        by_group : (group_of g (change_group shard (propose entry) c) ≡ group_of g c) ⊎ ((g ≡ shard) × (group_of g (change_group shard (propose entry) c) ≡ propose entry (group_of shard c)))
            → ((k : ℕ) × (slice_get (group_of g c).waiting k ≡ Some e)) ⊎ IsWithin c.limits e
        by_group (inl same) = inl (place, sym (ap (λ (x : Group). slice_get x.waiting place) same) ∙ at)
        by_group (inr is) = by_end is.0 (at_end (group_of shard c).waiting entry e place (sym (ap (λ (x : Group). slice_get x.waiting place) is.1) ∙ at))

    listed_epochs : HaveEpochs (change_group shard (propose entry) c)
    listed_epochs = epochs_by c (change_group shard (propose entry) c) refl from its

    by_lead : (lead : Option ℕ) → HaveEpochs (change_with lead (λ peer. add_entry_tasks peer (last_number (group_of shard c) + 1) entry) (post (proposal entry (group_of shard c)) (change_group shard (propose entry) c)))
    by_lead None = listed_epochs
    by_lead (Some peer) = listed_epochs

pub epochs_step : (line : ℕ) (w : Waiting) (s : OpStep) (c : Core) → ProposesWithin c.limits s → HaveEpochs c → HaveEpochs (take_step line w s c)
epochs_step line w (Answer r) c within its = its
epochs_step line w (Propose entry) c within its =
    let u : Waiting = record w { operation = after_step (Propose entry) w.operation; wait = wait.Entry (last_number (group_of w.shard c) + 1) } in
    epochs_propose w.shard entry (put_operation line u c) (within entry refl) its
epochs_step line w (Compare number) c within its = by_lead (lead_of w.shard c)
  where
    by_lead : (lead : Option ℕ) → HaveEpochs (change_with lead (add_read number line) (wait_for line (record w { operation = after_step (Compare number) w.operation }) (wait.Bytes number) c))
    by_lead None = its
    by_lead (Some peer) = its
epochs_step line w Wait c within its = its

pub epochs_go_on : (next : OpView → Operation → OpStep) → StepsWithin next → (line : ℕ) (c : Core) → HaveEpochs c → HaveEpochs (go_on_with next line c)
epochs_go_on next within line c its = by_operation (operation_of line c)
  where
    by_operation : (x : Option Waiting) → HaveEpochs (change_with x (λ w. take_step line w (next (view_for w.shard w.operation.op c) w.operation)) c)
    by_operation None = its
    by_operation (Some w) = epochs_step line w (next (view_for w.shard w.operation.op c) w.operation) c (within (view_for w.shard w.operation.op c) w.operation) its

-- an entry takes effect: no other comes to wait
pub epochs_taken : (shard : ℕ) (entry : Entry) (c : Core) → HaveEpochs c → HaveEpochs (taken shard entry c)
epochs_taken shard entry c its = epochs_by c (change_group shard take_committed c) refl from its
  where
    from : (g place : ℕ) (e : Entry) → slice_get (group_of g (change_group shard take_committed c)).waiting place ≡ Some e → ((k : ℕ) × (slice_get (group_of g c).waiting k ≡ Some e)) ⊎ IsWithin c.limits e
    from g place e at = by_group (group_changed shard take_committed c g)
      where
        by_taken : g ≡ shard → slice_get (take_committed (group_of shard c)).waiting place ≡ Some e → (take_committed (group_of shard c) ≡ group_of shard c) ⊎ IsTaken (group_of shard c) (take_committed (group_of shard c))
            → ((k : ℕ) × (slice_get (group_of g c).waiting k ≡ Some e)) ⊎ IsWithin c.limits e
        by_taken is there (inl same) = inl (place, subst (λ (k : ℕ). slice_get (group_of k c).waiting place ≡ Some e) (sym is) (sym (ap (λ (x : Group). slice_get x.waiting place) same) ∙ there))
        by_taken is there (inr t) =
            inl (
              suc place,
              subst (λ (k : ℕ). slice_get (group_of k c).waiting (suc place) ≡ Some e) (sym is)
                  (sym (at_front (group_of shard c).waiting place) ∙ sym (ap (λ (es : List Entry). slice_get es place) t.waiting) ∙ there),
            )

        by_group : (group_of g (change_group shard take_committed c) ≡ group_of g c) ⊎ ((g ≡ shard) × (group_of g (change_group shard take_committed c) ≡ take_committed (group_of shard c)))
            → ((k : ℕ) × (slice_get (group_of g c).waiting k ≡ Some e)) ⊎ IsWithin c.limits e
        by_group (inl same) = inl (place, sym (ap (λ (x : Group). slice_get x.waiting place) same) ∙ at)
        by_group (inr is) = by_taken is.0 (sym (ap (λ (x : Group). slice_get x.waiting place) is.1) ∙ at) (taken_or_same (group_of shard c))

-- a client's line
pub epochs_begin : (line : ℕ) (o : Op) (c : Core) → HaveEpochs c → HaveEpochs (begin_line line o c)
epochs_begin line o c its = epochs_step line w (go_step v w.operation) with_it (from_within v line stage.New o) its
  where
    begun : Core
    begun = record c { progress = record c.progress { last_line = line } }

    w : Waiting
    w = record { operation = new_operation line o; shard = judging_shard (shape_of c).shards c.sessions o; wait = wait.View }

    v : OpView
    v = record (view_for (judging_shard (shape_of c).shards c.sessions o) o begun) { busy = busy_line o c }

    with_it : Core
    with_it = add_operation line w begun
