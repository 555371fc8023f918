-- What a step of one operation leaves of the operations.
use Rattle.std.proofs.Common.{◌≡◌, ◌∙◌, ap, sym, subst, refl, ℕ, ◌+◌, false, List, Option, Some, None}
use Rattle.std.specs.BTreeMap.{is_at}
use Rattle.std.specs.Map.{lookup}
use Rattle.std.specs.Option.{option_map_or}
use Rattle.std.specs.Ordering.{nat_cmp}
use Rattle.std.specs.Prelude.{if◌then◌else◌}
use Rattle.hs_anatomy.proofs.AsideLemmas.{kept_propose}
use Rattle.hs_anatomy.proofs.LookLemmas.{found_set, gone, number_exact, remove_other, set_other}
use Rattle.hs_anatomy.specs.Kept.{Kept}
use Rattle.hs_anatomy.specs.Once.{AreOnce}
use Rattle.hs_awaiting.specs.declared.wait.Wait.TheVariants as wait
use Rattle.hs_awaiting.specs.declared.waiting.Waiting.{Waiting}
use Rattle.hs_awaiting.specs.Words.{change_with}
use Rattle.hs_core_words.specs.Changing.{put_operation}
use Rattle.hs_core_words.specs.Looking.{group_of, lead_of, operation_of}
use Rattle.hs_core_words.specs.Operating.{add_read, propose_entry, take_step, what_holds}
use Rattle.hs_core_words.specs.State.{Core}
use Rattle.hs_desk.specs.declared.what.What.{What}
use Rattle.hs_entry.specs.declared.entry.Entry.{Entry}
use Rattle.hs_model.specs.declared.op.Op.{Op}
use Rattle.hs_model.specs.declared.reply.Reply.{Reply}
use Rattle.hs_ops.specs.declared.operation.Stage.{Stage}
use Rattle.hs_ops.specs.declared.operation.Stage.TheVariants as stage
use Rattle.hs_ops.specs.declared.step.OpStep.{OpStep}
use Rattle.hs_ops.specs.declared.step.OpStep.TheVariants as step
use Rattle.hs_ops.specs.Going.{asked_for, begin, effect_reply, go, judged_in, on_effect}
use Rattle.hs_ops.specs.Operations.{Operation, after_step, effect_step, go_from, go_step}
use Rattle.hs_ops.specs.Views.{OpView}
use Rattle.hs_replica.specs.Group.{last_number}
use Rattle.hs_tails.specs.Lines.{IsUnderWay, WaitsToLog, is_viewed}

-- ---- steps while a View has not taken effect

-- no bytes are wanted
abbrev pub WantsNone : OpStep → Type 0
WantsNone (step.Answer told) = Unit {0}
WantsNone (step.Propose entry) = Unit {0}
WantsNone (step.Compare number) = ⊥
WantsNone step.Wait = Unit {0}

pub go_waits : (v : OpView) (line : ℕ) (o : Op) → v.viewed ≡ false → go v line o ≡ step.Wait
unfolding go
go_waits v line o e = ap (λ b. if b then option_map_or step.Answer (judged_in v o) (asked_for v line o) else step.Wait) e

answer_or : (o : Option Reply) (taken : OpStep) → taken ≡ step.Wait → WantsNone (option_map_or step.Answer o taken)
answer_or None taken is = subst WantsNone (sym is) tt
answer_or (Some told) taken is = tt

pub step_waits : (v : OpView) (operation : Operation) → v.viewed ≡ false → IsUnderWay operation.stage → go_step v operation ≡ step.Wait
step_waits v operation e under = by_stage operation.stage under
  where
    by_stage : (s : Stage) → IsUnderWay s → go_from s v operation.line operation.op ≡ step.Wait
    by_stage stage.New under = absurd under
    by_stage stage.Waiting under = go_waits v operation.line operation.op e
    by_stage (stage.Reading number) under = go_waits v operation.line operation.op e
    by_stage stage.Logged under = go_waits v operation.line operation.op e

pub begin_wants : (v : OpView) (line : ℕ) (o : Op) → v.viewed ≡ false → WantsNone (begin v line o)
unfolding begin
begin_wants v line o e = answer_or (judged_in v o) (go v line o) (go_waits v line o e)

pub effect_wants : (v : OpView) (did : What) (operation : Operation) → v.viewed ≡ false → WantsNone (effect_step v did operation)
unfolding on_effect
effect_wants v did operation e = answer_or (effect_reply v did operation.op) (go v operation.line operation.op) (go_waits v operation.line operation.op e)

-- ---- what is done of a step

-- an entry that is proposed touches no operation
pub proposed_operations : (shard : ℕ) (entry : Entry) (c : Core) → (propose_entry shard entry c).operations ≡ c.operations
proposed_operations shard entry c = ap (λ (k : Kept). k.operations) (kept_propose shard entry c)

read_operations : (o : Option ℕ) (number line : ℕ) (c : Core) → (change_with o (add_read number line) c).operations ≡ c.operations
read_operations None number line c = refl
read_operations (Some l) number line c = refl

pub some_waiting : (u w : Waiting) → Some u ≡ Some w → u ≡ w
some_waiting u w e = cc e

none_waiting : (w : Waiting) → None ≡ Some w → ⊥
none_waiting w e = cc e

-- the others are as they were; its own, if it is there still, is of the same shard and under way, and waits for an entry or a View where none has taken effect
pub record MovesAt (line shard : ℕ) (logs : Type 0) (a b : Core) : Type 0 where
  pub others : (k : ℕ) → (k ≡ line → ⊥) → operation_of k b ≡ operation_of k a
  pub own : (u : Waiting) → operation_of line b ≡ Some u → (u.shard ≡ shard) × (IsUnderWay u.operation.stage × (logs → WaitsToLog u.wait))

module _ (line : ℕ) (w : Waiting) (c : Core) (once : AreOnce c.operations) (was : Waiting) (at : operation_of line c ≡ Some was) where
  -- it waits for something else
  waits_at : (x : Waiting) (b : Core) (logs : Type 0) → b.operations ≡ (put_operation line x c).operations → IsUnderWay x.operation.stage → (logs → WaitsToLog x.wait) → MovesAt line x.shard logs c b
  waits_at x b logs same under waits = record {
    others = λ k apart. ap (λ (es : List (ℕ × Waiting)). lookup (is_at (nat_cmp k)) es) same ∙ set_other nat_cmp number_exact c.operations line k x apart;
    own = λ u there. (
        let is : x ≡ u = some_waiting x u (sym (ap (λ (es : List (ℕ × Waiting)). lookup (is_at (nat_cmp line)) es) same ∙ found_set line c.operations was x at) ∙ there) in
        subst (λ (y : Waiting). (y.shard ≡ x.shard) × (IsUnderWay y.operation.stage × (logs → WaitsToLog y.wait))) is (refl, (under, waits))
        );
  }

  pub carried : (taken : OpStep) → MovesAt line w.shard ((is_viewed w.shard c ≡ false) × WantsNone taken) c (take_step line w taken c)
  carried (step.Answer told) = record {
    others = λ k apart. remove_other nat_cmp number_exact c.operations line k apart;
    own = λ u there. absurd (none_waiting u (sym (gone line c.operations once) ∙ there));
  }
  carried (step.Propose entry) =
      let x : Waiting = record w { operation = after_step (step.Propose entry) w.operation; wait = wait.Entry (last_number (group_of w.shard c) + 1) } in
      let waits : Core = put_operation line x c in
      waits_at x (take_step line w (step.Propose entry) c) ((is_viewed w.shard c ≡ false) × WantsNone (step.Propose entry)) (proposed_operations w.shard entry waits) tt (λ k. tt)
  carried (step.Compare number) =
      let x : Waiting = record w { operation = after_step (step.Compare number) w.operation; wait = wait.Bytes number } in
      let waits : Core = put_operation line x c in
      waits_at x (take_step line w (step.Compare number) c) ((is_viewed w.shard c ≡ false) × WantsNone (step.Compare number)) (read_operations (lead_of w.shard waits) number line waits) tt (λ k. k.1)
  carried step.Wait =
      let y : Waiting = record w { operation = after_step step.Wait w.operation } in
      let x : Waiting = record y { wait = what_holds y c } in
      waits_at x (take_step line w step.Wait c) ((is_viewed w.shard c ≡ false) × WantsNone step.Wait) refl tt (λ k. holds_view y k.0)
    where
      holds_view : (y : Waiting) → is_viewed y.shard c ≡ false → WaitsToLog (what_holds y c)
      holds_view y e = rw e tt
