-- Operations propose no View: what they ask for brings no view to a list.
use Rattle.std.proofs.Common.{◌≡◌, ℕ, Bool, true, false, List, [], Option, Some, None, refl}
use Rattle.std.specs.Option.{option_map_or}
use Rattle.std.specs.Prelude.{if◌then◌else◌}
use Rattle.hs_desk.specs.declared.what.What.{What}
use Rattle.hs_entry.specs.declared.entry.Entry.{Entry}
use Rattle.hs_fold.specs.Shards.Sound.{with_view}
use Rattle.hs_limits.specs.declared.address.Address.{Address}
use Rattle.hs_model.specs.declared.op.Op.{Op}
use Rattle.hs_model.specs.declared.op.Op.TheVariants as op
use Rattle.hs_model.specs.declared.reply.Reply.{Reply}
use Rattle.hs_ops.specs.declared.operation.Stage.{Stage}
use Rattle.hs_ops.specs.declared.operation.Stage.TheVariants as stage
use Rattle.hs_ops.specs.declared.step.OpStep.{OpStep}
use Rattle.hs_ops.specs.declared.step.OpStep.TheVariants as step
use Rattle.hs_ops.specs.Going.{asked_for, begin, block_entry, compared, effect_reply, go, is_same_block, judged_in, mark_entry, on_bytes, on_effect, propose_unless, read_or, read_reply, root_entry}
use Rattle.hs_ops.specs.Operations.{Operation, bytes_step, effect_step, go_from, go_step, wanted_number}
use Rattle.hs_ops.specs.Refusals.{refusal_of}
use Rattle.hs_ops.specs.Speaking.{asked_block}
use Rattle.hs_ops.specs.Views.{OpView}

-- it is neither a View nor a Base
abbrev pub BringsNoView : Entry → Type 0
BringsNoView entry = (views : List ℕ) → with_view entry views ≡ views

abbrev pub ProposesNoView : OpStep → Type 0
ProposesNoView (step.Answer reply) = Unit {0}
ProposesNoView (step.Propose entry) = BringsNoView entry
ProposesNoView (step.Compare number) = Unit {0}
ProposesNoView step.Wait = Unit {0}

quiet_unless : (b : Bool) (entry : Entry) → BringsNoView entry → ProposesNoView (propose_unless b entry)
quiet_unless true entry h = tt
quiet_unless false entry h = h

quiet_read : (s : OpStep) (o : Option ℕ) → ProposesNoView s → ProposesNoView (read_or s o)
quiet_read s None h = h
quiet_read s (Some number) h = tt

quiet_answer : (s : OpStep) (o : Option Reply) → ProposesNoView s → ProposesNoView (option_map_or step.Answer o s)
quiet_answer s None h = h
quiet_answer s (Some reply) h = tt

quiet_if : (b : Bool) (s t : OpStep) → ProposesNoView s → ProposesNoView t → ProposesNoView (if b then s else t)
quiet_if true s t h k = h
quiet_if false s t h k = k

quiet_asked : (v : OpView) (line : ℕ) (o : Op) → ProposesNoView (asked_for v line o)
unfolding asked_for block_entry
quiet_asked v line (op.Open name) = tt
quiet_asked v line (op.Close name) = tt
quiet_asked v line (op.Write name payload handles address) =
    quiet_read (propose_unless v.pending (block_entry v line name payload handles)) v.present (quiet_unless v.pending (block_entry v line name payload handles) (λ views. refl))
quiet_asked v line (op.Read name handle) = quiet_read (step.Answer (read_reply v name [])) v.present tt
quiet_asked v line (op.Look name key) = tt
quiet_asked v line (op.Root name key handle) = quiet_unless v.pending (root_entry v line name key handle) (λ views. refl)
quiet_asked v line (op.Drop key) = λ views. refl
quiet_asked v line (op.Forget name handle) = tt
quiet_asked v line (op.Name name handle) = tt
quiet_asked v line op.Delete = λ views. refl
quiet_asked v line op.Stat = tt

quiet_go : (v : OpView) (line : ℕ) (o : Op) → ProposesNoView (go v line o)
unfolding go
quiet_go v line o = quiet_if v.viewed (option_map_or step.Answer (judged_in v o) (asked_for v line o)) step.Wait (quiet_answer (asked_for v line o) (judged_in v o) (quiet_asked v line o)) tt

quiet_begin : (v : OpView) (line : ℕ) (o : Op) → ProposesNoView (begin v line o)
unfolding begin
quiet_begin v line o = quiet_answer (go v line o) (judged_in v o) (quiet_go v line o)

quiet_compared : (v : OpView) (line number : ℕ) (bytes : Option (List ℕ)) (pointers : List Address) (o : Op) → ProposesNoView (compared v line (record { number = number; bytes = bytes; pointers = pointers }) o)
unfolding compared mark_entry
quiet_compared v line number bytes pointers (op.Open name) = tt
quiet_compared v line number bytes pointers (op.Close name) = tt
quiet_compared v line number bytes pointers (op.Write name payload handles address) =
    quiet_if _ (go v line (op.Write name payload handles address)) _ (quiet_go v line (op.Write name payload handles address))
    (quiet_if (is_same_block (asked_block v.seats name payload handles) bytes pointers) (step.Propose (mark_entry v line number name handles address)) _ (λ views. refl) tt)
quiet_compared v line number bytes pointers (op.Read name handle) = tt
quiet_compared v line number bytes pointers (op.Look name key) = tt
quiet_compared v line number bytes pointers (op.Root name key handle) = tt
quiet_compared v line number bytes pointers (op.Drop key) = tt
quiet_compared v line number bytes pointers (op.Forget name handle) = tt
quiet_compared v line number bytes pointers (op.Name name handle) = tt
quiet_compared v line number bytes pointers op.Delete = tt
quiet_compared v line number bytes pointers op.Stat = tt

pub quiet_step : (v : OpView) (o : Operation) → ProposesNoView (go_step v o)
quiet_step v o = by_stage o.stage
  where
    by_stage : (s : Stage) → ProposesNoView (go_from s v o.line o.op)
    by_stage stage.New = quiet_begin v o.line o.op
    by_stage stage.Waiting = quiet_go v o.line o.op
    by_stage (stage.Reading number) = quiet_go v o.line o.op
    by_stage stage.Logged = quiet_go v o.line o.op

pub quiet_bytes : (v : OpView) (bytes : Option (List ℕ)) (pointers : List Address) (o : Operation) → ProposesNoView (bytes_step v bytes pointers o)
unfolding on_bytes
quiet_bytes v bytes pointers o = quiet_answer (compared v o.line (record { number = wanted_number o.stage; bytes = bytes; pointers = pointers }) o.op) (refusal_of v o.op) (quiet_compared v o.line (wanted_number o.stage) bytes pointers o.op)

pub quiet_effect : (v : OpView) (did : What) (o : Operation) → ProposesNoView (effect_step v did o)
unfolding on_effect
quiet_effect v did o = quiet_answer (go v o.line o.op) (effect_reply v did o.op) (quiet_go v o.line o.op)
