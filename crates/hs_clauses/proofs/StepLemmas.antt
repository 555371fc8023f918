-- A step of a read that asks for bytes asks for those of the block that is there.
use Rattle.std.proofs.Common.{◌≡◌, ap, subst, ℕ, Bool, true, false, List, [], Option, Some, None}
use Rattle.std.specs.Option.{option_map_or}
use Rattle.std.specs.Prelude.{if◌then◌else◌}
use Rattle.hs_desk.specs.declared.what.What.{What}
use Rattle.hs_limits.specs.declared.address.Address.{Address}
use Rattle.hs_model.specs.declared.op.Op.{Op}
use Rattle.hs_model.specs.declared.op.Op.TheVariants as op
use Rattle.hs_model.specs.declared.reply.Reply.{Reply}
use Rattle.hs_ops.specs.declared.operation.Stage.{Stage}
use Rattle.hs_ops.specs.declared.operation.Stage.TheVariants as stage
use Rattle.hs_ops.specs.declared.step.OpStep.{OpStep}
use Rattle.hs_ops.specs.declared.step.OpStep.TheVariants.{Answer, Compare, Wait}
use Rattle.hs_ops.specs.Going.{asked_for, begin, compared, data_of, effect_reply, go, judged_in, on_bytes, on_effect, read_or, read_reply}
use Rattle.hs_ops.specs.Operations.{Operation, bytes_step, effect_step, go_from, go_step, wanted_number}
use Rattle.hs_ops.specs.Refusals.{refusal_of}
use Rattle.hs_ops.specs.Views.{OpView}

-- where a step of a read asks for the bytes of an entry, this one stored the block that it sees
abbrev pub ReadsPresent : OpView → Op → OpStep → Type 0
ReadsPresent v o taken = (name : List ℕ) (handle number : ℕ) → o ≡ op.Read name handle → taken ≡ Compare number → v.present ≡ Some number

compare_is : (m n : ℕ) → Compare m ≡ Compare n → m ≡ n
compare_is m n e = cc e

answer_not : (r : Reply) (n : ℕ) → Answer r ≡ Compare n → ⊥
answer_not r n e = cc e

wait_not : (n : ℕ) → Wait ≡ Compare n → ⊥
wait_not n e = cc e

read_compare : (r : Reply) (present : Option ℕ) (n : ℕ) → read_or (Answer r) present ≡ Compare n → present ≡ Some n
read_compare r None n e = absurd (answer_not r n e)
read_compare r (Some m) n e = ap (λ k. Some k) (compare_is m n e)

judged_compare : (x : Option Reply) (s : OpStep) (n : ℕ) → option_map_or Answer x s ≡ Compare n → s ≡ Compare n
judged_compare None s n e = e
judged_compare (Some r) s n e = absurd (answer_not r n e)

viewed_compare : (b : Bool) (s : OpStep) (n : ℕ) → (if b then s else Wait) ≡ Compare n → s ≡ Compare n
viewed_compare true s n e = e
viewed_compare false s n e = absurd (wait_not n e)

go_read : (v : OpView) (line : ℕ) (name : List ℕ) (handle number : ℕ) → go v line (op.Read name handle) ≡ Compare number → v.present ≡ Some number
unfolding go asked_for
go_read v line name handle number e =
    read_compare (read_reply v name []) v.present number
    (judged_compare (judged_in v (op.Read name handle)) (read_or (Answer (read_reply v name [])) v.present) number
    (viewed_compare v.viewed (option_map_or Answer (judged_in v (op.Read name handle)) (read_or (Answer (read_reply v name [])) v.present)) number e))

go_reads : (v : OpView) (line : ℕ) (o : Op) → ReadsPresent v o (go v line o)
go_reads v line o name handle number is e = go_read v line name handle number (subst (λ (p : Op). go v line p ≡ Compare number) is e)

begin_reads : (v : OpView) (line : ℕ) (o : Op) → ReadsPresent v o (begin v line o)
unfolding begin
begin_reads v line o name handle number is e = go_reads v line o name handle number is (judged_compare (judged_in v o) (go v line o) number e)

from_reads : (v : OpView) (line : ℕ) (o : Op) (s : Stage) → ReadsPresent v o (go_from s v line o)
from_reads v line o stage.New = begin_reads v line o
from_reads v line o stage.Waiting = go_reads v line o
from_reads v line o (stage.Reading number) = go_reads v line o
from_reads v line o stage.Logged = go_reads v line o

pub step_reads : (v : OpView) (o : Operation) → ReadsPresent v o.op (go_step v o)
step_reads v o = from_reads v o.line o.op o.stage

pub effect_reads : (v : OpView) (did : What) (o : Operation) → ReadsPresent v o.op (effect_step v did o)
unfolding on_effect
effect_reads v did o name handle number is e = go_reads v o.line o.op name handle number is (judged_compare (effect_reply v did o.op) (go v o.line o.op) number e)

told_read : (v : OpView) (line n : ℕ) (bytes : Option (List ℕ)) (pointers : List Address) (name : List ℕ) (handle number : ℕ) → on_bytes v line (record { number = n; bytes = bytes; pointers = pointers }) (op.Read name handle) ≡ Compare number → ⊥
unfolding on_bytes compared
told_read v line n bytes pointers name handle number e =
    answer_not (read_reply v name (data_of bytes)) number (judged_compare (refusal_of v (op.Read name handle)) (Answer (read_reply v name (data_of bytes))) number e)

-- bytes that are told a read answer it
pub bytes_reads : (v : OpView) (bytes : Option (List ℕ)) (pointers : List Address) (o : Operation) → ReadsPresent v o.op (bytes_step v bytes pointers o)
bytes_reads v bytes pointers o name handle number is e =
    absurd (told_read v o.line (wanted_number o.stage) bytes pointers name handle number
    (subst (λ (p : Op). on_bytes v o.line (record { number = wanted_number o.stage; bytes = bytes; pointers = pointers }) p ≡ Compare number) is e))
