-- No step of an operation that goes on answers that its session is busy.
use Rattle.std.proofs.Common.{◌≡◌, inl, inr, ℕ, Bool, true, false, not, List, Option, Some, None, sym, subst}
use Rattle.std.specs.Option.{option_map, option_or}
use Rattle.std.specs.Prelude.{if◌then◌else◌}
use Rattle.hs_answered.proofs.RefusalLemmas.{IsNotBusy, IsOfKind, not_busy, not_told_busy, view_stops}
use Rattle.hs_answered.proofs.StepLemmas.{Sees, go_sees, split_step, step_sees}
use Rattle.hs_desk.specs.declared.what.What.{What}
use Rattle.hs_desk.specs.declared.what.What.TheVariants as what
use Rattle.hs_limits.specs.declared.address.Address.{Address}
use Rattle.hs_model.specs.declared.op.Op.{Op}
use Rattle.hs_model.specs.declared.op.Op.TheVariants as op
use Rattle.hs_model.specs.declared.reply.Reply.{Reply}
use Rattle.hs_model.specs.declared.reply.Reply.TheVariants as reply
use Rattle.hs_ops.specs.declared.step.OpStep.TheVariants.{Answer, Propose}
use Rattle.hs_ops.specs.Going.{at_once, compared, data_of, effect_reply, given_reply, go, is_reported, is_same_block, judged_in, mark_entry, on_bytes, on_effect, read_reply}
use Rattle.hs_ops.specs.Operations.{Operation, bytes_step, effect_step, go_step, wanted_number}
use Rattle.hs_ops.specs.Refusals.{refusal_of}
use Rattle.hs_ops.specs.Speaking.{asked_block}
use Rattle.hs_ops.specs.Views.{OpView, kept_in}
use Rattle.hs_roots.specs.declared.root.RootRecord.{RootRecord}

-- a reply, where there is one
calm_at : (x : Option Reply) (r : Reply) → IsOfKind IsNotBusy x → x ≡ Some r → IsNotBusy r
calm_at x r h e = subst (λ y. IsOfKind IsNotBusy y) e h

refusal_calm : (v : OpView) (o : Op) → v.busy ≡ None → IsOfKind IsNotBusy (refusal_of v o)
refusal_calm v o free = view_stops IsNotBusy not_busy v o (not_told_busy v free)

at_once_calm : (v : OpView) (o : Op) → IsOfKind IsNotBusy (at_once v o)
at_once_calm v (op.Open name) = tt
at_once_calm v (op.Close name) = tt
at_once_calm v (op.Write name payload handles address) = tt
at_once_calm v (op.Read name handle) = tt
at_once_calm v (op.Look name key) = tt
at_once_calm v (op.Root name key handle) = go (kept_in v key)
  where
    go : (root : Option RootRecord) → IsOfKind IsNotBusy (option_map (λ (r : RootRecord). reply.Ok) root)
    go None = tt
    go (Some root) = tt
at_once_calm v (op.Drop key) = tt
at_once_calm v (op.Forget name handle) = tt
at_once_calm v (op.Name name handle) = tt
at_once_calm v op.Delete = tt
at_once_calm v op.Stat = tt

judged_calm : (v : OpView) (o : Op) → v.busy ≡ None → IsOfKind IsNotBusy (judged_in v o)
unfolding judged_in
judged_calm v o free = go (refusal_of v o) (refusal_calm v o free)
  where
    go : (x : Option Reply) → IsOfKind IsNotBusy x → IsOfKind IsNotBusy (option_or x (at_once v o))
    go None h = at_once_calm v o
    go (Some r) h = h

pub sees_calm : (v : OpView) (o : Op) (r : Reply) → v.busy ≡ None → Sees v o r → IsNotBusy r
sees_calm v o r free (inl e) = calm_at (judged_in v o) r (judged_calm v o free) e
sees_calm v o r free (inr gone) = subst (λ q. IsNotBusy q) (sym gone.told) tt

pub go_calm : (v : OpView) (operation : Operation) (r : Reply) → v.busy ≡ None → go_step v operation ≡ Answer r → IsNotBusy r
go_calm v operation r free e = sees_calm v operation.op r free (step_sees v operation r e)

-- ---- its entry took effect

given_calm : (dup : Bool) (v : OpView) (o : Op) → IsOfKind IsNotBusy (given_reply dup v o)
given_calm true v (op.Write name payload handles address) = tt
given_calm false v (op.Write name payload handles address) = tt
given_calm dup v (op.Open name) = tt
given_calm dup v (op.Close name) = tt
given_calm dup v (op.Read name handle) = tt
given_calm dup v (op.Look name key) = tt
given_calm dup v (op.Root name key handle) = tt
given_calm dup v (op.Drop key) = tt
given_calm dup v (op.Forget name handle) = tt
given_calm dup v (op.Name name handle) = tt
given_calm dup v op.Delete = tt
given_calm dup v op.Stat = tt

replied_calm : (v : OpView) (did : What) (o : Op) → v.busy ≡ None → IsOfKind IsNotBusy (effect_reply v did o)
replied_calm v what.Nothing o free = tt
replied_calm v (what.Viewed view) o free = tt
replied_calm v what.Stored o free = given_calm false v o
replied_calm v what.Marked o free = given_calm true v o
replied_calm v what.Again o free = tt
replied_calm v what.Rooted o free = tt
replied_calm v what.Dropped o free = tt
replied_calm v (what.Entered epoch) o free = tt
replied_calm v what.Refused o free = refusal_calm v o free

pub effect_calm : (v : OpView) (did : What) (operation : Operation) (r : Reply) → v.busy ≡ None → effect_step v did operation ≡ Answer r → IsNotBusy r
unfolding on_effect
effect_calm v did operation r free e = elim (split_step (effect_reply v did operation.op) (go v operation.line operation.op) r e) [
  | inl h ↦ calm_at (effect_reply v did operation.op) r (replied_calm v did operation.op free) h
  | inr h ↦ sees_calm v operation.op r free (go_sees v operation.line operation.op r h.1)
]

-- ---- bytes were reported

compared_calm : (v : OpView) (line number : ℕ) (bytes : Option (List ℕ)) (pointers : List Address) (o : Op) (r : Reply) → v.busy ≡ None → compared v line (record { number = number; bytes = bytes; pointers = pointers }) o ≡ Answer r → IsNotBusy r
unfolding compared
compared_calm v line number bytes pointers (op.Write name payload handles address) r free e =
    by_tests (is_reported v number bytes) (is_same_block (asked_block v.seats name payload handles) bytes pointers) e
  where
    answer_is : (q : Reply) → Answer q ≡ Answer r → q ≡ r
    answer_is q f = cc f

    by_tests : (told same : Bool) → (if not told then go v line (op.Write name payload handles address) else (if same then Propose (mark_entry v line number name handles address) else Answer reply.Collision)) ≡ Answer r → IsNotBusy r
    by_tests false same f = sees_calm v (op.Write name payload handles address) r free (go_sees v line (op.Write name payload handles address) r f)
    by_tests true true f = absurd (cc f)
    by_tests true false f = subst (λ q. IsNotBusy q) (answer_is reply.Collision f) tt
compared_calm v line number bytes pointers (op.Read name handle) r free e = subst (λ q. IsNotBusy q) (answer_is e) tt
  where
    answer_is : Answer (read_reply v name (data_of bytes)) ≡ Answer r → read_reply v name (data_of bytes) ≡ r
    answer_is f = cc f
compared_calm v line number bytes pointers (op.Open name) r free e = absurd (cc e)
compared_calm v line number bytes pointers (op.Close name) r free e = absurd (cc e)
compared_calm v line number bytes pointers (op.Look name key) r free e = absurd (cc e)
compared_calm v line number bytes pointers (op.Root name key handle) r free e = absurd (cc e)
compared_calm v line number bytes pointers (op.Drop key) r free e = absurd (cc e)
compared_calm v line number bytes pointers (op.Forget name handle) r free e = absurd (cc e)
compared_calm v line number bytes pointers (op.Name name handle) r free e = absurd (cc e)
compared_calm v line number bytes pointers op.Delete r free e = absurd (cc e)
compared_calm v line number bytes pointers op.Stat r free e = absurd (cc e)

pub bytes_calm : (v : OpView) (bytes : Option (List ℕ)) (pointers : List Address) (operation : Operation) (r : Reply) → v.busy ≡ None → bytes_step v bytes pointers operation ≡ Answer r → IsNotBusy r
unfolding on_bytes
bytes_calm v bytes pointers operation r free e = elim (split_step (refusal_of v operation.op) (compared v operation.line (record { number = wanted_number operation.stage; bytes = bytes; pointers = pointers }) operation.op) r e) [
  | inl h ↦ calm_at (refusal_of v operation.op) r (refusal_calm v operation.op free) h
  | inr h ↦ compared_calm v operation.line (wanted_number operation.stage) bytes pointers operation.op r free h.1
]
