-- No step of an operation answers that a peer is down.
use Rattle.std.proofs.Common.{Bool, List, None, Option, Some, [], cond, false, inl, inr, not, refl, subst, sym, true, ℕ, ◌∷◌, ◌≡◌}
use Rattle.std.specs.Option.{option_map, option_or}
use Rattle.std.specs.Prelude.{if◌then◌else◌}
use Rattle.hs_core_words.specs.declared.event.Event.TheVariants as event
use Rattle.hs_model.specs.Refusals.{first, refused_when}
use Rattle.hs_core_words.specs.declared.event.Event.{Event}
use Rattle.hs_post.specs.Pool.{is_full, message_at}
use Rattle.hs_core_words.specs.State.{Core}
use Rattle.hs_post.specs.declared.message.Message.{Message}
use Rattle.hs_anatomy.specs.Refusing.{message_refusal, refusal_in, repeat_refusal}
use Rattle.hs_answered.proofs.RefusalLemmas.{Holds, IsOfKind, first_is, view_stops}
use Rattle.hs_answered.proofs.StepLemmas.{Sees, go_sees, split_step, step_sees}
use Rattle.hs_desk.specs.declared.what.What.{What}
use Rattle.hs_desk.specs.declared.what.What.TheVariants as what
use Rattle.hs_journal.specs.Notes.{down_in}
use Rattle.hs_limits.specs.declared.address.Address.{Address}
use Rattle.hs_model.specs.declared.op.Op.{Op}
use Rattle.hs_model.specs.declared.op.Op.TheVariants as op
use Rattle.hs_model.specs.declared.reply.Reply.{Reply}
use Rattle.hs_model.specs.declared.reply.Reply.TheVariants as reply
use Rattle.hs_ops.specs.declared.step.OpStep.TheVariants.{Answer, Propose}
use Rattle.hs_ops.specs.Going.{at_once, compared, data_of, effect_reply, given_reply, go, is_reported, is_same_block, judged_in, mark_entry, on_bytes, on_effect, read_reply}
use Rattle.hs_ops.specs.Operations.{Operation, bytes_step, effect_step, go_step, wanted_number}
use Rattle.hs_ops.specs.Refusals.{is_busy, refusal_of}
use Rattle.hs_ops.specs.Speaking.{asked_block}
use Rattle.hs_ops.specs.Views.{OpView, kept_in}
use Rattle.hs_roots.specs.declared.root.RootRecord.{RootRecord}

-- a reply tells of no peer that it is down
abbrev pub IsNoNote : Reply → Type 0
IsNoNote told = down_in told ≡ None

no_note : Holds IsNoNote
no_note = record {
  no_session = λ name. refl;
  session_taken = λ name. refl;
  sessions_full = λ limit. refl;
  too_long = λ found. refl;
  too_many = λ found. refl;
  no_handle = λ handle. refl;
  handles_full = λ limit. refl;
  stale = λ handle held now. refl;
  collision = refl;
  shard_full = λ limit. refl;
  key_taken = λ key. refl;
  no_key = λ key. refl;
  roots_full = λ limit. refl;
  running = λ epoch. refl;
  epoch_end = λ limit. refl;
}

-- a reply, where there is one
told_at : (x : Option Reply) (r : Reply) → IsOfKind IsNoNote x → x ≡ Some r → IsNoNote r
told_at x r h e = subst (λ y. IsOfKind IsNoNote y) e h

busy_told : (v : OpView) → IsOfKind IsNoNote (is_busy v)
busy_told v = go v.busy
  where
    go : (line : Option ℕ) → IsOfKind IsNoNote (option_map (λ line. reply.Busy line) line)
    go None = tt
    go (Some line) = refl

refusal_told : (v : OpView) (o : Op) → IsOfKind IsNoNote (refusal_of v o)
refusal_told v o = view_stops IsNoNote no_note v o (busy_told v)

at_once_told : (v : OpView) (o : Op) → IsOfKind IsNoNote (at_once v o)
at_once_told v (op.Open name) = refl
at_once_told v (op.Close name) = refl
at_once_told v (op.Write name payload handles address) = tt
at_once_told v (op.Read name handle) = tt
at_once_told v (op.Look name key) = refl
at_once_told v (op.Root name key handle) = go (kept_in v key)
  where
    go : (root : Option RootRecord) → IsOfKind IsNoNote (option_map (λ (r : RootRecord). reply.Ok) root)
    go None = tt
    go (Some root) = refl
at_once_told v (op.Drop key) = tt
at_once_told v (op.Forget name handle) = refl
at_once_told v (op.Name name handle) = refl
at_once_told v op.Delete = tt
at_once_told v op.Stat = refl

judged_told : (v : OpView) (o : Op) → IsOfKind IsNoNote (judged_in v o)
unfolding judged_in
judged_told v o = go (refusal_of v o) (refusal_told v o)
  where
    go : (x : Option Reply) → IsOfKind IsNoNote x → IsOfKind IsNoNote (option_or x (at_once v o))
    go None h = at_once_told v o
    go (Some r) h = h

sees_told : (v : OpView) (o : Op) (r : Reply) → Sees v o r → IsNoNote r
sees_told v o r (inl e) = told_at (judged_in v o) r (judged_told v o) e
sees_told v o r (inr gone) = subst (λ q. IsNoNote q) (sym gone.told) refl

pub go_tells : (v : OpView) (operation : Operation) (r : Reply) → go_step v operation ≡ Answer r → IsNoNote r
go_tells v operation r e = sees_told v operation.op r (step_sees v operation r e)

-- ---- its entry took effect

given_told : (dup : Bool) (v : OpView) (o : Op) → IsOfKind IsNoNote (given_reply dup v o)
given_told true v (op.Write name payload handles address) = refl
given_told false v (op.Write name payload handles address) = refl
given_told dup v (op.Open name) = tt
given_told dup v (op.Close name) = tt
given_told dup v (op.Read name handle) = tt
given_told dup v (op.Look name key) = tt
given_told dup v (op.Root name key handle) = tt
given_told dup v (op.Drop key) = tt
given_told dup v (op.Forget name handle) = tt
given_told dup v (op.Name name handle) = tt
given_told dup v op.Delete = tt
given_told dup v op.Stat = tt

replied_told : (v : OpView) (did : What) (o : Op) → IsOfKind IsNoNote (effect_reply v did o)
replied_told v what.Nothing o = tt
replied_told v (what.Viewed view) o = tt
replied_told v what.Stored o = given_told false v o
replied_told v what.Marked o = given_told true v o
replied_told v what.Again o = tt
replied_told v what.Rooted o = refl
replied_told v what.Dropped o = refl
replied_told v (what.Entered epoch) o = refl
replied_told v what.Refused o = refusal_told v o

pub effect_tells : (did : What) (v : OpView) (operation : Operation) (r : Reply) → effect_step v did operation ≡ Answer r → IsNoNote r
unfolding on_effect
effect_tells did v operation r e = elim (split_step (effect_reply v did operation.op) (go v operation.line operation.op) r e) [
  | inl h ↦ told_at (effect_reply v did operation.op) r (replied_told v did operation.op) h
  | inr h ↦ sees_told v operation.op r (go_sees v operation.line operation.op r h.1)
]

-- ---- bytes were reported

compared_told : (v : OpView) (line number : ℕ) (bytes : Option (List ℕ)) (pointers : List Address) (o : Op) (r : Reply) → compared v line (record { number = number; bytes = bytes; pointers = pointers }) o ≡ Answer r → IsNoNote r
unfolding compared
compared_told v line number bytes pointers (op.Write name payload handles address) r e =
    by_tests (is_reported v number bytes) (is_same_block (asked_block v.seats name payload handles) bytes pointers) e
  where
    answer_is : (q : Reply) → Answer q ≡ Answer r → q ≡ r
    answer_is q f = cc f

    by_tests : (told same : Bool) → (if not told then go v line (op.Write name payload handles address) else (if same then Propose (mark_entry v line number name handles address) else Answer reply.Collision)) ≡ Answer r → IsNoNote r
    by_tests false same f = sees_told v (op.Write name payload handles address) r (go_sees v line (op.Write name payload handles address) r f)
    by_tests true true f = absurd (cc f)
    by_tests true false f = subst (λ q. IsNoNote q) (answer_is reply.Collision f) refl
compared_told v line number bytes pointers (op.Read name handle) r e = subst (λ q. IsNoNote q) (answer_is e) refl
  where
    answer_is : Answer (read_reply v name (data_of bytes)) ≡ Answer r → read_reply v name (data_of bytes) ≡ r
    answer_is f = cc f
compared_told v line number bytes pointers (op.Open name) r e = absurd (cc e)
compared_told v line number bytes pointers (op.Close name) r e = absurd (cc e)
compared_told v line number bytes pointers (op.Look name key) r e = absurd (cc e)
compared_told v line number bytes pointers (op.Root name key handle) r e = absurd (cc e)
compared_told v line number bytes pointers (op.Drop key) r e = absurd (cc e)
compared_told v line number bytes pointers (op.Forget name handle) r e = absurd (cc e)
compared_told v line number bytes pointers (op.Name name handle) r e = absurd (cc e)
compared_told v line number bytes pointers op.Delete r e = absurd (cc e)
compared_told v line number bytes pointers op.Stat r e = absurd (cc e)

pub bytes_tells : (bytes : Option (List ℕ)) (pointers : List Address) (v : OpView) (operation : Operation) (r : Reply) → bytes_step v bytes pointers operation ≡ Answer r → IsNoNote r
unfolding on_bytes
bytes_tells bytes pointers v operation r e = elim (split_step (refusal_of v operation.op) (compared v operation.line (record { number = wanted_number operation.stage; bytes = bytes; pointers = pointers }) operation.op) r e) [
  | inl h ↦ told_at (refusal_of v operation.op) r (refusal_told v operation.op) h
  | inr h ↦ compared_told v operation.line (wanted_number operation.stage) bytes pointers operation.op r h.1
]

-- ---- nor does the refusal of a line

when_told : (b : Bool) (r : Reply) → IsNoNote r → IsOfKind IsNoNote (refused_when b r)
when_told true r e = e
when_told false r e = tt

message_told : (number : ℕ) (m : Option Message) → IsOfKind IsNoNote (message_refusal number m)
message_told number None = refl
message_told number (Some m) = tt

repeat_told : (number : ℕ) (c : Core) (m : Option Message) → IsOfKind IsNoNote (repeat_refusal number c m)
repeat_told number c None = refl
repeat_told number c (Some m) = go (is_full c.pool)
  where
    go : (b : Bool) → IsOfKind IsNoNote (cond b (Some (reply.PoolFull c.pool.limit)) None)
    go true = refl
    go false = tt

peer_told : (a b : Bool) (q r : Reply) → IsNoNote q → IsNoNote r → IsOfKind IsNoNote (first (refused_when a q ∷ refused_when b r ∷ []))
peer_told a b q r x y = first_is IsNoNote (refused_when a q ∷ refused_when b r ∷ []) (when_told a q x, (when_told b r y, tt))

refused_told : (e : Event) (c : Core) → IsOfKind IsNoNote (refusal_in e c)
refused_told (event.Line line o) c = tt
refused_told (event.Report peer d) c = tt
refused_told (event.Turn line peer) c = peer_told _ _ (reply.NoPeer peer) (reply.NotUp peer) refl refl
refused_told (event.Deliver line number) c = message_told number (message_at number c.pool)
refused_told (event.Lose line number) c = message_told number (message_at number c.pool)
refused_told (event.Repeat line number) c = repeat_told number c (message_at number c.pool)
refused_told (event.Nudge line peer) c = peer_told _ _ (reply.NoPeer peer) (reply.NotUp peer) refl refl
refused_told (event.Fail line peer) c = peer_told _ _ (reply.NoPeer peer) (reply.NotUp peer) refl refl
refused_told (event.Start line peer) c = peer_told _ _ (reply.NoPeer peer) (reply.NotDown peer) refl refl

pub refusal_tells : (e : Event) (c : Core) (r : Reply) → refusal_in e c ≡ Some r → IsNoNote r
refusal_tells e c r why = told_at (refusal_in e c) r (refused_told e c) why
