-- No answer of a client's line, and no refusal of another, tells that a run is done, and none has the deed of a sweep.
use Rattle.std.proofs.Common.{◌≡◌, subst, ℕ, Bool, true, false, cond, [], ◌∷◌, Option, Some, None}
use Rattle.std.specs.Prelude.{if◌then◌else◌}
use Rattle.hs_answered.proofs.RefusalLemmas.{Holds, IsOfKind, store_stops}
use Rattle.hs_core_words.specs.declared.event.Event.{Event}
use Rattle.hs_core_words.specs.declared.event.Event.TheVariants as event
use Rattle.hs_core_words.specs.State.{Core}
use Rattle.hs_limits.specs.declared.limits.Limits.{Limits}
use Rattle.hs_model.specs.declared.deed.Deed.{Deed}
use Rattle.hs_model.specs.declared.deed.Deed.TheVariants as deed
use Rattle.hs_model.specs.declared.op.Op.{Op}
use Rattle.hs_model.specs.declared.op.Op.TheVariants as op
use Rattle.hs_model.specs.declared.reply.Reply.{Reply}
use Rattle.hs_model.specs.declared.reply.Reply.TheVariants as reply
use Rattle.hs_model.specs.Judge.{asked_of, given_address, granted, judge, judged, refusals, written_deed, written_reply}
use Rattle.hs_model.specs.Refusals.{first, refused_when}
use Rattle.hs_model.specs.Store.{Store}
use Rattle.hs_ops.specs.Answers.{deed_of, done_deed, handle_in, is_done, is_dup}
use Rattle.hs_ops.specs.Speaking.{asked_pointers}
use Rattle.hs_post.specs.declared.message.Message.{Message}
use Rattle.hs_post.specs.Pool.{is_full, message_at}
use Rattle.hs_tokens.specs.Seats.{Seats}
use Rattle.hs_told.specs.InTurn.{message_refusal, refusal_in, repeat_refusal}

-- ---- replies

-- a reply tells of no run that it is done
abbrev pub IsNotDone : Reply → Type 0
IsNotDone (reply.Done epoch) = ⊥
IsNotDone other = Unit {0}

not_done : Holds IsNotDone
not_done = record {
  no_session = λ name. tt;
  session_taken = λ name. tt;
  sessions_full = λ limit. tt;
  too_long = λ found. tt;
  too_many = λ found. tt;
  no_handle = λ handle. tt;
  handles_full = λ limit. tt;
  stale = λ handle held now. tt;
  collision = tt;
  shard_full = λ limit. tt;
  key_taken = λ key. tt;
  no_key = λ key. tt;
  roots_full = λ limit. tt;
  running = λ epoch. tt;
  epoch_end = λ limit. tt;
}

granted_undone : (s : Store) (o : Op) → IsNotDone (granted s o).reply
unfolding granted
granted_undone s (op.Open name) = tt
granted_undone s (op.Close name) = tt
granted_undone s (op.Write name payload handles address) = go _ _ _
  where
    go : (dup : Bool) (handle epoch : ℕ) → IsNotDone (written_reply dup handle epoch)
    go true handle epoch = tt
    go false handle epoch = tt
granted_undone s (op.Read name handle) = tt
granted_undone s (op.Look name key) = tt
granted_undone s (op.Root name key handle) = tt
granted_undone s (op.Drop key) = tt
granted_undone s (op.Forget name handle) = tt
granted_undone s (op.Name name handle) = tt
granted_undone s op.Delete = tt
granted_undone s op.Stat = tt

-- what the judge answers
pub judge_undone : (limits : Limits) (s : Store) (o : Op) → IsNotDone (judge limits s o).reply
unfolding judge
judge_undone limits s o = go (first (refusals limits s o)) (store_stops IsNotDone not_done limits s o)
  where
    go : (x : Option Reply) → IsOfKind IsNotDone x → IsNotDone (judged s o x).reply
    go None h = granted_undone s o
    go (Some r) h = h

-- ---- why a line is refused that is no client's

two_undone : (b d : Bool) (q r : Reply) → IsNotDone q → IsNotDone r → IsOfKind IsNotDone (first (refused_when b q ∷ refused_when d r ∷ []))
two_undone true d q r h k = h
two_undone false true q r h k = k
two_undone false false q r h k = tt

message_undone : (number : ℕ) (m : Option Message) → IsOfKind IsNotDone (message_refusal number m)
message_undone number None = tt
message_undone number (Some m) = tt

repeat_undone : (number : ℕ) (c : Core) (m : Option Message) → IsOfKind IsNotDone (repeat_refusal number c m)
repeat_undone number c None = tt
repeat_undone number c (Some m) = go (is_full c.pool)
  where
    go : (b : Bool) → IsOfKind IsNotDone (if b then Some (reply.PoolFull c.pool.limit) else None)
    go true = tt
    go false = tt

refusal_of_kind : (e : Event) (c : Core) → IsOfKind IsNotDone (refusal_in e c)
refusal_of_kind (event.Line line o) c = tt
refusal_of_kind (event.Report peer d) c = tt
refusal_of_kind (event.Turn line peer) c = two_undone _ _ (reply.NoPeer peer) (reply.NotUp peer) tt tt
refusal_of_kind (event.Deliver line number) c = message_undone number (message_at number c.pool)
refusal_of_kind (event.Lose line number) c = message_undone number (message_at number c.pool)
refusal_of_kind (event.Repeat line number) c = repeat_undone number c (message_at number c.pool)
refusal_of_kind (event.Nudge line peer) c = two_undone _ _ (reply.NoPeer peer) (reply.NotUp peer) tt tt
refusal_of_kind (event.Fail line peer) c = two_undone _ _ (reply.NoPeer peer) (reply.NotUp peer) tt tt
refusal_of_kind (event.Start line peer) c = two_undone _ _ (reply.NoPeer peer) (reply.NotDown peer) tt tt

pub refusal_undone : (e : Event) (c : Core) (r : Reply) → refusal_in e c ≡ Some r → IsNotDone r
refusal_undone e c r is = subst (λ (x : Option Reply). IsOfKind IsNotDone x) is (refusal_of_kind e c)

-- ---- deeds

-- it is no sweep
abbrev pub IsNoSweep : Deed → Type 0
IsNoSweep (deed.Swept shard) = ⊥
IsNoSweep other = Unit {0}

done_no_sweep : (seats : Seats) (o : Op) (r : Reply) → IsNoSweep (done_deed seats o r)
done_no_sweep seats (op.Open name) r = tt
done_no_sweep seats (op.Close name) r = tt
done_no_sweep seats (op.Write name payload handles address) r = go (is_dup r)
  where
    go : (b : Bool) → IsNoSweep (written_deed b name (given_address address) (asked_pointers seats name handles) (handle_in r))
    go true = tt
    go false = tt
done_no_sweep seats (op.Read name handle) r = tt
done_no_sweep seats (op.Look name key) r = tt
done_no_sweep seats (op.Root name key handle) r = tt
done_no_sweep seats (op.Drop key) r = tt
done_no_sweep seats (op.Forget name handle) r = tt
done_no_sweep seats (op.Name name handle) r = tt
done_no_sweep seats op.Delete r = tt
done_no_sweep seats op.Stat r = tt

-- that of an answer
pub answer_no_sweep : (seats : Seats) (o : Op) (r : Reply) → IsNoSweep (deed_of seats o r)
unfolding deed_of
answer_no_sweep seats o r = go (is_done r)
  where
    go : (b : Bool) → IsNoSweep (cond b (done_deed seats o r) (deed.Refused (asked_of o)))
    go true = done_no_sweep seats o r
    go false = tt
