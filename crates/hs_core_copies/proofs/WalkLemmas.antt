-- What operations and entries that take effect do is made of a few steps, and no operation proposes a View: what each step keeps, they keep.
use Rattle.std.proofs.Common.{◌≡◌, ℕ, zero, suc, ◌+◌, ◌-◌, Bool, true, false, List, [], ◌∷◌, Option, Some, None, refl}
use Rattle.std.specs.BTreeMap.{insert_entry, is_at}
use Rattle.std.specs.Map.{set_value}
use Rattle.std.specs.Option.{option_map_or}
use Rattle.std.specs.Ordering.{nat_cmp}
use Rattle.std.specs.Prelude.{if◌then◌else◌, is_some}
use Rattle.hs_awaiting.specs.declared.wait.Wait.{Wait}
use Rattle.hs_awaiting.specs.declared.wait.Wait.TheVariants as wait
use Rattle.hs_awaiting.specs.declared.waiting.Waiting.{Waiting}
use Rattle.hs_awaiting.specs.Words.{change_if, change_with, each, times}
use Rattle.hs_core_words.specs.Asking.{send_round, send_rounds, unless_refused, with_message}
use Rattle.hs_core_words.specs.Changing.{add_operation, change_group, end_operation, note, post, refuse, set_catalogue, set_viewed}
use Rattle.hs_core_words.specs.Effects.{after_entry, commit, commit_next, is_for_view, note_enter, note_sweep, reach_view, round_messages, take_effect, tell_enter, tell_operation, wakes}
use Rattle.hs_core_words.specs.Entering.{is_enter_due, propose_due}
use Rattle.hs_core_words.specs.Looking.{catalogue_of, front_of, group_of, lead_of, operation_of, shape_of}
use Rattle.hs_core_words.specs.Operating.{add_read, answer, begin_line, busy_line, carry_out, go_on_with, lines_where, propose_entry, resume, resume_where, take_step, wait_for, what_holds}
use Rattle.hs_core_words.specs.Pending.{named}
use Rattle.hs_core_words.specs.Reporting.{tell_bytes}
use Rattle.hs_core_words.specs.Seeing.{pointers_for, view_for}
use Rattle.hs_core_words.specs.State.{Core}
use Rattle.hs_desk.specs.declared.what.What.{What}
use Rattle.hs_desk.specs.declared.what.What.TheVariants as what
use Rattle.hs_entry.specs.declared.entry.Entry.{Entry}
use Rattle.hs_entry.specs.declared.entry.Entry.TheVariants as kind
use Rattle.hs_copies.specs.Standing.{TellsNoView}
use Rattle.hs_entry.specs.Entries.{is_of_base}
use Rattle.hs_journal.specs.declared.entry.Who.{Who}
use Rattle.hs_limits.specs.declared.address.Address.{Address}
use Rattle.hs_model.specs.declared.deed.Deed.{Deed}
use Rattle.hs_model.specs.declared.op.Op.{Op}
use Rattle.hs_model.specs.declared.op.Op.TheVariants as op
use Rattle.hs_model.specs.declared.reply.Reply.{Reply}
use Rattle.hs_model.specs.declared.reply.Reply.TheVariants as reply
use Rattle.hs_model.specs.Refusals.{first}
use Rattle.hs_ops.specs.declared.operation.Stage.{Stage}
use Rattle.hs_ops.specs.declared.operation.Stage.TheVariants as stage
use Rattle.hs_ops.specs.declared.step.OpStep.{OpStep}
use Rattle.hs_ops.specs.declared.step.OpStep.TheVariants as step
use Rattle.hs_ops.specs.Going.{asked_for, begin, block_entry, compared, effect_reply, go, is_same_block, judged_in, mark_entry, on_bytes, on_effect, propose_unless, read_or, read_reply, root_entry}
use Rattle.hs_ops.specs.Operations.{Operation, after_step, bytes_step, effect_step, go_from, go_step, new_operation, wanted_number}
use Rattle.hs_ops.specs.Refusals.{refusal_of}
use Rattle.hs_ops.specs.Speaking.{asked_block, judging_shard}
use Rattle.hs_ops.specs.Views.{OpView}
use Rattle.hs_post.specs.declared.message.Message.{Message}
use Rattle.hs_post.specs.Pool.{message_at}
use Rattle.hs_replica.specs.Group.{commit_front, committed, take_committed}
use Rattle.hs_rounds.specs.Rounds.{sent_back}
use Rattle.hs_shard.specs.Apply.{apply}
use Rattle.hs_shard.specs.Clients.{Applied}
use Rattle.hs_shard.specs.declared.effect.Effect.{Effect}
use Rattle.hs_shard.specs.declared.effect.Sent.{Sent}
use Rattle.hs_shard.specs.Facts.{Catalogue}
use Rattle.hs_shard.specs.Rounds.{messages}
use Rattle.hs_tokens.specs.Seats.{Seats}

-- ---- what operations propose

-- an entry is no View and no Base, and is not kept behind a Base
abbrev pub IsOrdinary : Entry → Type 0
IsOrdinary entry = TellsNoView entry × (is_of_base entry ≡ false)

-- an entry that it asks for is such a one
abbrev pub ProposesPlain : OpStep → Type 0
ProposesPlain (step.Answer reply) = Unit
ProposesPlain (step.Propose entry) = IsOrdinary entry
ProposesPlain (step.Compare number) = Unit
ProposesPlain step.Wait = Unit

plain_unless : (b : Bool) (entry : Entry) → IsOrdinary entry → ProposesPlain (propose_unless b entry)
plain_unless true entry h = tt
plain_unless false entry h = h

plain_read : (s : OpStep) (o : Option ℕ) → ProposesPlain s → ProposesPlain (read_or s o)
plain_read s None h = h
plain_read s (Some number) h = tt

plain_answer : (s : OpStep) (o : Option Reply) → ProposesPlain s → ProposesPlain (option_map_or step.Answer o s)
plain_answer s None h = h
plain_answer s (Some reply) h = tt

plain_if : (b : Bool) (s t : OpStep) → ProposesPlain s → ProposesPlain t → ProposesPlain (if b then s else t)
plain_if true s t h k = h
plain_if false s t h k = k

plain_asked : (v : OpView) (line : ℕ) (o : Op) → ProposesPlain (asked_for v line o)
unfolding asked_for block_entry
plain_asked v line (op.Open name) = tt
plain_asked v line (op.Close name) = tt
plain_asked v line (op.Write name payload handles address) = plain_read (propose_unless v.pending (block_entry v line name payload handles)) v.present (plain_unless v.pending (block_entry v line name payload handles) ((λ view. refl), refl))
plain_asked v line (op.Read name handle) = plain_read (step.Answer (read_reply v name [])) v.present tt
plain_asked v line (op.Look name key) = tt
plain_asked v line (op.Root name key handle) = plain_unless v.pending (root_entry v line name key handle) ((λ view. refl), refl)
plain_asked v line (op.Drop key) = ((λ view. refl), refl)
plain_asked v line (op.Forget name handle) = tt
plain_asked v line (op.Name name handle) = tt
plain_asked v line op.Delete = ((λ view. refl), refl)
plain_asked v line op.Stat = tt

plain_go : (v : OpView) (line : ℕ) (o : Op) → ProposesPlain (go v line o)
unfolding go
plain_go v line o = plain_if v.viewed (option_map_or step.Answer (judged_in v o) (asked_for v line o)) step.Wait (plain_answer (asked_for v line o) (judged_in v o) (plain_asked v line o)) tt

plain_begin : (v : OpView) (line : ℕ) (o : Op) → ProposesPlain (begin v line o)
unfolding begin
plain_begin v line o = plain_answer (go v line o) (judged_in v o) (plain_go v line o)

plain_compared : (v : OpView) (line number : ℕ) (bytes : Option (List ℕ)) (pointers : List Address) (o : Op) → ProposesPlain (compared v line (record { number = number; bytes = bytes; pointers = pointers }) o)
unfolding compared mark_entry
plain_compared v line number bytes pointers (op.Open name) = tt
plain_compared v line number bytes pointers (op.Close name) = tt
plain_compared v line number bytes pointers (op.Write name payload handles address) =
    plain_if _ (go v line (op.Write name payload handles address)) _ (plain_go v line (op.Write name payload handles address)) (plain_if (is_same_block (asked_block v.seats name payload handles) bytes pointers) (step.Propose (mark_entry v line number name handles address)) _ ((λ view. refl), refl) tt)
plain_compared v line number bytes pointers (op.Read name handle) = tt
plain_compared v line number bytes pointers (op.Look name key) = tt
plain_compared v line number bytes pointers (op.Root name key handle) = tt
plain_compared v line number bytes pointers (op.Drop key) = tt
plain_compared v line number bytes pointers (op.Forget name handle) = tt
plain_compared v line number bytes pointers (op.Name name handle) = tt
plain_compared v line number bytes pointers op.Delete = tt
plain_compared v line number bytes pointers op.Stat = tt

plain_step : (v : OpView) (o : Operation) → ProposesPlain (go_step v o)
plain_step v o = by_stage o.stage
  where
    by_stage : (s : Stage) → ProposesPlain (go_from s v o.line o.op)
    by_stage stage.New = plain_begin v o.line o.op
    by_stage stage.Waiting = plain_go v o.line o.op
    by_stage (stage.Reading number) = plain_go v o.line o.op
    by_stage stage.Logged = plain_go v o.line o.op

plain_bytes : (v : OpView) (bytes : Option (List ℕ)) (pointers : List Address) (o : Operation) → ProposesPlain (bytes_step v bytes pointers o)
unfolding on_bytes
plain_bytes v bytes pointers o = plain_answer (compared v o.line (record { number = wanted_number o.stage; bytes = bytes; pointers = pointers }) o.op) (refusal_of v o.op) (plain_compared v o.line (wanted_number o.stage) bytes pointers o.op)

plain_effect : (v : OpView) (did : What) (o : Operation) → ProposesPlain (effect_step v did o)
unfolding on_effect
plain_effect v did o = plain_answer (go v o.line o.op) (effect_reply v did o.op) (plain_go v o.line o.op)

-- ---- the steps

-- what each of them keeps; R says of two cores what is kept from the one to the other
pub record StepLeaves (R : Core → Core → Type 0) : Type 0 where
  pub same : (c : Core) → R c c
  pub both : (a b c : Core) → R a b → R b c → R a c
  pub catalogue : (shard : ℕ) (x : Catalogue) (c : Core) → R c (set_catalogue shard x c)
  pub viewed : (shard : ℕ) (x : Bool) (c : Core) → R c (set_viewed shard x c)
  pub operations : (x : List (ℕ × Waiting)) (c : Core) → R c (record c { operations = x })
  pub sessions : (x : Seats) (c : Core) → R c (record c { sessions = x })
  pub noted : (of : Who) (did : Deed) (told : Reply) (c : Core) → R c (note of did told c)
  pub proposes : (shard : ℕ) (entry : Entry) (c : Core) → IsOrdinary entry → R c (propose_entry shard entry c)
  pub reads : (shard number line : ℕ) (c : Core) → R c (change_with (lead_of shard c) (add_read number line) c)
  pub sends : (shard : ℕ) (sent : List Sent) (c : Core) → R c (post (round_messages shard sent) c)
  pub commits : (shard : ℕ) (c : Core) → R c (change_group shard take_committed c)

-- ---- refusals

pub unless_by : (line : ℕ) (refusals : List (Option Reply)) (f : Core → Core) (c : Core) (P : Core → Type 0) → ((refusal : Reply) → P (refuse line refusal c)) → (first refusals ≡ None → P (f c)) → P (unless_refused line refusals f c)
unless_by line refusals f c P told done = go (first refusals) refl
  where
    go : (o : Option Reply) → first refusals ≡ o → P (unless_refused line refusals f c)
    go (Some refusal) e = rw e (told refusal)
    go None e = rw e (done e)

pub message_by : (line number : ℕ) (f : Message → Core → Core) (c : Core) (P : Core → Type 0) → ((refusal : Reply) → P (refuse line refusal c)) → ((m : Message) → message_at number c.pool ≡ Some m → P (f m c)) → P (with_message line number f c)
message_by line number f c P told done = go (message_at number c.pool) refl
  where
    go : (o : Option Message) → message_at number c.pool ≡ o → P (with_message line number f c)
    go None e = rw e (told (reply.NoMessage number))
    go (Some m) e = rw e (done m e)

-- ---- joined

module _ {R : Core → Core → Type 0} (L : StepLeaves R) where
  pub keeps_if : (b : Bool) (f : Core → Core) (c : Core) → ((x : Core) → R x (f x)) → R c (change_if b f c)
  keeps_if true f c h = h c
  keeps_if false f c h = L.same c

  keeps_with : {B : Type 0} (o : Option B) (f : B → Core → Core) (c : Core) → ((y : B) (x : Core) → R x (f y x)) → R c (change_with o f c)
  keeps_with None f c h = L.same c
  keeps_with (Some y) f c h = h y c

  pub keeps_each : {B : Type 0} (ys : List B) (f : B → Core → Core) (c : Core) → ((y : B) (x : Core) → R x (f y x)) → R c (each ys f c)
  keeps_each [] f c h = L.same c
  keeps_each (y ∷ ys) f c h = L.both c (f y c) (each ys f (f y c)) (h y c) (keeps_each ys f (f y c) h)

  keeps_times : (n : ℕ) (f : Core → Core) (c : Core) → ((x : Core) → R x (f x)) → R c (times n f c)
  keeps_times zero f c h = L.same c
  keeps_times (suc n) f c h = L.both c (f c) (times n f (f c)) (h c) (keeps_times n f (f c) h)

  -- ---- operations

  keeps_answer : (line : ℕ) (w : Waiting) (told : Reply) (c : Core) → R c (answer line w told c)
  keeps_answer line w told c =
      let one : Core = end_operation line c in
      L.both c one _ (L.operations _ c) (L.both one (note _ _ told one) _ (L.noted _ _ told one) (L.sessions _ (note _ _ told one)))

  keeps_wait : (line : ℕ) (w : Waiting) (what : Wait) (c : Core) → R c (wait_for line w what c)
  keeps_wait line w what c = L.operations (set_value (is_at (nat_cmp line)) c.operations (record w { wait = what })) c

  keeps_carry : (line : ℕ) (w : Waiting) (taken : OpStep) (c : Core) → ProposesPlain taken → R c (carry_out line w taken c)
  keeps_carry line w (step.Answer told) c h = keeps_answer line w told c
  keeps_carry line w (step.Propose entry) c h = L.both c _ _ (keeps_wait line w _ c) (L.proposes w.shard entry _ h)
  keeps_carry line w (step.Compare number) c h = L.both c (wait_for line w (wait.Bytes number) c) _ (keeps_wait line w _ c) (L.reads w.shard number line (wait_for line w (wait.Bytes number) c))
  keeps_carry line w step.Wait c h = keeps_wait line w (what_holds w c) c

  keeps_take_step : (line : ℕ) (w : Waiting) (taken : OpStep) (c : Core) → ProposesPlain taken → R c (take_step line w taken c)
  keeps_take_step line w taken c h = keeps_carry line (record w { operation = after_step taken w.operation }) taken c h

  keeps_go_on : (next : OpView → Operation → OpStep) (line : ℕ) (c : Core) → ((v : OpView) (o : Operation) → ProposesPlain (next v o)) → R c (go_on_with next line c)
  keeps_go_on next line c h = keeps_with (operation_of line c) (λ w. take_step line w (next (view_for w.shard w.operation.op c) w.operation)) c (λ w x. keeps_take_step line w (next (view_for w.shard w.operation.op c) w.operation) x (h _ _))

  keeps_resume_where : (shard : ℕ) (test : Waiting → Bool) (c : Core) → R c (resume_where shard test c)
  keeps_resume_where shard test c = keeps_each (lines_where shard test c) resume c (λ line x. keeps_go_on go_step line x plain_step)

  pub keeps_begin_line : (line : ℕ) (o : Op) (c : Core) → R (record c { progress = record c.progress { last_line = line } }) (begin_line line o c)
  keeps_begin_line line o c =
      let begun : Core = record c { progress = record c.progress { last_line = line } } in
      let shard : ℕ = judging_shard (shape_of c).shards c.sessions o in
      let w : Waiting = record { operation = new_operation line o; shard = shard; wait = wait.View } in
      let v : OpView = record (view_for shard o begun) { busy = busy_line o c } in
      L.both begun (add_operation line w begun) _ (L.operations (insert_entry nat_cmp c.operations line w) begun) (keeps_take_step line w (go_step v w.operation) (add_operation line w begun) (plain_step v w.operation))

  pub keeps_tell_bytes : (line number : ℕ) (bytes : Option (List ℕ)) (c : Core) → R c (tell_bytes line number bytes c)
  keeps_tell_bytes line number bytes c = keeps_with (operation_of line c) _ c (λ w x. keeps_if _ _ x (λ y. keeps_go_on (λ v o. bytes_step v bytes (pointers_for w.shard w.operation.op y) o) line y (λ v o. plain_bytes v bytes (pointers_for w.shard w.operation.op y) o)))

  -- ---- entries that take effect

  pub keeps_propose_due : (shard : ℕ) (c : Core) → R c (propose_due shard c)
  keeps_propose_due shard c = keeps_if (is_enter_due shard c) (propose_entry shard (kind.Enter 0 ((catalogue_of shard c).epoch + 1))) c (λ x. L.proposes shard _ x ((λ view. refl), refl))

  keeps_sweep : (shard removed : ℕ) (c : Core) → R c (note_sweep shard removed c)
  keeps_sweep shard removed c = L.both c _ _ (L.noted _ _ _ c) (keeps_if _ (note _ _ _) _ (λ x. L.noted _ _ _ x))

  keeps_note_enter : (shard : ℕ) (did : What) (c : Core) → R c (note_enter shard did c)
  keeps_note_enter shard what.Nothing c = L.same c
  keeps_note_enter shard (what.Viewed view) c = L.same c
  keeps_note_enter shard what.Stored c = L.same c
  keeps_note_enter shard what.Marked c = L.same c
  keeps_note_enter shard what.Again c = L.same c
  keeps_note_enter shard what.Rooted c = L.same c
  keeps_note_enter shard what.Dropped c = L.same c
  keeps_note_enter shard (what.Entered epoch) c = L.noted _ _ _ c
  keeps_note_enter shard what.Refused c = L.same c

  keeps_tell : (line : ℕ) (did : What) (c : Core) → R c (tell_operation line did c)
  keeps_tell line did c = keeps_go_on (λ v o. effect_step v did o) line c (λ v o. plain_effect v did o)

  keeps_tell_enter : (shard line : ℕ) (did : What) (c : Core) → R c (tell_enter shard line did c)
  keeps_tell_enter shard line did c = go (is_some (operation_of line c)) refl
    where
      go : (b : Bool) → is_some (operation_of line c) ≡ b → R c (tell_enter shard line did c)
      go false e = rw e (keeps_note_enter shard did c)
      go true e = rw e (keeps_tell line did c)

  keeps_view : (shard view : ℕ) (c : Core) → R c (reach_view shard view c)
  keeps_view shard view c = keeps_if _ (λ x. resume_where shard is_for_view (set_viewed shard true x)) c (λ x. L.both x _ _ (L.viewed shard true x) (keeps_resume_where shard is_for_view _))

  keeps_after : (shard : ℕ) (entry : Entry) (effect : Effect) (c : Core) → R c (after_entry shard entry effect c)
  keeps_after shard (kind.View view) effect c = keeps_view shard view c
  keeps_after shard (kind.Block line least bytes) effect c = keeps_tell line effect.what c
  keeps_after shard (kind.Mark line least block a) effect c = keeps_tell line effect.what c
  keeps_after shard (kind.Root line held a key) effect c = keeps_tell line effect.what c
  keeps_after shard (kind.Drop line key) effect c = keeps_tell line effect.what c
  keeps_after shard (kind.Enter line epoch) effect c = keeps_tell_enter shard line effect.what c
  keeps_after shard (kind.Got from epoch round total deltas) effect c = L.both c _ _ (keeps_with effect.removed (note_sweep shard) c (λ removed x. keeps_sweep shard removed x)) (keeps_propose_due shard _)
  keeps_after shard (kind.Base view epoch swept round frames) effect c = L.same c
  keeps_after shard (kind.KeptBlock born mark flags count bytes) effect c = L.same c
  keeps_after shard (kind.KeptRoot created dropped counted address key) effect c = L.same c
  keeps_after shard (kind.KeptRound way other epoch round total deltas) effect c = L.same c

  -- what follows when an entry was handed out
  pub keeps_behind : (shard : ℕ) (entry : Entry) (c : Core) → R (change_group shard take_committed c) (take_effect shard entry c)
  keeps_behind shard entry c =
      let a : Option Address = named entry c in
      let applied : Applied = apply (front_of shard c + 1) entry a (catalogue_of shard c) in
      let one : Core = change_group shard take_committed c in
      let two : Core = set_catalogue shard applied.catalogue one in
      let three : Core = post (round_messages shard applied.effect.sends) two in
      let four : Core = after_entry shard entry applied.effect three in
      L.both one two _ (L.catalogue shard applied.catalogue one) (L.both two three _ (L.sends shard applied.effect.sends two)
      (L.both three four _ (keeps_after shard entry applied.effect three) (keeps_resume_where shard (wakes entry a four) four)))

  keeps_effect : (shard : ℕ) (entry : Entry) (c : Core) → R c (take_effect shard entry c)
  keeps_effect shard entry c = L.both c _ _ (L.commits shard c) (keeps_behind shard entry c)

  pub keeps_commit_next : (shard : ℕ) (c : Core) → R c (commit_next shard c)
  keeps_commit_next shard c = keeps_with (committed (group_of shard c)) (λ (e : ℕ × Entry). take_effect shard e.1) c (λ e y. keeps_effect shard e.1 y)

  pub keeps_commits : (shard : ℕ) (c : Core) → R c (commit shard c)
  keeps_commits shard c = keeps_times (commit_front (group_of shard c) - front_of shard c) (commit_next shard) c (λ x. keeps_commit_next shard x)

  -- ---- rounds

  keeps_send_round : (back shard : ℕ) (c : Core) → R c (send_round back shard c)
  keeps_send_round back shard c =
      let run = (catalogue_of shard c).run in
      keeps_with (sent_back back run) (λ at. post (round_messages shard (messages (catalogue_of shard c).shape.shards at.0 at.1 run))) c (λ at x. L.sends shard (messages (catalogue_of shard c).shape.shards at.0 at.1 run) x)

  pub keeps_send_rounds : (shard : ℕ) (c : Core) → R c (send_rounds shard c)
  keeps_send_rounds shard c = L.both c (send_round 1 shard c) _ (keeps_send_round 1 shard c) (keeps_send_round 0 shard (send_round 1 shard c))
