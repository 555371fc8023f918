-- No Enter that shard 0 proposes by itself ever waits.
use Rattle.std.proofs.Common.{◌≡◌, ◌∙◌, sym, ap, subst, ◌⊎◌, inl, inr, ℕ, suc, ◌+◌, ◌≤◌, Bool, true, false, cond, not, List, [], length, Option, Some, None, refl, arith, slice_get, slice_index}
use Rattle.std.specs.Option.{option_map_or}
use Rattle.hs_standing.specs.Changes.{tells_at_once, told_at_once}
use Rattle.hs_awaiting.specs.declared.wait.Wait.TheVariants as wait
use Rattle.hs_awaiting.specs.declared.waiting.Waiting.{Waiting}
use Rattle.hs_awaiting.specs.Words.{change_if, change_with}
use Rattle.hs_core_words.specs.Changing.{add_entry_tasks, add_operation, change_group, note, post, put_operation}
use Rattle.hs_journal.specs.declared.entry.Who.TheVariants as who
use Rattle.hs_model.specs.declared.deed.Deed.TheVariants as deed
use Rattle.hs_core_words.specs.Effects.{note_enter, note_sweep}
use Rattle.hs_core_words.specs.Looking.{group_of, lead_of, operation_of, shape_of}
use Rattle.hs_core_words.specs.Operating.{add_read, begin_line, busy_line, go_on_with, propose_entry, take_step, wait_for}
use Rattle.hs_core_words.specs.Seeing.{view_for}
use Rattle.hs_core_words.specs.State.{Core}
use Rattle.hs_desk.specs.declared.what.What.{What}
use Rattle.hs_desk.specs.declared.what.What.TheVariants as what
use Rattle.hs_effects.proofs.GroupLemmas.{IsTaken, at_end, at_front, group_changed, taken_or_same}
use Rattle.hs_effects.specs.Taking.{done_by, taken}
use Rattle.hs_entry.specs.declared.entry.Entry.{Entry}
use Rattle.hs_entry.specs.declared.entry.Entry.TheVariants as kind
use Rattle.hs_limits.specs.declared.address.Address.{Address}
use Rattle.hs_model.specs.declared.op.Op.{Op}
use Rattle.hs_model.specs.declared.op.Op.TheVariants as op
use Rattle.hs_model.specs.declared.reply.Reply.{Reply}
use Rattle.hs_model.specs.declared.reply.Reply.TheVariants as reply
use Rattle.hs_ops.specs.declared.operation.Stage.{Stage}
use Rattle.hs_ops.specs.declared.operation.Stage.TheVariants as stage
use Rattle.hs_ops.specs.declared.step.OpStep.{OpStep}
use Rattle.hs_ops.specs.declared.step.OpStep.TheVariants.{Answer, Compare, Propose, Wait}
use Rattle.hs_ops.specs.Going.{asked_for, begin, block_entry, compared, data_of, effect_reply, go, is_reported, is_same_block, judged_in, mark_entry, on_bytes, on_effect, propose_unless, read_or, read_reply, root_entry}
use Rattle.hs_ops.specs.Operations.{Operation, after_step, bytes_step, effect_step, go_from, go_step, new_operation, wanted_number}
use Rattle.hs_ops.specs.Refusals.{refusal_of}
use Rattle.hs_ops.specs.Speaking.{asked_block, judging_shard}
use Rattle.hs_ops.specs.Views.{OpView}
use Rattle.hs_replica.specs.Group.{Group, last_number, proposal, propose, take_committed}
use Rattle.hs_shard.specs.declared.effect.Effect.{Effect}
use Rattle.std.specs.List.{list_all}
use Rattle.std.specs.Prelude.{is_some, nat_le}
use Rattle.hs_core_words.specs.Looking.{catalogue_of}
use Rattle.hs_shard.specs.Facts.{Catalogue}

-- an entry is no Enter that a shard proposes by itself
abbrev pub IsNoOwn : Entry → Type 0
IsNoOwn entry = (epoch : ℕ) → entry ≡ kind.Enter 0 epoch → ⊥

-- and no step of a line's operation proposes one
abbrev pub ProposesAsked : OpStep → Type 0
ProposesAsked s = (entry : Entry) → s ≡ Propose entry → IsNoOwn entry

-- ---- what steps propose

proposed_is : (a b : Entry) → Propose a ≡ Propose b → a ≡ b
proposed_is a b e = cc e

same_line : (l m e f : ℕ) → kind.Enter l e ≡ kind.Enter m f → l ≡ m
same_line l m e f h = cc h

-- what is no Enter
not_enter : (a : Entry) → ((line epoch : ℕ) → a ≡ kind.Enter line epoch → ⊥) → ProposesAsked (Propose a)
not_enter a never entry e epoch is = never 0 epoch (proposed_is a entry e ∙ is)

proposes_none : (s : OpStep) → ((entry : Entry) → s ≡ Propose entry → ⊥) → ProposesAsked s
proposes_none s never entry e = absurd (never entry e)

-- where there is an answer nothing is proposed
unless_answered : (answer : Option Reply) (other : OpStep) → (answer ≡ None → ProposesAsked other) → ProposesAsked (option_map_or Answer answer other)
unless_answered None other h = h refl
unless_answered (Some told) other h = proposes_none (Answer told) (λ entry e. cc e)

unless_pending : (pending : Bool) (a : Entry) → ProposesAsked (Propose a) → ProposesAsked (propose_unless pending a)
unless_pending true a h = proposes_none Wait (λ entry e. cc e)
unless_pending false a h = h

unless_read : (s : OpStep) (present : Option ℕ) → ProposesAsked s → ProposesAsked (read_or s present)
unless_read s None h = h
unless_read s (Some number) h = proposes_none (Compare number) (λ entry e. cc e)

module _ (v : OpView) (line : ℕ) (counted : 1 ≤ line) where
  block_asks : (name payload handles : List ℕ) → ProposesAsked (Propose (block_entry v line name payload handles))
  unfolding block_entry
  block_asks name payload handles = not_enter (block_entry v line name payload handles) (λ l n is. cc is)

  mark_asks : (number : ℕ) (name handles : List ℕ) (address : Option Address) → ProposesAsked (Propose (mark_entry v line number name handles address))
  unfolding mark_entry
  mark_asks number name handles address = not_enter (mark_entry v line number name handles address) (λ l n is. cc is)

  delete_asks : ProposesAsked (Propose (kind.Enter line (slice_index v.epochs 0 + 1)))
  delete_asks entry e n is = let zero_is : line ≡ 0 = same_line line 0 (slice_index v.epochs 0 + 1) n (proposed_is (kind.Enter line (slice_index v.epochs 0 + 1)) entry e ∙ is) in omega (arith, zero_is, counted)

  asked_asks : (o : Op) → judged_in v o ≡ None → ProposesAsked (asked_for v line o)
  unfolding asked_for
  asked_asks (op.Open name) j = proposes_none Wait (λ entry e. cc e)
  asked_asks (op.Close name) j = proposes_none Wait (λ entry e. cc e)
  asked_asks (op.Write name payload handles address) j =
      unless_read (propose_unless v.pending (block_entry v line name payload handles)) v.present
      (unless_pending v.pending (block_entry v line name payload handles) (block_asks name payload handles))
  asked_asks (op.Read name handle) j = unless_read (Answer (read_reply v name [])) v.present (proposes_none (Answer (read_reply v name [])) (λ entry e. cc e))
  asked_asks (op.Look name key) j = proposes_none Wait (λ entry e. cc e)
  asked_asks (op.Root name key handle) j = unless_pending v.pending (root_entry v line name key handle) (not_enter (root_entry v line name key handle) (λ l n is. cc is))
  asked_asks (op.Drop key) j = not_enter (kind.Drop line key) (λ l n is. cc is)
  asked_asks (op.Forget name handle) j = proposes_none Wait (λ entry e. cc e)
  asked_asks (op.Name name handle) j = proposes_none Wait (λ entry e. cc e)
  asked_asks op.Delete j = delete_asks
  asked_asks op.Stat j = proposes_none Wait (λ entry e. cc e)

  go_asks : (o : Op) → ProposesAsked (go v line o)
  unfolding go
  go_asks o = by_view v.viewed
    where
      by_view : (b : Bool) → ProposesAsked (cond b (option_map_or Answer (judged_in v o) (asked_for v line o)) Wait)
      by_view true = unless_answered (judged_in v o) (asked_for v line o) (λ j. asked_asks o j)
      by_view false = proposes_none Wait (λ entry e. cc e)

  begin_asks : (o : Op) → ProposesAsked (begin v line o)
  unfolding begin
  begin_asks o = unless_answered (judged_in v o) (go v line o) (λ j. go_asks o)

  compared_asks : (number : ℕ) (bytes : Option (List ℕ)) (pointers : List Address) (o : Op) → ProposesAsked (compared v line (record { number = number; bytes = bytes; pointers = pointers }) o)
  unfolding compared
  compared_asks number bytes pointers (op.Write name payload handles address) = by_report (not (is_reported v number bytes))
    where
      marks : OpStep
      marks = cond (is_same_block (asked_block v.seats name payload handles) bytes pointers) (Propose (mark_entry v line number name handles address)) (Answer reply.Collision)

      by_same : (b : Bool) → ProposesAsked (cond b (Propose (mark_entry v line number name handles address)) (Answer reply.Collision))
      by_same true = mark_asks number name handles address
      by_same false = proposes_none (Answer reply.Collision) (λ entry e. cc e)

      by_report : (b : Bool) → ProposesAsked (cond b (go v line (op.Write name payload handles address)) marks)
      by_report true = go_asks (op.Write name payload handles address)
      by_report false = by_same (is_same_block (asked_block v.seats name payload handles) bytes pointers)
  compared_asks number bytes pointers (op.Read name handle) = proposes_none (Answer (read_reply v name (data_of bytes))) (λ entry e. cc e)
  compared_asks number bytes pointers (op.Open name) = proposes_none Wait (λ entry e. cc e)
  compared_asks number bytes pointers (op.Close name) = proposes_none Wait (λ entry e. cc e)
  compared_asks number bytes pointers (op.Look name key) = proposes_none Wait (λ entry e. cc e)
  compared_asks number bytes pointers (op.Root name key handle) = proposes_none Wait (λ entry e. cc e)
  compared_asks number bytes pointers (op.Drop key) = proposes_none Wait (λ entry e. cc e)
  compared_asks number bytes pointers (op.Forget name handle) = proposes_none Wait (λ entry e. cc e)
  compared_asks number bytes pointers (op.Name name handle) = proposes_none Wait (λ entry e. cc e)
  compared_asks number bytes pointers op.Delete = proposes_none Wait (λ entry e. cc e)
  compared_asks number bytes pointers op.Stat = proposes_none Wait (λ entry e. cc e)

  bytes_asks : (number : ℕ) (bytes : Option (List ℕ)) (pointers : List Address) (o : Op) → ProposesAsked (on_bytes v line (record { number = number; bytes = bytes; pointers = pointers }) o)
  unfolding on_bytes
  bytes_asks number bytes pointers o = unless_answered (refusal_of v o) (compared v line (record { number = number; bytes = bytes; pointers = pointers }) o) (λ free. compared_asks number bytes pointers o)

  effect_asks : (did : What) (o : Op) → ProposesAsked (on_effect v line did o)
  unfolding on_effect
  effect_asks did o = unless_answered (effect_reply v did o) (go v line o) (λ free. go_asks o)

  from_asks : (s : Stage) (o : Op) → ProposesAsked (go_from s v line o)
  from_asks stage.New o = begin_asks o
  from_asks stage.Waiting o = go_asks o
  from_asks (stage.Reading number) o = go_asks o
  from_asks stage.Logged o = go_asks o

-- a step by what an operation sees proposes none
abbrev pub StepsAsked : (OpView → Operation → OpStep) → Type 0
StepsAsked next = (v : OpView) (operation : Operation) → 1 ≤ operation.line → ProposesAsked (next v operation)

pub going_asks : StepsAsked go_step
going_asks v operation counted = from_asks v operation.line counted operation.stage operation.op

pub telling_asks : (bytes : Option (List ℕ)) (pointers : List Address) → StepsAsked (λ v o. bytes_step v bytes pointers o)
telling_asks bytes pointers v operation counted = bytes_asks v operation.line counted (wanted_number operation.stage) bytes pointers operation.op

pub hearing_asks : (did : What) → StepsAsked (λ v o. effect_step v did o)
hearing_asks did v operation counted = effect_asks v operation.line counted did operation.op

-- ---- what waits in the first shard

-- none of it is an Enter of its own
abbrev pub NoneOwn : Core → Type 0
NoneOwn core = (place epoch : ℕ) → slice_get (group_of 0 core).waiting place ≡ Some (kind.Enter 0 epoch) → ⊥

pub own_by : (a b : Core) → ((place : ℕ) (entry : Entry) → slice_get (group_of 0 b).waiting place ≡ Some entry → ((k : ℕ) × (slice_get (group_of 0 a).waiting k ≡ Some entry)) ⊎ IsNoOwn entry) → NoneOwn a → NoneOwn b
own_by a b from its place epoch at = by_from (from place (kind.Enter 0 epoch) at)
  where
    by_from : ((k : ℕ) × (slice_get (group_of 0 a).waiting k ≡ Some (kind.Enter 0 epoch))) ⊎ IsNoOwn (kind.Enter 0 epoch) → ⊥
    by_from (inl old) = its old.0 epoch old.1
    by_from (inr new) = new epoch refl

pub own_same : (a b : Core) → (group_of 0 b).waiting ≡ (group_of 0 a).waiting → NoneOwn a → NoneOwn b
own_same a b waiting its = own_by a b (λ place entry at. inl (place, sym (ap (λ (es : List Entry). slice_get es place) waiting) ∙ at)) its

-- an entry is proposed
pub own_propose : (shard : ℕ) (entry : Entry) (c : Core) → (shard ≡ 0 → IsNoOwn entry) → NoneOwn c → NoneOwn (propose_entry shard entry c)
own_propose shard entry c not_own its = by_lead (lead_of shard c)
  where
    from : (place : ℕ) (e : Entry) → slice_get (group_of 0 (change_group shard (propose entry) c)).waiting place ≡ Some e → ((k : ℕ) × (slice_get (group_of 0 c).waiting k ≡ Some e)) ⊎ IsNoOwn e
    from place e at = by_group (group_changed shard (propose entry) c 0)
      where
        by_end : 0 ≡ shard → (slice_get (group_of shard c).waiting place ≡ Some e) ⊎ ((place ≡ length (group_of shard c).waiting) × (entry ≡ e)) → ((k : ℕ) × (slice_get (group_of 0 c).waiting k ≡ Some e)) ⊎ IsNoOwn e
        by_end is (inl old) = inl (place, subst (λ (k : ℕ). slice_get (group_of k c).waiting place ≡ Some e) (sym is) old)
        by_end is (inr last) = inr (subst (λ (x : Entry). IsNoOwn x) last.1 (not_own (sym is)))

        by_group : (group_of 0 (change_group shard (propose entry) c) ≡ group_of 0 c) ⊎ ((0 ≡ shard) × (group_of 0 (change_group shard (propose entry) c) ≡ propose entry (group_of shard c)))
            → ((k : ℕ) × (slice_get (group_of 0 c).waiting k ≡ Some e)) ⊎ IsNoOwn e
        by_group (inl same) = inl (place, sym (ap (λ (x : Group). slice_get x.waiting place) same) ∙ at)
        by_group (inr is) = by_end is.0 (at_end (group_of shard c).waiting entry e place (sym (ap (λ (x : Group). slice_get x.waiting place) is.1) ∙ at))

    listed : NoneOwn (change_group shard (propose entry) c)
    listed = own_by c (change_group shard (propose entry) c) from its

    by_lead : (lead : Option ℕ) → NoneOwn (change_with lead (λ peer. add_entry_tasks peer (last_number (group_of shard c) + 1) entry) (post (proposal entry (group_of shard c)) (change_group shard (propose entry) c)))
    by_lead None = listed
    by_lead (Some peer) = listed

pub own_step : (line : ℕ) (w : Waiting) (s : OpStep) (c : Core) → ProposesAsked s → NoneOwn c → NoneOwn (take_step line w s c)
own_step line w (Answer r) c asks its = its
own_step line w (Propose entry) c asks its =
    let u : Waiting = record w { operation = after_step (Propose entry) w.operation; wait = wait.Entry (last_number (group_of w.shard c) + 1) } in
    own_propose w.shard entry (put_operation line u c) (λ zero. asks entry refl) its
own_step line w (Compare number) c asks its = by_lead (lead_of w.shard c)
  where
    by_lead : (lead : Option ℕ) → NoneOwn (change_with lead (add_read number line) (wait_for line (record w { operation = after_step (Compare number) w.operation }) (wait.Bytes number) c))
    by_lead None = its
    by_lead (Some peer) = its
own_step line w Wait c asks its = its

-- each operation is of a line above 0
abbrev pub AreCounted : Core → Type 0
AreCounted core = (line : ℕ) (w : Waiting) → operation_of line core ≡ Some w → 1 ≤ w.operation.line

pub own_go_on : (next : OpView → Operation → OpStep) → StepsAsked next → (line : ℕ) (c : Core) → AreCounted c → NoneOwn c → NoneOwn (go_on_with next line c)
own_go_on next asks line c counted its = by_operation (operation_of line c) refl
  where
    by_operation : (x : Option Waiting) → operation_of line c ≡ x → NoneOwn (change_with x (λ w. take_step line w (next (view_for w.shard w.operation.op c) w.operation)) c)
    by_operation None e = its
    by_operation (Some w) e = own_step line w (next (view_for w.shard w.operation.op c) w.operation) c (asks (view_for w.shard w.operation.op c) w.operation (counted line w e)) its

-- an entry takes effect: no other comes to wait
pub own_taken : (shard : ℕ) (entry : Entry) (c : Core) → NoneOwn c → NoneOwn (taken shard entry c)
own_taken shard entry c its = own_by c (change_group shard take_committed c) from its
  where
    from : (place : ℕ) (e : Entry) → slice_get (group_of 0 (change_group shard take_committed c)).waiting place ≡ Some e → ((k : ℕ) × (slice_get (group_of 0 c).waiting k ≡ Some e)) ⊎ IsNoOwn e
    from place e at = by_group (group_changed shard take_committed c 0)
      where
        by_taken : 0 ≡ shard → slice_get (take_committed (group_of shard c)).waiting place ≡ Some e → (take_committed (group_of shard c) ≡ group_of shard c) ⊎ IsTaken (group_of shard c) (take_committed (group_of shard c))
            → ((k : ℕ) × (slice_get (group_of 0 c).waiting k ≡ Some e)) ⊎ IsNoOwn e
        by_taken is there (inl same) = inl (place, subst (λ (k : ℕ). slice_get (group_of k c).waiting place ≡ Some e) (sym is) (sym (ap (λ (x : Group). slice_get x.waiting place) same) ∙ there))
        by_taken is there (inr t) =
            inl (
              suc place,
              subst (λ (k : ℕ). slice_get (group_of k c).waiting (suc place) ≡ Some e) (sym is)
                  (sym (at_front (group_of shard c).waiting place) ∙ sym (ap (λ (es : List Entry). slice_get es place) t.waiting) ∙ there),
            )

        by_group : (group_of 0 (change_group shard take_committed c) ≡ group_of 0 c) ⊎ ((0 ≡ shard) × (group_of 0 (change_group shard take_committed c) ≡ take_committed (group_of shard c)))
            → ((k : ℕ) × (slice_get (group_of 0 c).waiting k ≡ Some e)) ⊎ IsNoOwn e
        by_group (inl same) = inl (place, sym (ap (λ (x : Group). slice_get x.waiting place) same) ∙ at)
        by_group (inr is) = by_taken is.0 (sym (ap (λ (x : Group). slice_get x.waiting place) is.1) ∙ at) (taken_or_same (group_of shard c))

-- a client's line
pub own_begin : (line : ℕ) (o : Op) (c : Core) → 1 ≤ line → NoneOwn c → NoneOwn (begin_line line o c)
own_begin line o c counted its = own_step line w (go_step v w.operation) with_it (from_asks v line counted stage.New o) its
  where
    begun : Core
    begun = record c { progress = record c.progress { last_line = line } }

    w : Waiting
    w = record { operation = new_operation line o; shard = judging_shard (shape_of c).shards c.sessions o; wait = wait.View }

    v : OpView
    v = record (view_for (judging_shard (shape_of c).shards c.sessions o) o begun) { busy = busy_line o c }

    with_it : Core
    with_it = add_operation line w begun

-- ---- what is told at once of an entry

entered_own : (shard : ℕ) (did : What) (c : Core) → NoneOwn c → NoneOwn (note_enter shard did c)
entered_own shard (what.Entered epoch) c its = its
entered_own shard other c its = its

removed_own : (shard : ℕ) (removed : Option ℕ) (c : Core) → NoneOwn c → NoneOwn (change_with removed (note_sweep shard) c)
removed_own shard None c its = its
removed_own shard (Some n) c its = go (list_all (λ (d : Catalogue). nat_le (catalogue_of shard c).swept d.swept) c.catalogues)
  where
    go : (b : Bool) → NoneOwn (change_if b (note who.Store deed.Nothing (reply.Done (catalogue_of shard c).swept)) (note (who.Shard shard) (deed.Swept shard) (reply.Sweep (catalogue_of shard c).swept n) c))
    go true = its
    go false = its

at_once_own : (shard : ℕ) (entry : Entry) (effect : Effect) (c : Core) → AreCounted c → NoneOwn c → NoneOwn (tells_at_once shard entry effect c)
at_once_own shard (kind.View view) effect c counted its = its
at_once_own shard (kind.Block line least bytes) effect c counted its = own_go_on (λ v o. effect_step v effect.what o) (hearing_asks effect.what) line c counted its
at_once_own shard (kind.Mark line least block a) effect c counted its = own_go_on (λ v o. effect_step v effect.what o) (hearing_asks effect.what) line c counted its
at_once_own shard (kind.Root line held a key) effect c counted its = own_go_on (λ v o. effect_step v effect.what o) (hearing_asks effect.what) line c counted its
at_once_own shard (kind.Drop line key) effect c counted its = own_go_on (λ v o. effect_step v effect.what o) (hearing_asks effect.what) line c counted its
at_once_own shard (kind.Enter line epoch) effect c counted its = by_operation (is_some (operation_of line c))
  where
    by_operation : (b : Bool) → NoneOwn (cond b (go_on_with (λ v o. effect_step v effect.what o) line c) (note_enter shard effect.what c))
    by_operation true = own_go_on (λ v o. effect_step v effect.what o) (hearing_asks effect.what) line c counted its
    by_operation false = entered_own shard effect.what c its
at_once_own shard (kind.Got from epoch round total deltas) effect c counted its = removed_own shard effect.removed c its
at_once_own shard (kind.Base view epoch swept round frames) effect c counted its = its
at_once_own shard (kind.KeptBlock born mark flags many bytes) effect c counted its = its
at_once_own shard (kind.KeptRoot created dropped is_counted address key) effect c counted its = its
at_once_own shard (kind.KeptRound way other epoch round total deltas) effect c counted its = its

pub own_effect : (shard : ℕ) (entry : Entry) (c : Core) → AreCounted c → NoneOwn c → NoneOwn (told_at_once shard entry c)
own_effect shard entry c counted its = at_once_own shard entry (done_by shard entry c).effect (taken shard entry c) counted (own_taken shard entry c its)
