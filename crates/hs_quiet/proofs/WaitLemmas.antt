-- Where a step of an operation waits it has a cause: the view is not reached, or an entry waits that has its address or takes its room.
use Rattle.std.proofs.Common.{◌≡◌, ◌∙◌, sym, ap, ◌⊎◌, inl, inr, ℕ, ◌+◌, ◌<◌, ◌≤◌, ◌==◌, ◌&&◌, ◌||◌, Bool, true, false, cond, not, List, [], ◌∷◌, length, count_by, Option, Some, None, refl, arith, is_none, bytes_eq, nat_lt}
use Rattle.std.proofs.lemmas.Bool.{ltb-false, ltb-true, not-true}
use Rattle.std.proofs.lemmas.Bool.Decides.{nat_tests}
use Rattle.std.proofs.lemmas.Slice.Eq.{bytes_eq-Decides}
use Rattle.std.specs.List.{list_any}
use Rattle.std.specs.Option.{option_map, option_map_or, option_or}
use Rattle.std.specs.Prelude.{slice_index_or}
use Rattle.hs_awaiting.specs.declared.wait.Wait.TheVariants as wait
use Rattle.hs_awaiting.specs.declared.waiting.Waiting.{Waiting}
use Rattle.hs_core_words.specs.Looking.{catalogue_of, group_of}
use Rattle.hs_core_words.specs.Operating.{what_holds}
use Rattle.hs_core_words.specs.Pending.{has_room, is_address, is_coming, is_crowded, is_pending, stored}
use Rattle.hs_core_words.specs.State.{Core}
use Rattle.hs_desk.specs.declared.what.What.{What}
use Rattle.hs_effects.specs.Logged.{IsEntryOf, IsOrderly, asked_by}
use Rattle.hs_effects.proofs.EffectLemmas.{listed_stored}
use Rattle.hs_effects.proofs.StepLemmas.{head_none, rest_none}
use Rattle.hs_entry.specs.declared.entry.Entry.{Entry}
use Rattle.hs_quiet.specs.Causes.{HasCause, SomeWaits, StoresFor, TakesRoomFor, asker_of, reads_bytes}
use Rattle.hs_model.specs.Op.{written_address}
use Rattle.hs_quiet.proofs.GoingListLemmas.{IsAt, any_agree, any_at, count_at}
use Rattle.hs_limits.specs.declared.address.Address.{Address}
use Rattle.hs_memory.specs.Forget.{named as named_by}
use Rattle.hs_model.specs.declared.op.Op.{Op}
use Rattle.hs_model.specs.declared.op.Op.TheVariants as op
use Rattle.hs_model.specs.declared.reply.Reply.{Reply}
use Rattle.hs_model.specs.declared.reply.Reply.TheVariants as reply
use Rattle.hs_model.specs.Refusals.{refused_when, too_long, too_many}
use Rattle.hs_ops.specs.declared.operation.Stage.{Stage}
use Rattle.hs_ops.specs.declared.operation.Stage.TheVariants as stage
use Rattle.hs_ops.specs.declared.step.OpStep.{OpStep}
use Rattle.hs_ops.specs.declared.step.OpStep.TheVariants as step
use Rattle.hs_ops.specs.Going.{asked_for, at_once, begin, block_entry, compared, effect_reply, go, is_reported, is_same_block, judged_in, mark_entry, on_bytes, on_effect, propose_unless, read_or, read_reply, root_entry}
use Rattle.hs_ops.specs.Operations.{Operation, bytes_step, effect_step, go_step, wanted_number}
use Rattle.hs_ops.specs.Refusals.{is_busy, kept_otherwise, no_more_handles, no_room_for_block, no_room_for_root, not_held, not_open, outdated, refusal_of, refusals_of}
use Rattle.hs_ops.specs.Speaking.{asked_block, wanted_address}
use Rattle.hs_ops.specs.Views.{OpView, kept_in}
use Rattle.hs_replica.specs.Kinds.{is_block, is_root}
use Rattle.hs_roots.specs.declared.root.RootRecord.{RootRecord}
use Rattle.hs_roots.specs.Roots.{retained_count}
use Rattle.hs_tokens.specs.Seats.{found}

some_none : {A : Type 0} (x : A) → Some x ≡ None → ⊥
some_none x e = cc e

-- ---- an operation that is not refused has room for what it asks

-- what is gone, and refused for want of room where there is none, has room
room_if : (gone room : Bool) (r : Reply) → gone ≡ true → refused_when (gone && not room) r ≡ None → room ≡ true
room_if gone true r g e = refl
room_if true false r g e = absurd (cc e)
room_if false false r g e = absurd (cc g)

write_room : (v : OpView) (name payload handles : List ℕ) (address : Option Address) → refusal_of v (op.Write name payload handles address) ≡ None → no_room_for_block v ≡ None
unfolding refusals_of
write_room v name payload handles address e =
    let unbusy = rest_none (is_busy v) _ (rest_none (not_open v name) _ e) in
    let after_long = rest_none (too_long payload) _ unbusy in
    let after_many = rest_none (too_many handles) _ after_long in
    let after_held = rest_none (not_held v name handles) _ after_many in
    let after_more = rest_none (no_more_handles v name 1) _ after_held in
    let after_old = rest_none (outdated v name handles) _ after_more in
    head_none (no_room_for_block v) _ after_old

root_room : (v : OpView) (name key : List ℕ) (handle : ℕ) → refusal_of v (op.Root name key handle) ≡ None → no_room_for_root v key ≡ None
unfolding refusals_of
root_room v name key handle e =
    let unbusy = rest_none (is_busy v) _ (rest_none (not_open v name) _ e) in
    let after_held = rest_none (not_held v name (handle ∷ [])) _ unbusy in
    let after_old = rest_none (outdated v name (handle ∷ [])) _ after_held in
    let after_kept = rest_none (kept_otherwise v key (found v.seats name handle).address) _ after_old in
    head_none (no_room_for_root v key) _ after_kept

-- ---- what a step may ask

-- it reads bytes for operations alone that read them, and waits where the view is not reached, or where what is pending takes the room that there is
abbrev pub Fits : OpView → Op → OpStep → Type 0
Fits v o (step.Answer told) = Unit {0}
Fits v o (step.Propose entry) = Unit {0}
Fits v o (step.Compare number) = reads_bytes o ≡ true
Fits v o step.Wait = (v.viewed ≡ false) ⊎ ((v.pending ≡ true) × (v.room ≡ true))

module _ (v : OpView) (line : ℕ) where
  write_fits : (name payload handles : List ℕ) (address : Option Address) (entry : Entry) → no_room_for_block v ≡ None → (present : Option ℕ) → v.present ≡ present → (pending : Bool) → v.pending ≡ pending
      → Fits v (op.Write name payload handles address) (read_or (propose_unless pending entry) present)
  write_fits name payload handles address entry none (Some number) here pending is = refl
  write_fits name payload handles address entry none None here true is = inr (is, room_if (is_none v.present) v.room (reply.ShardFull v.limits.blocks) (ap (λ (x : Option ℕ). is_none x) here) none)
  write_fits name payload handles address entry none None here false is = tt

  read_fits : (name : List ℕ) (handle : ℕ) (told : Reply) (present : Option ℕ) → Fits v (op.Read name handle) (read_or (step.Answer told) present)
  read_fits name handle told (Some number) = refl
  read_fits name handle told None = tt

  root_fits : (name key : List ℕ) (handle : ℕ) (entry : Entry) → no_room_for_root v key ≡ None → kept_in v key ≡ None → (pending : Bool) → v.pending ≡ pending → Fits v (op.Root name key handle) (propose_unless pending entry)
  root_fits name key handle entry none gone true is = inr (is, room_if (is_none (kept_in v key)) v.room (reply.RootsFull v.limits.roots) (ap (λ (x : Option RootRecord). is_none x) gone) none)
  root_fits name key handle entry none gone false is = tt

  -- nothing is answered by the view alone
  record IsUnjudged (o : Op) : Type 0 where
    pub unrefused : refusal_of v o ≡ None
    pub later : at_once v o ≡ None

  unjudged : (o : Op) → judged_in v o ≡ None → IsUnjudged o
  unfolding judged_in
  unjudged o e = by_refusal (refusal_of v o) refl e
    where
      by_refusal : (x : Option Reply) → refusal_of v o ≡ x → option_or x (at_once v o) ≡ None → IsUnjudged o
      by_refusal None r n = record { unrefused = r; later = n }
      by_refusal (Some told) r n = absurd (cc n)

  not_kept : (found : Option RootRecord) → option_map (λ (root : RootRecord). reply.Ok) found ≡ None → found ≡ None
  not_kept None e = refl
  not_kept (Some root) e = absurd (cc e)

  asked_fits : (o : Op) → IsUnjudged o → Fits v o (asked_for v line o)
  unfolding asked_for
  asked_fits (op.Open name) h = absurd (some_none _ h.later)
  asked_fits (op.Close name) h = absurd (some_none _ h.later)
  asked_fits (op.Write name payload handles address) h =
      write_fits name payload handles address (block_entry v line name payload handles) (write_room v name payload handles address h.unrefused) v.present refl v.pending refl
  asked_fits (op.Read name handle) h = read_fits name handle (read_reply v name []) v.present
  asked_fits (op.Look name key) h = absurd (some_none _ h.later)
  asked_fits (op.Root name key handle) h = root_fits name key handle (root_entry v line name key handle) (root_room v name key handle h.unrefused) (not_kept (kept_in v key) h.later) v.pending refl
  asked_fits (op.Drop key) h = tt
  asked_fits (op.Forget name handle) h = absurd (some_none _ h.later)
  asked_fits (op.Name name handle) h = absurd (some_none _ h.later)
  asked_fits op.Delete h = tt
  asked_fits op.Stat h = absurd (some_none _ h.later)

  go_fits : (o : Op) → Fits v o (go v line o)
  unfolding go
  go_fits o = by_view v.viewed refl
    where
      by_judge : (x : Option Reply) → judged_in v o ≡ x → Fits v o (option_map_or step.Answer x (asked_for v line o))
      by_judge (Some told) j = tt
      by_judge None j = asked_fits o (unjudged o j)

      by_view : (b : Bool) → v.viewed ≡ b → Fits v o (cond b (option_map_or step.Answer (judged_in v o) (asked_for v line o)) step.Wait)
      by_view true e = by_judge (judged_in v o) refl
      by_view false e = inl e

  -- where there is an answer nothing else is asked
  unless_fits : (o : Op) (answer : Option Reply) (other : OpStep) → Fits v o other → Fits v o (option_map_or step.Answer answer other)
  unless_fits o None other h = h
  unless_fits o (Some told) other h = tt

  begin_fits : (o : Op) → Fits v o (begin v line o)
  unfolding begin
  begin_fits o = unless_fits o (judged_in v o) (go v line o) (go_fits o)

  marks_fit : (name payload handles : List ℕ) (address : Option Address) (number : ℕ) (same : Bool)
      → Fits v (op.Write name payload handles address) (cond same (step.Propose (mark_entry v line number name handles address)) (step.Answer reply.Collision))
  marks_fit name payload handles address number true = tt
  marks_fit name payload handles address number false = tt

  compared_fits : (number : ℕ) (bytes : Option (List ℕ)) (pointers : List Address) (o : Op) → reads_bytes o ≡ true → Fits v o (compared v line (record { number = number; bytes = bytes; pointers = pointers }) o)
  unfolding compared
  compared_fits number bytes pointers (op.Write name payload handles address) reads = by_report (not (is_reported v number bytes))
    where
      by_report : (b : Bool) → Fits v (op.Write name payload handles address)
          (cond b (go v line (op.Write name payload handles address))
          (cond (is_same_block (asked_block v.seats name payload handles) bytes pointers) (step.Propose (mark_entry v line number name handles address)) (step.Answer reply.Collision)))
      by_report true = go_fits (op.Write name payload handles address)
      by_report false = marks_fit name payload handles address number (is_same_block (asked_block v.seats name payload handles) bytes pointers)
  compared_fits number bytes pointers (op.Read name handle) reads = tt
  compared_fits number bytes pointers (op.Open name) reads = absurd (cc reads)
  compared_fits number bytes pointers (op.Close name) reads = absurd (cc reads)
  compared_fits number bytes pointers (op.Look name key) reads = absurd (cc reads)
  compared_fits number bytes pointers (op.Root name key handle) reads = absurd (cc reads)
  compared_fits number bytes pointers (op.Drop key) reads = absurd (cc reads)
  compared_fits number bytes pointers (op.Forget name handle) reads = absurd (cc reads)
  compared_fits number bytes pointers (op.Name name handle) reads = absurd (cc reads)
  compared_fits number bytes pointers op.Delete reads = absurd (cc reads)
  compared_fits number bytes pointers op.Stat reads = absurd (cc reads)

  bytes_fit : (number : ℕ) (bytes : Option (List ℕ)) (pointers : List Address) (o : Op) → reads_bytes o ≡ true → Fits v o (on_bytes v line (record { number = number; bytes = bytes; pointers = pointers }) o)
  unfolding on_bytes
  bytes_fit number bytes pointers o reads = unless_fits o (refusal_of v o) (compared v line (record { number = number; bytes = bytes; pointers = pointers }) o) (compared_fits number bytes pointers o reads)

  effect_fits : (did : What) (o : Op) → Fits v o (on_effect v line did o)
  unfolding on_effect
  effect_fits did o = unless_fits o (effect_reply v did o) (go v line o) (go_fits o)

-- ---- the steps of an operation

pub going_fits : (v : OpView) (p : Operation) → Fits v p.op (go_step v p)
going_fits v p = by_stage p.stage
  where
    by_stage : (s : Stage) → Fits v p.op (go_step v (record p { stage = s }))
    by_stage stage.New = begin_fits v p.line p.op
    by_stage stage.Waiting = go_fits v p.line p.op
    by_stage (stage.Reading number) = go_fits v p.line p.op
    by_stage stage.Logged = go_fits v p.line p.op

pub told_fits : (bytes : Option (List ℕ)) (pointers : List Address) (v : OpView) (p : Operation) → reads_bytes p.op ≡ true → Fits v p.op (bytes_step v bytes pointers p)
told_fits bytes pointers v p reads = bytes_fit v p.line (wanted_number p.stage) bytes pointers p.op reads

pub done_fits : (did : What) (v : OpView) (p : Operation) → Fits v p.op (effect_step v did p)
done_fits did v p = effect_fits v p.line did p.op

-- ---- the entry that a line asks for is its own

pub own_asked : (name : List ℕ → Address) (c : Core) (line : ℕ) (o : Op) (entry : Entry) → 1 ≤ line → IsEntryOf name c.sessions line o entry → asked_by entry ≡ Some line
own_asked name c line (op.Write session payload handles address) entry low asks = by_entry asks
  where
    by_entry : IsEntryOf name c.sessions line (op.Write session payload handles address) entry → asked_by entry ≡ Some line
    by_entry (inl is) = ap (λ x. asked_by x) is.0
    by_entry (inr is) = ap (λ x. asked_by x) is.1
own_asked name c line (op.Root session key handle) entry low asks = ap (λ x. asked_by x) asks
own_asked name c line (op.Drop key) entry low asks = ap (λ x. asked_by x) asks
own_asked name c line op.Delete entry low asks = ap (λ x. asked_by x) asks.1 ∙ ap (λ b. cond b None (Some line)) (counted line low)
  where
    counted : (n : ℕ) → 1 ≤ n → (n == 0) ≡ false
    counted n low = grind (arith, nat_tests, low)
own_asked name c line (op.Open session) entry low asks = absurd asks
own_asked name c line (op.Close session) entry low asks = absurd asks
own_asked name c line (op.Read session handle) entry low asks = absurd asks
own_asked name c line (op.Look session key) entry low asks = absurd asks
own_asked name c line (op.Forget session handle) entry low asks = absurd asks
own_asked name c line (op.Name session handle) entry low asks = absurd asks
own_asked name c line op.Stat entry low asks = absurd asks

-- ---- what a step waits for is there

address_same : (a b : Address) → bytes_eq a.0 b.0 ≡ true → a ≡ b
address_same a b e = λ i. record { 0 = (bytes_eq-Decides a.0 b.0).0 e i }

is_it : (a : Address) (x : Option Address) → is_address a x ≡ true → x ≡ Some a
is_it a None e = absurd (cc e)
is_it a (Some b) e = ap (λ y. Some y) (sym (address_same a b e))

-- where there is room but for what waits, something waits
crowds : (held more limit : ℕ) → not (nat_lt (held + more) limit) ≡ true → nat_lt (held + 0) limit ≡ true → 0 < more
crowds held more limit full room =
    let up = ltb-false (held + more) limit (not-true (nat_lt (held + more) limit) full) in
    let low = ltb-true (held + 0) limit room in
    omega (arith, up, low)

module _ (name : List ℕ → Address) (c : Core) (its : IsOrderly name c) (line shard : ℕ) where
  coming_at : (a : Address) (o : Op) → written_address o ≡ Some a → list_any (λ entry. is_address a (stored entry c)) (group_of shard c).waiting ≡ true → SomeWaits c shard (StoresFor name o)
  coming_at a o wanted e =
      let h : IsAt (group_of shard c).waiting (λ entry. is_address a (stored entry c) ≡ true) = any_at (λ entry. is_address a (stored entry c)) (group_of shard c).waiting e in
      record {
        place = h.place;
        entry = h.element;
        at = h.at;
        is = record { address = a; wanted = wanted; stores = sym (listed_stored name c shard h.place h.element its h.at) ∙ is_it a (stored h.element c) h.is };
      }

  pending_cause : (o : Op) → is_pending shard o c ≡ true → has_room shard o 0 0 c ≡ true → (coming : Bool) → is_coming shard (wanted_address c.sessions o) c ≡ coming
      → HasCause name c (record { line = line; shard = shard; asks = o }) (cond coming wait.Address wait.Room)
  pending_cause (op.Write session payload handles address) p r true f = by_address address refl f
    where
      by_address : (x : Option Address) → address ≡ x → is_coming shard x c ≡ true → SomeWaits c shard (StoresFor name (op.Write session payload handles address))
      by_address None e g = absurd (cc g)
      by_address (Some a) e g = coming_at a (op.Write session payload handles address) e g
  pending_cause (op.Write session payload handles address) p r false f =
      let full : is_crowded shard (op.Write session payload handles address) c ≡ true = sym (ap (λ b. b || is_crowded shard (op.Write session payload handles address) c) f) ∙ p in
      let h : IsAt (group_of shard c).waiting (λ entry. is_block entry ≡ true) =
      count_at is_block (group_of shard c).waiting (crowds (length (catalogue_of shard c).blocks) (count_by is_block (group_of shard c).waiting) c.limits.blocks full r) in
      let there : SomeWaits c shard (TakesRoomFor (op.Write session payload handles address)) = record { place = h.place; entry = h.element; at = h.at; is = inl (refl, h.is) } in
      there
  pending_cause (op.Root session key handle) p r true f = absurd (cc f)
  pending_cause (op.Root session key handle) p r false f =
      let h : IsAt (group_of shard c).waiting (λ entry. is_root entry ≡ true) =
      count_at is_root (group_of shard c).waiting (crowds (retained_count (catalogue_of shard c).roots) (count_by is_root (group_of shard c).waiting) c.limits.roots p r) in
      let there : SomeWaits c shard (TakesRoomFor (op.Root session key handle)) = record { place = h.place; entry = h.element; at = h.at; is = inr (refl, h.is) } in
      there
  pending_cause (op.Open session) p r coming f = absurd (cc p)
  pending_cause (op.Close session) p r coming f = absurd (cc p)
  pending_cause (op.Read session handle) p r coming f = absurd (cc p)
  pending_cause (op.Look session key) p r coming f = absurd (cc p)
  pending_cause (op.Drop key) p r coming f = absurd (cc p)
  pending_cause (op.Forget session handle) p r coming f = absurd (cc p)
  pending_cause (op.Name session handle) p r coming f = absurd (cc p)
  pending_cause op.Delete p r coming f = absurd (cc p)
  pending_cause op.Stat p r coming f = absurd (cc p)

pub wait_cause : (name : List ℕ → Address) (c : Core) (line : ℕ) (w : Waiting) → IsOrderly name c
    → (slice_index_or c.progress.viewed w.shard false ≡ false) ⊎ ((is_pending w.shard w.operation.op c ≡ true) × (has_room w.shard w.operation.op 0 0 c ≡ true))
    → HasCause name c (asker_of line w) (what_holds w c)
wait_cause name c line w its why = by_view (slice_index_or c.progress.viewed w.shard false) refl (is_coming w.shard (wanted_address c.sessions w.operation.op) c) refl why
  where
    by_view : (b : Bool) → slice_index_or c.progress.viewed w.shard false ≡ b → (coming : Bool) → is_coming w.shard (wanted_address c.sessions w.operation.op) c ≡ coming
        → (slice_index_or c.progress.viewed w.shard false ≡ false) ⊎ ((is_pending w.shard w.operation.op c ≡ true) × (has_room w.shard w.operation.op 0 0 c ≡ true))
        → HasCause name c (asker_of line w) (cond (not b) wait.View (cond coming wait.Address wait.Room))
    by_view false e coming f h = e
    by_view true e coming f (inl n) = absurd (cc (sym n ∙ e))
    by_view true e coming f (inr p) = pending_cause name c its line w.shard w.operation.op p.0 p.1 coming f

-- ---- what is pending rests on the lists, whatever the operations

coming_named : (name : List ℕ → Address) (c : Core) (shard : ℕ) (a : Address) → IsOrderly name c
    → list_any (λ entry. is_address a (stored entry c)) (group_of shard c).waiting ≡ list_any (λ entry. is_address a (named_by name entry)) (group_of shard c).waiting
coming_named name c shard a its =
    any_agree (λ entry. is_address a (stored entry c)) (λ entry. is_address a (named_by name entry)) (group_of shard c).waiting
    (λ place entry at. ap (λ x. is_address a x) (listed_stored name c shard place entry its at))

coming_same : (name : List ℕ → Address) (a b : Core) (shard : ℕ) → IsOrderly name a → IsOrderly name b → (group_of shard b).waiting ≡ (group_of shard a).waiting → (x : Option Address) → is_coming shard x b ≡ is_coming shard x a
coming_same name a b shard its own waits None = refl
coming_same name a b shard its own waits (Some q) =
    coming_named name b shard q own ∙ ap (λ (es : List Entry). list_any (λ entry. is_address q (named_by name entry)) es) waits ∙ sym (coming_named name a shard q its)

pub pending_same : (name : List ℕ → Address) (a b : Core) (shard : ℕ) (o : Op) → IsOrderly name a → IsOrderly name b → (group_of shard b).waiting ≡ (group_of shard a).waiting → is_crowded shard o b ≡ is_crowded shard o a
    → is_pending shard o b ≡ is_pending shard o a
pending_same name a b shard (op.Write session payload handles address) its own waits full =
    ap (λ x. x || is_crowded shard (op.Write session payload handles address) b) (coming_same name a b shard its own waits address)
    ∙ ap (λ y. is_coming shard address a || y) full
pending_same name a b shard (op.Root session key handle) its own waits full = full
pending_same name a b shard (op.Open session) its own waits full = refl
pending_same name a b shard (op.Close session) its own waits full = refl
pending_same name a b shard (op.Read session handle) its own waits full = refl
pending_same name a b shard (op.Look session key) its own waits full = refl
pending_same name a b shard (op.Drop key) its own waits full = refl
pending_same name a b shard (op.Forget session handle) its own waits full = refl
pending_same name a b shard (op.Name session handle) its own waits full = refl
pending_same name a b shard op.Delete its own waits full = refl
pending_same name a b shard op.Stat its own waits full = refl
