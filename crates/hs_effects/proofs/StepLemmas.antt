-- What a step proposes is what its operation asks for.
use Rattle.std.proofs.Common.{◌≡◌, ◌∙◌, sym, ap, inl, inr, ℕ, ◌+◌, ◌&&◌, Bool, true, false, cond, not, map, List, [], ◌∷◌, length, Option, Some, None, refl, is_none, is_some, slice_index}
use Rattle.std.proofs.lemmas.Bool.{ltb-false}
use Rattle.std.specs.List.{list_all}
use Rattle.std.specs.Option.{option_map, option_map_or, option_or}
use Rattle.hs_effects.specs.Logged.{HasBlock, IsCalled, IsEntryOf, IsOwn}
use Rattle.hs_effects.proofs.RoomLemmas.{takes_place}
use Rattle.hs_desk.specs.declared.what.What.{What}
use Rattle.hs_entry.specs.declared.entry.Entry.{Entry}
use Rattle.hs_entry.specs.declared.entry.Entry.TheVariants as kind
use Rattle.hs_limits.specs.Block.{spell}
use Rattle.hs_limits.specs.declared.address.Address.{Address}
use Rattle.hs_limits.specs.declared.address.Held.{Held}
use Rattle.hs_limits.specs.declared.spelling.TheConstants.{MOST_BYTES, MOST_POINTERS}
use Rattle.hs_model.specs.declared.op.Op.{Op}
use Rattle.hs_model.specs.declared.op.Op.TheVariants as op
use Rattle.hs_model.specs.declared.reply.Reply.{Reply}
use Rattle.hs_model.specs.declared.reply.Reply.TheVariants as reply
use Rattle.hs_model.specs.Refusals.{first, no_handle_in, no_such_handle, refused_when, too_long, too_many}
use Rattle.hs_model.specs.Store.{held_in}
use Rattle.hs_ops.specs.declared.operation.Stage.{Stage}
use Rattle.hs_ops.specs.declared.operation.Stage.TheVariants as stage
use Rattle.hs_ops.specs.declared.step.OpStep.{OpStep}
use Rattle.hs_ops.specs.declared.step.OpStep.TheVariants as step
use Rattle.hs_ops.specs.Going.{asked_for, at_once, begin, block_entry, compared, effect_reply, go, is_reported, is_same_block, judged_in, mark_entry, on_bytes, on_effect, propose_unless, read_or, root_entry}
use Rattle.hs_ops.specs.Operations.{Operation, bytes_step, effect_step, go_step}
use Rattle.hs_ops.specs.Refusals.{is_busy, no_more_handles, not_held, not_open, refusal_of, refusals_of}
use Rattle.hs_ops.specs.Speaking.{asked_block, helds, least_epoch}
use Rattle.hs_ops.specs.Views.{OpView, as_session}
use Rattle.hs_tokens.specs.Seats.{Seat, held_at, seat_of}

proposed_is : (a b : Entry) → step.Propose a ≡ step.Propose b → a ≡ b
proposed_is a b e = cc

pub head_none : (o : Option Reply) (rest : List (Option Reply)) → first (o ∷ rest) ≡ None → o ≡ None
head_none None rest e = refl
head_none (Some r) rest e = absurd (cc e)

pub rest_none : (o : Option Reply) (rest : List (Option Reply)) → first (o ∷ rest) ≡ None → first rest ≡ None
rest_none None rest e = e
rest_none (Some r) rest e = absurd (cc e)

pub not_when : (b : Bool) (r : Reply) → refused_when b r ≡ None → b ≡ false
not_when true r e = absurd (cc e)
not_when false r e = refl

-- ---- a write that is not refused has a block

pub held_same : (seat : Option Seat) (handle : ℕ) → held_in (option_map as_session seat) handle ≡ held_at seat handle
held_same None handle = refl
held_same (Some seat) handle = refl

pub all_held : (seat : Option Seat) (handles : List ℕ) → first (map (λ handle. no_such_handle (option_map as_session seat) handle) handles) ≡ None → list_all (λ handle. is_some (held_at seat handle)) handles ≡ true
all_held seat [] e = refl
all_held seat (h ∷ handles) e = go (held_at seat h) (held_same seat h) e (all_held seat handles)
  where
    one : Option Reply
    one = no_such_handle (option_map as_session seat) h

    rest : List (Option Reply)
    rest = map (λ handle. no_such_handle (option_map as_session seat) handle) handles

    go : (found : Option Held) → held_in (option_map as_session seat) h ≡ found → first (no_such_handle (option_map as_session seat) h ∷ map (λ handle. no_such_handle (option_map as_session seat) handle) handles) ≡ None
        → (first (map (λ handle. no_such_handle (option_map as_session seat) handle) handles) ≡ None → list_all (λ handle. is_some (held_at seat handle)) handles ≡ true)
        → (is_some found && list_all (λ handle. is_some (held_at seat handle)) handles) ≡ true
    go None f n ih = absurd (cc (sym (ap (λ found. refused_when (is_none found) (reply.NoHandle h)) f) ∙ head_none one rest n))
    go (Some held) f n ih = ih (rest_none one rest n)

pub has_block : (v : OpView) (session payload handles : List ℕ) (address : Option Address) → refusal_of v (op.Write session payload handles address) ≡ None → HasBlock v.seats session payload handles
unfolding refusals_of no_handle_in
has_block v session payload handles address e =
    let unbusy = rest_none (is_busy v) _ (rest_none (not_open v session) _ e) in
    let short = head_none (too_long payload) _ unbusy in
    let after_long = rest_none (too_long payload) _ unbusy in
    let few = head_none (too_many handles) _ after_long in
    let held = head_none (not_held v session handles) _ (rest_none (too_many handles) _ after_long) in
    record {
      held = all_held (seat_of session v.seats) handles held;
      few = ltb-false MOST_POINTERS (length handles) (not_when _ _ few);
      short = ltb-false MOST_BYTES (length payload) (not_when _ _ short);
    }

pub join_none : (o : Option Reply) (rest : List (Option Reply)) → o ≡ None → first rest ≡ None → first (o ∷ rest) ≡ None
join_none o rest e r = ap (λ (x : Option Reply). first (x ∷ rest)) e ∙ r

-- nor is one that is not refused refused for its session
own_if : (v : OpView) (o : Op) → refusal_of v o ≡ None → IsOwn v.limits v.seats o
unfolding refusals_of
own_if v (op.Write session payload handles address) e =
    let open_one = head_none (not_open v session) _ e in
    let unbusy = rest_none (is_busy v) _ (rest_none (not_open v session) _ e) in
    let after_long = rest_none (too_long payload) _ unbusy in
    let after_many = rest_none (too_many handles) _ after_long in
    let after_held = rest_none (not_held v session handles) _ after_many in
    join_none (not_open v session) (too_long payload ∷ too_many handles ∷ not_held v session handles ∷ no_more_handles v session 1 ∷ []) open_one
    (join_none (too_long payload) (too_many handles ∷ not_held v session handles ∷ no_more_handles v session 1 ∷ []) (head_none (too_long payload) _ unbusy)
    (join_none (too_many handles) (not_held v session handles ∷ no_more_handles v session 1 ∷ []) (head_none (too_many handles) _ after_long)
    (join_none (not_held v session handles) (no_more_handles v session 1 ∷ []) (head_none (not_held v session handles) _ after_many)
    (join_none (no_more_handles v session 1) [] (head_none (no_more_handles v session 1) _ after_held) refl))))
own_if v (op.Root session key handle) e =
    let unbusy = rest_none (is_busy v) _ (rest_none (not_open v session) _ e) in
    join_none (not_open v session) (not_held v session (handle ∷ []) ∷ []) (head_none (not_open v session) _ e)
    (join_none (not_held v session (handle ∷ [])) [] (head_none (not_held v session (handle ∷ [])) _ unbusy) refl)
own_if v (op.Open session) e = tt
own_if v (op.Close session) e = tt
own_if v (op.Read session handle) e = tt
own_if v (op.Look session key) e = tt
own_if v (op.Drop key) e = tt
own_if v (op.Forget session handle) e = tt
own_if v (op.Name session handle) e = tt
own_if v op.Delete e = tt
own_if v op.Stat e = tt

-- ---- going on

-- an entry that takes a place is proposed where the view has room
abbrev pub Passes : OpView → Entry → Type 0
Passes v entry = takes_place entry ≡ true → v.pending ≡ false

placeless : (v : OpView) (a entry : Entry) → step.Propose a ≡ step.Propose entry → takes_place a ≡ false → Passes v entry
placeless v a entry e none takes = absurd (cc (sym none ∙ ap (λ x. takes_place x) (proposed_is a entry e) ∙ takes))

-- a step proposes what the operation asks for
abbrev pub Asks : (List ℕ → Address) → OpView → ℕ → Op → OpStep → Type 0
Asks name v line o taken = (entry : Entry) → taken ≡ step.Propose entry → IsEntryOf name v.seats line o entry × IsOwn v.limits v.seats o × Passes v entry

module _ (name : List ℕ → Address) (v : OpView) (line : ℕ) where
  write_asks : (session payload handles : List ℕ) (address : Option Address) → refusal_of v (op.Write session payload handles address) ≡ None → IsCalled name v.seats (op.Write session payload handles address)
      → (pending : Bool) → v.pending ≡ pending → (present : Option ℕ) → Asks name v line (op.Write session payload handles address) (read_or (propose_unless pending (block_entry v line session payload handles)) present)
  unfolding block_entry
  write_asks session payload handles address passes called pending is (Some number) entry e = absurd (cc e)
  write_asks session payload handles address passes called true is None entry e = absurd (cc e)
  write_asks session payload handles address passes called false is None entry e = (
    inl (sym (proposed_is (kind.Block line (least_epoch (helds v.seats session handles)) (spell (asked_block v.seats session payload handles))) entry e), called (has_block v session payload handles address passes)),
    own_if v (op.Write session payload handles address) passes,
    (λ takes. is),
  )

  read_asks : (session : List ℕ) (handle : ℕ) (told : Reply) (present : Option ℕ) → Asks name v line (op.Read session handle) (read_or (step.Answer told) present)
  read_asks session handle told None entry e = absurd (cc e)
  read_asks session handle told (Some number) entry e = absurd (cc e)

  root_asks : (session key : List ℕ) (handle : ℕ) → refusal_of v (op.Root session key handle) ≡ None → (pending : Bool) → v.pending ≡ pending → Asks name v line (op.Root session key handle) (propose_unless pending (root_entry v line session key handle))
  root_asks session key handle passes true is entry e = absurd (cc e)
  root_asks session key handle passes false is entry e = (sym (proposed_is (root_entry v line session key handle) entry e), own_if v (op.Root session key handle) passes, (λ takes. is))

  asked_asks : (o : Op) → refusal_of v o ≡ None → IsCalled name v.seats o → Asks name v line o (asked_for v line o)
  unfolding asked_for
  asked_asks (op.Open session) passes called entry e = absurd (cc e)
  asked_asks (op.Close session) passes called entry e = absurd (cc e)
  asked_asks (op.Write session payload handles address) passes called entry e = write_asks session payload handles address passes called v.pending refl v.present entry e
  asked_asks (op.Read session handle) passes called entry e = read_asks session handle _ v.present entry e
  asked_asks (op.Look session key) passes called entry e = absurd (cc e)
  asked_asks (op.Root session key handle) passes called entry e = root_asks session key handle passes v.pending refl entry e
  asked_asks (op.Drop key) passes called entry e = (sym (proposed_is (kind.Drop line key) entry e), tt, placeless v (kind.Drop line key) entry e refl)
  asked_asks (op.Forget session handle) passes called entry e = absurd (cc e)
  asked_asks (op.Name session handle) passes called entry e = absurd (cc e)
  asked_asks op.Delete passes called entry e = ((slice_index v.epochs 0 + 1, sym (proposed_is (kind.Enter line (slice_index v.epochs 0 + 1)) entry e)), tt, placeless v (kind.Enter line (slice_index v.epochs 0 + 1)) entry e refl)
  asked_asks op.Stat passes called entry e = absurd (cc e)

  -- where there is an answer nothing is proposed
  unless_answered : (o : Op) (answer : Option Reply) (other : OpStep) → (answer ≡ None → Asks name v line o other) → Asks name v line o (option_map_or step.Answer answer other)
  unless_answered o None other h = h refl
  unless_answered o (Some told) other h = λ entry e. absurd (cc e)

  not_refused : (o : Op) → judged_in v o ≡ None → refusal_of v o ≡ None
  unfolding judged_in
  not_refused o e = go (refusal_of v o) e
    where
      go : (x : Option Reply) → option_or x (at_once v o) ≡ None → x ≡ None
      go None e = refl
      go (Some r) e = absurd (cc e)

  go_asks : (o : Op) → IsCalled name v.seats o → Asks name v line o (go v line o)
  unfolding go
  go_asks o called = by_view v.viewed
    where
      by_view : (b : Bool) → Asks name v line o (cond b (option_map_or step.Answer (judged_in v o) (asked_for v line o)) step.Wait)
      by_view true = unless_answered o (judged_in v o) (asked_for v line o) (λ n. asked_asks o (not_refused o n) called)
      by_view false = λ entry e. absurd (cc e)

  begin_asks : (o : Op) → IsCalled name v.seats o → Asks name v line o (begin v line o)
  unfolding begin
  begin_asks o called = unless_answered o (judged_in v o) (go v line o) (λ n. go_asks o called)

  mark_asks : (session payload handles : List ℕ) (address : Option Address) (number : ℕ) → refusal_of v (op.Write session payload handles address) ≡ None → (same : Bool)
      → Asks name v line (op.Write session payload handles address) (cond same (step.Propose (mark_entry v line number session handles address)) (step.Answer reply.Collision))
  unfolding mark_entry
  mark_asks session payload handles address number passes true entry e =
      (inr (number, sym (proposed_is (mark_entry v line number session handles address) entry e)), own_if v (op.Write session payload handles address) passes, placeless v (mark_entry v line number session handles address) entry e refl)
  mark_asks session payload handles address number passes false entry e = absurd (cc e)

  compared_asks : (number : ℕ) (bytes : Option (List ℕ)) (pointers : List Address) (o : Op) → refusal_of v o ≡ None → IsCalled name v.seats o → Asks name v line o (compared v line (record { number = number; bytes = bytes; pointers = pointers }) o)
  unfolding compared
  compared_asks number bytes pointers (op.Write session payload handles address) passes called = by_report (not (is_reported v number bytes))
    where
      marks : OpStep
      marks = cond (is_same_block (asked_block v.seats session payload handles) bytes pointers) (step.Propose (mark_entry v line number session handles address)) (step.Answer reply.Collision)

      by_report : (b : Bool) → Asks name v line (op.Write session payload handles address) (cond b (go v line (op.Write session payload handles address)) marks)
      by_report true = go_asks (op.Write session payload handles address) called
      by_report false = mark_asks session payload handles address number passes (is_same_block (asked_block v.seats session payload handles) bytes pointers)
  compared_asks number bytes pointers (op.Open session) passes called = λ entry e. absurd (cc e)
  compared_asks number bytes pointers (op.Close session) passes called = λ entry e. absurd (cc e)
  compared_asks number bytes pointers (op.Read session handle) passes called = λ entry e. absurd (cc e)
  compared_asks number bytes pointers (op.Look session key) passes called = λ entry e. absurd (cc e)
  compared_asks number bytes pointers (op.Root session key handle) passes called = λ entry e. absurd (cc e)
  compared_asks number bytes pointers (op.Drop key) passes called = λ entry e. absurd (cc e)
  compared_asks number bytes pointers (op.Forget session handle) passes called = λ entry e. absurd (cc e)
  compared_asks number bytes pointers (op.Name session handle) passes called = λ entry e. absurd (cc e)
  compared_asks number bytes pointers op.Delete passes called = λ entry e. absurd (cc e)
  compared_asks number bytes pointers op.Stat passes called = λ entry e. absurd (cc e)

  bytes_asks : (number : ℕ) (bytes : Option (List ℕ)) (pointers : List Address) (o : Op) → IsCalled name v.seats o → Asks name v line o (on_bytes v line (record { number = number; bytes = bytes; pointers = pointers }) o)
  unfolding on_bytes
  bytes_asks number bytes pointers o called = unless_answered o (refusal_of v o) (compared v line (record { number = number; bytes = bytes; pointers = pointers }) o) (λ n. compared_asks number bytes pointers o n called)

  effect_asks : (did : What) (o : Op) → IsCalled name v.seats o → Asks name v line o (on_effect v line did o)
  unfolding on_effect
  effect_asks did o called = unless_answered o (effect_reply v did o) (go v line o) (λ n. go_asks o called)

-- ---- the steps of an operation

abbrev pub AsksWith : (OpView → Operation → OpStep) → Type 0
AsksWith next = (name : List ℕ → Address) (v : OpView) (p : Operation) → IsCalled name v.seats p.op → Asks name v p.line p.op (next v p)

pub going_asks : AsksWith go_step
going_asks name v p called = by_stage p.stage
  where
    by_stage : (s : Stage) → Asks name v p.line p.op (go_step v (record p { stage = s }))
    by_stage stage.New = begin_asks name v p.line p.op called
    by_stage stage.Waiting = go_asks name v p.line p.op called
    by_stage (stage.Reading number) = go_asks name v p.line p.op called
    by_stage stage.Logged = go_asks name v p.line p.op called

pub told_asks : (bytes : Option (List ℕ)) (pointers : List Address) → AsksWith (λ v p. bytes_step v bytes pointers p)
told_asks bytes pointers name v p called = bytes_asks name v p.line _ bytes pointers p.op called

pub done_asks : (did : What) → AsksWith (λ v p. effect_step v did p)
done_asks did name v p called = effect_asks name v p.line did p.op called
