-- What a step proposes, with what its operation saw: a Block's handles are held, a Mark's block is there with the pointers of the write, a Root's handle is held, and the run before an Enter is swept.
use Rattle.std.proofs.Common.{◌≡◌, ◌∙◌, sym, ap, ◌⊎◌, inl, inr, ℕ, ◌+◌, ◌==◌, ◌&&◌, Bool, true, false, cond, not, List, [], ◌∷◌, Option, Some, None, refl, bytes_eq, is_none, is_some, nat_lt, slice_index}
use Rattle.std.proofs.lemmas.Bool.{and_parts, eqb-true}
use Rattle.std.specs.Cmp.Lexicographic.{pointwise}
use Rattle.std.specs.Option.{option_map_or, option_or}
use Rattle.hs_desk.specs.declared.what.What.{What}
use Rattle.hs_effects.specs.Logged.{HasBlock}
use Rattle.hs_effects.proofs.StepLemmas.{all_held, has_block, head_none, not_when, rest_none}
use Rattle.hs_entry.specs.declared.entry.Entry.{Entry}
use Rattle.hs_entry.specs.declared.entry.Entry.TheVariants as kind
use Rattle.hs_limits.specs.Block.{Block, spell}
use Rattle.hs_limits.specs.declared.address.Address.{Address}
use Rattle.hs_model.specs.declared.op.Op.{Op}
use Rattle.hs_model.specs.declared.op.Op.TheVariants as op
use Rattle.hs_model.specs.declared.reply.Reply.{Reply}
use Rattle.hs_model.specs.declared.reply.Reply.TheVariants as reply
use Rattle.hs_model.specs.Judge.{given_address}
use Rattle.hs_model.specs.Refusals.{no_handle_in}
use Rattle.hs_ops.specs.declared.operation.Stage.{Stage}
use Rattle.hs_ops.specs.declared.operation.Stage.TheVariants as stage
use Rattle.hs_ops.specs.declared.step.OpStep.{OpStep}
use Rattle.hs_ops.specs.declared.step.OpStep.TheVariants as step
use Rattle.hs_ops.specs.Going.{asked_for, at_once, begin, block_entry, compared, effect_reply, go, is_reported, is_same_block, judged_in, mark_entry, on_bytes, on_effect, propose_unless, read_or, root_entry}
use Rattle.hs_ops.specs.Operations.{Operation, bytes_step, effect_step, go_step, wanted_number}
use Rattle.hs_ops.specs.Refusals.{epochs_end, is_busy, is_running, not_held, not_open, refusal_of, refusals_of}
use Rattle.hs_ops.specs.Speaking.{asked_block, helds, least_epoch}
use Rattle.hs_ops.specs.Views.{OpView}
use Rattle.hs_tokens.specs.Seats.{found, held_at, seat_of}

-- two lists of addresses are one
abbrev pub are_same : List Address → List Address → Bool
are_same ps qs = pointwise (λ p q. bytes_eq p.0 q.0) ps qs

-- the Block of a write's block, or the Mark of the block that is there, of which these are the pointers
abbrev pub IsSoughtByWrite : OpView → List Address → ℕ → Op → Entry → Type 0
IsSoughtByWrite v pointers line (op.Write session payload handles address) entry =
    (entry ≡ kind.Block line (least_epoch (helds v.seats session handles)) (spell (asked_block v.seats session payload handles)))
    ⊎ ((number : ℕ) × (entry ≡ kind.Mark line (least_epoch (helds v.seats session handles)) number (given_address address)) × (v.present ≡ Some number)
    × (are_same (asked_block v.seats session payload handles).pointers pointers ≡ true))
IsSoughtByWrite v pointers line other entry = ⊥

-- an entry is what an operation asks for by what it sees, where the block at its address has these pointers
abbrev pub IsSought : OpView → List Address → ℕ → Op → Entry → Type 0
IsSought v pointers line (op.Write session payload handles address) entry =
    HasBlock v.seats session payload handles × IsSoughtByWrite v pointers line (op.Write session payload handles address) entry
IsSought v pointers line (op.Root session key handle) entry =
    (entry ≡ kind.Root line (found v.seats session handle).epoch (found v.seats session handle).address key) × (is_some (held_at (seat_of session v.seats) handle) ≡ true)
IsSought v pointers line (op.Drop key) entry = entry ≡ kind.Drop line key
IsSought v pointers line op.Delete entry = (entry ≡ kind.Enter line (slice_index v.epochs 0 + 1)) × (nat_lt (slice_index v.swept 0) (slice_index v.epochs 0) ≡ false)
IsSought v pointers line other entry = ⊥

-- a step proposes nothing else
abbrev pub Seeks : OpView → List Address → ℕ → Op → OpStep → Type 0
Seeks v pointers line o made = (entry : Entry) → made ≡ step.Propose entry → IsSought v pointers line o entry

proposed_is : (a b : Entry) → step.Propose a ≡ step.Propose b → a ≡ b
proposed_is a b e = cc e

module _ (v : OpView) (pointers : List Address) (line : ℕ) where
  -- ---- what is asked for

  write_seeks : (session payload handles : List ℕ) (address : Option Address) → refusal_of v (op.Write session payload handles address) ≡ None → (pending : Bool) (present : Option ℕ)
      → Seeks v pointers line (op.Write session payload handles address) (read_or (propose_unless pending (block_entry v line session payload handles)) present)
  unfolding block_entry
  write_seeks session payload handles address passes pending (Some number) entry e = absurd (cc e)
  write_seeks session payload handles address passes true None entry e = absurd (cc e)
  write_seeks session payload handles address passes false None entry e = (
    has_block v session payload handles address passes,
    inl (sym (proposed_is (kind.Block line (least_epoch (helds v.seats session handles)) (spell (asked_block v.seats session payload handles))) entry e)),
  )

  read_seeks : (session : List ℕ) (handle : ℕ) (told : Reply) (present : Option ℕ) → Seeks v pointers line (op.Read session handle) (read_or (step.Answer told) present)
  read_seeks session handle told None entry e = absurd (cc e)
  read_seeks session handle told (Some number) entry e = absurd (cc e)

  root_held : (session key : List ℕ) (handle : ℕ) → refusal_of v (op.Root session key handle) ≡ None → is_some (held_at (seat_of session v.seats) handle) ≡ true
  unfolding refusals_of no_handle_in
  root_held session key handle passes =
      let unbusy = rest_none (is_busy v) _ (rest_none (not_open v session) _ passes) in
      (and_parts (is_some (held_at (seat_of session v.seats) handle)) true (all_held (seat_of session v.seats) (handle ∷ []) (head_none (not_held v session (handle ∷ [])) _ unbusy))).0

  root_seeks : (session key : List ℕ) (handle : ℕ) → refusal_of v (op.Root session key handle) ≡ None → (pending : Bool)
      → Seeks v pointers line (op.Root session key handle) (propose_unless pending (root_entry v line session key handle))
  root_seeks session key handle passes true entry e = absurd (cc e)
  root_seeks session key handle passes false entry e = (sym (proposed_is (root_entry v line session key handle) entry e), root_held session key handle passes)

  not_running : refusal_of v op.Delete ≡ None → nat_lt (slice_index v.swept 0) (slice_index v.epochs 0) ≡ false
  unfolding refusals_of
  not_running passes = not_when (nat_lt (slice_index v.swept 0) (slice_index v.epochs 0)) (reply.Running (slice_index v.epochs 0)) (head_none (is_running v) (epochs_end v ∷ []) passes)

  asked_seeks : (o : Op) → refusal_of v o ≡ None → Seeks v pointers line o (asked_for v line o)
  unfolding asked_for
  asked_seeks (op.Open session) passes entry e = absurd (cc e)
  asked_seeks (op.Close session) passes entry e = absurd (cc e)
  asked_seeks (op.Write session payload handles address) passes entry e = write_seeks session payload handles address passes v.pending v.present entry e
  asked_seeks (op.Read session handle) passes entry e = read_seeks session handle _ v.present entry e
  asked_seeks (op.Look session key) passes entry e = absurd (cc e)
  asked_seeks (op.Root session key handle) passes entry e = root_seeks session key handle passes v.pending entry e
  asked_seeks (op.Drop key) passes entry e = sym (proposed_is (kind.Drop line key) entry e)
  asked_seeks (op.Forget session handle) passes entry e = absurd (cc e)
  asked_seeks (op.Name session handle) passes entry e = absurd (cc e)
  asked_seeks op.Delete passes entry e = (sym (proposed_is (kind.Enter line (slice_index v.epochs 0 + 1)) entry e), not_running passes)
  asked_seeks op.Stat passes entry e = absurd (cc e)

  -- ---- its way

  -- where there is an answer nothing is proposed
  unless_told : (o : Op) (answer : Option Reply) (other : OpStep) → (answer ≡ None → Seeks v pointers line o other) → Seeks v pointers line o (option_map_or step.Answer answer other)
  unless_told o None other h = h refl
  unless_told o (Some told) other h = λ entry e. absurd (cc e)

  unrefused : (o : Op) → judged_in v o ≡ None → refusal_of v o ≡ None
  unfolding judged_in
  unrefused o e = by (refusal_of v o) e
    where
      by : (x : Option Reply) → option_or x (at_once v o) ≡ None → x ≡ None
      by None e = refl
      by (Some r) e = absurd (cc e)

  go_seeks : (o : Op) → Seeks v pointers line o (go v line o)
  unfolding go
  go_seeks o = by_view v.viewed
    where
      by_view : (b : Bool) → Seeks v pointers line o (cond b (option_map_or step.Answer (judged_in v o) (asked_for v line o)) step.Wait)
      by_view true = unless_told o (judged_in v o) (asked_for v line o) (λ n. asked_seeks o (unrefused o n))
      by_view false = λ entry e. absurd (cc e)

  begin_seeks : (o : Op) → Seeks v pointers line o (begin v line o)
  unfolding begin
  begin_seeks o = unless_told o (judged_in v o) (go v line o) (λ n. go_seeks o)

  -- ---- bytes that are told

  reported : (number : ℕ) (bytes : Option (List ℕ)) → is_reported v number bytes ≡ true → v.present ≡ Some number
  reported number bytes e = by v.present refl e
    where
      by : (x : Option ℕ) → v.present ≡ x → option_map_or (λ present. present == number) x false && not (is_none bytes) ≡ true → v.present ≡ Some number
      by None is f = absurd (cc f)
      by (Some present) is f = is ∙ ap (λ n. Some n) (eqb-true present number (and_parts (present == number) (not (is_none bytes)) f).0)

  has_pointers : (block : Block) (bytes : Option (List ℕ)) → is_same_block block bytes pointers ≡ true → are_same block.pointers pointers ≡ true
  unfolding is_same_block
  has_pointers block None e = absurd (cc e)
  has_pointers block (Some bs) e = (and_parts (bytes_eq (spell block) bs) (are_same block.pointers pointers) e).1

  mark_seeks : (session payload handles : List ℕ) (address : Option Address) (number : ℕ) (bytes : Option (List ℕ)) → refusal_of v (op.Write session payload handles address) ≡ None → v.present ≡ Some number
      → (same : Bool) → is_same_block (asked_block v.seats session payload handles) bytes pointers ≡ same
      → Seeks v pointers line (op.Write session payload handles address) (cond same (step.Propose (mark_entry v line number session handles address)) (step.Answer reply.Collision))
  unfolding mark_entry
  mark_seeks session payload handles address number bytes passes present true is entry e = (
    has_block v session payload handles address passes,
    inr (number, sym (proposed_is (mark_entry v line number session handles address) entry e), present, has_pointers (asked_block v.seats session payload handles) bytes is),
  )
  mark_seeks session payload handles address number bytes passes present false is entry e = absurd (cc e)

  compared_seeks : (number : ℕ) (bytes : Option (List ℕ)) (o : Op) → refusal_of v o ≡ None → Seeks v pointers line o (compared v line (record { number = number; bytes = bytes; pointers = pointers }) o)
  unfolding compared
  compared_seeks number bytes (op.Write session payload handles address) passes = by_report (is_reported v number bytes) refl
    where
      marks : OpStep
      marks = cond (is_same_block (asked_block v.seats session payload handles) bytes pointers) (step.Propose (mark_entry v line number session handles address)) (step.Answer reply.Collision)

      by_report : (b : Bool) → is_reported v number bytes ≡ b → Seeks v pointers line (op.Write session payload handles address) (cond (not b) (go v line (op.Write session payload handles address)) marks)
      by_report true is = mark_seeks session payload handles address number bytes passes (reported number bytes is) (is_same_block (asked_block v.seats session payload handles) bytes pointers) refl
      by_report false is = go_seeks (op.Write session payload handles address)
  compared_seeks number bytes (op.Open session) passes = λ entry e. absurd (cc e)
  compared_seeks number bytes (op.Close session) passes = λ entry e. absurd (cc e)
  compared_seeks number bytes (op.Read session handle) passes = λ entry e. absurd (cc e)
  compared_seeks number bytes (op.Look session key) passes = λ entry e. absurd (cc e)
  compared_seeks number bytes (op.Root session key handle) passes = λ entry e. absurd (cc e)
  compared_seeks number bytes (op.Drop key) passes = λ entry e. absurd (cc e)
  compared_seeks number bytes (op.Forget session handle) passes = λ entry e. absurd (cc e)
  compared_seeks number bytes (op.Name session handle) passes = λ entry e. absurd (cc e)
  compared_seeks number bytes op.Delete passes = λ entry e. absurd (cc e)
  compared_seeks number bytes op.Stat passes = λ entry e. absurd (cc e)

  bytes_seeks : (number : ℕ) (bytes : Option (List ℕ)) (o : Op) → Seeks v pointers line o (on_bytes v line (record { number = number; bytes = bytes; pointers = pointers }) o)
  unfolding on_bytes
  bytes_seeks number bytes o = unless_told o (refusal_of v o) (compared v line (record { number = number; bytes = bytes; pointers = pointers }) o) (λ n. compared_seeks number bytes o n)

  effect_seeks : (did : What) (o : Op) → Seeks v pointers line o (on_effect v line did o)
  unfolding on_effect
  effect_seeks did o = unless_told o (effect_reply v did o) (go v line o) (λ n. go_seeks o)

-- ---- the steps of an operation

pub going_seeks : (v : OpView) (pointers : List Address) (p : Operation) → Seeks v pointers p.line p.op (go_step v p)
going_seeks v pointers p = by_stage p.stage
  where
    by_stage : (s : Stage) → Seeks v pointers p.line p.op (go_step v (record p { stage = s }))
    by_stage stage.New = begin_seeks v pointers p.line p.op
    by_stage stage.Waiting = go_seeks v pointers p.line p.op
    by_stage (stage.Reading number) = go_seeks v pointers p.line p.op
    by_stage stage.Logged = go_seeks v pointers p.line p.op

pub told_seeks : (v : OpView) (pointers : List Address) (bytes : Option (List ℕ)) (p : Operation) → Seeks v pointers p.line p.op (bytes_step v bytes pointers p)
told_seeks v pointers bytes p = bytes_seeks v pointers p.line (wanted_number p.stage) bytes p.op

pub done_seeks : (v : OpView) (pointers : List Address) (did : What) (p : Operation) → Seeks v pointers p.line p.op (effect_step v did p)
done_seeks v pointers did p = effect_seeks v pointers p.line did p.op
