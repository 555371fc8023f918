-- A write whose payload tells its address is judged and asks as it did, up to the outline of the Block that it asks for.
use Rattle.std.proofs.Common.{◌≡◌, ◌∙◌, sym, ap, ℕ, Bool, true, false, cond, not, ◌&&◌, List, [], ◌∷◌, Option, Some, None, Ok, refl, bytes_eq}
use Rattle.std.proofs.lemmas.Slice.Eq.{bytes_eq-Decides}
use Rattle.std.specs.Cmp.Lexicographic.{pointwise}
use Rattle.std.specs.Option.{option_map_or, option_or}
use Rattle.std.specs.Prelude.{if◌then◌else◌}
use Rattle.hs_any_events.proofs.CodedEntryLemmas.{outline, pointers_read}
use Rattle.hs_any_events.proofs.CodedLemmas.{Code, coded_op, coded_payload, coded_short}
use Rattle.hs_desk.specs.declared.what.What.{What}
use Rattle.hs_desk.specs.declared.what.What.TheVariants as what
use Rattle.hs_effects.proofs.FreeLemmas.{are_addressed, is_bounded}
use Rattle.hs_effects.proofs.StepLemmas.{has_block}
use Rattle.hs_effects.specs.Answered.{HoldAddresses}
use Rattle.hs_effects.specs.Logged.{HasBlock}
use Rattle.hs_entry.specs.declared.entry.Entry.{Entry}
use Rattle.hs_entry.specs.declared.entry.Entry.TheVariants as kind
use Rattle.hs_limits.proofs.ReadingLemmas.{read_again}
use Rattle.hs_limits.specs.Block.{Block, spell}
use Rattle.hs_limits.specs.declared.address.Address.{Address}
use Rattle.hs_limits.specs.Reading.{read_block}
use Rattle.hs_model.specs.declared.op.Op.{Op}
use Rattle.hs_model.specs.declared.op.Op.TheVariants as op
use Rattle.hs_model.specs.declared.reply.Reply.{Reply}
use Rattle.hs_model.specs.declared.reply.Reply.TheVariants as reply
use Rattle.hs_model.specs.Refusals.{first, too_long, too_many}
use Rattle.hs_ops.specs.Answers.{gained, seats_after}
use Rattle.hs_ops.specs.declared.operation.Stage.{Stage}
use Rattle.hs_ops.specs.declared.operation.Stage.TheVariants as stage
use Rattle.hs_ops.specs.declared.step.OpStep.{OpStep}
use Rattle.hs_ops.specs.declared.step.OpStep.TheVariants.{Answer, Propose, Wait}
use Rattle.hs_ops.specs.Going.{asked_for, at_once, begin, block_entry, compared, effect_reply, given_reply, go, is_reported, is_same_block, judged_in, mark_entry, on_bytes, on_effect, propose_unless, read_or}
use Rattle.hs_ops.specs.Operations.{Operation, go_from, go_step}
use Rattle.hs_ops.specs.Refusals.{is_busy, no_more_handles, no_room_for_block, not_held, not_open, outdated, refusal_of, refusals_of}
use Rattle.hs_ops.specs.Speaking.{asked_block, asked_pointers, helds, least_epoch}
use Rattle.hs_ops.specs.Views.{OpView}
use Rattle.hs_tokens.specs.Seats.{Seats}

abbrev pub coded_operation : Code → Operation → Operation
coded_operation code operation = record operation { op = coded_op code operation.op }

-- what does not depend on a payload is kept
pub op_kept : {X : Type 0} (code : Code) (f : Op → X) → ((session payload other handles : List ℕ) (address : Option Address) → f (op.Write session other handles address) ≡ f (op.Write session payload handles address)) → (o : Op) → f (coded_op code o) ≡ f o
op_kept code f free (op.Write session payload handles (Some a)) = free session payload (coded_payload code a payload) handles (Some a)
op_kept code f free (op.Write session payload handles None) = refl
op_kept code f free other = refl

-- ---- judging

length_kept : (code : Code) (a : Address) (payload : List ℕ) → too_long (coded_payload code a payload) ≡ too_long payload
length_kept code a [] = refl
length_kept code a (n ∷ rest) = refl

module _ (code : Code) (v : OpView) where
  pub refusal_kept : (o : Op) → refusal_of v (coded_op code o) ≡ refusal_of v o
  unfolding refusals_of
  refusal_kept (op.Write session payload handles (Some a)) =
      ap (λ (x : Option Reply). first (not_open v session ∷ is_busy v ∷ x ∷ too_many handles ∷ not_held v session handles ∷ no_more_handles v session 1 ∷ outdated v session handles ∷ no_room_for_block v ∷ []))
      (length_kept code a payload)
  refusal_kept (op.Write session payload handles None) = refl
  refusal_kept other = refl

  judged_kept : (o : Op) → judged_in v (coded_op code o) ≡ judged_in v o
  unfolding judged_in
  judged_kept o =
      ap (λ (x : Option Reply). option_or x (at_once v (coded_op code o))) (refusal_kept o)
      ∙ ap (λ (y : Option Reply). option_or (refusal_of v o) y) (op_kept code (λ p. at_once v p) (λ session payload other handles address. refl) o)

  not_refused : (o : Op) → judged_in v o ≡ None → refusal_of v o ≡ None
  unfolding judged_in
  not_refused o e = by (refusal_of v o) e
    where
      by : (x : Option Reply) → option_or x (at_once v o) ≡ None → x ≡ None
      by None e = refl
      by (Some r) e = absurd (cc e)

-- ---- steps

-- a step with no bytes of the Block that it proposes, and the pointers of the block that these spell
pub record StepOutline : Type 0 where
  pub step : OpStep
  pub pointers : Option (List Address)

abbrev pub step_outline : OpStep → StepOutline
step_outline (Propose entry) = record { step = Propose (outline entry).entry; pointers = (outline entry).pointers }
step_outline other = record { step = other; pointers = None }

proposed_outline : (e f : Entry) → outline f ≡ outline e → step_outline (Propose f) ≡ step_outline (Propose e)
proposed_outline e f same = λ i. record { step = Propose (same i).entry; pointers = (same i).pointers }

module _ (code : Code) (v : OpView) (holds : HoldAddresses v.seats) (line : ℕ) where
  -- the outline of a write's Block
  block_is : (session payload handles : List ℕ) → HasBlock v.seats session payload handles
      → outline (block_entry v line session payload handles) ≡ record { entry = kind.Block line (least_epoch (helds v.seats session handles)) []; pointers = Some (asked_pointers v.seats session handles) }
  unfolding block_entry asked_block
  block_is session payload handles has =
      let asked : Block = asked_block v.seats session payload handles in
      let reads : read_block (spell asked) ≡ Ok asked = read_again asked (is_bounded v.seats session payload handles has) (are_addressed v.seats session payload holds handles) in
      λ i. record { entry = kind.Block line (least_epoch (helds v.seats session handles)) []; pointers = pointers_read (reads i) }

  asked_kept : (o : Op) → refusal_of v o ≡ None → step_outline (asked_for v line (coded_op code o)) ≡ step_outline (asked_for v line o)
  unfolding asked_for
  asked_kept (op.Write session payload handles (Some a)) free = by v.pending v.present
    where
      has : HasBlock v.seats session payload handles
      has = has_block v session payload handles (Some a) free

      coded : HasBlock v.seats session (coded_payload code a payload) handles
      coded = record { held = has.held; few = has.few; short = coded_short code a payload has.short }

      by : (pending : Bool) (present : Option ℕ) → step_outline (read_or (propose_unless pending (block_entry v line session (coded_payload code a payload) handles)) present) ≡ step_outline (read_or (propose_unless pending (block_entry v line session payload handles)) present)
      by pending (Some number) = refl
      by true None = refl
      by false None =
          proposed_outline (block_entry v line session payload handles) (block_entry v line session (coded_payload code a payload) handles)
          (block_is session (coded_payload code a payload) handles coded ∙ sym (block_is session payload handles has))
  asked_kept (op.Write session payload handles None) free = refl
  asked_kept other free = refl

  -- where there is an answer, it is that
  answered_or : (answer : Option Reply) (s t : OpStep) → (answer ≡ None → step_outline t ≡ step_outline s) → step_outline (option_map_or Answer answer t) ≡ step_outline (option_map_or Answer answer s)
  answered_or None s t same = same refl
  answered_or (Some r) s t same = refl

  pub go_kept : (o : Op) → step_outline (go v line (coded_op code o)) ≡ step_outline (go v line o)
  unfolding go
  go_kept o = by v.viewed
    where
      by : (b : Bool) → step_outline (cond b (option_map_or Answer (judged_in v (coded_op code o)) (asked_for v line (coded_op code o))) Wait) ≡ step_outline (cond b (option_map_or Answer (judged_in v o) (asked_for v line o)) Wait)
      by true =
          ap (λ (x : Option Reply). step_outline (option_map_or Answer x (asked_for v line (coded_op code o)))) (judged_kept code v o)
          ∙ answered_or (judged_in v o) (asked_for v line o) (asked_for v line (coded_op code o)) (λ none. asked_kept o (not_refused code v o none))
      by false = refl

  pub begin_kept : (o : Op) → step_outline (begin v line (coded_op code o)) ≡ step_outline (begin v line o)
  unfolding begin
  begin_kept o =
      ap (λ (x : Option Reply). step_outline (option_map_or Answer x (go v line (coded_op code o)))) (judged_kept code v o)
      ∙ answered_or (judged_in v o) (go v line o) (go v line (coded_op code o)) (λ none. go_kept o)

  -- ---- its entry took effect

  reply_kept : (did : What) (o : Op) → effect_reply v did (coded_op code o) ≡ effect_reply v did o
  reply_kept what.Stored o = op_kept code (λ p. given_reply false v p) (λ session payload other handles address. refl) o
  reply_kept what.Marked o = op_kept code (λ p. given_reply true v p) (λ session payload other handles address. refl) o
  reply_kept what.Refused o = refusal_kept code v o
  reply_kept other o = refl

  pub effect_kept : (did : What) (o : Op) → step_outline (on_effect v line did (coded_op code o)) ≡ step_outline (on_effect v line did o)
  unfolding on_effect
  effect_kept did o =
      ap (λ (x : Option Reply). step_outline (option_map_or Answer x (go v line (coded_op code o)))) (reply_kept did o)
      ∙ answered_or (effect_reply v did o) (go v line o) (go v line (coded_op code o)) (λ none. go_kept o)

-- ---- going on

pub step_kept : (code : Code) (v : OpView) → HoldAddresses v.seats → (operation : Operation) → step_outline (go_step v (coded_operation code operation)) ≡ step_outline (go_step v operation)
step_kept code v holds operation = by operation.stage
  where
    by : (s : Stage) → step_outline (go_from s v operation.line (coded_op code operation.op)) ≡ step_outline (go_from s v operation.line operation.op)
    by stage.New = begin_kept code v holds operation.line operation.op
    by stage.Waiting = go_kept code v holds operation.line operation.op
    by (stage.Reading number) = go_kept code v holds operation.line operation.op
    by stage.Logged = go_kept code v holds operation.line operation.op

-- ---- bytes that are told

-- bytes to which such a write compares as it did to these
abbrev pub coded_bytes : Code → Seats → Op → Option (List ℕ) → Option (List ℕ)
coded_bytes code seats (op.Write session payload handles (Some a)) (Some bytes) =
    Some (if bytes_eq (spell (asked_block seats session payload handles)) bytes then spell (asked_block seats session (coded_payload code a payload) handles) else [])
coded_bytes code seats other bytes = bytes

same_test : (block : Block) (t : Bool) → bytes_eq (spell block) (cond t (spell block) []) ≡ t
same_test block true = (bytes_eq-Decides (spell block) (spell block)).1 refl
same_test block false = refl

module _ (code : Code) (v : OpView) (holds : HoldAddresses v.seats) (line number : ℕ) (pointers : List Address) where
  -- of a write and its block
  block_kept : (session payload handles bytes : List ℕ) (a : Address)
      → is_same_block (asked_block v.seats session (coded_payload code a payload) handles)
      (Some (if bytes_eq (spell (asked_block v.seats session payload handles)) bytes then spell (asked_block v.seats session (coded_payload code a payload) handles) else [])) pointers
      ≡ is_same_block (asked_block v.seats session payload handles) (Some bytes) pointers
  unfolding is_same_block asked_block
  block_kept session payload handles bytes a =
      ap (λ (b : Bool). b && pointwise (λ p q. bytes_eq p.0 q.0) (asked_pointers v.seats session handles) pointers)
      (same_test (asked_block v.seats session (coded_payload code a payload) handles) (bytes_eq (spell (asked_block v.seats session payload handles)) bytes))

  compared_kept : (bytes : Option (List ℕ)) (o : Op) → step_outline (compared v line (record { number = number; bytes = coded_bytes code v.seats o bytes; pointers = pointers }) (coded_op code o)) ≡ step_outline (compared v line (record { number = number; bytes = bytes; pointers = pointers }) o)
  unfolding compared is_same_block
  compared_kept None (op.Write session payload handles (Some a)) = by (not (is_reported v number None))
    where
      by : (b : Bool) → step_outline (cond b (go v line (op.Write session (coded_payload code a payload) handles (Some a))) (cond (is_same_block (asked_block v.seats session (coded_payload code a payload) handles) None pointers) (Propose (mark_entry v line number session handles (Some a))) (Answer reply.Collision)))
          ≡ step_outline (cond b (go v line (op.Write session payload handles (Some a))) (cond (is_same_block (asked_block v.seats session payload handles) None pointers) (Propose (mark_entry v line number session handles (Some a))) (Answer reply.Collision)))
      by true = go_kept code v holds line (op.Write session payload handles (Some a))
      by false = refl
  compared_kept (Some bytes) (op.Write session payload handles (Some a)) = by (not (is_reported v number (Some bytes)))
    where
      marks : Bool → OpStep
      marks same = if same then Propose (mark_entry v line number session handles (Some a)) else Answer reply.Collision

      by : (b : Bool)
          → step_outline (cond b (go v line (op.Write session (coded_payload code a payload) handles (Some a)))
          (marks (is_same_block (asked_block v.seats session (coded_payload code a payload) handles) (Some (if bytes_eq (spell (asked_block v.seats session payload handles)) bytes then spell (asked_block v.seats session (coded_payload code a payload) handles) else [])) pointers)))
          ≡ step_outline (cond b (go v line (op.Write session payload handles (Some a))) (marks (is_same_block (asked_block v.seats session payload handles) (Some bytes) pointers)))
      by true = go_kept code v holds line (op.Write session payload handles (Some a))
      by false = ap (λ (same : Bool). step_outline (marks same)) (block_kept session payload handles bytes a)
  compared_kept bytes (op.Write session payload handles None) = refl
  compared_kept bytes other = refl

  pub bytes_kept : (bytes : Option (List ℕ)) (o : Op) → step_outline (on_bytes v line (record { number = number; bytes = coded_bytes code v.seats o bytes; pointers = pointers }) (coded_op code o)) ≡ step_outline (on_bytes v line (record { number = number; bytes = bytes; pointers = pointers }) o)
  unfolding on_bytes
  bytes_kept bytes o =
      ap (λ (x : Option Reply). step_outline (option_map_or Answer x (compared v line (record { number = number; bytes = coded_bytes code v.seats o bytes; pointers = pointers }) (coded_op code o)))) (refusal_kept code v o)
      ∙ answered_or code v holds line (refusal_of v o) (compared v line (record { number = number; bytes = bytes; pointers = pointers }) o) (compared v line (record { number = number; bytes = coded_bytes code v.seats o bytes; pointers = pointers }) (coded_op code o)) (λ none. compared_kept bytes o)

-- ---- an answer

pub seats_kept : (code : Code) (v : OpView) (pointers : List Address) (o : Op) (r : Reply) (seats : Seats) → seats_after (gained v pointers (coded_op code o)) (coded_op code o) r seats ≡ seats_after (gained v pointers o) o r seats
unfolding gained seats_after
seats_kept code v pointers o r seats = op_kept code (λ p. seats_after (gained v pointers p) p r seats) (λ session payload other handles address. refl) o
