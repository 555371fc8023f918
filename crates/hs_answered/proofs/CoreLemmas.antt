-- An operation of the core that is answered by what it sees.
use Rattle.std.proofs.Common.{◌≡◌, ◌⊎◌, inl, inr, ℕ, ◌++◌, Bool, List, [], ◌∷◌, Option, Some, None, IsSome, is_none, refl, sym, ap, ◌∙◌, subst}
use Rattle.std.specs.Option.{option_map, option_map_or, option_or}
use Rattle.hs_answered.proofs.AnswerLemmas.{ByTheBytes, ByTheView, Leaves}
use Rattle.hs_answered.proofs.CollisionLemmas.{ByCollision, write_judged}
use Rattle.hs_answered.proofs.EarlyLemmas.{addressed_or_early, asked_from_address}
use Rattle.hs_answered.proofs.ShownLemmas.{pointers_are, shown}
use Rattle.hs_answered.proofs.StepLemmas.{Judges, Sees, data_judged, early_judged, sees_judged, step_sees, true_data, true_reply}
use Rattle.hs_answered.specs.Asked.{HasBytes, IsAsked, busy_with, first_step}
use Rattle.hs_answered.specs.Judged.{IsBusy, IsJudged, IsTold, entry_of, judged_at, telling, with_data}
use Rattle.hs_answered.specs.Standing.{IsAddressed, IsFolded, store_with}
use Rattle.hs_awaiting.specs.declared.wait.Wait.TheVariants as wait
use Rattle.hs_awaiting.specs.declared.waiting.Waiting.{Waiting}
use Rattle.hs_core_words.specs.Changing.{add_operation}
use Rattle.hs_core_words.specs.Looking.{shape_of}
use Rattle.hs_core_words.specs.Operating.{answer, begin_line, busy_line, take_step}
use Rattle.hs_core_words.specs.Pending.{is_pending}
use Rattle.hs_core_words.specs.Seeing.{pointers_for, view_for}
use Rattle.hs_core_words.specs.State.{Core}
use Rattle.hs_fold.specs.Runs.Facts.{Catalogue as Folded}
use Rattle.hs_journal.specs.declared.entry.Who.TheVariants as who
use Rattle.hs_journal.specs.Order.{IsOpen, session_of}
use Rattle.hs_limits.specs.declared.address.Address.{Address}
use Rattle.hs_model.specs.declared.deed.Deed.{Deed}
use Rattle.hs_model.specs.declared.op.Op.{Op}
use Rattle.hs_model.specs.declared.op.Op.TheVariants as op
use Rattle.hs_model.specs.declared.reply.Reply.{Reply}
use Rattle.hs_model.specs.declared.reply.Reply.TheVariants as reply
use Rattle.hs_model.specs.Hollow.{looks_at}
use Rattle.hs_model.specs.Judge.{address_of, bytes_of, given_address, pointers_at}
use Rattle.hs_model.specs.Refusals.{first, refused_when}
use Rattle.hs_model.specs.Store.{Store, block_at}
use Rattle.hs_ops.specs.Answers.{deed_of, seats_after}
use Rattle.hs_ops.specs.Going.{at_once, begin, data_of, go, judged_in, on_bytes}
use Rattle.hs_ops.specs.Operations.{after_step, bytes_step, go_step, new_operation, wanted_number}
use Rattle.hs_ops.specs.Refusals.{is_busy, not_open, refusal_of, refusals_of}
use Rattle.hs_ops.specs.Speaking.{judging_shard}
use Rattle.hs_ops.specs.Views.{OpView, as_session}
use Rattle.hs_ops.specs.declared.step.OpStep.{OpStep}
use Rattle.hs_ops.specs.declared.step.OpStep.TheVariants.{Answer}
use Rattle.hs_shown.specs.Showing.{Shows}
use Rattle.hs_tokens.specs.Seats.{Seat, seat_of}

-- ---- an answer

-- an operation is answered as the judge says, where its step is the judge's
told_is : (cs : List Folded) (core : Core) (line : ℕ) (w : Waiting) (r : Reply) → IsFolded core cs
    → Judges core.limits (store_with cs core.sessions) w.operation.op (view_for w.shard w.operation.op core) (pointers_for w.shard w.operation.op core) r
    → IsJudged cs core (answer line w r core) line w.operation.op
told_is cs core line w r folded its = record {
  told =
      ap (λ (d : Deed). core.entries ++ record { who = who.Line line; moment = core.moment; deed = d; reply = r } ∷ []) its.leaves.deed
      ∙ ap (λ (q : Reply). core.entries ++ record { who = who.Line line; moment = core.moment; deed = (judged_at cs core w.operation.op).deed; reply = q } ∷ []) (sym its.reply);
  left = its.leaves.store;
  folded = record { valid = folded.valid; shards = folded.shards; own = folded.own; catalogues = folded.catalogues };
}

module _ (by_view : ByTheView) (by_bytes : ByTheBytes) (cs : List Folded) (core : Core) where
  abbrev s : Store
  s = store_with cs core.sessions

  -- what an operation sees at its shard, and the pointers that it finds
  shows_at : (k : ℕ) (o : Op) → IsFolded core cs → IsAddressed core.sessions o → k ≡ judging_shard (shape_of core).shards core.sessions o → Shows core.limits s o (view_for k o core)
  shows_at k o folded addressed place = subst (λ j. Shows core.limits s o (view_for j o core)) (sym place) (shown cs core o folded addressed)

  pointers_at_shard : (k : ℕ) (o : Op) → IsFolded core cs → IsAddressed core.sessions o → k ≡ judging_shard (shape_of core).shards core.sessions o
      → (a : Address) → looks_at s o ≡ Some a → pointers_for k o core ≡ pointers_at s a
  pointers_at_shard k o folded addressed place a looks = ap (λ j. pointers_for j o core) place ∙ pointers_are cs core o folded addressed a looks

  pub sees_is : (line : ℕ) (w : Waiting) (r : Reply) → IsFolded core cs → IsAddressed core.sessions w.operation.op → w.shard ≡ judging_shard (shape_of core).shards core.sessions w.operation.op
      → Sees (view_for w.shard w.operation.op core) w.operation.op r → IsJudged cs core (answer line w r core) line w.operation.op
  sees_is line w r folded addressed place sees =
      told_is cs core line w r folded
      (sees_judged by_view by_bytes core.limits s (view_for w.shard w.operation.op core) (pointers_for w.shard w.operation.op core) w.operation.op r
      (shows_at w.shard w.operation.op folded addressed place) (pointers_at_shard w.shard w.operation.op folded addressed place) sees)

  -- also one without an address
  pub asked_is : (line : ℕ) (w : Waiting) (r : Reply) → IsFolded core cs → IsAsked s w.operation.op → w.shard ≡ judging_shard (shape_of core).shards core.sessions w.operation.op
      → Sees (view_for w.shard w.operation.op core) w.operation.op r → IsJudged cs core (answer line w r core) line w.operation.op
  asked_is line w r folded asked place sees = elim (addressed_or_early core.limits s (view_for w.shard w.operation.op core) refl refl w.operation.op asked) [
    | inl addressed ↦ sees_is line w r folded addressed place sees
    | inr early ↦
        told_is cs core line w r folded
        (early_judged by_view by_bytes core.limits s (view_for w.shard w.operation.op core) (pointers_for w.shard w.operation.op core) w.operation.op r refl refl early sees)
  ]

  -- ---- bytes that are told

  pub data_is : (line number : ℕ) (bytes : Option (List ℕ)) (w : Waiting) (name : List ℕ) (handle : ℕ) (r : Reply) → IsFolded core cs → IsAddressed core.sessions w.operation.op
      → w.shard ≡ judging_shard (shape_of core).shards core.sessions w.operation.op → w.operation.op ≡ op.Read name handle
      → on_bytes (view_for w.shard w.operation.op core) w.operation.line (record { number = number; bytes = bytes; pointers = pointers_for w.shard w.operation.op core }) w.operation.op ≡ Answer r
      → IsTold cs core (answer line w r core) line (telling (data_of bytes) (judged_at cs core w.operation.op))
  data_is line number bytes w name handle r folded addressed place is e = record {
    told =
        ap (λ (d : Deed). core.entries ++ record { who = who.Line line; moment = core.moment; deed = d; reply = r } ∷ []) its.1.deed
        ∙ ap (λ (q : Reply). core.entries ++ record { who = who.Line line; moment = core.moment; deed = (judged_at cs core w.operation.op).deed; reply = q } ∷ []) its.0;
    left = its.1.store;
    folded = record { valid = folded.valid; shards = folded.shards; own = folded.own; catalogues = folded.catalogues };
  }
    where
      v : Op → OpView
      v o = view_for w.shard o core

      its : (r ≡ with_data (data_of bytes) (judged_at cs core w.operation.op).reply) × Leaves s w.operation.op (v w.operation.op) (pointers_for w.shard w.operation.op core) r (judged_at cs core w.operation.op)
      its =
          subst (λ o. Shows core.limits s o (v o) → ((a : Address) → looks_at s o ≡ Some a → pointers_for w.shard o core ≡ pointers_at s a)
          → on_bytes (v o) w.operation.line (record { number = number; bytes = bytes; pointers = pointers_for w.shard o core }) o ≡ Answer r
          → (r ≡ with_data (data_of bytes) (judged_at cs core o).reply) × Leaves s o (v o) (pointers_for w.shard o core) r (judged_at cs core o)) (sym is)
          (λ shows alike f. data_judged by_view by_bytes core.limits s (v (op.Read name handle)) (pointers_for w.shard (op.Read name handle) core) w.operation.line number bytes name handle r shows (alike (address_of s name handle) refl) f)
          (shows_at w.shard w.operation.op folded addressed place) (pointers_at_shard w.shard w.operation.op folded addressed place) e

pub answered : ByTheView → ByTheBytes → (cs : List Folded) (core : Core) (line : ℕ) (w : Waiting) (r : Reply) → IsFolded core cs → IsAddressed core.sessions w.operation.op
    → w.shard ≡ judging_shard (shape_of core).shards core.sessions w.operation.op → judged_in (view_for w.shard w.operation.op core) w.operation.op ≡ Some r
    → IsJudged cs core (answer line w r core) line w.operation.op
answered by_view by_bytes cs core line w r folded addressed place e = sees_is by_view by_bytes cs core line w r folded addressed place (inl e)

-- a write that is told the bytes of its block's entry
pub writes_true : ByTheView → ByTheBytes → ByCollision → (cs : List Folded) (core : Core) (line : ℕ) (bytes : Option (List ℕ)) (w : Waiting) (name payload handles : List ℕ) (address : Option Address) (r : Reply)
    → IsFolded core cs → IsAddressed core.sessions w.operation.op → w.shard ≡ judging_shard (shape_of core).shards core.sessions w.operation.op
    → w.operation.op ≡ op.Write name payload handles address
    → ((view_for w.shard w.operation.op core).present ≡ Some (wanted_number w.operation.stage) → HasBytes (block_at (store_with cs core.sessions) (given_address address)) bytes)
    → bytes_step (view_for w.shard w.operation.op core) bytes (pointers_for w.shard w.operation.op core) w.operation ≡ Answer r
    → IsJudged cs core (take_step line w (Answer r) core) line w.operation.op
writes_true by_view by_bytes by_collision cs core line bytes w name payload handles address r folded addressed place is true_bytes e =
    told_is cs core line (record w { operation = after_step (Answer r) w.operation }) r folded
    (subst (λ o. Shows core.limits s o (view_for w.shard o core) → ((a : Address) → looks_at s o ≡ Some a → pointers_for w.shard o core ≡ pointers_at s a)
    → ((view_for w.shard o core).present ≡ Some (wanted_number w.operation.stage) → HasBytes (block_at s (given_address address)) bytes)
    → on_bytes (view_for w.shard o core) w.operation.line (record { number = wanted_number w.operation.stage; bytes = bytes; pointers = pointers_for w.shard o core }) o ≡ Answer r
    → Judges core.limits s o (view_for w.shard o core) (pointers_for w.shard o core) r) (sym is)
    (λ shows alike true f. write_judged by_view by_bytes by_collision core.limits s (view_for w.shard (op.Write name payload handles address) core) (pointers_for w.shard (op.Write name payload handles address) core) w.operation.line (wanted_number w.operation.stage) bytes name payload handles address r shows alike true f)
    (shows_at by_view by_bytes cs core w.shard w.operation.op folded addressed place) (pointers_at_shard by_view by_bytes cs core w.shard w.operation.op folded addressed place) true_bytes e)
  where
    s : Store
    s = store_with cs core.sessions

-- and where its next step answers it
pub goes_on : ByTheView → ByTheBytes → (cs : List Folded) (core : Core) (line : ℕ) (w : Waiting) (r : Reply) → IsFolded core cs → IsAddressed core.sessions w.operation.op
    → w.shard ≡ judging_shard (shape_of core).shards core.sessions w.operation.op → go_step (view_for w.shard w.operation.op core) w.operation ≡ Answer r
    → IsJudged cs core (take_step line w (Answer r) core) line w.operation.op
goes_on by_view by_bytes cs core line w r folded addressed place e =
    sees_is by_view by_bytes cs core line (record w { operation = after_step (Answer r) w.operation }) r folded addressed place (step_sees (view_for w.shard w.operation.op core) w.operation r e)

-- a read that is told bytes
pub reads_data : ByTheView → ByTheBytes → (cs : List Folded) (core : Core) (line : ℕ) (bytes : Option (List ℕ)) (w : Waiting) (name : List ℕ) (handle : ℕ) (r : Reply) → IsFolded core cs → IsAddressed core.sessions w.operation.op
    → w.shard ≡ judging_shard (shape_of core).shards core.sessions w.operation.op → w.operation.op ≡ op.Read name handle
    → bytes_step (view_for w.shard w.operation.op core) bytes (pointers_for w.shard w.operation.op core) w.operation ≡ Answer r
    → IsTold cs core (take_step line w (Answer r) core) line (telling (data_of bytes) (judged_at cs core w.operation.op))
reads_data by_view by_bytes cs core line bytes w name handle r folded addressed place is e =
    data_is by_view by_bytes cs core line (wanted_number w.operation.stage) bytes (record w { operation = after_step (Answer r) w.operation }) name handle r folded addressed place is e

-- where they are those of its block
pub reads_true : ByTheView → ByTheBytes → (cs : List Folded) (core : Core) (line : ℕ) (bytes : Option (List ℕ)) (w : Waiting) (name : List ℕ) (handle : ℕ) (r : Reply) → IsFolded core cs → IsAddressed core.sessions w.operation.op
    → w.shard ≡ judging_shard (shape_of core).shards core.sessions w.operation.op → w.operation.op ≡ op.Read name handle
    → HasBytes (block_at (store_with cs core.sessions) (address_of (store_with cs core.sessions) name handle)) bytes
    → bytes_step (view_for w.shard w.operation.op core) bytes (pointers_for w.shard w.operation.op core) w.operation ≡ Answer r
    → IsJudged cs core (take_step line w (Answer r) core) line w.operation.op
reads_true by_view by_bytes cs core line bytes w name handle r folded addressed place is true e = record {
  told = its.told ∙ ap (λ (q : Reply). core.entries ++ entry_of line core.moment (record (judged_at cs core w.operation.op) { reply = q }) ∷ []) content;
  left = its.left;
  folded = its.folded;
}
  where
    its : IsTold cs core (take_step line w (Answer r) core) line (telling (data_of bytes) (judged_at cs core w.operation.op))
    its = reads_data by_view by_bytes cs core line bytes w name handle r folded addressed place is e

    s : Store
    s = store_with cs core.sessions

    content : with_data (data_of bytes) (judged_at cs core w.operation.op).reply ≡ (judged_at cs core w.operation.op).reply
    content =
        ap (λ d. with_data d (judged_at cs core w.operation.op).reply) (true_data (block_at s (address_of s name handle)) bytes true)
        ∙ subst (λ o. with_data (bytes_of (block_at s (address_of s name handle))) (judged_at cs core o).reply ≡ (judged_at cs core o).reply) (sym is) (true_reply core.limits s name handle)

-- ---- at its own line

-- what is pending is no matter to the judge
judged_alike : (v : OpView) (o : Op) (p : Bool) → judged_in (record v { pending = p }) o ≡ judged_in v o
unfolding judged_in refusals_of
judged_alike v (op.Open name) p = refl
judged_alike v (op.Close name) p = refl
judged_alike v (op.Write name payload handles address) p = refl
judged_alike v (op.Read name handle) p = refl
judged_alike v (op.Look name key) p = refl
judged_alike v (op.Root name key handle) p = refl
judged_alike v (op.Drop key) p = refl
judged_alike v (op.Forget name handle) p = refl
judged_alike v (op.Name name handle) p = refl
judged_alike v op.Delete p = refl
judged_alike v op.Stat p = refl

-- nor is it where the step answers
sees_alike : (v : OpView) (o : Op) (p : Bool) (r : Reply) → Sees v o r → Sees (record v { pending = p }) o r
sees_alike v o p r (inl e) = inl (judged_alike v o p ∙ e)
sees_alike v o p r (inr gone) = inr (record { name = gone.name; handle = gone.handle; is = gone.is; free = judged_alike v o p ∙ gone.free; gone = gone.gone; told = gone.told })

judged_opening : (v : OpView) (busy : Option ℕ) (name : List ℕ) → judged_in (record v { busy = busy }) (op.Open name) ≡ judged_in (record v { busy = None }) (op.Open name)
unfolding judged_in refusals_of
judged_opening v busy name = refl

-- it sees what it would see if its session had no other operation
pub free_sees : (v : OpView) (busy : Option ℕ) (o : Op) (core : Core) (r : Reply) → busy_with o core ≡ None → busy ≡ busy_line o core → Sees (record v { busy = busy }) o r → Sees (record v { busy = None }) o r
free_sees v busy o core r free is sees = elim (opens_or_free o free) [
  | inl none ↦ subst (λ b. Sees (record v { busy = b }) o r) (is ∙ none) sees
  | inr opens ↦
      subst (λ q. Sees (record v { busy = None }) q r) (sym opens.1)
      (opening opens.0 (subst (λ q. Sees (record v { busy = busy }) q r) opens.1 sees))
]
  where
    opens_or_free : (q : Op) → busy_with q core ≡ None → (busy_line q core ≡ None) ⊎ ((name : List ℕ) × (q ≡ op.Open name))
    opens_or_free (op.Open name) e = inr (name, refl)
    opens_or_free (op.Close name) e = inl e
    opens_or_free (op.Write name payload handles address) e = inl e
    opens_or_free (op.Read name handle) e = inl e
    opens_or_free (op.Look name key) e = inl e
    opens_or_free (op.Root name key handle) e = inl e
    opens_or_free (op.Drop key) e = inl e
    opens_or_free (op.Forget name handle) e = inl e
    opens_or_free (op.Name name handle) e = inl e
    opens_or_free op.Delete e = inl e
    opens_or_free op.Stat e = inl e

    opening : (name : List ℕ) → Sees (record v { busy = busy }) (op.Open name) r → Sees (record v { busy = None }) (op.Open name) r
    opening name (inl e) = inl (sym (judged_opening v busy name) ∙ e)
    opening name (inr gone) = let f : op.Open name ≡ op.Read gone.name gone.handle = gone.is in absurd (cc f)

some_name : (a b : List ℕ) → Some a ≡ Some b → a ≡ b
some_name a b e = cc e

-- a busy session is told before all else, where it is open
busy_first : (v : OpView) (name : List ℕ) (other : ℕ) (rest : List (Option Reply)) → IsSome (seat_of name v.seats) → v.busy ≡ Some other
    → first (not_open v name ∷ is_busy v ∷ rest) ≡ Some (reply.Busy other)
busy_first v name other rest some e = ap (λ (b : Option ℕ). first (not_open v name ∷ option_map (λ line. reply.Busy line) b ∷ rest)) e ∙ go (seat_of name v.seats) some
  where
    go : (seat : Option Seat) → IsSome seat → first (refused_when (is_none (option_map as_session seat)) (reply.NoSession name) ∷ Some (reply.Busy other) ∷ rest) ≡ Some (reply.Busy other)
    go None some = cc some
    go (Some seat) some = refl

refused_at_once : (v : OpView) (o : Op) (r : Reply) → refusal_of v o ≡ Some r → judged_in v o ≡ Some r
unfolding judged_in
refused_at_once v o r e = ap (λ (x : Option Reply). option_or x (at_once v o)) e

busy_refusal : (v : OpView) (o : Op) (name : List ℕ) (other : ℕ) → session_of (Some o) ≡ Some name → (IsOpen (Some o) → ⊥) → IsSome (seat_of name v.seats) → v.busy ≡ Some other
    → refusal_of v o ≡ Some (reply.Busy other)
unfolding refusals_of
busy_refusal v (op.Open n) name other asks apart some e = absurd (apart tt)
busy_refusal v (op.Close n) name other asks apart some e = busy_first v n other _ (subst (λ k. IsSome (seat_of k v.seats)) (sym (some_name n name asks)) some) e
busy_refusal v (op.Write n payload handles address) name other asks apart some e = busy_first v n other _ (subst (λ k. IsSome (seat_of k v.seats)) (sym (some_name n name asks)) some) e
busy_refusal v (op.Read n handle) name other asks apart some e = busy_first v n other _ (subst (λ k. IsSome (seat_of k v.seats)) (sym (some_name n name asks)) some) e
busy_refusal v (op.Look n key) name other asks apart some e = busy_first v n other _ (subst (λ k. IsSome (seat_of k v.seats)) (sym (some_name n name asks)) some) e
busy_refusal v (op.Root n key handle) name other asks apart some e = busy_first v n other _ (subst (λ k. IsSome (seat_of k v.seats)) (sym (some_name n name asks)) some) e
busy_refusal v (op.Drop key) name other asks apart some e = cc asks
busy_refusal v (op.Forget n handle) name other asks apart some e = busy_first v n other _ (subst (λ k. IsSome (seat_of k v.seats)) (sym (some_name n name asks)) some) e
busy_refusal v (op.Name n handle) name other asks apart some e = busy_first v n other _ (subst (λ k. IsSome (seat_of k v.seats)) (sym (some_name n name asks)) some) e
busy_refusal v op.Delete name other asks apart some e = cc asks
busy_refusal v op.Stat name other asks apart some e = cc asks

busy_judged : (v : OpView) (o : Op) (name : List ℕ) (other : ℕ) → session_of (Some o) ≡ Some name → (IsOpen (Some o) → ⊥) → IsSome (seat_of name v.seats) → v.busy ≡ Some other
    → judged_in v o ≡ Some (reply.Busy other)
busy_judged v o name other asks apart some e = refused_at_once v o (reply.Busy other) (busy_refusal v o name other asks apart some e)

module _ (cs : List Folded) (core : Core) (line : ℕ) (o : Op) where
  abbrev g : ℕ
  g = judging_shard (shape_of core).shards core.sessions o

  abbrev begun : Core
  begun = record core { progress = record core.progress { last_line = line } }

  abbrev w : Waiting
  w = record { operation = new_operation line o; shard = g; wait = wait.View }

  abbrev with_it : Core
  with_it = add_operation line w begun

  -- it is answered where its first step answers it
  begins : (r : Reply) → first_step line o core ≡ Answer r
      → begin_line line o core ≡ answer line (record w { operation = after_step (Answer r) w.operation }) r with_it
  begins r e = ap (λ (step : OpStep). take_step line w step with_it) e

  there : IsFolded core cs → IsFolded with_it cs
  there folded = record { valid = folded.valid; shards = folded.shards; own = folded.own; catalogues = folded.catalogues }

  pub at_its_line : ByTheView → ByTheBytes → (r : Reply) → IsFolded core cs → IsAsked (store_with cs core.sessions) o → busy_with o core ≡ None → first_step line o core ≡ Answer r
      → IsJudged cs core (begin_line line o core) line o
  at_its_line by_view by_bytes r folded asked free e = subst (λ after. IsJudged cs core after line o) (sym (begins r e)) (record { told = its.told; left = its.left; folded = its.folded })
    where
      sees : Sees (view_for g o with_it) o r
      sees =
          sees_alike (view_for g o begun) o (is_pending g o with_it) r
          (free_sees (view_for g o begun) (busy_line o core) o core r free refl (step_sees (record (view_for g o begun) { busy = busy_line o core }) w.operation r e))

      its : IsJudged cs with_it (answer line (record w { operation = after_step (Answer r) w.operation }) r with_it) line o
      its = asked_is by_view by_bytes cs with_it line (record w { operation = after_step (Answer r) w.operation }) r (there folded) asked refl sees

  -- where what it sees alone answers, that is its first step
  pub judged_begins : (r : Reply) → busy_line o core ≡ None → judged_in (view_for g o core) o ≡ Some r → first_step line o core ≡ Answer r
  unfolding begin
  judged_begins r free e =
      ap (λ (x : Option Reply). option_map_or Answer x (go (record (view_for g o begun) { busy = busy_line o core }) line o))
      (ap (λ (b : Option ℕ). judged_in (record (view_for g o begun) { busy = b }) o) free ∙ judged_alike (view_for g o core) o (is_pending g o begun) ∙ e)

  pub busy_step : (other : ℕ) (name : List ℕ) → session_of (Some o) ≡ Some name → (IsOpen (Some o) → ⊥) → IsSome (seat_of name core.sessions) → busy_line o core ≡ Some other
      → first_step line o core ≡ Answer (reply.Busy other)
  unfolding begin
  busy_step other name asks apart some e =
      ap (λ (x : Option Reply). option_map_or Answer x (go (record (view_for g o begun) { busy = busy_line o core }) line o))
      (busy_judged (record (view_for g o begun) { busy = busy_line o core }) o name other asks apart some e)

  pub busy_here : (other : ℕ) (name : List ℕ) → session_of (Some o) ≡ Some name → (IsOpen (Some o) → ⊥) → IsSome (seat_of name core.sessions) → busy_line o core ≡ Some other
      → IsBusy core (begin_line line o core) line other o
  unfolding deed_of seats_after
  busy_here other name asks apart some e =
      subst (λ after. IsBusy core after line other o)
      (sym (begins (reply.Busy other) (busy_step other name asks apart some e)))
      (record { told = refl; sessions = refl; catalogues = refl })

pub busy_at_its_line : (core : Core) (line other : ℕ) (o : Op) (name : List ℕ) → session_of (Some o) ≡ Some name → (IsOpen (Some o) → ⊥) → IsSome (seat_of name core.sessions) → busy_line o core ≡ Some other
    → IsBusy core (begin_line line o core) line other o
busy_at_its_line core line other o name asks apart some e = busy_here [] core line o other name asks apart some e

pub begun_answer : ByTheView → ByTheBytes → (cs : List Folded) (core : Core) (line : ℕ) (o : Op) (r : Reply) → IsFolded core cs → IsAddressed core.sessions o → busy_line o core ≡ None
    → judged_in (view_for (judging_shard (shape_of core).shards core.sessions o) o core) o ≡ Some r → IsJudged cs core (begin_line line o core) line o
begun_answer by_view by_bytes cs core line o r folded addressed free e =
    at_its_line cs core line o by_view by_bytes r folded (asked_from_address (store_with cs core.sessions) core.sessions o addressed) (not_busy_with o free) (judged_begins cs core line o r free e)
  where
    not_busy_with : (q : Op) → busy_line q core ≡ None → busy_with q core ≡ None
    not_busy_with (op.Open name) h = refl
    not_busy_with (op.Close name) h = h
    not_busy_with (op.Write name payload handles address) h = h
    not_busy_with (op.Read name handle) h = h
    not_busy_with (op.Look name key) h = h
    not_busy_with (op.Root name key handle) h = h
    not_busy_with (op.Drop key) h = h
    not_busy_with (op.Forget name handle) h = h
    not_busy_with (op.Name name handle) h = h
    not_busy_with op.Delete h = h
    not_busy_with op.Stat h = h
