-- A step that answers gives the reply of the plain store's judge, and leaves what he leaves.
use Rattle.std.proofs.Common.{◌≡◌, ◌⊎◌, inl, inr, ℕ, Bool, true, false, List, [], Option, Some, None, is_some, refl, sym, ap, ◌∙◌, subst}
use Rattle.std.specs.Option.{option_map_or, option_or}
use Rattle.std.specs.Prelude.{Result, if◌then◌else◌}
use Rattle.hs_answered.proofs.AnswerLemmas.{ByTheBytes, ByTheView, Leaves, judge_granted, judge_refused, leaves, read_leaves, refused_leaves, store_refusal_stops, view_refusal_stops}
use Rattle.hs_answered.proofs.EarlyLemmas.{IsEarly}
use Rattle.hs_answered.specs.Asked.{HasBytes}
use Rattle.hs_answered.specs.Judged.{with_data}
use Rattle.hs_entry.specs.declared.entry.Entry.{Entry}
use Rattle.hs_limits.specs.Block.{Block}
use Rattle.hs_limits.specs.declared.address.Address.{Address}
use Rattle.hs_limits.specs.declared.limits.Limits.{Limits}
use Rattle.hs_limits.specs.declared.spelling.SpellingFault.{SpellingFault}
use Rattle.hs_model.specs.declared.op.Op.{Op}
use Rattle.hs_model.specs.declared.op.Op.TheVariants as op
use Rattle.hs_model.specs.declared.reply.Reply.{Reply}
use Rattle.hs_model.specs.declared.reply.Reply.TheVariants as reply
use Rattle.hs_model.specs.declared.store.StoredBlock.{StoredBlock}
use Rattle.hs_model.specs.Hollow.{looks_at}
use Rattle.hs_model.specs.Judge.{Judged, address_of, bytes_of, granted, judge, pointers_at, refusals}
use Rattle.hs_model.specs.Refusals.{first}
use Rattle.hs_model.specs.Store.{Store, block_at}
use Rattle.hs_ops.specs.declared.operation.Stage.{Stage}
use Rattle.hs_ops.specs.declared.operation.Stage.TheVariants.{New, Waiting, Reading, Logged}
use Rattle.hs_ops.specs.declared.step.OpStep.{OpStep}
use Rattle.hs_ops.specs.declared.step.OpStep.TheVariants.{Answer, Wait}
use Rattle.hs_ops.specs.Answers.{is_done}
use Rattle.hs_ops.specs.Going.{asked_for, at_once, begin, compared, data_in, data_of, go, judged_in, on_bytes, propose_unless, read_or, read_reply}
use Rattle.hs_ops.specs.Operations.{Operation, go_from, go_step}
use Rattle.hs_ops.specs.Refusals.{refusal_of}
use Rattle.hs_ops.specs.Views.{OpView}
use Rattle.hs_shown.specs.Showing.{Shows, as_sessions}

-- the reply and what it leaves are the judge's
pub record Judges (limits : Limits) (s : Store) (o : Op) (v : OpView) (pointers : List Address) (r : Reply) : Type 0 where
  pub reply : (judge limits s o).reply ≡ r
  pub leaves : Leaves s o v pointers r (judge limits s o)

-- ---- which steps answer

-- a read of a block that is gone
pub record IsGone (v : OpView) (o : Op) (r : Reply) : Type 0 where
  pub name : List ℕ
  pub handle : ℕ
  pub is : o ≡ op.Read name handle
  pub free : judged_in v o ≡ None
  pub gone : v.present ≡ None
  pub told : r ≡ read_reply v name []

-- what is seen alone answers, or the block of a read is gone
abbrev pub Sees : OpView → Op → Reply → Type 0
Sees v o r = (judged_in v o ≡ Some r) ⊎ IsGone v o r

answer_is : (q r : Reply) → Answer q ≡ Answer r → q ≡ r
answer_is q r e = cc e

pub split_step : (x : Option Reply) (s : OpStep) (r : Reply) → option_map_or Answer x s ≡ Answer r → (x ≡ Some r) ⊎ ((x ≡ None) × (s ≡ Answer r))
split_step None s r e = inr (refl, e)
split_step (Some q) s r e = inl (ap (λ x. Some x) (answer_is q r e))

if_viewed : (b : Bool) (s : OpStep) (r : Reply) → (if b then s else Wait) ≡ Answer r → s ≡ Answer r
if_viewed true s r e = e
if_viewed false s r e = cc e

never_writes : (p : Option ℕ) (b : Bool) (entry : Entry) (r : Reply) → read_or (propose_unless b entry) p ≡ Answer r → ⊥
never_writes None true entry r e = cc e
never_writes None false entry r e = cc e
never_writes (Some number) b entry r e = cc e

never_roots : (b : Bool) (entry : Entry) (r : Reply) → propose_unless b entry ≡ Answer r → ⊥
never_roots true entry r e = cc e
never_roots false entry r e = cc e

reads_gone : (p : Option ℕ) (q r : Reply) → read_or (Answer q) p ≡ Answer r → (p ≡ None) × (r ≡ q)
reads_gone None q r e = (refl, sym (answer_is q r e))
reads_gone (Some number) q r e = cc e

asked_sees : (v : OpView) (line : ℕ) (o : Op) (r : Reply) → judged_in v o ≡ None → asked_for v line o ≡ Answer r → IsGone v o r
unfolding asked_for
asked_sees v line (op.Open name) r free e = cc e
asked_sees v line (op.Close name) r free e = cc e
asked_sees v line (op.Write name payload handles address) r free e = absurd (never_writes v.present v.pending _ r e)
asked_sees v line (op.Read name handle) r free e =
    let it = reads_gone v.present (read_reply v name []) r e in
    record { name = name; handle = handle; is = refl; free = free; gone = it.0; told = it.1 }
asked_sees v line (op.Look name key) r free e = cc e
asked_sees v line (op.Root name key handle) r free e = absurd (never_roots v.pending _ r e)
asked_sees v line (op.Drop key) r free e = cc e
asked_sees v line (op.Forget name handle) r free e = cc e
asked_sees v line (op.Name name handle) r free e = cc e
asked_sees v line op.Delete r free e = cc e
asked_sees v line op.Stat r free e = cc e

pub go_sees : (v : OpView) (line : ℕ) (o : Op) (r : Reply) → go v line o ≡ Answer r → Sees v o r
unfolding go
go_sees v line o r e =
    elim (split_step (judged_in v o) (asked_for v line o) r (if_viewed v.viewed (option_map_or Answer (judged_in v o) (asked_for v line o)) r e)) [ inl h ↦ inl h | inr h ↦ inr (asked_sees v line o r h.0 h.1) ]

pub begin_sees : (v : OpView) (line : ℕ) (o : Op) (r : Reply) → begin v line o ≡ Answer r → Sees v o r
unfolding begin
begin_sees v line o r e = elim (split_step (judged_in v o) (go v line o) r e) [ inl h ↦ inl h | inr h ↦ go_sees v line o r h.1 ]

pub step_sees : (v : OpView) (operation : Operation) (r : Reply) → go_step v operation ≡ Answer r → Sees v operation.op r
step_sees v operation r e = from operation.stage e
  where
    from : (stage : Stage) → go_from stage v operation.line operation.op ≡ Answer r → Sees v operation.op r
    from New f = begin_sees v operation.line operation.op r f
    from Waiting f = go_sees v operation.line operation.op r f
    from (Reading number) f = go_sees v operation.line operation.op r f
    from Logged f = go_sees v operation.line operation.op r f

-- ---- what they answer

not_refused : (v : OpView) (o : Op) → judged_in v o ≡ None → refusal_of v o ≡ None
unfolding judged_in
not_refused v o e = go (refusal_of v o) e
  where
    go : (x : Option Reply) → option_or x (at_once v o) ≡ None → x ≡ None
    go None f = refl
    go (Some q) f = cc f

pub refused_at_once : (v : OpView) (o : Op) (q : Reply) → refusal_of v o ≡ Some q → judged_in v o ≡ Some q
unfolding judged_in
refused_at_once v o q e = ap (λ (x : Option Reply). option_or x (at_once v o)) e

no_block : (p : Option ℕ) (block : Option StoredBlock) → p ≡ None → is_some p ≡ is_some block → block ≡ None
no_block p None e same = refl
no_block p (Some stored) e same = let f : is_some p ≡ false = ap (λ (x : Option ℕ). is_some x) e in cc (f, same)

-- a refusal tells no data
no_data : (content : List ℕ) (r : Reply) → is_done r ≡ false → r ≡ with_data content r
no_data content (reply.Bytes bytes handles) e = cc e
no_data content other e = refl

module _ (by_view : ByTheView) (by_bytes : ByTheBytes) (limits : Limits) (s : Store) (v : OpView) (pointers : List Address) where
  read_judged : (name : List ℕ) (handle : ℕ) (bytes : List ℕ) → Shows limits s (op.Read name handle) v → pointers ≡ pointers_at s (address_of s name handle)
      → refusal_of v (op.Read name handle) ≡ None → bytes ≡ bytes_of (block_at s (address_of s name handle))
      → Judges limits s (op.Read name handle) v pointers (read_reply v name bytes)
  read_judged name handle bytes shows same free content = record {
    reply = sym (ap (λ b. read_reply v name b) content ∙ by_bytes limits s v name handle shows free);
    leaves = read_leaves limits s v pointers by_bytes name handle bytes shows same free;
  }

  pub sees_judged : (o : Op) (r : Reply) → Shows limits s o v → ((a : Address) → looks_at s o ≡ Some a → pointers ≡ pointers_at s a) → Sees v o r → Judges limits s o v pointers r
  sees_judged o r shows same (inl e) = record { reply = by_view limits s o v r shows e; leaves = leaves limits s v pointers by_view o r shows e }
  sees_judged o r shows same (inr gone) =
      subst (λ q. Shows limits s q v → ((a : Address) → looks_at s q ≡ Some a → pointers ≡ pointers_at s a) → judged_in v q ≡ None → Judges limits s q v pointers r) (sym gone.is)
      (λ shown alike free. subst (λ q. Judges limits s (op.Read gone.name gone.handle) v pointers q) (sym gone.told)
      (read_judged gone.name gone.handle [] shown (alike (address_of s gone.name gone.handle) refl) (not_refused v (op.Read gone.name gone.handle) free)
      (sym (ap (λ (block : Option StoredBlock). bytes_of block) (no_block v.present (block_at s (address_of s gone.name gone.handle)) gone.gone (shown.present (address_of s gone.name gone.handle) refl))))))
      shows same gone.free

  -- one without its address is refused, by the judge too
  pub early_judged : (o : Op) (r : Reply) (sessions : s.sessions ≡ as_sessions v.seats) (free : v.busy ≡ None) → IsEarly limits s v sessions free o → Sees v o r → Judges limits s o v pointers r
  early_judged o r sessions free early sees = go (first (refusals limits s o)) refl
    where
      go : (x : Option Reply) → first (refusals limits s o) ≡ x → Judges limits s o v pointers r
      go None e = let f : is_some (first (refusals limits s o)) ≡ false = ap (λ (x : Option Reply). is_some x) e in absurd (let g = early.some in cc (f, g))
      go (Some q) e = told (same sees)
        where
          stops : refusal_of v o ≡ Some q
          stops = early.alike ∙ e

          same : Sees v o r → q ≡ r
          same (inl h) = some_is (sym (refused_at_once v o q stops) ∙ h)
            where
              some_is : Some q ≡ Some r → q ≡ r
              some_is f = cc f
          same (inr gone) = let f : Some q ≡ None = sym (refused_at_once v o q stops) ∙ gone.free in absurd (cc f)

          replied : (judge limits s o).reply ≡ q
          replied = ap (λ (j : Judged). j.reply) (judge_refused limits s o q e)

          told : q ≡ r → Judges limits s o v pointers r
          told h = record { reply = replied ∙ h; leaves = refused_leaves limits s v pointers o r sessions (ap (λ x. is_done x) (sym h) ∙ view_refusal_stops v o q stops) (replied ∙ h) }

  -- ---- bytes that are told

  -- whatever bytes a read is told, it is answered as the judge says, but for the data
  pub data_judged : (line number : ℕ) (bytes : Option (List ℕ)) (name : List ℕ) (handle : ℕ) (r : Reply) → Shows limits s (op.Read name handle) v → pointers ≡ pointers_at s (address_of s name handle)
      → on_bytes v line (record { number = number; bytes = bytes; pointers = pointers }) (op.Read name handle) ≡ Answer r → (r ≡ with_data (data_of bytes) (judge limits s (op.Read name handle)).reply) × Leaves s (op.Read name handle) v pointers r (judge limits s (op.Read name handle))
  unfolding on_bytes compared
  data_judged line number bytes name handle r shows same e = go (split_step (refusal_of v o) (Answer (read_reply v name (data_of bytes))) r e)
    where
      o : Op
      o = op.Read name handle

      go : (refusal_of v o ≡ Some r) ⊎ ((refusal_of v o ≡ None) × (Answer (read_reply v name (data_of bytes)) ≡ Answer r))
          → (r ≡ with_data (data_of bytes) (judge limits s o).reply) × Leaves s o v pointers r (judge limits s o)
      go (inl h) = (no_data (data_of bytes) r (view_refusal_stops v o r h) ∙ ap (λ q. with_data (data_of bytes) q) (sym (by_view limits s o v r shows (refused_at_once v o r h))), leaves limits s v pointers by_view o r shows (refused_at_once v o r h))
      go (inr h) =
          let it : read_reply v name (data_of bytes) ≡ r = answer_is _ r h.1 in (
            sym it ∙ ap (λ q. with_data (data_of bytes) q) (by_bytes limits s v name handle shows h.0),
            subst (λ q. Leaves s o v pointers q (judge limits s o)) it (read_leaves limits s v pointers by_bytes name handle (data_of bytes) shows same h.0),
          )

-- the data of true bytes are the block's
pub true_data : (block : Option StoredBlock) (bytes : Option (List ℕ)) → HasBytes block bytes → data_of bytes ≡ bytes_of block
unfolding data_of
true_data None bytes h = ap (λ b. data_of b) h
true_data (Some stored) bytes h = ap (λ b. data_of b) h.0 ∙ ap (λ (read : Result Block SpellingFault). data_in read) h.1

-- with them the judge's reply stays as it is
pub true_reply : (limits : Limits) (s : Store) (name : List ℕ) (handle : ℕ) → with_data (bytes_of (block_at s (address_of s name handle))) (judge limits s (op.Read name handle)).reply ≡ (judge limits s (op.Read name handle)).reply
unfolding granted
true_reply limits s name handle = go (first (refusals limits s (op.Read name handle))) refl
  where
    go : (x : Option Reply) → first (refusals limits s (op.Read name handle)) ≡ x
        → with_data (bytes_of (block_at s (address_of s name handle))) (judge limits s (op.Read name handle)).reply ≡ (judge limits s (op.Read name handle)).reply
    go None e = subst (λ (j : Judged). with_data (bytes_of (block_at s (address_of s name handle))) j.reply ≡ j.reply) (sym (judge_granted limits s (op.Read name handle) e)) refl
    go (Some q) e =
        subst (λ (j : Judged). with_data (bytes_of (block_at s (address_of s name handle))) j.reply ≡ j.reply) (sym (judge_refused limits s (op.Read name handle) q e))
        (sym (no_data (bytes_of (block_at s (address_of s name handle))) q (store_refusal_stops limits s (op.Read name handle) q e)))
