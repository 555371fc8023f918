-- An operation that is told any bytes leaves the plain store valid.
use Rattle.std.proofs.Common.{◌≡◌, ◌∙◌, sym, ap, subst, ℕ, Bool, false, cond, List, Option, Some, None, refl}
use Rattle.std.specs.Option.{option_map_or}
use Rattle.hs_answered.proofs.AnswerLemmas.{view_refusal_stops}
use Rattle.hs_answered.specs.Judged.{IsTold, judged_at, telling}
use Rattle.hs_answered.specs.Standing.{IsAddressed, IsFolded, store_with}
use Rattle.hs_awaiting.specs.declared.waiting.Waiting.{Waiting}
use Rattle.hs_awaiting.specs.Words.{change_with}
use Rattle.hs_core_words.specs.Looking.{operation_of, shape_of}
use Rattle.hs_core_words.specs.Operating.{go_on_with, take_step}
use Rattle.hs_core_words.specs.Seeing.{pointers_for, view_for}
use Rattle.hs_core_words.specs.State.{Core}
use Rattle.hs_fold.specs.Runs.Facts.{Catalogue as Folded}
use Rattle.hs_laws.proofs.JudgeKeeps.{judge_valid}
use Rattle.hs_laws.proofs.ValidLemmas.{is_from_valid, valid_from_is}
use Rattle.hs_laws.specs.Valid.{IsValid}
use Rattle.hs_limits.specs.declared.address.Address.{Address}
use Rattle.hs_model.specs.declared.op.Op.{Op}
use Rattle.hs_model.specs.declared.op.Op.TheVariants as op
use Rattle.hs_model.specs.declared.reply.Reply.{Reply}
use Rattle.hs_model.specs.Store.{Store}
use Rattle.hs_ops.specs.Answers.{gained, is_done, seated, seats_after}
use Rattle.hs_ops.specs.declared.step.OpStep.{OpStep}
use Rattle.hs_ops.specs.declared.step.OpStep.TheVariants.{Answer, Compare, Propose, Wait}
use Rattle.hs_ops.specs.Going.{compared, data_of, on_bytes}
use Rattle.hs_ops.specs.Operations.{bytes_step, wanted_number}
use Rattle.hs_ops.specs.Refusals.{refusal_of}
use Rattle.hs_ops.specs.Speaking.{judging_shard}
use Rattle.hs_ops.specs.Views.{OpView}
use Rattle.hs_standing.proofs.AnswerLemmas.{bytes_stops}
use Rattle.hs_standing.proofs.MuteLemmas.{Stays, Words, step_stays}
use Rattle.hs_tokens.specs.Seats.{Seats}

-- what a read is told, whatever bytes these are, as hs_answered has it
abbrev pub ReadsAnyBytes : Type 0
ReadsAnyBytes =
    (cs : List Folded) (core : Core) (line : ℕ) (bytes : Option (List ℕ)) (w : Waiting) (name : List ℕ) (handle : ℕ) (r : Reply) → IsFolded core cs → IsAddressed core.sessions w.operation.op
    → w.shard ≡ judging_shard (shape_of core).shards core.sessions w.operation.op → w.operation.op ≡ op.Read name handle
    → bytes_step (view_for w.shard w.operation.op core) bytes (pointers_for w.shard w.operation.op core) w.operation ≡ Answer r
    → IsTold cs core (take_step line w (Answer r) core) line (telling (data_of bytes) (judged_at cs core w.operation.op))

same_answer : (q r : Reply) → Answer q ≡ Answer r → q ≡ r
same_answer q r e = cc e

never_answers : (r : Reply) → Wait ≡ Answer r → ⊥
never_answers r e = cc e

-- an answer that is none of what was done leaves the sessions
pub undone : (line : ℕ) (w : Waiting) (r : Reply) (core : Core) → is_done r ≡ false → (take_step line w (Answer r) core).sessions ≡ core.sessions
unfolding seats_after
undone line w r core e = ap (λ (b : Bool). cond b (seated (gained (view_for w.shard w.operation.op core) (pointers_for w.shard w.operation.op core) w.operation.op) w.operation.op core.sessions) core.sessions) e

module _ (reads : ReadsAnyBytes) (cs : List Folded) (core : Core) (folded : IsFolded core cs) (valid : IsValid (store_with cs core.sessions))
    (line : ℕ) (w : Waiting) (has : IsAddressed core.sessions w.operation.op) (place : w.shard ≡ judging_shard (shape_of core).shards core.sessions w.operation.op) where
  abbrev v : OpView
  v = view_for w.shard w.operation.op core

  abbrev pointers : List Address
  pointers = pointers_for w.shard w.operation.op core

  same_valid : (after : Core) → after.sessions ≡ core.sessions → IsValid (store_with cs after.sessions)
  same_valid after same = subst (λ (seats : Seats). IsValid (store_with cs seats)) (sym same) valid

  -- the store that the judge leaves is valid
  judged_valid : (after : Core) → store_with cs after.sessions ≡ (judged_at cs core w.operation.op).store → IsValid (store_with cs after.sessions)
  judged_valid after left =
      subst (λ (s : Store). IsValid s) (sym left)
      (is_from_valid (judged_at cs core w.operation.op).store (judge_valid core.limits (store_with cs core.sessions) (valid_from_is (store_with cs core.sessions) valid) w.operation.op))

  undone_valid : (r : Reply) → is_done r ≡ false → IsValid (store_with cs (take_step line w (Answer r) core).sessions)
  undone_valid r e = same_valid (take_step line w (Answer r) core) (undone line w r core e)

  module _ (bytes : Option (List ℕ)) where
    -- it is refused by what it sees, or compares
    by_refusal : (r : Reply) → (refusal_of v w.operation.op ≡ None → compared v w.operation.line (record { number = wanted_number w.operation.stage; bytes = bytes; pointers = pointers }) w.operation.op ≡ Answer r → IsValid (store_with cs (take_step line w (Answer r) core).sessions))
        → (x : Option Reply) → refusal_of v w.operation.op ≡ x
        → option_map_or Answer x (compared v w.operation.line (record { number = wanted_number w.operation.stage; bytes = bytes; pointers = pointers }) w.operation.op) ≡ Answer r → IsValid (store_with cs (take_step line w (Answer r) core).sessions)
    by_refusal r compares None free e = compares free e
    by_refusal r compares (Some q) stops e =
        undone_valid r (subst (λ (x : Reply). is_done x ≡ false) (same_answer q r e) (view_refusal_stops v w.operation.op q stops))

    -- what compares nothing is answered by a refusal alone
    others : (o : Op) (r : Reply) → w.operation.op ≡ o → ((u : OpView) (l n : ℕ) (bs : Option (List ℕ)) (ps : List Address) → compared u l (record { number = n; bytes = bs; pointers = ps }) o ≡ Wait) → bytes_step v bytes pointers w.operation ≡ Answer r
        → IsValid (store_with cs (take_step line w (Answer r) core).sessions)
    unfolding on_bytes
    others o r is none e =
        by_refusal r
        (λ free h. absurd (never_answers r (sym (ap (λ (p : Op). compared v w.operation.line (record { number = wanted_number w.operation.stage; bytes = bytes; pointers = pointers }) p) is ∙ none v w.operation.line (wanted_number w.operation.stage) bytes pointers) ∙ h)))
        (refusal_of v w.operation.op) refl e

    answer_valid : (o : Op) (r : Reply) → w.operation.op ≡ o → bytes_step v bytes pointers w.operation ≡ Answer r → IsValid (store_with cs (take_step line w (Answer r) core).sessions)
    unfolding compared
    answer_valid (op.Read name handle) r is e = judged_valid (take_step line w (Answer r) core) (reads cs core line bytes w name handle r folded has place is e).left
    answer_valid (op.Write name payload handles address) r is e =
        undone_valid r
        (bytes_stops v w.operation.line name payload handles address r (wanted_number w.operation.stage) bytes pointers
        (subst (λ (p : Op). on_bytes v w.operation.line (record { number = wanted_number w.operation.stage; bytes = bytes; pointers = pointers }) p ≡ Answer r) is e))
    answer_valid (op.Open name) r is e = others (op.Open name) r is (λ u l n bs ps. refl) e
    answer_valid (op.Close name) r is e = others (op.Close name) r is (λ u l n bs ps. refl) e
    answer_valid (op.Look name key) r is e = others (op.Look name key) r is (λ u l n bs ps. refl) e
    answer_valid (op.Root name key handle) r is e = others (op.Root name key handle) r is (λ u l n bs ps. refl) e
    answer_valid (op.Drop key) r is e = others (op.Drop key) r is (λ u l n bs ps. refl) e
    answer_valid (op.Forget name handle) r is e = others (op.Forget name handle) r is (λ u l n bs ps. refl) e
    answer_valid (op.Name name handle) r is e = others (op.Name name handle) r is (λ u l n bs ps. refl) e
    answer_valid op.Delete r is e = others op.Delete r is (λ u l n bs ps. refl) e
    answer_valid op.Stat r is e = others op.Stat r is (λ u l n bs ps. refl) e

    step_valid : (s : OpStep) → bytes_step v bytes pointers w.operation ≡ s → IsValid (store_with cs (take_step line w s core).sessions)
    step_valid s is = by_step s is
      where
        quietly : (t : OpStep) → ((r : Reply) → t ≡ Answer r → ⊥) → IsValid (store_with cs (take_step line w t core).sessions)
        quietly t never =
            let stays : Stays core (take_step line w t core) line w = step_stays line w t core never in
            same_valid (take_step line w t core) (ap (λ (x : Words). x.sessions) stays.words)

        by_step : (t : OpStep) → bytes_step v bytes pointers w.operation ≡ t → IsValid (store_with cs (take_step line w t core).sessions)
        by_step (Answer r) e = answer_valid w.operation.op r refl e
        by_step (Propose entry) e = quietly (Propose entry) (λ r h. cc h)
        by_step (Compare number) e = quietly (Compare number) (λ r h. cc h)
        by_step Wait e = quietly Wait (λ r h. cc h)

    pub told_valid : operation_of line core ≡ Some w → IsValid (store_with cs (go_on_with (λ u o. bytes_step u bytes (pointers_for w.shard w.operation.op core) o) line core).sessions)
    told_valid at =
        subst (λ (x : Option Waiting). IsValid (store_with cs (change_with x (λ y. take_step line y (bytes_step (view_for y.shard y.operation.op core) bytes (pointers_for w.shard w.operation.op core) y.operation)) core).sessions)) (sym at)
        (step_valid (bytes_step v bytes pointers w.operation) refl)
