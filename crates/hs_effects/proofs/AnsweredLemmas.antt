-- An operation that is answered by the effect of its entry, whatever its kind.
use Rattle.std.proofs.Common.{◌≡◌, ◌∙◌, sym, ap, subst, ℕ, Bool, true, false, not, List, [], ◌∷◌, ◌++◌, Option, Some, None, refl}
use Rattle.std.proofs.lemmas.Bool.{false≢true}
use Rattle.std.specs.Option.{option_map_or}
use Rattle.hs_answered.specs.Judged.{entry_of, judged_at}
use Rattle.hs_answered.specs.Standing.{IsFolded, store_with}
use Rattle.hs_answered.proofs.AnswerLemmas.{judge_granted, judge_refused, store_refusal_stops}
use Rattle.hs_awaiting.specs.declared.waiting.Waiting.{Waiting}
use Rattle.hs_awaiting.specs.Words.{change_with}
use Rattle.hs_core_words.specs.Effects.{tell_operation}
use Rattle.hs_core_words.specs.Looking.{operation_of}
use Rattle.hs_core_words.specs.Operating.{answer, take_step}
use Rattle.hs_core_words.specs.Seeing.{pointers_for, view_for}
use Rattle.hs_core_words.specs.State.{Core}
use Rattle.hs_desk.specs.declared.what.What.{What}
use Rattle.hs_effects.specs.Answered.{HasAnswer, IsAnsweredBy, heard}
use Rattle.hs_effects.specs.Logged.{asked_by}
use Rattle.hs_effects.specs.Taking.{done_by, taken}
use Rattle.hs_effects.proofs.FoldLemmas.{quiet_folds}
use Rattle.hs_effects.proofs.QuietLemmas.{behind_quiet}
use Rattle.hs_effects.proofs.RefusedLemmas.{heard_by}
use Rattle.hs_entry.specs.declared.entry.Entry.{Entry}
use Rattle.hs_fold.specs.Runs.Facts.{Catalogue as Folded}
use Rattle.hs_journal.specs.declared.entry.Who.TheVariants as who
use Rattle.hs_limits.specs.declared.limits.Limits.{Limits}
use Rattle.hs_model.specs.declared.op.Op.{Op}
use Rattle.hs_model.specs.declared.reply.Reply.{Reply}
use Rattle.hs_model.specs.Judge.{Judged, granted, judge, refusals}
use Rattle.hs_model.specs.Refusals.{first}
use Rattle.hs_model.specs.Store.{Store}
use Rattle.hs_ops.specs.declared.step.OpStep.TheVariants as step
use Rattle.hs_ops.specs.Answers.{deed_of, gained, is_done, seats_after}
use Rattle.hs_ops.specs.Going.{effect_reply, go, on_effect}
use Rattle.hs_ops.specs.Operations.{after_step, effect_step}
use Rattle.hs_ops.specs.Views.{OpView}
use Rattle.hs_tokens.specs.Seats.{Seats}

-- ---- plain facts

pub some_same : {A : Type 0} (x y : A) → Some x ≡ Some y → x ≡ y
some_same x y e = cc e

pub not_full : (b : Bool) → true ≡ not b → b ≡ false
not_full false e = refl
not_full true e = absurd (cc e)

-- ---- the judge

-- what is answered as done was not refused, and so granted
pub none_refused : (limits : Limits) (s : Store) (o : Op) → is_done (judge limits s o).reply ≡ true → first (refusals limits s o) ≡ None
none_refused limits s o done = by_first (first (refusals limits s o)) refl
  where
    by_first : (x : Option Reply) → first (refusals limits s o) ≡ x → first (refusals limits s o) ≡ None
    by_first None f = f
    by_first (Some q) f =
        absurd (false≢true (sym (store_refusal_stops limits s o q f) ∙ ap (λ (j : Judged). is_done j.reply) (sym (judge_refused limits s o q f)) ∙ done))

pub granted_is : (limits : Limits) (s : Store) (o : Op) → is_done (judge limits s o).reply ≡ true → judge limits s o ≡ granted s o
granted_is limits s o done = judge_granted limits s o (none_refused limits s o done)

-- ---- the answer

answered_step : (v : OpView) (line : ℕ) (did : What) (o : Op) (r : Reply) → effect_reply v did o ≡ Some r → on_effect v line did o ≡ step.Answer r
unfolding on_effect
answered_step v line did o r e = ap (λ (x : Option Reply). option_map_or step.Answer x (go v line o)) e

-- the sessions behind an answer in a shard's view
abbrev pub seats_behind : ℕ → Op → Reply → Core → Seats
seats_behind shard o r c = seats_after (gained (view_for shard o c) (pointers_for shard o c) o) o r c.sessions

answer_entries : (line : ℕ) (w : Waiting) (r : Reply) (o : Op) (c : Core) → w.operation.op ≡ o
    → (answer line w r c).entries ≡ c.entries ++ record { who = who.Line line; moment = c.moment; deed = deed_of c.sessions o r; reply = r } ∷ []
answer_entries line w r o c is = ap (λ p. c.entries ++ record { who = who.Line line; moment = c.moment; deed = deed_of c.sessions p r; reply = r } ∷ []) is

answer_seats : (line : ℕ) (w : Waiting) (r : Reply) (shard : ℕ) (o : Op) (c : Core) → w.shard ≡ shard → w.operation.op ≡ o
    → (answer line w r c).sessions ≡ seats_behind shard o r c
answer_seats line w r shard o c at is = ap (λ k. seats_behind k w.operation.op r c) at ∙ ap (λ p. seats_behind shard p r c) is

module _ (core : Core) (shard line : ℕ) (entry : Entry) (w : Waiting) (o : Op) (did : What) (r : Reply) where
  abbrev here : Core
  here = taken shard entry core

  heard_is : asked_by entry ≡ Some line → operation_of line core ≡ Some w → w.shard ≡ shard → w.operation.op ≡ o → (done_by shard entry core).effect.what ≡ did
      → effect_reply (view_for shard o here) did o ≡ Some r → heard shard entry core ≡ answer line (record w { operation = after_step (step.Answer r) w.operation }) r here
  heard_is by at judges is does e =
      heard_by shard line entry (done_by shard entry core).effect here w by at
      ∙ ap (λ x. tell_operation line x here) does
      ∙ ap (λ (x : Option Waiting). change_with x (λ u. take_step line u (effect_step (view_for u.shard u.operation.op here) did u.operation)) here) at
      ∙ ap (λ s. take_step line w s here) (answered_step (view_for w.shard w.operation.op here) w.operation.line did w.operation.op r
      (ap (λ k. effect_reply (view_for k w.operation.op here) did w.operation.op) judges ∙ ap (λ p. effect_reply (view_for shard p here) did p) is ∙ e))

  -- it is the judge's, where its reply, its deed and its sessions are
  pub by_parts : (cs behind : List Folded) → asked_by entry ≡ Some line → operation_of line core ≡ Some w → w.shard ≡ shard → w.operation.op ≡ o → (done_by shard entry core).effect.what ≡ did
      → effect_reply (view_for shard o here) did o ≡ Some r → IsFolded here behind → (j : Judged) → judged_at cs core o ≡ j → r ≡ j.reply → deed_of core.sessions o r ≡ j.deed
      → store_with behind (seats_behind shard o r here) ≡ j.store → IsAnsweredBy cs behind core (heard shard entry core) line o
  by_parts cs behind by at judges is does e folded j says replies deeds leaves = record {
    told =
        ap (λ (c : Core). c.entries) told ∙ answer_entries line after r o here is
        ∙ ap (λ d. core.entries ++ record { who = who.Line line; moment = core.moment; deed = d; reply = r } ∷ []) deeds
        ∙ ap (λ q. core.entries ++ record { who = who.Line line; moment = core.moment; deed = j.deed; reply = q } ∷ []) replies
        ∙ ap (λ (x : Judged). core.entries ++ entry_of line core.moment x ∷ []) (sym says);
    left =
        ap (λ (c : Core). store_with behind c.sessions) told
        ∙ ap (λ seats. store_with behind seats) (answer_seats line after r shard o here judges is)
        ∙ leaves ∙ ap (λ (x : Judged). x.store) (sym says);
    folded = quiet_folds here (heard shard entry core) behind (behind_quiet shard entry (done_by shard entry core).effect here) folded;
  }
    where
      after : Waiting
      after = record w { operation = after_step (step.Answer r) w.operation }

      told : heard shard entry core ≡ answer line (record w { operation = after_step (step.Answer r) w.operation }) r here
      told = heard_is by at judges is does e

-- the operation of a line was answered so, whatever it was
pub has_answer : (cs behind : List Folded) (before after : Core) (line : ℕ) (w : Waiting) (o : Op) → operation_of line before ≡ Some w → w.operation.op ≡ o → IsAnsweredBy cs behind before after line o → HasAnswer cs behind before after line
has_answer cs behind before after line w o at is answered = record { waiting = w; at = at; answered = subst (λ (x : Op). IsAnsweredBy cs behind before after line x) (sym is) answered }
