-- An entry that is refused at its effect.
use Rattle.std.proofs.Common.{◌≡◌, ◌∙◌, sym, ap, subst, ℕ, ◌<◌, ◌==◌, Bool, true, false, cond, List, Option, Some, None, is_some}
use Rattle.std.specs.Option.{option_map_or, option_or}
use Rattle.hs_answered.specs.Judged.{IsJudged}
use Rattle.hs_answered.specs.Standing.{IsAddressed, IsFolded}
use Rattle.hs_awaiting.specs.declared.waiting.Waiting.{Waiting}
use Rattle.hs_awaiting.specs.Words.{change_with}
use Rattle.hs_core_words.specs.Effects.{after_entry, note_enter, tell_operation}
use Rattle.hs_core_words.specs.Looking.{group_of, operation_of, shape_of}
use Rattle.hs_core_words.specs.Operating.{answer, take_step}
use Rattle.hs_core_words.specs.Seeing.{view_for}
use Rattle.hs_core_words.specs.State.{Core}
use Rattle.hs_desk.specs.declared.what.What.TheVariants as what
use Rattle.hs_effects.specs.Answered.{heard}
use Rattle.hs_effects.specs.Logged.{IsOrderly, asked_by}
use Rattle.hs_effects.specs.Taking.{done_by, folds_behind, taken}
use Rattle.hs_effects.proofs.EffectLemmas.{committed_named}
use Rattle.hs_effects.proofs.FoldLemmas.{taken_folds}
use Rattle.hs_entry.specs.declared.entry.Entry.{Entry}
use Rattle.hs_entry.specs.declared.entry.Entry.TheVariants as kind
use Rattle.hs_fold.specs.Runs.Facts.{Catalogue as Folded}
use Rattle.hs_limits.specs.declared.address.Address.{Address}
use Rattle.hs_model.specs.declared.op.Op.{Op}
use Rattle.hs_model.specs.declared.reply.Reply.{Reply}
use Rattle.hs_ops.specs.declared.step.OpStep.TheVariants as step
use Rattle.hs_ops.specs.Going.{at_once, go, judged_in, on_effect}
use Rattle.hs_ops.specs.Operations.{after_step, effect_step}
use Rattle.hs_ops.specs.Refusals.{refusal_of}
use Rattle.hs_ops.specs.Speaking.{judging_shard}
use Rattle.hs_ops.specs.Views.{OpView}
use Rattle.hs_replica.specs.Group.{committed}
use Rattle.hs_shard.specs.declared.effect.Effect.{Effect}

-- what hs_answered says of an answer
abbrev pub ByTheJudge : Type 0
ByTheJudge = (cs : List Folded) (core : Core) (line : ℕ) (w : Waiting) (r : Reply) → IsFolded core cs → IsAddressed core.sessions w.operation.op
    → w.shard ≡ judging_shard (shape_of core).shards core.sessions w.operation.op → judged_in (view_for w.shard w.operation.op core) w.operation.op ≡ Some r
    → IsJudged cs core (answer line w r core) line w.operation.op

refused_by : (v : OpView) (o : Op) (r : Reply) → refusal_of v o ≡ Some r → judged_in v o ≡ Some r
unfolding judged_in
refused_by v o r e = ap (λ (x : Option Reply). option_or x (at_once v o)) e

refused_step : (v : OpView) (line : ℕ) (o : Op) (r : Reply) → refusal_of v o ≡ Some r → on_effect v line what.Refused o ≡ step.Answer r
unfolding on_effect
refused_step v line o r e = ap (λ (x : Option Reply). option_map_or step.Answer x (go v line o)) e

same_line : (l line : ℕ) → Some l ≡ Some line → l ≡ line
same_line l line e = cc e

-- the operation of an entry's line hears of it
pub heard_by : (shard line : ℕ) (entry : Entry) (effect : Effect) (c : Core) (w : Waiting) → asked_by entry ≡ Some line → operation_of line c ≡ Some w → after_entry shard entry effect c ≡ tell_operation line effect.what c
heard_by shard line (kind.Block l least bytes) effect c w by at = ap (λ k. tell_operation k effect.what c) (same_line l line by)
heard_by shard line (kind.Mark l least block a) effect c w by at = ap (λ k. tell_operation k effect.what c) (same_line l line by)
heard_by shard line (kind.Root l held a key) effect c w by at = ap (λ k. tell_operation k effect.what c) (same_line l line by)
heard_by shard line (kind.Drop l key) effect c w by at = ap (λ k. tell_operation k effect.what c) (same_line l line by)
heard_by shard line (kind.Enter l epoch) effect c w by at = by_line (l == 0) by
  where
    tells : l ≡ line → after_entry shard (kind.Enter l epoch) effect c ≡ tell_operation line effect.what c
    tells is =
        ap (λ k. cond (is_some (operation_of k c)) (tell_operation k effect.what c) (note_enter shard effect.what c)) is
        ∙ ap (λ (o : Option Waiting). cond (is_some o) (tell_operation line effect.what c) (note_enter shard effect.what c)) at

    by_line : (b : Bool) → cond b None (Some l) ≡ Some line → after_entry shard (kind.Enter l epoch) effect c ≡ tell_operation line effect.what c
    by_line true e = absurd (cc e)
    by_line false e = tells (same_line l line e)
heard_by shard line (kind.View view) effect c w by at = absurd (cc by)
heard_by shard line (kind.Got from epoch round total deltas) effect c w by at = absurd (cc by)
heard_by shard line (kind.Base view epoch swept round frames) effect c w by at = absurd (cc by)
heard_by shard line (kind.KeptBlock born mark flags count bytes) effect c w by at = absurd (cc by)
heard_by shard line (kind.KeptRoot created dropped counted address key) effect c w by at = absurd (cc by)
heard_by shard line (kind.KeptRound way other epoch round total deltas) effect c w by at = absurd (cc by)

pub refused_answer : ByTheJudge → (name : List ℕ → Address) (cs : List Folded) (core : Core) (shard number line : ℕ) (entry : Entry) (w : Waiting) (r : Reply) → IsFolded core cs → shard < (shape_of core).shards → IsOrderly name core
    → committed (group_of shard core) ≡ Some (number, entry) → asked_by entry ≡ Some line → operation_of line core ≡ Some w → (done_by shard entry core).effect.what ≡ what.Refused → IsAddressed core.sessions w.operation.op
    → refusal_of (view_for w.shard w.operation.op (taken shard entry core)) w.operation.op ≡ Some r
    → IsJudged (folds_behind name cs shard entry core) (taken shard entry core) (heard shard entry core) line w.operation.op
refused_answer law name cs core shard number line entry w r folded low order leads by at did addressed refuses =
    subst (λ (after : Core). IsJudged (folds_behind name cs shard entry core) here after line w.operation.op) (sym told)
    (law (folds_behind name cs shard entry core) here line (record w { operation = after_step (step.Answer r) w.operation }) r
    (taken_folds name cs core shard entry folded low (committed_named name core shard number entry order leads)) addressed
    (order.pending line w at).judges (refused_by (view_for w.shard w.operation.op here) w.operation.op r refuses))
  where
    here : Core
    here = taken shard entry core

    told : heard shard entry core ≡ answer line (record w { operation = after_step (step.Answer r) w.operation }) r (taken shard entry core)
    told =
        heard_by shard line entry (done_by shard entry core).effect (taken shard entry core) w by at
        ∙ ap (λ x. tell_operation line x (taken shard entry core)) did
        ∙ ap (λ (o : Option Waiting). change_with o (λ u. take_step line u (effect_step (view_for u.shard u.operation.op (taken shard entry core)) what.Refused u.operation)) (taken shard entry core)) at
        ∙ ap (λ s. take_step line w s (taken shard entry core)) (refused_step (view_for w.shard w.operation.op (taken shard entry core)) w.operation.line w.operation.op r refuses)
