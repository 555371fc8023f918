-- One step of an operation: what it tells is deeds.
use Rattle.std.proofs.Common.{◌≡◌, sym, ap, subst, ◌⊎◌, inl, inr, ℕ, List, Option, Some, None, refl}
use Rattle.hs_answered.specs.Judged.{IsJudged}
use Rattle.hs_answered.specs.Standing.{IsFolded, store_with}
use Rattle.hs_answered.specs.Telling.{Judging}
use Rattle.hs_awaiting.specs.declared.waiting.Waiting.{Waiting}
use Rattle.hs_awaiting.specs.Words.{change_with}
use Rattle.hs_core_words.specs.Effects.{tell_operation}
use Rattle.hs_core_words.specs.Looking.{operation_of, shape_of}
use Rattle.hs_core_words.specs.Operating.{resume, take_step}
use Rattle.hs_core_words.specs.Seeing.{view_for}
use Rattle.hs_core_words.specs.State.{Core}
use Rattle.hs_desk.specs.declared.what.What.{What}
use Rattle.hs_effects.specs.Logged.{IsOrderly}
use Rattle.hs_fold.specs.Runs.Facts.{Catalogue as Folded}
use Rattle.hs_standing.proofs.Laws.{Steps}
use Rattle.hs_standing.proofs.MuteLemmas.{Books, Stays, Words, step_books, step_stays}
use Rattle.hs_standing.specs.Commands.{AreCommanded, IsCommanded}
use Rattle.hs_model.specs.declared.reply.Reply.{Reply}
use Rattle.hs_ops.specs.declared.operation.Stage.TheVariants as stage
use Rattle.hs_ops.specs.declared.step.OpStep.{OpStep}
use Rattle.hs_ops.specs.declared.step.OpStep.TheVariants.{Answer, Compare, Propose, Wait}
use Rattle.hs_ops.specs.Going.{go}
use Rattle.hs_ops.specs.Operations.{after_step, effect_step, go_step}
use Rattle.hs_ops.specs.Refusals.{refusal_of}
use Rattle.hs_ops.specs.Speaking.{judging_shard}
use Rattle.hs_ops.specs.Views.{OpView}
use Rattle.hs_standing.proofs.LegalStepLemmas.{IsQuiet, quiet_answer, refused_judged}
use Rattle.hs_deeds.proofs.OnLemmas.{judged_on, same_on, silent_on}
use Rattle.hs_model.specs.Deeds.{DeedEntry}
use Rattle.hs_answered.specs.Standing.{IsAddressed}
use Rattle.hs_deeds.specs.On.{DeedsOn}

-- ---- one step

module _ (Known : List DeedEntry → Type 0) (by : Judging) (cs : List Folded) (core : Core) (limits : core.limits ≡ by.limits) (line : ℕ) (w : Waiting) (its : IsCommanded by core.sessions line w.operation.op) where
  pub step_deeds : (s : OpStep) → ((r : Reply) → s ≡ Answer r → IsJudged cs core (take_step line w (Answer r) core) line w.operation.op) → DeedsOn Known by.limits cs cs core (take_step line w s core)
  step_deeds s judges = by_step s refl
    where
      quietly : (t : OpStep) → ((r : Reply) → t ≡ Answer r → ⊥) → DeedsOn Known by.limits cs cs core (take_step line w t core)
      quietly t never =
          let stays : Stays core (take_step line w t core) line w = step_stays line w t core never in
          silent_on Known by.limits cs cs core (take_step line w t core) (ap (λ (b : Books). b.journal) (step_books line w t core)) (ap (λ (b : Books). b.refused) (step_books line w t core))
          (ap (λ (x : Words). x.entries) stays.words) (ap (λ (x : Words). store_with cs x.sessions) stays.words)

      by_step : (t : OpStep) → s ≡ t → DeedsOn Known by.limits cs cs core (take_step line w t core)
      by_step (Answer r) e = judged_on Known by.limits cs core (take_step line w (Answer r) core) line w.operation.op limits (judges r e) refl refl
      by_step (Propose entry) e = quietly (Propose entry) (λ r h. cc h)
      by_step (Compare number) e = quietly (Compare number) (λ r h. cc h)
      by_step Wait e = quietly Wait (λ r h. cc h)

-- ---- an operation goes on

module _ (laws : Steps) (cs : List Folded) (core : Core) (folded : IsFolded core cs) (line : ℕ) (w : Waiting) (has : IsAddressed core.sessions w.operation.op) (place : w.shard ≡ judging_shard (shape_of core).shards core.sessions w.operation.op) where
  -- it is refused by what it sees
  pub refused_here : (r : Reply) → refusal_of (view_for w.shard w.operation.op core) w.operation.op ≡ Some r → IsJudged cs core (take_step line w (Answer r) core) line w.operation.op
  refused_here r e = laws.answered cs core line (record w { operation = after_step (Answer r) w.operation }) r folded has place (refused_judged (view_for w.shard w.operation.op core) w.operation.op r e)

  -- it goes on anew
  pub goes_anew : (r : Reply) → go (view_for w.shard w.operation.op core) w.operation.line w.operation.op ≡ Answer r → IsJudged cs core (take_step line w (Answer r) core) line w.operation.op
  goes_anew r e = laws.later cs core line (record w { operation = record w.operation { stage = stage.Waiting } }) r folded has place e

module _ (Known : List DeedEntry → Type 0) (laws : Steps) (by : Judging) (cs : List Folded) (core : Core) (limits : core.limits ≡ by.limits) (folded : IsFolded core cs) where
  pub goes_deeds : IsOrderly by.name core → AreCommanded by core → (line : ℕ) → DeedsOn Known by.limits cs cs core (resume line core)
  goes_deeds order commands line = by_operation (operation_of line core) refl
    where
      by_operation : (x : Option Waiting) → operation_of line core ≡ x → DeedsOn Known by.limits cs cs core (change_with x (λ w. take_step line w (go_step (view_for w.shard w.operation.op core) w.operation)) core)
      by_operation None e = same_on Known by.limits cs core
      by_operation (Some w) e =
          step_deeds Known by cs core limits line w (commands line w e) (go_step (view_for w.shard w.operation.op core) w.operation)
          (λ r s. laws.later cs core line w r folded (commands line w e).has (order.pending line w e).judges s)

  module _ (line : ℕ) (w : Waiting) (at : operation_of line core ≡ Some w) (its : IsCommanded by core.sessions line w.operation.op) (place : w.shard ≡ judging_shard (shape_of core).shards core.sessions w.operation.op) where
    abbrev v : OpView
    v = view_for w.shard w.operation.op core

    -- it hears of an entry by which nothing was done
    pub quiet_deeds : (did : What) → IsQuiet did → DeedsOn Known by.limits cs cs core (tell_operation line did core)
    quiet_deeds did quiet =
        subst (λ (x : Option Waiting). DeedsOn Known by.limits cs cs core (change_with x (λ u. take_step line u (effect_step (view_for u.shard u.operation.op core) did u.operation)) core)) (sym at)
        (step_deeds Known by cs core limits line w its (effect_step v did w.operation) (λ r s. by_answer r (quiet_answer v w.operation.line did w.operation.op r quiet s)))
      where
        by_answer : (r : Reply) → (refusal_of v w.operation.op ≡ Some r) ⊎ (go v w.operation.line w.operation.op ≡ Answer r) → IsJudged cs core (take_step line w (Answer r) core) line w.operation.op
        by_answer r (inl e) = refused_here laws cs core folded line w its.has place r e
        by_answer r (inr e) = goes_anew laws cs core folded line w its.has place r e
