-- A run from opening on, and a settle of it.
use Rattle.std.proofs.Common.{◌≡◌, ◌∙◌, ap, sym, subst, refl, true, ℕ, ◌<◌, List, [], ◌∷◌, None}
use Rattle.hs_copies.specs.Lists.{Item}
use Rattle.hs_core_copies.proofs.SettledRunLemmas.{settled_in_run}
use Rattle.hs_core_copies.specs.Opening.{MayOpen}
use Rattle.hs_core_copies.specs.Runs.{core_after}
use Rattle.hs_core_words.specs.Looking.{shape_of}
use Rattle.hs_core_words.specs.Opening.{Taken, open_core}
use Rattle.hs_core_words.specs.State.{Core}
use Rattle.hs_core_words.specs.Step.{step}
use Rattle.hs_effects.specs.Logged.{MayBeginAll}
use Rattle.hs_entry.specs.declared.entry.Entry.{Entry}
use Rattle.hs_events.specs.Course.{steps}
use Rattle.hs_events.specs.Due.{Events, is_walk, next_due}
use Rattle.hs_joint.proofs.HistoryLemmas.{shape_some}
use Rattle.hs_limits.specs.declared.address.Address.{Address}
use Rattle.hs_limits.specs.declared.limits.Limits.{Limits}
use Rattle.hs_limits.specs.declared.shape.Shape.{Shape}
use Rattle.hs_limits.specs.Shape.{IsShape}
use Rattle.hs_members.specs.Members.{Members}
use Rattle.hs_quiet.specs.Settled.{HaveRounds, IsLeft}
use Rattle.hs_quiet.proofs.LeftLemmas.{no_operations}
use Rattle.hs_quiet.proofs.OpeningLemmas.{opened_all, opened_members, opened_up}
use Rattle.hs_quiet.proofs.OpensLemmas.{opened_caused}
use Rattle.hs_quiet.proofs.RunLemmas.{going_before, run_caused, run_up}
use Rattle.hs_quiet.proofs.SettleLemmas.{settle_left}
use Rattle.hs_quiet.proofs.StepLemmas.{step_shape}

steps_are : (es : Events) (c : Core) → steps c es ≡ core_after es c
steps_are [] c = refl
steps_are (e ∷ es) c = steps_are es (step e.0 e.1 c)

run_shape : (es : Events) (c : Core) → (steps c es).ended ≡ None → shape_of (steps c es) ≡ shape_of c
run_shape [] c on = refl
run_shape (e ∷ es) c on = run_shape es (step e.0 e.1 c) on ∙ step_shape e.0 e.1 c (going_before es (step e.0 e.1 c) on)

module _ (name : List ℕ → Address) (shape : Shape) (limits : Limits) (taken : Taken) (moment : ℕ) (events settle : Events) (line : ℕ) (valid : IsShape shape)
    (logs : (shard : ℕ) → shard < shape.shards → (log : List (Item Entry)) × MayOpen shape taken shard log)
    (may : MayBeginAll name events (open_core shape limits taken moment)) (may_then : MayBeginAll name settle (steps (open_core shape limits taken moment) events))
    (rounds : HaveRounds (steps (open_core shape limits taken moment) events) settle)
    (walked : is_walk next_due true line (steps (open_core shape limits taken moment) events) settle ≡ true)
    (on : (steps (steps (open_core shape limits taken moment) events) settle).ended ≡ None) where
  abbrev c0 : Core
  c0 = open_core shape limits taken moment

  abbrev c1 : Core
  c1 = steps (open_core shape limits taken moment) events

  abbrev c2 : Core
  c2 = steps (steps (open_core shape limits taken moment) events) settle

  pub settle_of_run : IsLeft (steps (steps (open_core shape limits taken moment) events) settle) × ((steps (steps (open_core shape limits taken moment) events) settle).operations ≡ [])
  settle_of_run =
      let on1 : (steps (open_core shape limits taken moment) events).ended ≡ None = going_before settle c1 on in
      let on0 : (open_core shape limits taken moment).ended ≡ None = going_before events c0 on1 in
      let all0 = opened_all shape limits taken moment (shape_some shape valid) logs on0 in
      let up1 = run_up events c0 all0 (opened_up shape limits taken moment) on1 in
      let shape0 : (open_core shape limits taken moment).members.shape ≡ shape = ap (λ (m : Members). m.shape) (opened_members shape limits taken moment) in
      let shape1 : shape_of (steps (open_core shape limits taken moment) events) ≡ shape = run_shape events c0 on1 ∙ shape0 in
      let shape2 : shape_of (steps (steps (open_core shape limits taken moment) events) settle) ≡ shape = run_shape settle c1 on ∙ shape1 in
      let caused0 = opened_caused shape limits taken moment name on0 in
      let caused1 = run_caused name events c0 all0 (subst (λ (s : Shape). IsShape s) (sym shape0) valid) caused0.0 caused0.1 may on1 in
      let caused2 = run_caused name settle c1 up1.0 (subst (λ (s : Shape). IsShape s) (sym shape1) valid) caused1.0 caused1.1 may_then on in
      let left : IsLeft (steps (steps (open_core shape limits taken moment) events) settle) =
      settle_left line c1 settle walked on rounds up1.0 up1.1
      (λ x low. (let k = logs x (subst (λ (s : Shape). x < s.shards) shape1 low) in settled_in_run shape limits taken moment x k.0 events c1 k.1 (steps_are events c0) on1)) in
      (left, no_operations name c2 (subst (λ (s : Shape). IsShape s) (sym shape2) valid) caused2.0 caused2.1 left.jobs left.lists)
