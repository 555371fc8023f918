-- Along any events, until the core ends.
use Rattle.std.proofs.Common.{◌≡◌, sym, subst, ℕ, List, [], ◌∷◌, None}
use Rattle.hs_core_copies.proofs.StepsLemmas.{was_going}
use Rattle.hs_core_words.specs.State.{Core}
use Rattle.hs_core_words.specs.Step.{step}
use Rattle.hs_effects.specs.Logged.{IsOrderly, MayBeginAll}
use Rattle.hs_events.specs.Course.{steps}
use Rattle.hs_events.specs.Due.{Events}
use Rattle.hs_limits.specs.declared.address.Address.{Address}
use Rattle.hs_limits.specs.declared.shape.Shape.{Shape}
use Rattle.hs_limits.specs.Shape.{IsShape}
use Rattle.hs_quiet.specs.Causes.{AreCaused}
use Rattle.hs_quiet.specs.Keeping.{AreInStep, KeepsUp}
use Rattle.hs_quiet.proofs.CausedLemmas.{step_caused}
use Rattle.hs_quiet.proofs.StepLemmas.{step_shape, step_tuned, step_up}

pub going_before : (es : Events) (c : Core) → (steps c es).ended ≡ None → c.ended ≡ None
going_before [] c on = on
going_before (e ∷ es) c on = was_going e.0 e.1 c (going_before es (step e.0 e.1 c) on)

pub run_up : (es : Events) (c : Core) → AreInStep c → KeepsUp c → (steps c es).ended ≡ None → AreInStep (steps c es) × KeepsUp (steps c es)
run_up [] c all up on = (all, up)
run_up (e ∷ es) c all up on =
    let still = going_before es (step e.0 e.1 c) on in
    run_up es (step e.0 e.1 c) (step_tuned e.0 e.1 c all still) (step_up e.0 e.1 c all up still) on

pub run_caused : (name : List ℕ → Address) (es : Events) (c : Core) → AreInStep c → IsShape c.members.shape → IsOrderly name c → AreCaused name c → MayBeginAll name es c → (steps c es).ended ≡ None
    → IsOrderly name (steps c es) × AreCaused name (steps c es)
run_caused name [] c all shape orderly caused may on = (orderly, caused)
run_caused name (e ∷ es) c all shape orderly caused may on =
    let still = going_before es (step e.0 e.1 c) on in
    let k = step_caused name e.0 e.1 c all shape orderly caused may.0 still in
    run_caused name es (step e.0 e.1 c) (step_tuned e.0 e.1 c all still) (subst (λ (s : Shape). IsShape s) (sym (step_shape e.0 e.1 c still)) shape) k.0 k.1 may.1 on
