-- At each moment of a run its whole goes on as one that stands, as long as each shard has its good peer.
use Rattle.std.proofs.Common.{◌≡◌, ◌∙◌, ap, sym, subst, refl, ℕ, ◌<◌, Bool, true, false, cond, List, [], ◌∷◌, Option, Some, None, nat_lt}
use Rattle.hs_core_words.specs.declared.event.Event.{Event}
use Rattle.hs_core_words.specs.Looking.{status_of}
use Rattle.hs_core_words.specs.State.{Core}
use Rattle.hs_core_words.specs.Step.{step}
use Rattle.hs_desk.specs.declared.fault.CoreFault.{CoreFault}
use Rattle.hs_events.specs.Course.{happened, is_refused, steps}
use Rattle.hs_events.specs.Due.{Events}
use Rattle.hs_events.specs.Whole.{Whole, step_whole}
use Rattle.hs_limits.specs.declared.shape.Shape.{Shape}
use Rattle.hs_members.specs.Members.{is_good_status}
use Rattle.hs_moments.specs.Machine.{runs, state_at, until}
use Rattle.hs_moments.specs.WholeMachine.{whole_machine}
use Rattle.hs_standing.proofs.BegunLemmas.{ended_stays, good_goes}
use Rattle.hs_standing.specs.Run.{IsRunning, MayRun}
use Rattle.hs_standing.specs.Standing.{AllMayKeep}
use Rattle.hs_standing.specs.Start.{Start}

-- each shard has its good peer
abbrev pub AllGood : Start → Whole → Type 0
AllGood start c = (g : ℕ) → g < start.set.shape.shards → whole_machine.good c g ≡ true

-- a run stands behind events that may come, while it goes on
abbrev pub RunsOn : Start → Type 0
RunsOn start = (c : Whole) (events : Events) → IsRunning start c → AllMayKeep start (MayRun start) c.core events → (steps c.core events).ended ≡ None → IsRunning start (runs whole_machine c events)

module _ (start : Start) (on : RunsOn start) (moment : ℕ) where
  -- of a state that has come to an end not every peer is good
  never_lost : (c : Whole) (e : Event) (at : ℕ) (es : Events) (f : CoreFault) → IsRunning start c → is_refused (step e at c.core).ended ≡ false → (step e at c.core).ended ≡ Some f → AllGood start (runs whole_machine (step_whole e at c) es) → ⊥
  never_lost c e at es f running told ended good =
      let same : (runs whole_machine (step_whole e at c) es).core ≡ step e at c.core = ended_stays (step_whole e at c) es f ended in
      let goes : (step e at c.core).ended ≡ None =
      good_goes c e at running.stands.whole.sane told (λ g low. ap (λ (y : Core). is_good_status (status_of g y)) (sym same) ∙ good g (subst (λ (x : Shape). g < x.shards) running.stands.whole.shape low)) in
      let bad : Some f ≡ None = sym ended ∙ goes in
      cc bad

  -- what is so behind some events, as long as all are good
  abbrev StillRuns : Whole → List (Event × ℕ) → Type 0
  StillRuns c behind = AllGood start (runs whole_machine c behind) → IsRunning start (runs whole_machine c behind)

  module _ (c : Whole) (e : Event × ℕ) (es : Events) (running : IsRunning start c) (may : AllMayKeep start (MayRun start) c.core (e ∷ es))
      (rest : IsRunning start (step_whole e.0 e.1 c) → StillRuns (step_whole e.0 e.1 c) (until moment (happened (step e.0 e.1 c.core) es))) where
    by_end : is_refused (step e.0 e.1 c.core).ended ≡ false → (o : Option CoreFault) → (step e.0 e.1 c.core).ended ≡ o → StillRuns c (e ∷ until moment (happened (step e.0 e.1 c.core) es))
    by_end told None going all = rest (on c (e ∷ []) running (may.0, tt) going) all
    by_end told (Some f) ended all = absurd (never_lost c e.0 e.1 (until moment (happened (step e.0 e.1 c.core) es)) f running told ended all)

    by_moment : is_refused (step e.0 e.1 c.core).ended ≡ false → (b : Bool) → nat_lt e.1 moment ≡ b → StillRuns c (cond b (e ∷ until moment (happened (step e.0 e.1 c.core) es)) [])
    by_moment told true is all = by_end told (step e.0 e.1 c.core).ended refl all
    by_moment told false is all = running

    by_refusal : (b : Bool) → is_refused (step e.0 e.1 c.core).ended ≡ b → StillRuns c (until moment (cond b [] (e ∷ happened (step e.0 e.1 c.core) es)))
    by_refusal true told all = running
    by_refusal false told all = by_moment told (nat_lt e.1 moment) refl all

  pub running_then : (c : Whole) (es : Events) → IsRunning start c → AllMayKeep start (MayRun start) c.core es → AllGood start (state_at whole_machine c (happened c.core es) moment) → IsRunning start (state_at whole_machine c (happened c.core es) moment)
  running_then c [] running may good = running
  running_then c (e ∷ es) running may good =
      by_refusal c e es running may (λ next all. running_then (step_whole e.0 e.1 c) es next may.1 all) (is_refused (step e.0 e.1 c.core).ended) refl good
