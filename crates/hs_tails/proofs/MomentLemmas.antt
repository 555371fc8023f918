-- At each moment of events that may come in a run, while its core goes on, it runs with its tails.
use Rattle.std.proofs.Common.{◌≡◌, ◌∙◌, ap, sym, inl, inr, ◌<◌, Bool, true, false, cond, [], ◌∷◌, Option, Some, None, refl, nat_lt}
use Rattle.std.proofs.lemmas.Bool.{cases_lt}
use Rattle.std.proofs.lemmas.List.Elements.{Contains-append_left, Contains-append_right}
use Rattle.std.specs.Prelude.{Contains}
use Rattle.hs_core_words.specs.State.{Core}
use Rattle.hs_core_words.specs.Step.{step}
use Rattle.hs_desk.specs.declared.fault.CoreFault.{CoreFault}
use Rattle.hs_events.specs.Course.{event_items, happened, is_refused, items_of}
use Rattle.hs_events.specs.Due.{Events}
use Rattle.hs_events.specs.Whole.{Whole, step_whole}
use Rattle.hs_fold.specs.Shards.Images.{Stop}
use Rattle.hs_model.specs.declared.course.CourseItem.{CourseItem}
use Rattle.hs_moments.proofs.MomentLemmas.{le-is}
use Rattle.hs_moments.specs.Machine.{runs, state_at, until}
use Rattle.hs_moments.specs.WholeMachine.{whole_machine}
use Rattle.hs_standing.proofs.BegunLemmas.{ended_stays, event_begun}
use Rattle.hs_standing.proofs.RunLemmas.{LawsBelow}
use Rattle.hs_standing.specs.Run.{MayRun}
use Rattle.hs_standing.specs.Standing.{AllMayKeep, AreBegun, MayKeep}
use Rattle.hs_standing.specs.Start.{Start}
use Rattle.hs_tails.proofs.OpenLinesLemmas.{run_on}
use Rattle.hs_tails.specs.Run.{RunsWithOpenTails}
use Rattle.hs_tails.specs.Stop.{MayStopWithTails}

module _ (below : LawsBelow) (start : Start) (stop : Stop) where
  pub moment_runs : (c : Whole) (es : Events) → RunsWithOpenTails start c → AreBegun start stop c.core → AllMayKeep start (MayRun start) c.core es → ((i : CourseItem) → Contains (items_of c.core es) i → Contains stop.course i)
      → (state_at whole_machine c (happened c.core es) stop.moment).core.ended ≡ None → MayStopWithTails start stop (state_at whole_machine c (happened c.core es) stop.moment)
  moment_runs c [] r begun may inside on = record { runs = r; begun = begun }
  moment_runs c (e ∷ es) r begun may inside on =
      by_refusal (λ q b there. moment_runs (step_whole e.0 e.1 c) es q b may.1 (λ i has. inside i (Contains-append_right (event_items c.core e) (items_of (step e.0 e.1 c.core) es) i has)) there) (is_refused (step e.0 e.1 c.core).ended) refl on
    where
      -- what is so of the events behind this one
      LaterRuns : Type 0
      LaterRuns = RunsWithOpenTails start (step_whole e.0 e.1 c) → AreBegun start stop (step e.0 e.1 c.core) → (state_at whole_machine (step_whole e.0 e.1 c) (happened (step e.0 e.1 c.core) es) stop.moment).core.ended ≡ None
          → MayStopWithTails start stop (state_at whole_machine (step_whole e.0 e.1 c) (happened (step e.0 e.1 c.core) es) stop.moment)

      by_end : LaterRuns → is_refused (step e.0 e.1 c.core).ended ≡ false → e.1 < stop.moment → (o : Option CoreFault) → (step e.0 e.1 c.core).ended ≡ o
          → (state_at whole_machine (step_whole e.0 e.1 c) (happened (step e.0 e.1 c.core) es) stop.moment).core.ended ≡ None
          → MayStopWithTails start stop (state_at whole_machine (step_whole e.0 e.1 c) (happened (step e.0 e.1 c.core) es) stop.moment)
      by_end later told low None going there =
          let m : MayKeep start (MayRun start) c.core e.0 e.1 = may.0 r.runs.whole.going in
          later (run_on below start c r.runs r.keeps e.0 e.1 m going)
          (event_begun start stop c.core e.0 e.1 r.runs.whole.going m.comes.begins told low (λ i has. inside i (Contains-append_left (event_items c.core e) (items_of (step e.0 e.1 c.core) es) i has)) begun) there
      by_end later told low (Some f) ended there =
          let same : (state_at whole_machine (step_whole e.0 e.1 c) (happened (step e.0 e.1 c.core) es) stop.moment).core ≡ step e.0 e.1 c.core = ended_stays (step_whole e.0 e.1 c) (until stop.moment (happened (step e.0 e.1 c.core) es)) f ended in
          let wrong : None ≡ Some f = sym there ∙ ap (λ (y : Core). y.ended) same ∙ ended in
          absurd (cc wrong)

      early : nat_lt e.1 stop.moment ≡ true → e.1 < stop.moment
      early is = elim (cases_lt e.1 stop.moment) [
        | inl lt ↦ lt
        | inr le ↦ (let bad : true ≡ false = sym is ∙ le-is e.1 stop.moment le in absurd (cc bad))
      ]

      by_moment : LaterRuns → is_refused (step e.0 e.1 c.core).ended ≡ false → (b : Bool) → nat_lt e.1 stop.moment ≡ b
          → (runs whole_machine c (cond b (e ∷ until stop.moment (happened (step e.0 e.1 c.core) es)) [])).core.ended ≡ None
          → MayStopWithTails start stop (runs whole_machine c (cond b (e ∷ until stop.moment (happened (step e.0 e.1 c.core) es)) []))
      by_moment later told true is there = by_end later told (early is) (step e.0 e.1 c.core).ended refl there
      by_moment later told false is there = record { runs = r; begun = begun }

      by_refusal : LaterRuns → (b : Bool) → is_refused (step e.0 e.1 c.core).ended ≡ b → (state_at whole_machine c (cond b [] (e ∷ happened (step e.0 e.1 c.core) es)) stop.moment).core.ended ≡ None
          → MayStopWithTails start stop (state_at whole_machine c (cond b [] (e ∷ happened (step e.0 e.1 c.core) es)) stop.moment)
      by_refusal later true told there = record { runs = r; begun = begun }
      by_refusal later false told there = by_moment later told (nat_lt e.1 stop.moment) refl there
