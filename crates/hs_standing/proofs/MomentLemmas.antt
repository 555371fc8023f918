-- At each moment of a run its whole stands, as long as each shard has its good peer.
use Rattle.std.proofs.Common.{◌≡◌, ◌∙◌, ap, sym, subst, inl, inr, ℕ, ◌<◌, Bool, true, false, cond, List, [], ◌∷◌, Option, Some, None, refl, nat_lt}
use Rattle.std.proofs.lemmas.Bool.{cases_lt}
use Rattle.std.proofs.lemmas.List.Elements.{Contains-append_left, Contains-append_right}
use Rattle.std.specs.Prelude.{Contains}
use Rattle.hs_standing.proofs.AlongWalkLemmas.{walks_step}
use Rattle.hs_standing.specs.Walks.{MayEvent}
use Rattle.hs_awaiting.specs.declared.waiting.Waiting.{Waiting}
use Rattle.hs_core_words.specs.declared.event.Event.{Event}
use Rattle.hs_core_words.specs.Looking.{status_of}
use Rattle.hs_core_words.specs.State.{Core}
use Rattle.hs_core_words.specs.Step.{step}
use Rattle.hs_desk.specs.declared.fault.CoreFault.{CoreFault}
use Rattle.hs_events.specs.Course.{event_items, happened, is_refused, items_of, steps}
use Rattle.hs_events.specs.Due.{Events}
use Rattle.hs_events.specs.Whole.{Whole, step_whole}
use Rattle.hs_fold.specs.Runs.Facts.{Catalogue as Folded}
use Rattle.hs_fold.specs.Shards.Images.{Stop}
use Rattle.hs_limits.specs.declared.shape.Shape.{Shape}
use Rattle.hs_members.specs.Members.{is_good_status}
use Rattle.hs_model.specs.declared.command.Command.{Command}
use Rattle.hs_model.specs.declared.course.CourseItem.{CourseItem}
use Rattle.hs_model.specs.declared.op.Op.{Op}
use Rattle.hs_moments.proofs.MomentLemmas.{le-is}
use Rattle.hs_moments.specs.Machine.{runs, state_at, until}
use Rattle.hs_moments.specs.WholeMachine.{whole_machine}
use Rattle.hs_standing.proofs.BegunLemmas.{ended_stays, event_begun, good_goes, went_on}
use Rattle.hs_standing.proofs.EventLemmas.{begins, ends_standing}
use Rattle.hs_standing.proofs.JoinLemmas.{StandsWithin, joined}
use Rattle.hs_standing.proofs.KeepLemmas.{Keeps}
use Rattle.hs_standing.proofs.StandLemmas.{NoLineWaitsTwice, whole_stands}
use Rattle.hs_standing.specs.Standing.{AllMayKeep, AreBegun, CoreStands, MayKeep, StandsWith}
use Rattle.hs_standing.specs.Stands.{StandsWhereGood, lists_of}
use Rattle.hs_standing.specs.Start.{Start}
use Rattle.hs_told.specs.InTurn.{IsInTurn, MayCome}

-- what an event that may come keeps, as hs_told has it
abbrev pub StaysInTurn : Type 0
StaysInTurn = (commands : ℕ → Option Command) (core : Core) (e : Event) (moment : ℕ) → IsInTurn commands core → MayCome commands core e moment → IsInTurn commands (step e moment core)

module _ (start : Start) (MayLine : ℕ → Op → Core → Type 0) (MayTell : ℕ → Option (List ℕ) → Waiting → Core → Type 0) (MayRefuse : ℕ → Type 0) (P : Core → List Folded → Type 0)
    (suffices : (core : Core) (cs : List Folded) → P core cs → CoreStands start core cs) (keeps : Keeps start.set.name MayLine MayTell MayRefuse P) (stays : StaysInTurn) where
  -- ---- one event

  pub event_stands : (c : Whole) (e : Event) (at : ℕ) → StandsWith start P c → MayKeep start (MayEvent MayLine MayTell MayRefuse) c.core e at → (step e at c.core).ended ≡ None → StandsWith start P (step_whole e at c)
  event_stands c e at s may going =
      let behind : StandsWithin start.set (lists_of whole_machine c) P (step e at c.core) =
      walks_step (joined start.set (lists_of whole_machine c) MayLine MayTell MayRefuse P keeps) c e at s.whole.sane s.whole.few (s.whole.turn.going s.whole.sane.going) may.may (begins start P c s) in
      ends_standing start P suffices c s e at behind (stays start.commands c.core e at s.whole.turn may.comes) (may.room going) going

  -- ---- some, one after another

  pub all_stand : (c : Whole) (es : Events) → StandsWith start P c → AllMayKeep start (MayEvent MayLine MayTell MayRefuse) c.core es → (steps c.core es).ended ≡ None → StandsWith start P (runs whole_machine c es)
  all_stand c [] s may going = s
  all_stand c (e ∷ es) s may going = all_stand (step_whole e.0 e.1 c) es (event_stands c e.0 e.1 s (may.0 s.whole.sane.going) (went_on (step e.0 e.1 c.core) es going)) may.1 going

  -- ---- at each moment

  module _ (alone : NoLineWaitsTwice) (stop : Stop) where
    -- of a state that has come to an end not every peer is good
    lost : (c : Whole) (e : Event) (at : ℕ) (es : Events) (f : CoreFault) → StandsWith start P c → is_refused (step e at c.core).ended ≡ false → (step e at c.core).ended ≡ Some f → StandsWhereGood whole_machine start stop (runs whole_machine (step_whole e at c) es)
    lost c e at es f s told ended good =
        let same : (runs whole_machine (step_whole e at c) es).core ≡ step e at c.core = ended_stays (step_whole e at c) es f ended in
        let goes : (step e at c.core).ended ≡ None =
        good_goes c e at s.whole.sane told (λ g low. ap (λ (y : Core). is_good_status (status_of g y)) (sym same) ∙ good g (subst (λ (x : Shape). g < x.shards) s.whole.shape low)) in
        let bad : Some f ≡ None = sym ended ∙ goes in
        absurd (cc bad)

    stands_now : (c : Whole) → StandsWith start P c → AreBegun start stop c.core → StandsWhereGood whole_machine start stop c
    stands_now c s begun good = whole_stands start c s.whole stop begun alone

    pub moments_stand : (c : Whole) (es : Events) → StandsWith start P c → AllMayKeep start (MayEvent MayLine MayTell MayRefuse) c.core es → AreBegun start stop c.core
        → ((i : CourseItem) → Contains (items_of c.core es) i → Contains stop.course i) → StandsWhereGood whole_machine start stop (state_at whole_machine c (happened c.core es) stop.moment)
    moments_stand c [] s may begun inside = stands_now c s begun
    moments_stand c (e ∷ es) s may begun inside =
        by_refusal (λ n b. moments_stand (step_whole e.0 e.1 c) es n may.1 b (λ i has. inside i (Contains-append_right (event_items c.core e) (items_of (step e.0 e.1 c.core) es) i has))) (is_refused (step e.0 e.1 c.core).ended) refl
      where
        -- what is so of the events behind this one
        LaterStands : Type 0
        LaterStands = StandsWith start P (step_whole e.0 e.1 c) → AreBegun start stop (step e.0 e.1 c.core) → StandsWhereGood whole_machine start stop (state_at whole_machine (step_whole e.0 e.1 c) (happened (step e.0 e.1 c.core) es) stop.moment)

        by_end : LaterStands → is_refused (step e.0 e.1 c.core).ended ≡ false → e.1 < stop.moment → (o : Option CoreFault) → (step e.0 e.1 c.core).ended ≡ o
            → StandsWhereGood whole_machine start stop (state_at whole_machine (step_whole e.0 e.1 c) (happened (step e.0 e.1 c.core) es) stop.moment)
        by_end later told below None going =
            let m : MayKeep start (MayEvent MayLine MayTell MayRefuse) c.core e.0 e.1 = may.0 s.whole.sane.going in
            later (event_stands c e.0 e.1 s m going)
            (event_begun start stop c.core e.0 e.1 s.whole.sane.going m.comes.begins told below (λ i has. inside i (Contains-append_left (event_items c.core e) (items_of (step e.0 e.1 c.core) es) i has)) begun)
        by_end later told below (Some f) ended = lost c e.0 e.1 (until stop.moment (happened (step e.0 e.1 c.core) es)) f s told ended

        early : nat_lt e.1 stop.moment ≡ true → e.1 < stop.moment
        early is = elim (cases_lt e.1 stop.moment) [
          | inl lt ↦ lt
          | inr le ↦ (let bad : true ≡ false = sym is ∙ le-is e.1 stop.moment le in absurd (cc bad))
        ]

        by_moment : LaterStands → is_refused (step e.0 e.1 c.core).ended ≡ false → (b : Bool) → nat_lt e.1 stop.moment ≡ b
            → StandsWhereGood whole_machine start stop (runs whole_machine c (cond b (e ∷ until stop.moment (happened (step e.0 e.1 c.core) es)) []))
        by_moment later told true is = by_end later told (early is) (step e.0 e.1 c.core).ended refl
        by_moment later told false is = stands_now c s begun

        by_refusal : LaterStands → (b : Bool) → is_refused (step e.0 e.1 c.core).ended ≡ b → StandsWhereGood whole_machine start stop (state_at whole_machine c (cond b [] (e ∷ happened (step e.0 e.1 c.core) es)) stop.moment)
        by_refusal later true told = stands_now c s begun
        by_refusal later false told = by_moment later told (nat_lt e.1 stop.moment) refl
