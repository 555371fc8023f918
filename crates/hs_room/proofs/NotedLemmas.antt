-- What the entries of a core stand for along own events: no entry is of line 0.
use Rattle.std.proofs.Common.{◌≡◌, inl, inr, ◌∙◌, ap, sym, subst, ℕ, zero, suc, ◌*◌, ◌<◌, ◌++◌, [], ◌∷◌, Option, Some, None, IsSome, refl, arith, length, take}
use Rattle.hs_core_words.specs.declared.event.Event.{Event}
use Rattle.hs_core_words.specs.declared.event.Event.TheVariants as event
use Rattle.hs_core_words.specs.Looking.{shape_of}
use Rattle.hs_core_words.specs.Opening.{Taken, open_core}
use Rattle.hs_core_words.specs.State.{Core}
use Rattle.hs_core_words.specs.Step.{line_of, step}
use Rattle.hs_desk.specs.declared.fault.CoreFault.{CoreFault}
use Rattle.hs_events.specs.Course.{steps}
use Rattle.hs_events.specs.Due.{Events}
use Rattle.hs_journal.specs.Events.{client_op}
use Rattle.hs_limits.specs.declared.limits.Limits.{Limits}
use Rattle.hs_limits.specs.declared.shape.Shape.{Shape}
use Rattle.hs_members.specs.Members.{Members}
use Rattle.hs_model.specs.declared.command.Command.{Command}
use Rattle.hs_settled.proofs.AddingLemmas.{Ends, Grows, IsLate, step_grows}
use Rattle.hs_settled.proofs.CausesFirstLemmas.{ends_first, limits_first, members_first, seats_first}
use Rattle.hs_settled.proofs.CausesRunLemmas.{mute, mute_is}
use Rattle.hs_settled.proofs.KeptLemmas.{Anyone}
use Rattle.hs_settled.proofs.NotedEventLemmas.{line_then, step_noted}
use Rattle.hs_settled.proofs.NotedOpenLemmas.{opened_noted}
use Rattle.hs_settled.proofs.SeatLemmas.{Seated, peers_in, seats_run}
use Rattle.hs_settled.specs.Noted.{AllAreOwn, IsNoted, IsOfItsLine, IsOwnEvent}
use Rattle.hs_standing.proofs.LinesStepLemmas.{step_ended}
use Rattle.hs_told.specs.InTurn.{AllMayCome, MayBegin, OtherMay}

-- ---- events

pub own_front : (commands : ℕ → Option Command) (es : Events) (core : Core) → AllAreOwn commands core es → (n : ℕ) → AllAreOwn commands core (take n es)
own_front commands [] core own zero = tt
own_front commands [] core own (suc n) = tt
own_front commands (e ∷ es) core own zero = tt
own_front commands (e ∷ es) core own (suc n) = (own.0, own_front commands es (step e.0 e.1 core) own.1 n)

module _ (commands : ℕ → Option Command) where
  -- an event of line 0 is not refused
  mute_its : (e : Event) (c : Core) → OtherMay commands c (line_of e) e → IsOfItsLine commands c e → IsOfItsLine (mute commands) c e
  mute_its e c may own = (
    own.0,
    elim own.1 [
      | inl free ↦ inl free
      | inr its ↦ elim may.once [
        | inl fresh ↦ let above : c.progress.event_line < line_of e = fresh.0 in inr (mute_is commands (line_of e) (omega (arith, above)) ∙ its)
        | inr free ↦ inl free
      ]
    ],
  )

  -- so that own events stay own where line 0 has no command
  mute_own : (e : Event) (c : Core) → MayBegin commands c e → IsOwnEvent commands c e → IsOwnEvent (mute commands) c e
  mute_own (event.Line line o) c may own =
      let above : c.progress.event_line < line = may.above in
      (own.0, subst (λ (x : Option Command). IsSome (client_op x)) (sym (mute_is commands line (omega (arith, above)))) own.1)
  mute_own (event.Report peer d) c may own = own
  mute_own (event.Turn line peer) c may own = mute_its (event.Turn line peer) c may own
  mute_own (event.Deliver line number) c may own = mute_its (event.Deliver line number) c may own
  mute_own (event.Lose line number) c may own = mute_its (event.Lose line number) c may own
  mute_own (event.Repeat line number) c may own = mute_its (event.Repeat line number) c may own
  mute_own (event.Nudge line peer) c may own = mute_its (event.Nudge line peer) c may own
  mute_own (event.Fail line peer) c may own = mute_its (event.Fail line peer) c may own
  mute_own (event.Start line peer) c may own = mute_its (event.Start line peer) c may own

  pub mute_all : (es : Events) (c : Core) → AllMayCome commands c es → AllAreOwn commands c es → AllAreOwn (mute commands) c es
  mute_all [] c come own = tt
  mute_all (e ∷ es) c come own = ((λ going. mute_own e.0 c (come.0 going).begins (own.0 going)), mute_all es (step e.0 e.1 c) come.1 own.1)

pub own_append : (commands : ℕ → Option Command) (core : Core) (es fs : Events) → AllAreOwn commands core es → AllAreOwn commands (steps core es) fs → AllAreOwn commands core (es ++ fs)
own_append commands core [] fs own more = more
own_append commands core (e ∷ es) fs own more = (own.0, own_append commands (step e.0 e.1 core) es fs own.1 more)

-- ---- a core

-- entries stand for something, no queue holds what is not its peer's, the core is of this shape with these limits, and it ended as cores end
pub record Noting (commands : ℕ → Option Command) (shape : Shape) (limits : Limits) (c : Core) : Type 0 where
  pub noted : IsNoted commands c
  pub seats : Seated (shape.shards * shape.copies) Anyone (peers_in c)
  pub shaped : shape_of c ≡ shape
  pub limited : c.limits ≡ limits
  pub ends : Ends c

pub noting_first : (commands : ℕ → Option Command) (shape : Shape) (limits : Limits) (found : Taken) (moment : ℕ) → length found.good ≡ shape.shards * shape.copies
    → Noting commands shape limits (open_core shape limits found moment)
noting_first commands shape limits found moment peers = record {
  noted = opened_noted commands shape limits found moment peers;
  seats = seats_first shape limits found moment peers;
  shaped = ap (λ (m : Members). m.shape) (members_first shape limits found moment peers);
  limited = limits_first shape limits found moment peers;
  ends = ends_first shape limits found moment peers;
}

module _ (commands : ℕ → Option Command) (shape : Shape) (limits : Limits) where
  pub noting_step : (e : Event) (at : ℕ) (c : Core) → Noting commands shape limits c → (c.ended ≡ None → IsOwnEvent commands c e) → Noting commands shape limits (step e at c)
  noting_step e at c its own = go c.ended refl
    where
      go : (o : Option CoreFault) → c.ended ≡ o → Noting commands shape limits (step e at c)
      go None going =
          let grows : Grows (IsLate c.progress.event_line (line_then (line_of e) c)) c (step e at c) = step_grows commands c its.noted going its.ends.fits e at in
          record {
            noted = step_noted commands e at c its.noted own;
            seats = seats_run (shape.shards * shape.copies) Anyone e at c (λ x f low. tt) its.seats;
            shaped = grows.shape ∙ its.shaped;
            limited = grows.limits ∙ its.limited;
            ends = grows.ends;
          }
      go (Some f) over = subst (λ (x : Core). Noting commands shape limits x) (sym (step_ended e at c f over)) its

  pub noting_all : (es : Events) (c : Core) → Noting commands shape limits c → AllAreOwn commands c es → Noting commands shape limits (steps c es)
  noting_all [] c its own = its
  noting_all (e ∷ es) c its own = noting_all es (step e.0 e.1 c) (noting_step e.0 e.1 c its own.0) own.1
