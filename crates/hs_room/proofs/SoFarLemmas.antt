-- A core of a run so far, and events behind it.
use Rattle.std.proofs.Common.{◌≡◌, ◌∙◌, ap, sym, subst, ℕ, ◌+◌, ◌<◌, ◌++◌, [], ◌∷◌, Option, refl, arith, take, length}
use Rattle.hs_clauses.specs.Numbered.{AreNumbered}
use Rattle.hs_core_words.specs.declared.event.Event.{Event}
use Rattle.hs_core_words.specs.State.{Core}
use Rattle.hs_core_words.specs.Step.{step}
use Rattle.hs_events.proofs.RunLemmas.{steps_append}
use Rattle.hs_events.specs.Course.{steps}
use Rattle.hs_events.specs.Due.{Events}
use Rattle.hs_events.specs.Found.{Found, first_core, opened_list, opens_with}
use Rattle.hs_events.specs.Sane.{IsFromOne}
use Rattle.hs_fold.specs.Shards.Setting.{Setting}
use Rattle.hs_measure.proofs.EventLemmas.{all_come}
use Rattle.hs_model.specs.declared.command.Command.{Command}
use Rattle.hs_room.proofs.NotedLemmas.{Noting, mute_all, noting_all, noting_first, own_append, own_front}
use Rattle.hs_room.proofs.NotesLemmas.{starts_none}
use Rattle.hs_room.specs.Room.{HasRoom, IsSoFar, starts_in}
use Rattle.hs_settled.proofs.CausesRunLemmas.{mute}
use Rattle.hs_settled.proofs.DeletesRunLemmas.{may_front}
use Rattle.hs_settled.proofs.ListLemmas.{take_all}
use Rattle.hs_settled.specs.Noted.{AllAreOwn}
use Rattle.hs_standing.specs.Run.{MayRun, RunBegins}
use Rattle.hs_standing.specs.Standing.{AllMayKeep}
use Rattle.hs_standing.specs.Start.{Start}

may_append : (start : Start) (core : Core) (es fs : Events) → AllMayKeep start (MayRun start) core es → AllMayKeep start (MayRun start) (steps core es) fs → AllMayKeep start (MayRun start) core (es ++ fs)
may_append start core [] fs may more = more
may_append start core (e ∷ es) fs may more = (may.0, may_append start (step e.0 e.1 core) es fs may.1 more)

-- the starts of some events and of those behind them
pub starts_both : (core : Core) (es fs : Events) → starts_in core (es ++ fs) ≡ starts_in core es + starts_in (steps core es) fs
starts_both core [] fs = omega arith
starts_both core (e ∷ es) fs = let rest = starts_both (step e.0 e.1 core) es fs in omega (arith, rest)

-- what the law of a core says of a run
abbrev pub RunHasRoom : Type 0
RunHasRoom = (start : Start) (found : Found) (events : Events) → RunBegins start found → AllMayKeep start (MayRun start) (first_core start.set found) events → AllAreOwn start.commands (first_core start.set found) events
    → (n : ℕ) → HasRoom start (starts_in (first_core start.set found) (take n events)) (steps (first_core start.set found) (take n events))

-- as it opens
pub first_so_far : (start : Start) (found : Found) → RunBegins start found → IsSoFar start 0 (first_core start.set found)
first_so_far start found opens = record { found = found; events = []; opens = opens; may = tt; own = tt; gives = refl; starts_are = refl }

module _ (start : Start) (starts : ℕ) (core : Core) (so : IsSoFar start starts core) where
  -- events behind it
  pub more : (es : Events) → AllMayKeep start (MayRun start) core es → AllAreOwn start.commands core es → IsSoFar start (starts + starts_in core es) (steps core es)
  more es may own = record {
    found = so.found;
    events = so.events ++ es;
    opens = so.opens;
    may = may_append start (first_core start.set so.found) so.events es so.may (subst (λ (x : Core). AllMayKeep start (MayRun start) x es) (sym so.gives) may);
    own = own_append start.commands (first_core start.set so.found) so.events es so.own (subst (λ (x : Core). AllAreOwn start.commands x es) (sym so.gives) own);
    gives = steps_append (first_core start.set so.found) so.events es ∙ ap (λ (x : Core). steps x es) so.gives;
    starts_are =
        starts_both (first_core start.set so.found) so.events es
        ∙ ap (λ n. n + starts_in (steps (first_core start.set so.found) so.events) es) so.starts_are
        ∙ ap (λ (x : Core). starts + starts_in x es) so.gives;
  }

  pub so_has_room : RunHasRoom → HasRoom start starts core
  so_has_room law =
      subst (λ k. HasRoom start k core) so.starts_are
      (subst (λ (x : Core). HasRoom start (starts_in (first_core start.set so.found) so.events) x) so.gives
      (subst (λ (es : Events). HasRoom start (starts_in (first_core start.set so.found) es) (steps (first_core start.set so.found) es)) (take_all so.events) (law start so.found so.events so.opens so.may so.own (length so.events))))

  noting_by : (commands : ℕ → Option Command) → AllAreOwn commands (first_core start.set so.found) so.events → Noting commands start.set.shape start.set.limits core
  noting_by commands own =
      subst (λ (x : Core). Noting commands start.set.shape start.set.limits x) so.gives
      (noting_all commands start.set.shape start.set.limits so.events (first_core start.set so.found)
      (noting_first commands start.set.shape start.set.limits (opens_with start.set so.found) so.found.opened so.opens.soundly.many) own)

  pub noting : Noting start.commands start.set.shape start.set.limits core
  noting = noting_by start.commands so.own

  pub mute_noting : Noting (mute start.commands) start.set.shape start.set.limits core
  mute_noting = noting_by (mute start.commands) (mute_all start.commands so.events (first_core start.set so.found) (all_come start so.events (first_core start.set so.found) so.may) so.own)

  -- with one copy a shard nobody was started
  pub alone_none : start.set.shape.copies ≡ 1 → starts ≡ 0
  alone_none one =
      sym so.starts_are
      ∙ starts_none start.commands start.set.shape start.set.limits one so.events (first_core start.set so.found)
      (noting_first start.commands start.set.shape start.set.limits (opens_with start.set so.found) so.found.opened so.opens.soundly.many) so.own

  -- each block that it has is of an entry
  module _ (opens : (set : Setting) (found : Found) → ((shard : ℕ) → shard < set.shape.shards → IsFromOne (opened_list set found shard)) → AreNumbered (first_core set found))
      (stays : (core : Core) (e : Event) (moment : ℕ) → AreNumbered core → AreNumbered (step e moment core)) where
    numbered_on : (es : Events) (c : Core) → AreNumbered c → AreNumbered (steps c es)
    numbered_on [] c its = its
    numbered_on (e ∷ es) c its = numbered_on es (step e.0 e.1 c) (stays c e.0 e.1 its)

    pub numbered : AreNumbered core
    numbered = subst (λ (x : Core). AreNumbered x) so.gives (numbered_on so.events (first_core start.set so.found) (opens start.set so.found so.opens.soundly.lists))

-- the events of a call behind a core of the run
module _ (law : RunHasRoom) (start : Start) (starts : ℕ) (core : Core) (so : IsSoFar start starts core) (es : Events) (may : AllMayKeep start (MayRun start) core es) (own : AllAreOwn start.commands core es) where
  pub front_so : (n : ℕ) → IsSoFar start (starts + starts_in core (take n es)) (steps core (take n es))
  front_so n = more start starts core so (take n es) (may_front start es core may n) (own_front start.commands es core own n)

  pub front_room : (n : ℕ) → HasRoom start (starts + starts_in core (take n es)) (steps core (take n es))
  front_room n = so_has_room start (starts + starts_in core (take n es)) (steps core (take n es)) (front_so n) law

  pub front_alone : start.set.shape.copies ≡ 1 → (n : ℕ) → starts + starts_in core (take n es) ≡ 0
  front_alone one n = alone_none start (starts + starts_in core (take n es)) (steps core (take n es)) (front_so n) one
