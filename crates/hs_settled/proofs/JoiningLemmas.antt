-- A peer that joins counts as not good: its start was not refused, and no settle was gone past since, for that leaves no peer joining.
use Rattle.std.proofs.Common.{◌≡◌, inl, inr, ◌∙◌, ap, sym, subst, ℕ, ◌+◌, ◌<◌, ◌++◌, Bool, true, [], ◌∷◌, Option, Some, None, refl, arith, length}
use Rattle.std.proofs.lemmas.List.{append_assoc}
use Rattle.std.specs.Option.{option_or}
use Rattle.hs_settled.proofs.CausesRunLemmas.{are_lines, lined, mute_is}
use Rattle.hs_settled.proofs.EndLemmas.{Ended, walk_ended}
use Rattle.hs_settled.proofs.PartLemmas.{NoneOf, OwnLine, Parted, Side, all_mid, lines_none, own_line, parted, side}
use Rattle.hs_settled.proofs.PartLemmas.Side.{Early, Late}
use Rattle.hs_settled.proofs.StartLineLemmas.{is_started, low}
use Rattle.hs_core_words.specs.Asking.{no_peer, not_down}
use Rattle.hs_core_words.specs.declared.event.Event.{Event}
use Rattle.hs_core_words.specs.declared.event.Event.TheVariants as event
use Rattle.hs_core_words.specs.Looking.{status_of}
use Rattle.hs_core_words.specs.State.{Core}
use Rattle.hs_core_words.specs.Step.{line_of, step}
use Rattle.hs_desk.specs.declared.fault.CoreFault.TheVariants as fault
use Rattle.hs_events.proofs.RunLemmas.{steps_append}
use Rattle.hs_events.specs.Commands.{AreOfLine}
use Rattle.hs_events.specs.Course.{steps}
use Rattle.hs_events.specs.declared.due.Due.{Due}
use Rattle.hs_events.specs.declared.due.Place.{Place}
use Rattle.hs_events.specs.Due.{Events, is_walk, next_due, next_nudge, next_turn}
use Rattle.hs_events.specs.Found.{first_core}
use Rattle.hs_limits.specs.declared.limits.PeerStatus.TheVariants.{Joining}
use Rattle.hs_model.specs.declared.command.Command.TheVariants as command
use Rattle.hs_model.specs.Refusals.{first}
use Rattle.hs_promise.specs.Lost.{IsPast, NotGood}
use Rattle.hs_promise.specs.Lost.NotGood.{Joins}
use Rattle.hs_promise.specs.Machine.{Went}
use Rattle.hs_promise.specs.Run.{Ran, Script}
use Rattle.hs_promise.specs.Story.{Story, last_core}
use Rattle.hs_quiet.proofs.DueLemmas.{nobody}
use Rattle.hs_quiet.proofs.LastLemmas.{stays_at}
use Rattle.hs_quiet.proofs.RestedLemmas.{none_joins}
use Rattle.hs_quiet.proofs.RunLemmas.{run_up}
use Rattle.hs_quiet.specs.Keeping.{AreInStep, KeepsUp}
use Rattle.hs_quiet.specs.Turning.{StaysAs}
use Rattle.hs_standing.specs.Script.{all_events}

-- ---- where nothing is due

no_turn : (place : Place) (c : Core) → next_due place c ≡ None → next_turn place c ≡ None
no_turn place c none = go (next_turn place c) none
  where
    go : (o : Option Due) → option_or o (next_nudge place c) ≡ None → o ≡ None
    go None e = refl
    go (Some d) e = absurd (cc e)

-- ---- a run whose core ended with the loss of a shard

module _ (S : Script) (r : Ran) (story : Story) (went : Went S r story) (g : ℕ) (over : (last_core S story).ended ≡ Some (fault.ShardLost g)) where
  abbrev behind : Core
  behind = steps (first_core S.set story.found) story.opening

  module _ (p line : ℕ) (before : Events) (e : Event × ℕ) (after : Events) (is : story.opening ++ all_events story.lines ≡ before ++ e ∷ after) (starts : e.0 ≡ event.Start line p)
      (free : first (no_peer p (steps (first_core S.set story.found) before) ∷ not_down p (steps (first_core S.set story.found) before) ∷ []) ≡ None)
      (stays : StaysAs p Joining (step e.0 e.1 (steps (first_core S.set story.found) before)) after) where
    abbrev there : Core
    there = steps (first_core S.set story.found) before

    of_line : line_of e.0 ≡ line
    of_line = ap line_of starts

    -- ---- no settle was gone past since

    module _ (all : AreInStep (first_core S.set story.found)) (up : KeepsUp (first_core S.set story.found)) where
      module _ (k : ℕ) (above : line < k) (settle : S.commands k ≡ Some command.Settle) (past : IsPast r k) where
        at_settle : Parted (lined S r) 1 (steps (first_core S.set story.found) story.opening) story.lines k
        at_settle = parted (lined S r) 1 behind story.lines (are_lines S r story went) (omega arith) k (omega (arith, above)) (go past)
          where
            go : IsPast r k → k < 1 + length story.lines
            go (inl less) = let count = went.line in omega (arith, less, count)
            go (inr here) = let count = went.line in let same = here.0 in omega (arith, same, count)

        abbrev core_k : Core
        core_k = steps behind (all_events at_settle.front)

        its : OwnLine (lined S r) k (steps behind (all_events at_settle.front)) at_settle.own at_settle.rest
        its = own_line (lined S r) k core_k at_settle.own at_settle.rest at_settle.here

        -- the last line was not gone past
        more : at_settle.rest ≡ [] → ⊥
        more none = go past
          where
            go : IsPast r k → ⊥
            go (inl less) = let count = went.line in let n = at_settle.last none in omega (arith, less, count, n)
            go (inr here) = let both : None ≡ Some (fault.ShardLost g) = sym (went.ends.past here.1) ∙ over in cc both

        whole : its.whole ≡ true
        whole = elim its.past [
          | inl w ↦ w
          | inr last ↦ absurd (more last.0)
        ]

        going : (steps core_k at_settle.own).ended ≡ None
        going = its.going more

        walk : is_walk next_due true k core_k at_settle.own ≡ true
        walk =
            subst (λ (b : Bool). is_walk next_due b k core_k at_settle.own ≡ true) whole
            (subst (λ c. AreOfLine S.set.name (record { line = k; core = core_k; events = at_settle.own; whole = its.whole }) c) (mute_is S.commands k (omega (arith, above)) ∙ settle) its.line.events)

        ended : Ended (steps core_k at_settle.own)
        ended = walk_ended k core_k at_settle.own walk

        abbrev front_k : Events
        front_k = story.opening ++ all_events at_settle.front

        core_is : steps (first_core S.set story.found) (front_k ++ at_settle.own) ≡ steps core_k at_settle.own
        core_is = steps_append (first_core S.set story.found) front_k at_settle.own ∙ ap (λ (c : Core). steps c at_settle.own) (steps_append (first_core S.set story.found) story.opening (all_events at_settle.front))

        tuned : AreInStep (steps core_k at_settle.own) × KeepsUp (steps core_k at_settle.own)
        tuned = subst (λ (c : Core). AreInStep c × KeepsUp c) core_is
            (run_up (front_k ++ at_settle.own) (first_core S.set story.found) all up (ap (λ (c : Core). c.ended) core_is ∙ going))

        -- and the start came before it
        settle_parts : before ++ e ∷ after ≡ front_k ++ (at_settle.own ++ all_events at_settle.rest)
        settle_parts = sym is ∙ ap (λ xs. story.opening ++ xs) at_settle.is ∙ sym (append_assoc story.opening (all_events at_settle.front) (at_settle.own ++ all_events at_settle.rest))

        joins : status_of p (steps core_k at_settle.own) ≡ Joining
        joins = by_side (side before e after front_k (at_settle.own ++ all_events at_settle.rest) settle_parts)
          where
            by_side : Side before e after front_k (at_settle.own ++ all_events at_settle.rest) → status_of p (steps core_k at_settle.own) ≡ Joining
            by_side (Early mid front rest) =
                let same : steps core_k at_settle.own ≡ steps (step e.0 e.1 there) (mid ++ at_settle.own) =
                sym core_is ∙ ap (λ xs. steps (first_core S.set story.found) (xs ++ at_settle.own)) front ∙ ap (λ xs. steps (first_core S.set story.found) xs) (append_assoc before (e ∷ mid) at_settle.own) ∙ steps_append (first_core S.set story.found) before (e ∷ (mid ++ at_settle.own)) in
                ap (λ (c : Core). status_of p c) same
                ∙ stays_at p Joining (mid ++ at_settle.own) (all_events at_settle.rest) (step e.0 e.1 there)
                (subst (λ xs. StaysAs p Joining (step e.0 e.1 there) xs) (rest ∙ sym (append_assoc mid at_settle.own (all_events at_settle.rest))) stays)
            by_side (Late mid front rest) =
                absurd (all_mid (λ (x : Event × ℕ). line_of x.0 ≡ line → ⊥) mid e after (subst (λ xs. NoneOf line xs) rest (lines_none (lined S r) k core_k (at_settle.own ∷ at_settle.rest) at_settle.here line (low S r story went p line before e after is starts free) above)) of_line)

        pub none_settled : ⊥
        none_settled = none_joins (steps core_k at_settle.own) tuned.0 tuned.1
            (λ q. nobody (steps core_k at_settle.own) ended.place going (no_turn ended.place (steps core_k at_settle.own) ended.none) tuned.0 q) p joins

      pub joins_cause : NotGood S r p
      joins_cause = Joins line (is_started S r story went p line before e after is starts free) (λ k above settle past. none_settled k above settle past)
