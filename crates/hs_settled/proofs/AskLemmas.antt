-- Of what each event of a run is: it is what is due, or the event of its line's command; and how lines go on.
use Rattle.std.proofs.Common.{◌≡◌, ◌⊎◌, inl, inr, ◌∙◌, ap, sym, subst, ℕ, ◌+◌, ◌<◌, ◌≤◌, ◌==◌, ◌&&◌, ◌||◌, ◌++◌, Bool, true, false, not, List, [], ◌∷◌, Option, Some, None, refl, length, is_none, is_some, arith}
use Rattle.std.proofs.lemmas.Bool.{cases_eq, ne_eqb}
use Rattle.std.specs.Option.{option_and_then, option_map_or, option_or}
use Rattle.std.specs.Prelude.{if◌then◌else◌}
use Rattle.hs_settled.proofs.CausesListLemmas.{not_both}
use Rattle.hs_core_words.specs.declared.event.Event.{Event}
use Rattle.hs_core_words.specs.declared.event.Event.TheVariants as event
use Rattle.hs_core_words.specs.State.{Core}
use Rattle.hs_core_words.specs.Step.{line_of, step}
use Rattle.hs_desk.specs.declared.fault.CoreFault.{CoreFault}
use Rattle.hs_events.proofs.RunLemmas.{steps_append}
use Rattle.hs_events.specs.Asked.{addressed}
use Rattle.hs_events.specs.Commands.{AreOfLine, BeginsWith, LineAt}
use Rattle.hs_events.specs.Course.{steps}
use Rattle.hs_events.specs.declared.due.Due.{Due}
use Rattle.hs_events.specs.declared.due.Due.TheVariants.{Reporting}
use Rattle.hs_events.specs.declared.due.Place.{Place}
use Rattle.hs_events.specs.Due.{Events, Walked, first_place, is_answer, is_it, is_one, is_same_due, is_walk, next_due, next_nudge, next_turn, place_after, raises_known, turn_behind, walk}
use Rattle.hs_journal.specs.Events.{client_op}
use Rattle.hs_journal.specs.Order.{IsPrompt}
use Rattle.hs_limits.specs.declared.address.Address.{Address}
use Rattle.hs_standing.proofs.DueLemmas.{Fits, IsPart, behind_fits, is_part, next_fits, part_line}
use Rattle.hs_standing.proofs.LinesStepLemmas.{step_at, step_moves}
use Rattle.hs_standing.specs.Script.{AreLines, Script, all_events}
use Rattle.hs_model.specs.declared.command.Command.{Command}
use Rattle.hs_model.specs.declared.command.Command.TheVariants as command
use Rattle.hs_model.specs.declared.op.Op.{Op}
use Rattle.hs_told.specs.InTurn.{refusal_in}

-- ---- an event

-- a report answers its peer's first job; an event of a line is its command's, and a message or a nudge may be due and not refused
abbrev pub Asks : (ℕ → Option Command) → Core → Event → Type 0
Asks commands core (event.Line line o) = Unit {0}
Asks commands core (event.Report peer d) = is_answer core peer d ≡ true
Asks commands core (event.Turn line peer) = commands line ≡ Some (command.Turn peer)
Asks commands core (event.Deliver line number) = (refusal_in (event.Deliver line number) core ≡ None) ⊎ (commands line ≡ Some (command.Deliver number))
Asks commands core (event.Lose line number) = commands line ≡ Some (command.Lose number)
Asks commands core (event.Repeat line number) = commands line ≡ Some (command.Repeat number)
Asks commands core (event.Nudge line peer) = (refusal_in (event.Nudge line peer) core ≡ None) ⊎ (commands line ≡ Some (command.Nudge peer))
Asks commands core (event.Fail line peer) = commands line ≡ Some (command.Fail peer)
Asks commands core (event.Start line peer) = commands line ≡ Some (command.Start peer)

-- and it comes to a core that goes on, and has no other line
pub record Its (commands : ℕ → Option Command) (line : ℕ) (core : Core) (e : Event) : Type 0 where
  pub going : core.ended ≡ None
  pub asks : Asks commands core e
  pub of : (line_of e ≡ 0) ⊎ (line_of e ≡ line)

abbrev pub AllIts : (ℕ → Option Command) → ℕ → Core → Events → Type 0
AllIts commands line core [] = Unit {0}
AllIts commands line core (e ∷ es) = Its commands line core e.0 × AllIts commands line (step e.0 e.1 core) es

-- whatever their lines
abbrev pub AllAsk : (ℕ → Option Command) → Core → Events → Type 0
AllAsk commands core [] = Unit {0}
AllAsk commands core (e ∷ es) = ((core.ended ≡ None) × Asks commands core e.0) × AllAsk commands (step e.0 e.1 core) es

-- ---- nothing is due of a core that has ended

if_none : (o : Option CoreFault) (x : Option Due) (d : Due) → (if is_some o then None else x) ≡ Some d → o ≡ None
if_none None x d h = refl
if_none (Some f) x d h = absurd (cc h)

if_either : (o : Option CoreFault) (b : Bool) (x : Option Due) (d : Due) → (if is_some o || b then None else x) ≡ Some d → o ≡ None
if_either None b x d h = refl
if_either (Some f) b x d h = absurd (cc h)

-- what is due comes to a core that goes on, and is not refused
abbrev IsGood : Core → Due → Type 0
IsGood core d = (core.ended ≡ None) × Fits core d

due_up : (place : Place) (core : Core) (d : Due) → next_turn place core ≡ Some d → next_due place core ≡ Some d
due_up place core d e = ap (λ o. option_or o (next_nudge place core)) e

turn_good : (place : Place) (core : Core) (d : Due) → next_turn place core ≡ Some d → IsGood core d
turn_good place core d e = (if_none core.ended _ d e, next_fits place core d (due_up place core d e))

due_good : (place : Place) (core : Core) (d : Due) → next_due place core ≡ Some d → IsGood core d
due_good place core d h = (go (next_turn place core) refl h, next_fits place core d h)
  where
    go : (o : Option Due) → next_turn place core ≡ o → option_or o (next_nudge place core) ≡ Some d → core.ended ≡ None
    go (Some x) e k = if_none core.ended _ x e
    go None e k = if_either core.ended _ _ d k

behind_good : (peer : ℕ) (core : Core) (d : Due) → turn_behind peer core ≡ Some d → IsGood core d
behind_good peer core d h = (if_either core.ended _ _ d h, behind_fits peer core d h)

module _ (commands : ℕ → Option Command) where
  -- ---- what is due

  due_asks : (line : ℕ) (core : Core) (d : Due) (e : Event) → IsPart line core e → is_it line core d e ≡ true → Asks commands core e
  due_asks line core d (event.Line l o) p h = tt
  due_asks line core d (event.Report peer r) p h = go (is_answer core peer r) refl h
    where
      go : (b : Bool) → is_answer core peer r ≡ b → option_map_or (is_same_due d) (if b then Some (Reporting peer) else None) false ≡ true → is_answer core peer r ≡ true
      go true t k = t
      go false t k = absurd (cc k)
  due_asks line core d (event.Turn l peer) p h = absurd p
  due_asks line core d (event.Deliver l number) p h = inl p.1
  due_asks line core d (event.Lose l number) p h = absurd p
  due_asks line core d (event.Repeat l number) p h = absurd p
  due_asks line core d (event.Nudge l peer) p h = inl p.1
  due_asks line core d (event.Fail l peer) p h = absurd p
  due_asks line core d (event.Start l peer) p h = absurd p

  due_its : (line : ℕ) (core : Core) (d : Due) (e : Event) → IsGood core d → is_it line core d e ≡ true → Its commands line core e
  due_its line core d e good h =
      let p : IsPart line core e = is_part line core d e good.1 h in
      record { going = good.0; asks = due_asks line core d e p h; of = part_line line core e p }

  walk_its : (due : Place → Core → Option Due) → ((place : Place) (core : Core) (d : Due) → due place core ≡ Some d → IsGood core d)
      → (line : ℕ) (at : Walked) (es : Events) (end : Walked) → walk due line at es ≡ Some end → AllIts commands line at.core es
  walk_its due good line at [] end h = tt
  walk_its due good line at (e ∷ es) end h = by_due (λ next g. walk_its due good line next es end g) (due at.place at.core) refl h
    where
      Again : Type 0
      Again = (next : Walked) → walk due line next es ≡ Some end → AllIts commands line next.core es

      after : Core
      after = step e.0 e.1 at.core

      behind : Due → Walked
      behind d = record { place = place_after d (raises_known at.core after) at.place; core = after }

      by_it : Again → (d : Due) (b : Bool) → due at.place at.core ≡ Some d → is_it line at.core d e.0 ≡ b
          → option_and_then (λ next. walk due line next es) (if b then Some (behind d) else None) ≡ Some end → AllIts commands line at.core (e ∷ es)
      by_it again d true is it k = (due_its line at.core d e.0 (good at.place at.core d is) it, again (behind d) k)
      by_it again d false is it k = absurd (cc k)

      by_due : Again → (o : Option Due) → due at.place at.core ≡ o
          → option_and_then (λ next. walk due line next es) (option_and_then (λ d. if is_it line at.core d e.0 then Some (behind d) else None) o) ≡ Some end → AllIts commands line at.core (e ∷ es)
      by_due again None is k = absurd (cc k)
      by_due again (Some d) is k = by_it again d (is_it line at.core d e.0) is refl k

  all_walk : (due : Place → Core → Option Due) → ((place : Place) (core : Core) (d : Due) → due place core ≡ Some d → IsGood core d)
      → (whole : Bool) (line : ℕ) (core : Core) (es : Events) → is_walk due whole line core es ≡ true → AllIts commands line core es
  all_walk due good whole line core es h = by_end (walk due line (record { place = first_place; core = core }) es) refl h
    where
      by_end : (o : Option Walked) → walk due line (record { place = first_place; core = core }) es ≡ o
          → option_map_or (λ at. not whole || is_none (due at.place at.core)) o false ≡ true → AllIts commands line core es
      by_end None e k = absurd (cc k)
      by_end (Some end) e k = walk_its due good line (record { place = first_place; core = core }) es end e

  pub opening_its : (whole : Bool) (core : Core) (es : Events) → is_walk next_turn whole 0 core es ≡ true → AllIts commands 0 core es
  opening_its whole core es h = all_walk next_turn turn_good whole 0 core es h

  one_its : (line : ℕ) (core : Core) (whole : Bool) (o : Option Due) (es : Events) → ((d : Due) → o ≡ Some d → IsGood core d) → is_one o whole line core es ≡ true → AllIts commands line core es
  one_its line core whole None [] good h = tt
  one_its line core whole None (e ∷ es) good h = absurd (cc h)
  one_its line core whole (Some d) [] good h = tt
  one_its line core whole (Some d) (e ∷ []) good h = by_it (is_it line core d e.0) refl h
    where
      by_it : (b : Bool) → is_it line core d e.0 ≡ b → (b && true) ≡ true → AllIts commands line core (e ∷ [])
      by_it true it k = (due_its line core d e.0 (good d refl) it, tt)
      by_it false it k = absurd (cc k)
  one_its line core whole (Some d) (e ∷ f ∷ es) good h = by_it (is_it line core d e.0) h
    where
      more : (length (f ∷ es) == 0) ≡ false
      more = ne_eqb (length (f ∷ es)) 0 (λ n. omega (arith, n))

      by_it : (b : Bool) → (b && (length (f ∷ es) == 0)) ≡ true → AllIts commands line core (e ∷ f ∷ es)
      by_it true k = let both : false ≡ true = sym more ∙ k in absurd (cc both)
      by_it false k = absurd (cc k)

  -- ---- a line

  begins_its : (at : LineAt) (asked : Event) (due : Core → Option Due) → ((core : Core) (d : Due) → due core ≡ Some d → IsGood core d)
      → at.core.ended ≡ None → Asks commands at.core asked → line_of asked ≡ at.line → BeginsWith at asked due → AllIts commands at.line at.core at.events
  begins_its at asked due good going asks of begins = go at.events begins
    where
      it : Events → LineAt
      it es = record { line = at.line; core = at.core; events = es; whole = at.whole }

      first_its : Its commands at.line at.core asked
      first_its = record { going = going; asks = asks; of = inr of }

      go : (es : Events) → BeginsWith (it es) asked due → AllIts commands at.line at.core es
      go [] cut = tt
      go (e ∷ es) (same, one) =
          let after : Core = step e.0 e.1 at.core in
          (subst (λ x. Its commands at.line at.core x) (sym same) first_its, one_its at.line after at.whole (due after) es (good after) one)

  pub line_its : (name : List ℕ → Address) (at : LineAt) → at.core.ended ≡ None → AreOfLine name at (commands at.line) → AllIts commands at.line at.core at.events
  line_its name at going are = by_command (commands at.line) refl are
    where
      nothing : (core : Core) (d : Due) → None ≡ Some d → IsGood core d
      nothing core d h = absurd (cc h)

      by_command : (c : Option Command) → commands at.line ≡ c → AreOfLine name at c → AllIts commands at.line at.core at.events
      by_command None is empty = subst (λ es. AllIts commands at.line at.core es) (sym empty) tt
      by_command (Some (command.Client o)) is a = begins_its at (event.Line at.line (addressed name at.core.sessions o)) (λ core. None) nothing going tt refl a
      by_command (Some command.Settle) is a = all_walk next_due due_good at.whole at.line at.core at.events a
      by_command (Some (command.Turn peer)) is a = begins_its at (event.Turn at.line peer) (turn_behind peer) (behind_good peer) going is refl a
      by_command (Some (command.Nudge peer)) is a = begins_its at (event.Nudge at.line peer) (λ core. None) nothing going (inr is) refl a
      by_command (Some (command.Deliver number)) is a = begins_its at (event.Deliver at.line number) (λ core. None) nothing going (inr is) refl a
      by_command (Some (command.Lose number)) is a = begins_its at (event.Lose at.line number) (λ core. None) nothing going is refl a
      by_command (Some (command.Repeat number)) is a = begins_its at (event.Repeat at.line number) (λ core. None) nothing going is refl a
      by_command (Some (command.Fail peer)) is a = begins_its at (event.Fail at.line peer) (λ core. None) nothing going is refl a
      by_command (Some (command.Start peer)) is a = begins_its at (event.Start at.line peer) (λ core. None) nothing going is refl a
      by_command (Some (command.Reclaim peer)) is a = absurd a

  -- ---- the last line while they come

  pub record Stays (line : ℕ) (old new : Core) : Type 0 where
    pub upward : old.progress.event_line ≤ new.progress.event_line
    pub within : new.progress.event_line ≤ line

  pub its_stay : (line : ℕ) (core : Core) (es : Events) → AllIts commands line core es → core.progress.event_line ≤ line → Stays line core (steps core es)
  its_stay line core [] its low = record { upward = omega arith; within = low }
  its_stay line core (e ∷ es) its low = elim (step_moves e.0 e.1 line core its.0.of) [
    | inl same ↦ let rest : Stays line (step e.0 e.1 core) (steps (step e.0 e.1 core) es) = its_stay line (step e.0 e.1 core) es its.1 (omega (arith, same, low)) in
        record { upward = (let u : (step e.0 e.1 core).progress.event_line ≤ (steps (step e.0 e.1 core) es).progress.event_line = rest.upward in omega (arith, same, u)); within = rest.within }
    | inr here ↦ let rest : Stays line (step e.0 e.1 core) (steps (step e.0 e.1 core) es) = its_stay line (step e.0 e.1 core) es its.1 (omega (arith, here)) in
        record { upward = (let u : (step e.0 e.1 core).progress.event_line ≤ (steps (step e.0 e.1 core) es).progress.event_line = rest.upward in omega (arith, here, low, u)); within = rest.within }
  ]

  pub its_ask : (line : ℕ) (core : Core) (es : Events) → AllIts commands line core es → AllAsk commands core es
  its_ask line core [] its = tt
  its_ask line core (e ∷ es) its = ((its.0.going, its.0.asks), its_ask line (step e.0 e.1 core) es its.1)

  pub ask_append : (core : Core) (es fs : Events) → AllAsk commands core es → AllAsk commands (steps core es) fs → AllAsk commands core (es ++ fs)
  ask_append core [] fs a b = b
  ask_append core (e ∷ es) fs a b = (a.0, ask_append (step e.0 e.1 core) es fs a.1 b)

-- ---- opening, as hs_standing has it

turns_due : (line : ℕ) (at : Walked) (es : Events) (end : Walked) → walk next_turn line at es ≡ Some end → walk next_due line at es ≡ Some end
turns_due line at [] end h = h
turns_due line at (e ∷ es) end h = by_due (λ next g. turns_due line next es end g) (next_turn at.place at.core) refl h
  where
    Again : Type 0
    Again = (next : Walked) → walk next_turn line next es ≡ Some end → walk next_due line next es ≡ Some end

    after : Core
    after = step e.0 e.1 at.core

    behind : Due → Walked
    behind d = record { place = place_after d (raises_known at.core after) at.place; core = after }

    by_it : Again → (d : Due) (b : Bool) → option_and_then (λ next. walk next_turn line next es) (if b then Some (behind d) else None) ≡ Some end
        → option_and_then (λ next. walk next_due line next es) (if b then Some (behind d) else None) ≡ Some end
    by_it again d true k = again (behind d) k
    by_it again d false k = absurd (cc k)

    by_due : Again → (o : Option Due) → next_turn at.place at.core ≡ o
        → option_and_then (λ next. walk next_turn line next es) (option_and_then (λ d. if is_it line at.core d e.0 then Some (behind d) else None) o) ≡ Some end
        → walk next_due line at (e ∷ es) ≡ Some end
    by_due again None is k = absurd (cc k)
    by_due again (Some d) is k =
        subst (λ o. option_and_then (λ next. walk next_due line next es) (option_and_then (λ d. if is_it line at.core d e.0 then Some (behind d) else None) o) ≡ Some end)
        (sym (due_up at.place at.core d is)) (by_it again d (is_it line at.core d e.0) k)

pub opening_due : (whole : Bool) (core : Core) (es : Events) → is_walk next_turn whole 0 core es ≡ true → is_walk next_due false 0 core es ≡ true
opening_due whole core es h = by_end (walk next_turn 0 (record { place = first_place; core = core }) es) refl h
  where
    by_end : (o : Option Walked) → walk next_turn 0 (record { place = first_place; core = core }) es ≡ o → option_map_or (λ at. not whole || is_none (next_turn at.place at.core)) o false ≡ true
        → is_walk next_due false 0 core es ≡ true
    by_end None e k = absurd (cc k)
    by_end (Some end) e k = ap (λ o. option_map_or (λ at. not false || is_none (next_due at.place at.core)) o false) (turns_due 0 (record { place = first_place; core = core }) es end e)

-- none comes to a core that has ended
pub opening_none : (whole : Bool) (core : Core) (es : Events) (f : CoreFault) → core.ended ≡ Some f → is_walk next_turn whole 0 core es ≡ true → es ≡ []
opening_none whole core [] f over h = refl
opening_none whole core (e ∷ es) f over h = let going : core.ended ≡ None = (opening_its (λ n. None) whole core (e ∷ es) h).0.going in let both : Some f ≡ None = sym over ∙ going in absurd (cc both)

-- ---- lines

pub next_going : (s : Script) (line : ℕ) (core : Core) (es : Events) (rest : List Events) → AreLines s line core (es ∷ rest) → core.ended ≡ None
next_going s line core es [] are = are.going
next_going s line core es (next ∷ rest) are = are.0.going

pub lines_ask : (s : Script) (line : ℕ) (core : Core) (lines : List Events) → AreLines s line core lines → AllAsk s.commands core (all_events lines)
lines_ask s line core [] are = tt
lines_ask s line core (es ∷ []) are =
    ask_append s.commands core es [] (its_ask s.commands line core es (line_its s.commands s.name (record { line = line; core = core; events = es; whole = s.past }) are.going are.events)) tt
lines_ask s line core (es ∷ next ∷ rest) are =
    ask_append s.commands core es (all_events (next ∷ rest)) (its_ask s.commands line core es (line_its s.commands s.name (record { line = line; core = core; events = es; whole = true }) are.0.going are.0.events))
    (lines_ask s (line + 1) (steps core es) (next ∷ rest) are.1)

pub record Lasts (line : ℕ) (lines : List Events) (old new : Core) : Type 0 where
  pub upward : old.progress.event_line ≤ new.progress.event_line
  pub within : new.progress.event_line < line + length lines

pub lines_last : (s : Script) (line : ℕ) (core : Core) (lines : List Events) → AreLines s line core lines → core.progress.event_line < line → Lasts line lines core (steps core (all_events lines))
lines_last s line core [] are low = record { upward = omega arith; within = omega (arith, low) }
lines_last s line core (es ∷ []) are low =
    let its : AllIts s.commands line core es = line_its s.commands s.name (record { line = line; core = core; events = es; whole = s.past }) are.going are.events in
    let stay : Stays s.commands line core (steps core es) = its_stay s.commands line core es its (omega (arith, low)) in
    subst (λ (c : Core). Lasts line (es ∷ []) core c) (sym (steps_append core es []))
    (record { upward = stay.upward; within = (let w : (steps core es).progress.event_line ≤ line = stay.within in omega (arith, w)) })
lines_last s line core (es ∷ next ∷ rest) are low =
    let its : AllIts s.commands line core es = line_its s.commands s.name (record { line = line; core = core; events = es; whole = true }) are.0.going are.0.events in
    let stay : Stays s.commands line core (steps core es) = its_stay s.commands line core es its (omega (arith, low)) in
    let more : Lasts (line + 1) (next ∷ rest) (steps core es) (steps (steps core es) (all_events (next ∷ rest))) =
    lines_last s (line + 1) (steps core es) (next ∷ rest) are.1 (let w : (steps core es).progress.event_line ≤ line = stay.within in omega (arith, w)) in
    subst (λ (c : Core). Lasts line (es ∷ next ∷ rest) core c) (sym (steps_append core es (all_events (next ∷ rest))))
    (record {
      upward = (let a : core.progress.event_line ≤ (steps core es).progress.event_line = stay.upward in let b : (steps core es).progress.event_line ≤ (steps (steps core es) (all_events (next ∷ rest))).progress.event_line = more.upward in omega (arith, a, b));
      within = (let w : (steps (steps core es) (all_events (next ∷ rest))).progress.event_line < (line + 1) + length (next ∷ rest) = more.within in omega (arith, w));
    })

-- ---- a line that has an event of its own

-- all but one that says nothing, and `settle`
abbrev pub Speaks : Option Command → Type 0
Speaks None = ⊥
Speaks (Some (command.Client o)) = Unit {0}
Speaks (Some command.Settle) = ⊥
Speaks (Some (command.Turn peer)) = Unit {0}
Speaks (Some (command.Nudge peer)) = Unit {0}
Speaks (Some (command.Deliver number)) = Unit {0}
Speaks (Some (command.Lose number)) = Unit {0}
Speaks (Some (command.Repeat number)) = Unit {0}
Speaks (Some (command.Fail peer)) = Unit {0}
Speaks (Some (command.Start peer)) = Unit {0}
Speaks (Some (command.Reclaim peer)) = Unit {0}

pub record Says (at : LineAt) : Type 0 where
  pub silent : at.events ≡ [] → at.whole ≡ false
  pub said : (e : Event × ℕ) (es : Events) → at.events ≡ e ∷ es → line_of e.0 ≡ at.line

begins_says : (at : LineAt) (asked : Event) (due : Core → Option Due) → line_of asked ≡ at.line → BeginsWith at asked due → Says at
begins_says at asked due of begins = go at.events begins
  where
    it : Events → LineAt
    it es = record { line = at.line; core = at.core; events = es; whole = at.whole }

    head_is : (e f : Event × ℕ) (es fs : Events) → e ∷ es ≡ f ∷ fs → e ≡ f
    head_is e f es fs k = cc k

    go : (es : Events) → BeginsWith (it es) asked due → Says (it es)
    go [] cut = record { silent = λ e. cut; said = λ e es k. absurd (cc k) }
    go (e ∷ es) (same, one) = record {
      silent = λ k. absurd (cc k);
      said = λ f fs k. ap (λ (x : Event × ℕ). line_of x.0) (sym (head_is e f es fs k)) ∙ ap line_of same ∙ of;
    }

pub line_says : (name : List ℕ → Address) (at : LineAt) (c : Option Command) → Speaks c → AreOfLine name at c → Says at
line_says name at None s a = absurd s
line_says name at (Some (command.Client o)) s a = begins_says at (event.Line at.line (addressed name at.core.sessions o)) (λ core. None) refl a
line_says name at (Some command.Settle) s a = absurd s
line_says name at (Some (command.Turn peer)) s a = begins_says at (event.Turn at.line peer) (turn_behind peer) refl a
line_says name at (Some (command.Nudge peer)) s a = begins_says at (event.Nudge at.line peer) (λ core. None) refl a
line_says name at (Some (command.Deliver number)) s a = begins_says at (event.Deliver at.line number) (λ core. None) refl a
line_says name at (Some (command.Lose number)) s a = begins_says at (event.Lose at.line number) (λ core. None) refl a
line_says name at (Some (command.Repeat number)) s a = begins_says at (event.Repeat at.line number) (λ core. None) refl a
line_says name at (Some (command.Fail peer)) s a = begins_says at (event.Fail at.line peer) (λ core. None) refl a
line_says name at (Some (command.Start peer)) s a = begins_says at (event.Start at.line peer) (λ core. None) refl a
line_says name at (Some (command.Reclaim peer)) s a = absurd a

-- behind it, where it had its event, it is the last line
pub line_reached : (name : List ℕ → Address) (commands : ℕ → Option Command) (at : LineAt) → at.core.ended ≡ None → 1 ≤ at.line → Speaks (commands at.line) → AreOfLine name at (commands at.line)
    → (at.events ≡ [] → ⊥) → at.line ≤ (steps at.core at.events).progress.event_line
line_reached name commands at going low speaks are some = go at.events refl
  where
    says : Says at
    says = line_says name at (commands at.line) speaks are

    its : AllIts commands at.line at.core at.events
    its = line_its commands name at going are

    go : (es : Events) → at.events ≡ es → at.line ≤ (steps at.core es).progress.event_line
    go [] is = absurd (some is)
    go (e ∷ es) is =
        let here : (step e.0 e.1 at.core).progress.event_line ≡ at.line = step_at e.0 e.1 at.line at.core going (says.said e es is) low in
        let stay : Stays commands at.line (step e.0 e.1 at.core) (steps (step e.0 e.1 at.core) es) =
        its_stay commands at.line (step e.0 e.1 at.core) es (subst (λ xs. AllIts commands at.line at.core xs) is its).1 (omega (arith, here)) in
        let up : (step e.0 e.1 at.core).progress.event_line ≤ (steps (step e.0 e.1 at.core) es).progress.event_line = stay.upward in
        omega (arith, here, up)

-- the last of some lines had an event
abbrev pub LastSpoke : List Events → Type 0
LastSpoke lines = (front : List Events) (es : Events) → lines ≡ front ++ es ∷ [] → es ≡ [] → ⊥

-- a line that was gone past had its event, and so had the last one, where it was gone past or had any
pub reached : (s : Script) (line : ℕ) (core : Core) (lines : List Events) → AreLines s line core lines → 1 ≤ line → core.progress.event_line < line → (k : ℕ) → line ≤ k → k < line + length lines
    → Speaks (s.commands k) → (k + 1 < line + length lines) ⊎ ((s.past ≡ true) ⊎ LastSpoke lines) → k ≤ (steps core (all_events lines)).progress.event_line
reached s line core [] are one low k from to speaks shut = absurd (omega (arith, from, to))
reached s line core (es ∷ []) are one low k from to speaks shut =
    subst (λ (c : Core). k ≤ c.progress.event_line) (sym (steps_append core es [])) (subst (λ j. j ≤ (steps core es).progress.event_line) (sym here) (line_reached s.name s.commands at are.going one speaks_here are.events some))
  where
    at : LineAt
    at = record { line = line; core = core; events = es; whole = s.past }

    here : k ≡ line
    here = omega (arith, from, to)

    speaks_here : Speaks (s.commands line)
    speaks_here = subst (λ j. Speaks (s.commands j)) here speaks

    some : es ≡ [] → ⊥
    some none = elim shut [
      | inl more ↦ omega (arith, more, here)
      | inr last ↦ elim last [
        | inl past ↦ not_both (sym past ∙ (line_says s.name at (s.commands line) speaks_here are.events).silent none)
        | inr spoke ↦ spoke [] es refl none
      ]
    ]
reached s line core (es ∷ next ∷ rest) are one low k from to speaks shut =
    subst (λ (c : Core). k ≤ c.progress.event_line) (sym (steps_append core es (all_events (next ∷ rest))))
    (elim (cases_eq k line) [
      | inl e ↦ first_one e
      | inr d ↦ reached s (line + 1) (steps core es) (next ∷ rest) are.1 (omega arith) next_low k (omega (arith, from, d)) (omega (arith, to)) speaks shut_next
    ])
  where
    at : LineAt
    at = record { line = line; core = core; events = es; whole = true }

    its : AllIts s.commands line core es
    its = line_its s.commands s.name at are.0.going are.0.events

    stay : Stays s.commands line core (steps core es)
    stay = its_stay s.commands line core es its (omega (arith, low))

    next_low : (steps core es).progress.event_line < line + 1
    next_low = let w : (steps core es).progress.event_line ≤ line = stay.within in omega (arith, w)

    first_one : k ≡ line → k ≤ (steps (steps core es) (all_events (next ∷ rest))).progress.event_line
    first_one e =
        let speaks_here : Speaks (s.commands line) = subst (λ j. Speaks (s.commands j)) e speaks in
        let some : es ≡ [] → ⊥ = λ none. not_both ((line_says s.name at (s.commands line) speaks_here are.0.events).silent none) in
        let here : line ≤ (steps core es).progress.event_line = line_reached s.name s.commands at are.0.going one speaks_here are.0.events some in
        let more : Lasts (line + 1) (next ∷ rest) (steps core es) (steps (steps core es) (all_events (next ∷ rest))) = lines_last s (line + 1) (steps core es) (next ∷ rest) are.1 next_low in
        let up : (steps core es).progress.event_line ≤ (steps (steps core es) (all_events (next ∷ rest))).progress.event_line = more.upward in
        omega (arith, e, here, up)

    shut_next : (k + 1 < (line + 1) + length (next ∷ rest)) ⊎ ((s.past ≡ true) ⊎ LastSpoke (next ∷ rest))
    shut_next = elim shut [
      | inl more ↦ inl (omega (arith, more))
      | inr last ↦ inr (elim last [ inl past ↦ inl past | inr spoke ↦ inr (λ front xs e. spoke (es ∷ front) xs (ap (λ (ys : List Events). es ∷ ys) e)) ])
    ]

-- ---- clients' lines that are answered in their own event

pub prompt_speaks : (c : Option Command) → IsPrompt (client_op c) → Speaks c
prompt_speaks None h = absurd h
prompt_speaks (Some (command.Client o)) h = tt
prompt_speaks (Some command.Settle) h = absurd h
prompt_speaks (Some (command.Turn peer)) h = absurd h
prompt_speaks (Some (command.Nudge peer)) h = absurd h
prompt_speaks (Some (command.Deliver number)) h = absurd h
prompt_speaks (Some (command.Lose number)) h = absurd h
prompt_speaks (Some (command.Repeat number)) h = absurd h
prompt_speaks (Some (command.Fail peer)) h = absurd h
prompt_speaks (Some (command.Start peer)) h = absurd h
prompt_speaks (Some (command.Reclaim peer)) h = absurd h

pub record AsksFor (c : Option Command) : Type 0 where
  pub op : Op
  pub is : client_op c ≡ Some op

pub prompt_op : (c : Option Command) → IsPrompt (client_op c) → AsksFor c
prompt_op None h = absurd h
prompt_op (Some (command.Client o)) h = record { op = o; is = refl }
prompt_op (Some command.Settle) h = absurd h
prompt_op (Some (command.Turn peer)) h = absurd h
prompt_op (Some (command.Nudge peer)) h = absurd h
prompt_op (Some (command.Deliver number)) h = absurd h
prompt_op (Some (command.Lose number)) h = absurd h
prompt_op (Some (command.Repeat number)) h = absurd h
prompt_op (Some (command.Fail peer)) h = absurd h
prompt_op (Some (command.Start peer)) h = absurd h
prompt_op (Some (command.Reclaim peer)) h = absurd h

-- its events are one, or none yet
pub prompt_one : (name : List ℕ → Address) (at : LineAt) (c : Option Command) → IsPrompt (client_op c) → AreOfLine name at c → (at.events ≡ []) ⊎ ((e : Event × ℕ) × (at.events ≡ e ∷ []))
prompt_one name at None h a = absurd h
prompt_one name at (Some (command.Client o)) h a = go at.events a
  where
    it : Events → LineAt
    it es = record { line = at.line; core = at.core; events = es; whole = at.whole }

    go : (es : Events) → BeginsWith (it es) (event.Line at.line (addressed name at.core.sessions o)) (λ core. None) → (es ≡ []) ⊎ ((e : Event × ℕ) × (es ≡ e ∷ []))
    go [] cut = inl refl
    go (e ∷ []) (same, one) = inr (e, refl)
    go (e ∷ f ∷ es) (same, one) = absurd (cc one)
prompt_one name at (Some command.Settle) h a = absurd h
prompt_one name at (Some (command.Turn peer)) h a = absurd h
prompt_one name at (Some (command.Nudge peer)) h a = absurd h
prompt_one name at (Some (command.Deliver number)) h a = absurd h
prompt_one name at (Some (command.Lose number)) h a = absurd h
prompt_one name at (Some (command.Repeat number)) h a = absurd h
prompt_one name at (Some (command.Fail peer)) h a = absurd h
prompt_one name at (Some (command.Start peer)) h a = absurd h
prompt_one name at (Some (command.Reclaim peer)) h a = absurd h
