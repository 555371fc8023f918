-- Of the events of lines the write of a client comes with the address that the naming gives its block.
use Rattle.std.proofs.Common.{◌≡◌, ◌∙◌, ap, sym, subst, ℕ, ◌+◌, ◌≤◌, ◌++◌, Bool, true, false, not, ◌||◌, List, [], ◌∷◌, Option, Some, None, refl, length, is_none, arith}
use Rattle.std.proofs.lemmas.Bool.{ne_eqb}
use Rattle.std.specs.Option.{option_and_then, option_map_or}
use Rattle.std.specs.Prelude.{if◌then◌else◌, ◌==◌, ◌&&◌}
use Rattle.hs_answered.specs.Standing.{store_with}
use Rattle.hs_answered.specs.Telling.{Judging}
use Rattle.hs_standing.specs.Answered.{judging_by}
use Rattle.hs_core_words.specs.declared.event.Event.{Event}
use Rattle.hs_core_words.specs.declared.event.Event.TheVariants as event
use Rattle.hs_core_words.specs.Looking.{operation_of}
use Rattle.hs_core_words.specs.State.{Core}
use Rattle.hs_core_words.specs.Step.{step}
use Rattle.hs_effects.specs.Logged.{IsNewLine, MayBegin, MayBeginAll}
use Rattle.hs_events.specs.Asked.{addressed}
use Rattle.hs_events.specs.Commands.{AreOfLine, BeginsWith, LineAt}
use Rattle.hs_events.specs.Course.{steps}
use Rattle.hs_events.specs.declared.due.Due.{Due}
use Rattle.hs_events.specs.declared.due.Place.{Place}
use Rattle.hs_events.specs.Due.{Events, Walked, first_place, is_it, is_one, is_walk, next_due, place_after, raises_known, turn_behind, walk}
use Rattle.hs_journal.specs.Events.{client_op}
use Rattle.hs_journal.specs.Events.{addressed as said_at}
use Rattle.hs_standing.specs.Coming.{ComesAddressed}
use Rattle.hs_standing.specs.Commands.{IsLineOf}
use Rattle.hs_limits.specs.declared.limits.Limits.{Limits}
use Rattle.hs_standing.proofs.LinesLineLemmas.{Passes, line_passes}
use Rattle.hs_standing.specs.Script.{AreLines, IsNext, Script, all_events}
use Rattle.hs_model.specs.declared.command.Command.{Command}
use Rattle.hs_model.specs.declared.command.Command.TheVariants as command
use Rattle.hs_model.specs.declared.op.Op.{Op}

-- the event of a script's line comes as its command asks, as hs_standing has it
abbrev pub LinesAsk : Judging → Type 0
LinesAsk by = (core : Core) (line : ℕ) (said : Op) → client_op (by.commands line) ≡ Some said → operation_of line core ≡ None → 1 ≤ line → IsLineOf by core line (addressed by.name core.sessions said)

-- so it is with each of some events
abbrev pub AllAddressed : Judging → Events → Core → Type 0
AllAddressed by [] core = Unit {0}
AllAddressed by (e ∷ es) core = ComesAddressed by e.0 core × AllAddressed by es (step e.0 e.1 core)

some_is : (x y : Op) → Some x ≡ Some y → x ≡ y
some_is x y e = cc e

module _ (by : Judging) where
  -- ---- events that are due

  due_addressed : (line : ℕ) (core : Core) (d : Due) (e : Event) → is_it line core d e ≡ true → ComesAddressed by e core
  due_addressed line core d (event.Line l o) h = absurd (cc h)
  due_addressed line core d (event.Report peer r) h = tt
  due_addressed line core d (event.Turn l peer) h = tt
  due_addressed line core d (event.Deliver l number) h = tt
  due_addressed line core d (event.Lose l number) h = tt
  due_addressed line core d (event.Repeat l number) h = tt
  due_addressed line core d (event.Nudge l peer) h = tt
  due_addressed line core d (event.Fail l peer) h = tt
  due_addressed line core d (event.Start l peer) h = tt

  walk_addressed : (due : Place → Core → Option Due) (line : ℕ) (at : Walked) (es : Events) (end : Walked) → walk due line at es ≡ Some end → AllAddressed by es at.core
  walk_addressed due line at [] end h = tt
  walk_addressed due line at (e ∷ es) end h = by_due (λ next g. walk_addressed due line next es end g) (due at.place at.core) h
    where
      Again : Type 0
      Again = (next : Walked) → walk due line next es ≡ Some end → AllAddressed by es next.core

      after : Core
      after = step e.0 e.1 at.core

      behind : Due → Walked
      behind d = record { place = place_after d (raises_known at.core after) at.place; core = after }

      by_it : Again → (d : Due) (b : Bool) → is_it line at.core d e.0 ≡ b
          → option_and_then (λ next. walk due line next es) (if b then Some (behind d) else None) ≡ Some end → AllAddressed by (e ∷ es) at.core
      by_it again d true it k = (due_addressed line at.core d e.0 it, again (behind d) k)
      by_it again d false it k = absurd (cc k)

      by_due : Again → (o : Option Due) → option_and_then (λ next. walk due line next es) (option_and_then (λ d. if is_it line at.core d e.0 then Some (behind d) else None) o) ≡ Some end
          → AllAddressed by (e ∷ es) at.core
      by_due again None k = absurd (cc k)
      by_due again (Some d) k = by_it again d (is_it line at.core d e.0) refl k

  pub settle_addressed : (whole : Bool) (line : ℕ) (core : Core) (es : Events) → is_walk next_due whole line core es ≡ true → AllAddressed by es core
  settle_addressed whole line core es h = by_end (walk next_due line (record { place = first_place; core = core }) es) refl h
    where
      by_end : (o : Option Walked) → walk next_due line (record { place = first_place; core = core }) es ≡ o
          → option_map_or (λ at. not whole || is_none (next_due at.place at.core)) o false ≡ true → AllAddressed by es core
      by_end None e k = absurd (cc k)
      by_end (Some end) e k = walk_addressed next_due line (record { place = first_place; core = core }) es end e

  one_addressed : (line : ℕ) (core : Core) (whole : Bool) (o : Option Due) (es : Events) → is_one o whole line core es ≡ true → AllAddressed by es core
  one_addressed line core whole None [] h = tt
  one_addressed line core whole None (e ∷ es) h = absurd (cc h)
  one_addressed line core whole (Some d) [] h = tt
  one_addressed line core whole (Some d) (e ∷ es) h = by_it (is_it line core d e.0) refl h
    where
      by_rest : (fs : Events) → (length fs == 0) ≡ true → AllAddressed by fs (step e.0 e.1 core)
      by_rest [] k = tt
      by_rest (f ∷ fs) k = let no : (length (f ∷ fs) == 0) ≡ false = ne_eqb (length (f ∷ fs)) 0 (λ n. omega (arith, n)) in let both : true ≡ false = sym k ∙ no in absurd (cc both)

      by_it : (b : Bool) → is_it line core d e.0 ≡ b → (b && (length es == 0)) ≡ true → AllAddressed by (e ∷ es) core
      by_it true it k = (due_addressed line core d e.0 it, by_rest es k)
      by_it false it k = absurd (cc k)

  begins_addressed : (at : LineAt) (asked : Event) (due : Core → Option Due) → ComesAddressed by asked at.core → BeginsWith at asked due → AllAddressed by at.events at.core
  begins_addressed at asked due comes begins = go at.events begins
    where
      go : (es : Events) → BeginsWith (record { line = at.line; core = at.core; events = es; whole = at.whole }) asked due → AllAddressed by es at.core
      go [] cut = tt
      go (e ∷ es) (same, one) = (subst (λ x. ComesAddressed by x at.core) (sym same) comes, one_addressed at.line (step e.0 e.1 at.core) at.whole (due (step e.0 e.1 at.core)) es one)

  -- ---- a client's line

  client_comes : LinesAsk by → (core : Core) (line : ℕ) (o : Op) → client_op (by.commands line) ≡ Some o → IsNewLine by.name core line (addressed by.name core.sessions o)
      → ComesAddressed by (event.Line line (addressed by.name core.sessions o)) core
  client_comes ask core line o is fresh =
      let comes : IsLineOf by core line (addressed by.name core.sessions o) = ask core line o is fresh.new fresh.counted in
      λ said cs asks. subst (λ (x : Op). said_at by.name (store_with cs core.sessions) x ≡ addressed by.name core.sessions o)
      (some_is comes.says.said said (sym comes.says.asks ∙ asks)) (comes.says.same cs)

  client_addressed : LinesAsk by → (at : LineAt) (o : Op) → client_op (by.commands at.line) ≡ Some o → MayBeginAll by.name at.events at.core
      → BeginsWith at (event.Line at.line (addressed by.name at.core.sessions o)) (λ core. None) → AllAddressed by at.events at.core
  client_addressed ask at o is new begins = go at.events new begins
    where
      asked : Event
      asked = event.Line at.line (addressed by.name at.core.sessions o)

      go : (es : Events) → MayBeginAll by.name es at.core → BeginsWith (record { line = at.line; core = at.core; events = es; whole = at.whole }) asked (λ core. None) → AllAddressed by es at.core
      go [] fresh cut = tt
      go (e ∷ es) fresh (same, one) = (
        subst (λ x. ComesAddressed by x at.core) (sym same) (client_comes ask at.core at.line o is (subst (λ x. MayBegin by.name x at.core) same fresh.0)),
        one_addressed at.line (step e.0 e.1 at.core) at.whole None es one,
      )

  line_addressed : LinesAsk by → (at : LineAt) → MayBeginAll by.name at.events at.core → AreOfLine by.name at (by.commands at.line) → AllAddressed by at.events at.core
  line_addressed ask at new are = by_command (by.commands at.line) refl are
    where
      by_command : (c : Option Command) → by.commands at.line ≡ c → AreOfLine by.name at c → AllAddressed by at.events at.core
      by_command None is empty = subst (λ es. AllAddressed by es at.core) (sym empty) tt
      by_command (Some (command.Client o)) is a = client_addressed ask at o (ap client_op is) new a
      by_command (Some command.Settle) is a = settle_addressed at.whole at.line at.core at.events a
      by_command (Some (command.Turn peer)) is a = begins_addressed at (event.Turn at.line peer) (turn_behind peer) tt a
      by_command (Some (command.Nudge peer)) is a = begins_addressed at (event.Nudge at.line peer) (λ core. None) tt a
      by_command (Some (command.Deliver number)) is a = begins_addressed at (event.Deliver at.line number) (λ core. None) tt a
      by_command (Some (command.Lose number)) is a = begins_addressed at (event.Lose at.line number) (λ core. None) tt a
      by_command (Some (command.Repeat number)) is a = begins_addressed at (event.Repeat at.line number) (λ core. None) tt a
      by_command (Some (command.Fail peer)) is a = begins_addressed at (event.Fail at.line peer) (λ core. None) tt a
      by_command (Some (command.Start peer)) is a = begins_addressed at (event.Start at.line peer) (λ core. None) tt a
      by_command (Some (command.Reclaim peer)) is a = absurd a

  -- ---- lines

  all_addressed : (core : Core) (es fs : Events) → AllAddressed by es core → AllAddressed by fs (steps core es) → AllAddressed by (es ++ fs) core
  all_addressed core [] fs a b = b
  all_addressed core (e ∷ es) fs a b = (a.0, all_addressed (step e.0 e.1 core) es fs a.1 b)

  begin_first : (core : Core) (es fs : Events) → MayBeginAll by.name (es ++ fs) core → MayBeginAll by.name es core
  begin_first core [] fs a = tt
  begin_first core (e ∷ es) fs a = (a.0, begin_first (step e.0 e.1 core) es fs a.1)

  begin_rest : (core : Core) (es fs : Events) → MayBeginAll by.name (es ++ fs) core → MayBeginAll by.name fs (steps core es)
  begin_rest core [] fs a = a
  begin_rest core (e ∷ es) fs a = begin_rest (step e.0 e.1 core) es fs a.1

pub lines_addressed : (s : Script) (limits : Limits) → LinesAsk (judging_by s limits) → (line : ℕ) (core : Core) (lines : List Events) → IsNext s.commands core line
    → MayBeginAll s.name (all_events lines) core → AreLines s line core lines → AllAddressed (judging_by s limits) (all_events lines) core
lines_addressed s limits ask line core [] its new are = tt
lines_addressed s limits ask line core (es ∷ []) its new are =
    let by : Judging = judging_by s limits in
    all_addressed by core es [] (line_addressed by ask (record { line = line; core = core; events = es; whole = s.past }) (begin_first by core es [] new) are.events) tt
lines_addressed s limits ask line core (es ∷ next ∷ rest) its new are =
    let by : Judging = judging_by s limits in
    let at : LineAt = record { line = line; core = core; events = es; whole = true } in
    let first : Passes s.commands at = line_passes s.commands s.name at its are.0.events in
    all_addressed by core es (all_events (next ∷ rest)) (line_addressed by ask at (begin_first by core es (all_events (next ∷ rest)) new) are.0.events)
    (lines_addressed s limits ask (line + 1) (steps core es) (next ∷ rest) (first.next refl are.0.going) (begin_rest by core es (all_events (next ∷ rest)) new) are.1)
