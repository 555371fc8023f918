-- Clients' lines are new, and a write comes with the address of its block.
use Rattle.std.proofs.Common.{◌≡◌, ◌∙◌, sym, subst, ℕ, ◌+◌, ◌<◌, ◌++◌, Bool, true, false, not, ◌||◌, List, [], ◌∷◌, Option, Some, None, refl, length, is_none, arith}
use Rattle.std.proofs.lemmas.Bool.{ne_eqb}
use Rattle.std.specs.Option.{option_and_then, option_map_or}
use Rattle.std.specs.Prelude.{if◌then◌else◌, ◌==◌, ◌&&◌}
use Rattle.hs_awaiting.specs.declared.waiting.Waiting.{Waiting}
use Rattle.hs_core_words.specs.declared.event.Event.{Event}
use Rattle.hs_core_words.specs.declared.event.Event.TheVariants as event
use Rattle.hs_core_words.specs.Looking.{operation_of}
use Rattle.hs_core_words.specs.State.{Core}
use Rattle.hs_core_words.specs.Step.{step}
use Rattle.hs_effects.specs.Logged.{IsCalled, MayBegin, MayBeginAll}
use Rattle.hs_events.proofs.AddressLemmas.{address_found}
use Rattle.hs_events.specs.Asked.{addressed}
use Rattle.hs_events.specs.Commands.{AreOfLine, BeginsWith, LineAt}
use Rattle.hs_events.specs.Course.{steps}
use Rattle.hs_events.specs.declared.due.Due.{Due}
use Rattle.hs_events.specs.declared.due.Place.{Place}
use Rattle.hs_events.specs.Due.{Events, Walked, first_place, is_it, is_one, is_walk, next_due, place_after, raises_known, turn_behind, walk}
use Rattle.hs_limits.specs.declared.address.Address.{Address}
use Rattle.hs_standing.proofs.LinesLineLemmas.{Passes, line_passes}
use Rattle.hs_standing.specs.Script.{AreLines, IsNext, Script, all_events}
use Rattle.hs_model.specs.declared.command.Command.{Command}
use Rattle.hs_model.specs.declared.command.Command.TheVariants as command
use Rattle.hs_model.specs.declared.op.Op.{Op}
use Rattle.hs_model.specs.declared.op.Op.TheVariants as op
use Rattle.hs_ops.specs.Speaking.{asked_block}
use Rattle.hs_told.specs.InTurn.{AllMayCome, IsInTurn, after_all}

-- ---- events that are due

module _ (name : List ℕ → Address) where
  due_new : (line : ℕ) (core : Core) (d : Due) (e : Event) → is_it line core d e ≡ true → MayBegin name e core
  due_new line core d (event.Line l o) h = absurd (cc h)
  due_new line core d (event.Report peer r) h = tt
  due_new line core d (event.Turn l peer) h = tt
  due_new line core d (event.Deliver l number) h = tt
  due_new line core d (event.Lose l number) h = tt
  due_new line core d (event.Repeat l number) h = tt
  due_new line core d (event.Nudge l peer) h = tt
  due_new line core d (event.Fail l peer) h = tt
  due_new line core d (event.Start l peer) h = tt

  walk_new : (due : Place → Core → Option Due) (line : ℕ) (at : Walked) (es : Events) (end : Walked) → walk due line at es ≡ Some end → MayBeginAll name es at.core
  walk_new due line at [] end h = tt
  walk_new due line at (e ∷ es) end h = by_due (λ next g. walk_new due line next es end g) (due at.place at.core) h
    where
      Again : Type 0
      Again = (next : Walked) → walk due line next es ≡ Some end → MayBeginAll name es next.core

      after : Core
      after = step e.0 e.1 at.core

      behind : Due → Walked
      behind d = record { place = place_after d (raises_known at.core after) at.place; core = after }

      by_it : Again → (d : Due) (b : Bool) → is_it line at.core d e.0 ≡ b
          → option_and_then (λ next. walk due line next es) (if b then Some (behind d) else None) ≡ Some end → MayBeginAll name (e ∷ es) at.core
      by_it again d true it k = (due_new line at.core d e.0 it, again (behind d) k)
      by_it again d false it k = absurd (cc k)

      by_due : Again → (o : Option Due) → option_and_then (λ next. walk due line next es) (option_and_then (λ d. if is_it line at.core d e.0 then Some (behind d) else None) o) ≡ Some end
          → MayBeginAll name (e ∷ es) at.core
      by_due again None k = absurd (cc k)
      by_due again (Some d) k = by_it again d (is_it line at.core d e.0) refl k

  pub settle_new : (whole : Bool) (line : ℕ) (core : Core) (es : Events) → is_walk next_due whole line core es ≡ true → MayBeginAll name es core
  settle_new whole line core es h = by_end (walk next_due line (record { place = first_place; core = core }) es) refl h
    where
      by_end : (o : Option Walked) → walk next_due line (record { place = first_place; core = core }) es ≡ o
          → option_map_or (λ at. not whole || is_none (next_due at.place at.core)) o false ≡ true → MayBeginAll name es core
      by_end None e k = absurd (cc k)
      by_end (Some end) e k = walk_new next_due line (record { place = first_place; core = core }) es end e

  one_new : (line : ℕ) (core : Core) (whole : Bool) (o : Option Due) (es : Events) → is_one o whole line core es ≡ true → MayBeginAll name es core
  one_new line core whole None [] h = tt
  one_new line core whole None (e ∷ es) h = absurd (cc h)
  one_new line core whole (Some d) [] h = tt
  one_new line core whole (Some d) (e ∷ es) h = by_it (is_it line core d e.0) refl h
    where
      by_rest : (fs : Events) → (length fs == 0) ≡ true → MayBeginAll name fs (step e.0 e.1 core)
      by_rest [] k = tt
      by_rest (f ∷ fs) k = let no : (length (f ∷ fs) == 0) ≡ false = ne_eqb (length (f ∷ fs)) 0 (λ n. omega (arith, n)) in let both : true ≡ false = sym k ∙ no in absurd (cc both)

      by_it : (b : Bool) → is_it line core d e.0 ≡ b → (b && (length es == 0)) ≡ true → MayBeginAll name (e ∷ es) core
      by_it true it k = (due_new line core d e.0 it, by_rest es k)
      by_it false it k = absurd (cc k)

  begins_new : (at : LineAt) (asked : Event) (due : Core → Option Due) → MayBegin name asked at.core → BeginsWith at asked due → MayBeginAll name at.events at.core
  begins_new at asked due new begins = go at.events begins
    where
      go : (es : Events) → BeginsWith (record { line = at.line; core = at.core; events = es; whole = at.whole }) asked due → MayBeginAll name es at.core
      go [] cut = tt
      go (e ∷ es) (same, one) = (subst (λ x. MayBegin name x at.core) (sym same) new, one_new at.line (step e.0 e.1 at.core) at.whole (due (step e.0 e.1 at.core)) es one)

  -- ---- a client's line

  called : (core : Core) (o : Op) → IsCalled name core.sessions (addressed name core.sessions o)
  unfolding asked_block
  called core (op.Open session) = tt
  called core (op.Close session) = tt
  called core (op.Write session payload handles address) = λ has. address_found name core.sessions session payload handles has.held has.few has.short
  called core (op.Read session handle) = tt
  called core (op.Look session key) = tt
  called core (op.Root session key handle) = tt
  called core (op.Drop key) = tt
  called core (op.Forget session handle) = tt
  called core (op.Name session handle) = tt
  called core op.Delete = tt
  called core op.Stat = tt

  no_operation : (commands : ℕ → Option Command) (core : Core) (line : ℕ) → IsInTurn commands core → core.progress.event_line < line → operation_of line core ≡ None
  no_operation commands core line turn above = go (operation_of line core) refl
    where
      go : (w : Option Waiting) → operation_of line core ≡ w → operation_of line core ≡ None
      go None e = e
      go (Some w) e =
          let below : line < core.progress.event_line + 1 = turn.turns.below line w.operation.op (rw e refl) in
          absurd (omega (arith, below, above))

  pub line_new : (commands : ℕ → Option Command) (at : LineAt) → IsInTurn commands at.core → at.core.progress.event_line < at.line → AreOfLine name at (commands at.line) → MayBeginAll name at.events at.core
  line_new commands at turn above are = by_command (commands at.line) are
    where
      by_command : (c : Option Command) → AreOfLine name at c → MayBeginAll name at.events at.core
      by_command None empty = subst (λ es. MayBeginAll name es at.core) (sym empty) tt
      by_command (Some (command.Client o)) a =
          begins_new at (event.Line at.line (addressed name at.core.sessions o)) (λ core. None)
          (record { new = no_operation commands at.core at.line turn above; counted = omega (arith, above); called = called at.core o }) a
      by_command (Some command.Settle) a = settle_new at.whole at.line at.core at.events a
      by_command (Some (command.Turn peer)) a = begins_new at (event.Turn at.line peer) (turn_behind peer) tt a
      by_command (Some (command.Nudge peer)) a = begins_new at (event.Nudge at.line peer) (λ core. None) tt a
      by_command (Some (command.Deliver number)) a = begins_new at (event.Deliver at.line number) (λ core. None) tt a
      by_command (Some (command.Lose number)) a = begins_new at (event.Lose at.line number) (λ core. None) tt a
      by_command (Some (command.Repeat number)) a = begins_new at (event.Repeat at.line number) (λ core. None) tt a
      by_command (Some (command.Fail peer)) a = begins_new at (event.Fail at.line peer) (λ core. None) tt a
      by_command (Some (command.Start peer)) a = begins_new at (event.Start at.line peer) (λ core. None) tt a
      by_command (Some (command.Reclaim peer)) a = absurd a

  -- ---- lines

  all_new : (core : Core) (es fs : Events) → MayBeginAll name es core → MayBeginAll name fs (steps core es) → MayBeginAll name (es ++ fs) core
  all_new core [] fs a b = b
  all_new core (e ∷ es) fs a b = (a.0, all_new (step e.0 e.1 core) es fs a.1 b)

come_first : (commands : ℕ → Option Command) (core : Core) (es fs : Events) → AllMayCome commands core (es ++ fs) → AllMayCome commands core es
come_first commands core [] fs a = tt
come_first commands core (e ∷ es) fs a = (a.0, come_first commands (step e.0 e.1 core) es fs a.1)

come_rest : (commands : ℕ → Option Command) (core : Core) (es fs : Events) → AllMayCome commands core (es ++ fs) → AllMayCome commands (steps core es) fs
come_rest commands core [] fs a = a
come_rest commands core (e ∷ es) fs a = come_rest commands (step e.0 e.1 core) es fs a.1

same_steps : (core : Core) (es : Events) → after_all core es ≡ steps core es
same_steps core [] = refl
same_steps core (e ∷ es) = same_steps (step e.0 e.1 core) es

-- what any number of events keeps, as hs_told has it
abbrev pub StaysInTurn : (ℕ → Option Command) → Type 0
StaysInTurn commands = (core : Core) (es : Events) → IsInTurn commands core → AllMayCome commands core es → IsInTurn commands (after_all core es)

pub lines_new : (s : Script) → StaysInTurn s.commands → (line : ℕ) (core : Core) (lines : List Events) → IsInTurn s.commands core → IsNext s.commands core line
    → AllMayCome s.commands core (all_events lines) → AreLines s line core lines → MayBeginAll s.name (all_events lines) core
lines_new s stays line core [] turn its may are = tt
lines_new s stays line core (es ∷ []) turn its may are =
    all_new s.name core es [] (line_new s.name s.commands (record { line = line; core = core; events = es; whole = s.past }) turn its.above are.events) tt
lines_new s stays line core (es ∷ next ∷ rest) turn its may are =
    let at : LineAt = record { line = line; core = core; events = es; whole = true } in
    let first : Passes s.commands at = line_passes s.commands s.name at its are.0.events in
    let behind : IsInTurn s.commands (steps core es) =
    subst (λ c. IsInTurn s.commands c) (same_steps core es) (stays core es turn (come_first s.commands core es (all_events (next ∷ rest)) may)) in
    all_new s.name core es (all_events (next ∷ rest)) (line_new s.name s.commands at turn its.above are.0.events)
    (lines_new s stays (line + 1) (steps core es) (next ∷ rest) behind (first.next refl are.0.going) (come_rest s.commands core es (all_events (next ∷ rest)) may) are.1)
