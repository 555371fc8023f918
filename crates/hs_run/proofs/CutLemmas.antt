-- Events that are due, and then nothing any more, are due where they may stop before.
use Rattle.std.proofs.Common.{◌≡◌, sym, subst, ℕ, Bool, true, false, List, [], ◌∷◌, Option, Some, None, refl, is_none, not}
use Rattle.std.proofs.lemmas.Bool.{true≢false}
use Rattle.std.specs.Option.{option_map_or}
use Rattle.std.specs.Prelude.{◌||◌}
use Rattle.hs_core_words.specs.declared.event.Event.{Event}
use Rattle.hs_core_words.specs.declared.event.Event.TheVariants as event
use Rattle.hs_core_words.specs.State.{Core}
use Rattle.hs_core_words.specs.Step.{step}
use Rattle.hs_events.specs.Asked.{addressed}
use Rattle.hs_events.specs.Commands.{AreOfCommand, AreOfLine, BeginsWith}
use Rattle.hs_events.specs.declared.due.Due.{Due}
use Rattle.hs_events.specs.declared.due.Place.{Place}
use Rattle.hs_events.specs.Due.{Events, Walked, first_place, is_one, is_walk, next_due, turn_behind, walk}
use Rattle.hs_limits.specs.declared.address.Address.{Address}
use Rattle.hs_model.specs.declared.command.Command.{Command}
use Rattle.hs_model.specs.declared.command.Command.TheVariants as command

-- ---- walks

pub walk_cut : (due : Place → Core → Option Due) (line : ℕ) (core : Core) (es : Events) (whole : Bool) → is_walk due true line core es ≡ true → is_walk due whole line core es ≡ true
walk_cut due line core es true h = h
walk_cut due line core es false h = go (walk due line (record { place = first_place; core = core }) es) h
  where
    go : (at : Option Walked) → option_map_or (λ (w : Walked). not true || is_none (due w.place w.core)) at false ≡ true → option_map_or (λ (w : Walked). not false || is_none (due w.place w.core)) at false ≡ true
    go None k = k
    go (Some w) k = refl

-- however it was cut short, where it needn't be whole
pub walk_short : (due : Place → Core → Option Due) (line : ℕ) (core : Core) (es : Events) (was whole : Bool) → whole ≡ false → is_walk due was line core es ≡ true → is_walk due whole line core es ≡ true
walk_short due line core es true whole none h = walk_cut due line core es whole h
walk_short due line core es false whole none h = subst (λ (w : Bool). is_walk due w line core es ≡ true) (sym none) h

-- ---- one event, and what is due behind it

one_cut : (due : Option Due) (line : ℕ) (core : Core) (es : Events) (whole : Bool) → is_one due true line core es ≡ true → is_one due whole line core es ≡ true
one_cut due line core es true h = h
one_cut None line core [] false h = refl
one_cut None line core (e ∷ es) false h = h
one_cut (Some d) line core [] false h = refl
one_cut (Some d) line core (e ∷ es) false h = h

begins_cut : (line : ℕ) (core : Core) (es : Events) (asked : Event) (due : Core → Option Due) (whole : Bool)
    → BeginsWith (record { line = line; core = core; events = es; whole = true }) asked due → BeginsWith (record { line = line; core = core; events = es; whole = whole }) asked due
begins_cut line core [] asked due whole h = absurd (true≢false h)
begins_cut line core (e ∷ es) asked due whole h = (h.0, one_cut (due (step e.0 e.1 core)) line (step e.0 e.1 core) es whole h.1)

-- ---- lines

command_cut : (name : List ℕ → Address) (line : ℕ) (core : Core) (es : Events) (whole : Bool) (c : Command)
    → AreOfCommand name (record { line = line; core = core; events = es; whole = true }) c → AreOfCommand name (record { line = line; core = core; events = es; whole = whole }) c
command_cut name line core es whole (command.Client o) h = begins_cut line core es (event.Line line (addressed name core.sessions o)) (λ c. None) whole h
command_cut name line core es whole command.Settle h = walk_cut next_due line core es whole h
command_cut name line core es whole (command.Turn peer) h = begins_cut line core es (event.Turn line peer) (turn_behind peer) whole h
command_cut name line core es whole (command.Nudge peer) h = begins_cut line core es (event.Nudge line peer) (λ c. None) whole h
command_cut name line core es whole (command.Deliver message) h = begins_cut line core es (event.Deliver line message) (λ c. None) whole h
command_cut name line core es whole (command.Lose message) h = begins_cut line core es (event.Lose line message) (λ c. None) whole h
command_cut name line core es whole (command.Repeat message) h = begins_cut line core es (event.Repeat line message) (λ c. None) whole h
command_cut name line core es whole (command.Fail peer) h = begins_cut line core es (event.Fail line peer) (λ c. None) whole h
command_cut name line core es whole (command.Start peer) h = begins_cut line core es (event.Start line peer) (λ c. None) whole h
command_cut name line core es whole (command.Reclaim peer) h = h

-- however it was cut short, a line is one that may be
pub command_short : (name : List ℕ → Address) (line : ℕ) (core : Core) (es : Events) (was : Bool) (c : Command)
    → AreOfCommand name (record { line = line; core = core; events = es; whole = was }) c → AreOfCommand name (record { line = line; core = core; events = es; whole = false }) c
command_short name line core es true c h = command_cut name line core es false c h
command_short name line core es false c h = h

pub line_cut : (name : List ℕ → Address) (line : ℕ) (core : Core) (es : Events) (whole : Bool) (c : Option Command)
    → AreOfLine name (record { line = line; core = core; events = es; whole = true }) c → AreOfLine name (record { line = line; core = core; events = es; whole = whole }) c
line_cut name line core es whole None h = h
line_cut name line core es whole (Some c) h = command_cut name line core es whole c h
