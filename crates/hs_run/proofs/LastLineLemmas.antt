-- The line of the last client's operation is not above that of the last line.
use Rattle.std.proofs.Common.{◌≡◌, ap, sym, subst, ℕ, suc, ◌≤◌, Bool, true, false, List, [], ◌∷◌, Option, Some, None, refl, arith, is_none, is_some, not, ◌&&◌, ◌==◌, length}
use Rattle.std.proofs.lemmas.Bool.{false≢true}
use Rattle.std.specs.Option.{option_and_then, option_map_or}
use Rattle.std.specs.Prelude.{IfSome, unwrap_or, ◌||◌, ⊤, if◌then◌else◌}
use Rattle.hs_core_words.specs.Calls.{begun_line}
use Rattle.hs_core_words.specs.declared.event.Event.{Event}
use Rattle.hs_core_words.specs.declared.event.Event.TheVariants as event
use Rattle.hs_core_words.specs.State.{Core}
use Rattle.hs_core_words.specs.Step.{step}
use Rattle.hs_desk.specs.declared.fault.CoreFault.{CoreFault}
use Rattle.hs_events.proofs.GoingLemmas.{step_goes}
use Rattle.hs_events.specs.Asked.{addressed}
use Rattle.hs_events.specs.Commands.{AreOfCommand, BeginsWith}
use Rattle.hs_events.specs.Course.{steps}
use Rattle.hs_events.specs.declared.due.Due.{Due}
use Rattle.hs_events.specs.declared.due.Place.{Place}
use Rattle.hs_events.specs.Due.{Events, MomentsRise, Walked, first_place, is_it, is_one, is_walk, next_due, place_after, raises_known, turn_behind, walk}
use Rattle.hs_limits.specs.declared.address.Address.{Address}
use Rattle.hs_model.specs.declared.command.Command.{Command}
use Rattle.hs_model.specs.declared.command.Command.TheVariants as command

-- ---- events of a line

-- no event begins a line above this one
abbrev pub IsUpTo : ℕ → Event → Type 0
IsUpTo n e = IfSome (begun_line e) (λ l. l ≤ n)

abbrev pub AreUpTo : ℕ → Events → Type 0
AreUpTo n [] = ⊤
AreUpTo n (e ∷ es) = IsUpTo n e.0 × AreUpTo n es

-- what is due begins no line
due_begins : (n line : ℕ) (core : Core) (d : Due) (e : Event) → is_it line core d e ≡ true → IsUpTo n e
due_begins n line core d (event.Line l o) it = absurd (false≢true it)
due_begins n line core d (event.Report peer done) it = tt
due_begins n line core d (event.Turn l peer) it = tt
due_begins n line core d (event.Deliver l message) it = tt
due_begins n line core d (event.Lose l message) it = tt
due_begins n line core d (event.Repeat l message) it = tt
due_begins n line core d (event.Nudge l peer) it = tt
due_begins n line core d (event.Fail l peer) it = tt
due_begins n line core d (event.Start l peer) it = tt

both_first : (a b : Bool) → (a && b) ≡ true → a ≡ true
both_first true b h = refl
both_first false b h = h

none_left : (n : ℕ) (es : Events) → (length es == 0) ≡ true → AreUpTo n es
none_left n [] h = tt
none_left n (e ∷ es) h = absurd (more_than_none (length es) h)
  where
    more_than_none : (k : ℕ) → (suc k == 0) ≡ true → ⊥
    more_than_none k e = grind arith

one_up : (n line : ℕ) (due : Option Due) (whole : Bool) (core : Core) (es : Events) → is_one due whole line core es ≡ true → AreUpTo n es
one_up n line None whole core [] h = tt
one_up n line None whole core (e ∷ es) h = absurd (false≢true h)
one_up n line (Some d) whole core [] h = tt
one_up n line (Some d) whole core (e ∷ es) h =
    (due_begins n line core d e.0 (both_first (is_it line core d e.0) (length es == 0) h), none_left n es (both_second (is_it line core d e.0) (length es == 0) h))
  where
    both_second : (a b : Bool) → (a && b) ≡ true → b ≡ true
    both_second true b k = k
    both_second false b k = absurd (false≢true k)

begins_up : (n line : ℕ) (core : Core) (es : Events) (whole : Bool) (asked : Event) (due : Core → Option Due) → IsUpTo n asked
    → BeginsWith (record { line = line; core = core; events = es; whole = whole }) asked due → AreUpTo n es
begins_up n line core [] whole asked due up h = tt
begins_up n line core (e ∷ es) whole asked due up h =
    (subst (λ (x : Event). IsUpTo n x) (sym h.0) up, one_up n line (due (step e.0 e.1 core)) whole (step e.0 e.1 core) es h.1)

-- along a walk
walked_up : (n line : ℕ) (due : Place → Core → Option Due) (at : Walked) (es : Events) → is_some (walk due line at es) ≡ true → AreUpTo n es
walked_up n line due at [] h = tt
walked_up n line due at (e ∷ es) h = by_due (λ next k. walked_up n line due next es k) (due at.place at.core) h
  where
    by_it : ((next : Walked) → is_some (walk due line next es) ≡ true → AreUpTo n es) → (d : Due) (b : Bool) → is_it line at.core d e.0 ≡ b
        → is_some (option_and_then (λ next. walk due line next es) (if b then Some (record { place = place_after d (raises_known at.core (step e.0 e.1 at.core)) at.place; core = step e.0 e.1 at.core }) else None)) ≡ true → AreUpTo n (e ∷ es)
    by_it ih d true it k = (due_begins n line at.core d e.0 it, ih (record { place = place_after d (raises_known at.core (step e.0 e.1 at.core)) at.place; core = step e.0 e.1 at.core }) k)
    by_it ih d false it k = absurd (false≢true k)

    by_due : ((next : Walked) → is_some (walk due line next es) ≡ true → AreUpTo n es) → (o : Option Due) → is_some (option_and_then (λ next. walk due line next es)
        (option_and_then (λ d. if is_it line at.core d e.0 then Some (record { place = place_after d (raises_known at.core (step e.0 e.1 at.core)) at.place; core = step e.0 e.1 at.core }) else None) o)) ≡ true → AreUpTo n (e ∷ es)
    by_due ih None k = absurd (false≢true k)
    by_due ih (Some d) k = by_it ih d (is_it line at.core d e.0) refl k

pub walk_up : (n line : ℕ) (due : Place → Core → Option Due) (whole : Bool) (core : Core) (es : Events) → is_walk due whole line core es ≡ true → AreUpTo n es
walk_up n line due whole core es h = walked_up n line due (record { place = first_place; core = core }) es (there (walk due line (record { place = first_place; core = core }) es) h)
  where
    there : (at : Option Walked) → option_map_or (λ (w : Walked). not whole || is_none (due w.place w.core)) at false ≡ true → is_some at ≡ true
    there None k = k
    there (Some w) k = refl

-- ---- by its command

same_line : (n : ℕ) → n ≤ n
same_line n = omega arith

pub command_up : (name : List ℕ → Address) (line : ℕ) (core : Core) (es : Events) (whole : Bool) (c : Command)
    → AreOfCommand name (record { line = line; core = core; events = es; whole = whole }) c → AreUpTo line es
command_up name line core es whole (command.Client o) h = begins_up line line core es whole (event.Line line (addressed name core.sessions o)) (λ c. None) (same_line line) h
command_up name line core es whole command.Settle h = walk_up line line next_due whole core es h
command_up name line core es whole (command.Turn peer) h = begins_up line line core es whole (event.Turn line peer) (turn_behind peer) tt h
command_up name line core es whole (command.Nudge peer) h = begins_up line line core es whole (event.Nudge line peer) (λ c. None) tt h
command_up name line core es whole (command.Deliver message) h = begins_up line line core es whole (event.Deliver line message) (λ c. None) tt h
command_up name line core es whole (command.Lose message) h = begins_up line line core es whole (event.Lose line message) (λ c. None) tt h
command_up name line core es whole (command.Repeat message) h = begins_up line line core es whole (event.Repeat line message) (λ c. None) tt h
command_up name line core es whole (command.Fail peer) h = begins_up line line core es whole (event.Fail line peer) (λ c. None) tt h
command_up name line core es whole (command.Start peer) h = begins_up line line core es whole (event.Start line peer) (λ c. None) tt h
command_up name line core es whole (command.Reclaim peer) h = absurd h

-- ---- the core behind them

pub ended_stays : (e : Event) (at : ℕ) (core : Core) (fault : CoreFault) → core.ended ≡ Some fault → step e at core ≡ core
ended_stays e at core fault h =
    let ended : is_none core.ended ≡ false = ap is_none h in
    rw ended refl

after_up : (n last : ℕ) (o : Option ℕ) → last ≤ n → IfSome o (λ l. l ≤ n) → unwrap_or o last ≤ n
after_up n last None low up = low
after_up n last (Some l) low up = up

step_up : (n : ℕ) (core : Core) (e : Event) (at : ℕ) → core.progress.last_line ≤ n → IsUpTo n e → (step e at core).progress.last_line ≤ n
step_up n core e at low up = go core.ended refl
  where
    go : (o : Option CoreFault) → core.ended ≡ o → (step e at core).progress.last_line ≤ n
    go None going = subst (λ (l : ℕ). l ≤ n) (sym (step_goes e at core going).last_line) (after_up n core.progress.last_line (begun_line e) low up)
    go (Some fault) h = subst (λ (c : Core). c.progress.last_line ≤ n) (sym (ended_stays e at core fault h)) low

pub steps_up : (n : ℕ) (core : Core) (es : Events) → core.progress.last_line ≤ n → AreUpTo n es → (steps core es).progress.last_line ≤ n
steps_up n core [] low up = low
steps_up n core (e ∷ es) low up = steps_up n (step e.0 e.1 core) es (step_up n core e.0 e.1 low up.0) up.1

-- ---- its moment

step_later : (core : Core) (e : Event) (at : ℕ) → core.moment ≤ at → (step e at core).moment ≤ at
step_later core e at low = go core.ended refl
  where
    go : (o : Option CoreFault) → core.ended ≡ o → (step e at core).moment ≤ at
    go None going = let is : (step e at core).moment ≡ at = (step_goes e at core going).moment in omega (arith, is)
    go (Some fault) h = subst (λ (c : Core). c.moment ≤ at) (sym (ended_stays e at core fault h)) low

pub steps_later : (core : Core) (es : Events) (from to : ℕ) → core.moment ≤ from → MomentsRise from es to → (steps core es).moment ≤ to
steps_later core [] from to low h = let up = h in omega (arith, low, up)
steps_later core (e ∷ es) from to low h =
    let first = h.0 in
    steps_later (step e.0 e.1 core) es e.1 to (step_later core e.0 e.1 (omega (arith, low, first))) h.1
