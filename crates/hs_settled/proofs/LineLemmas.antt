-- The lines of a run, one after another: where each stands, and what is next behind it.
use Rattle.std.proofs.Common.{◌≡◌, ◌∙◌, sym, ap, subst, ℕ, zero, suc, ◌+◌, ◌<◌, ◌++◌, Bool, true, List, [], ◌∷◌, None, refl, arith, length, take, append-nil, append_assoc}
use Rattle.hs_core_words.specs.State.{Core}
use Rattle.hs_events.proofs.RunLemmas.{steps_append}
use Rattle.hs_events.specs.Course.{steps}
use Rattle.hs_events.specs.Due.{Events}
use Rattle.hs_standing.proofs.LinesLineLemmas.{Passes, line_passes}
use Rattle.hs_standing.specs.Script.{AreLines, IsLine, IsNext, Script as Lined, all_events}
use Rattle.hs_promise.specs.Lines.{AreLines as AreBegunLines}
use Rattle.hs_promise.specs.Ending.{ending_of}
use Rattle.hs_promise.specs.Run.{Ran, Script}

-- the script of a run as its lines see it
abbrev pub lined : Script → Ran → Lined
lined S r = record { name = S.set.name; commands = S.commands; past = (ending_of r.ending).past }

pub joined : (S : Script) (r : Ran) (line : ℕ) (core : Core) (lines : List Events) → AreBegunLines S r line core lines → AreLines (lined S r) line core lines
joined S r line core [] h = tt
joined S r line core (es ∷ []) h = record { going = h.going; events = h.events }
joined S r line core (es ∷ next ∷ rest) h = (record { going = h.0.going; events = h.0.events }, joined S r (line + 1) (steps core es) (next ∷ rest) h.1)

-- a line that was gone past, with so many before it: at its core, with all its events, and the one behind it is next
pub record Reached (s : Lined) (from : ℕ) (core : Core) (lines : List Events) (count : ℕ) : Type 0 where
  pub line : ℕ
  pub is : line ≡ from + count
  pub at : Core
  pub events : Events
  pub before : at ≡ steps core (all_events (take count lines))
  pub here : IsLine s (record { line = line; core = at; events = events; whole = true })
  pub behind : steps core (all_events (take (suc count) lines)) ≡ steps at events
  pub parted : all_events (take (suc count) lines) ≡ all_events (take count lines) ++ events
  pub next : IsNext s.commands (steps at events) (line + 1)

passes : (s : Lined) (line : ℕ) (core : Core) (es : Events) → IsNext s.commands core line → IsLine s (record { line = line; core = core; events = es; whole = true }) → IsNext s.commands (steps core es) (line + 1)
passes s line core es its here =
    let first : Passes s.commands (record { line = line; core = core; events = es; whole = true }) = line_passes s.commands s.name (record { line = line; core = core; events = es; whole = true }) its here.events in
    first.next refl here.going

first_reached : (s : Lined) (from : ℕ) (core : Core) (es : Events) (rest : List Events) → IsNext s.commands core from → IsLine s (record { line = from; core = core; events = es; whole = true }) → Reached s from core (es ∷ rest) 0
first_reached s from core es rest its here = record {
  line = from;
  is = omega arith;
  at = core;
  events = es;
  before = refl;
  here = here;
  behind = steps_append core es [];
  parted = append-nil es;
  next = passes s from core es its here;
}

pub reached : (s : Lined) (from : ℕ) (core : Core) (lines : List Events) → IsNext s.commands core from → AreLines s from core lines
    → (count : ℕ) → count < length lines → (suc count ≡ length lines → s.past ≡ true) → Reached s from core lines count
reached s from core [] its are count low last = absurd (omega (arith, low))
reached s from core (es ∷ []) its are zero low last =
    first_reached s from core es [] its (subst (λ (whole : Bool). IsLine s (record { line = from; core = core; events = es; whole = whole })) (last refl) are)
reached s from core (es ∷ []) its are (suc count) low last = absurd (omega (arith, low))
reached s from core (es ∷ next ∷ rest) its are zero low last = first_reached s from core es (next ∷ rest) its are.0
reached s from core (es ∷ next ∷ rest) its are (suc count) low last =
    let there : Reached s (from + 1) (steps core es) (next ∷ rest) count =
    reached s (from + 1) (steps core es) (next ∷ rest) (passes s from core es its are.0) are.1 count (omega (arith, low)) (λ e. last (omega (arith, e))) in
    record {
      line = there.line;
      is = let e = there.is in omega (arith, e);
      at = there.at;
      events = there.events;
      before = there.before ∙ sym (steps_append core es (all_events (take count (next ∷ rest))));
      here = there.here;
      behind = steps_append core es (all_events (take (suc count) (next ∷ rest))) ∙ there.behind;
      parted = ap (λ (fs : Events). es ++ fs) there.parted ∙ sym (append_assoc es (all_events (take count (next ∷ rest))) there.events);
      next = there.next;
    }

-- a line is begun by a core that goes on
pub going_before : (s : Lined) (from : ℕ) (core : Core) (lines : List Events) → AreLines s from core lines → (count : ℕ) → count < length lines → (steps core (all_events (take count lines))).ended ≡ None
going_before s from core [] are count low = absurd (omega (arith, low))
going_before s from core (es ∷ []) are zero low = are.going
going_before s from core (es ∷ []) are (suc count) low = absurd (omega (arith, low))
going_before s from core (es ∷ next ∷ rest) are zero low = are.0.going
going_before s from core (es ∷ next ∷ rest) are (suc count) low =
    ap (λ (c : Core). c.ended) (steps_append core es (all_events (take count (next ∷ rest)))) ∙ going_before s (from + 1) (steps core es) (next ∷ rest) are.1 count (omega (arith, low))
