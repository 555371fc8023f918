-- Lines that were gone past, as the run goes on.
use Rattle.std.proofs.Common.{◌≡◌, ◌∙◌, ap, sym, subst, ℕ, ◌+◌, ◌≤◌, Bool, true, List, [], ◌∷◌, ◌++◌, Option, arith, length, take}
use Rattle.std.proofs.lemmas.List.{append_assoc}
use Rattle.std.specs.Prelude.{flat_map}
use Rattle.hs_core_words.specs.State.{Core}
use Rattle.hs_events.proofs.RunLemmas.{steps_append}
use Rattle.hs_events.specs.Commands.{LineAt}
use Rattle.hs_events.specs.Course.{steps}
use Rattle.hs_events.specs.Due.{Events}
use Rattle.hs_ports.specs.Objects.{IsSinkBehind, Objects}
use Rattle.hs_ports.specs.Putting.{PutsFront, got_by}
use Rattle.hs_ports.specs.Sink.{bytes_of, followed}
use Rattle.hs_promise.specs.Ending.{ending_of}
use Rattle.hs_promise.specs.Lines.{AreLines, IsBegunLine, IsOnTime}
use Rattle.hs_promise.specs.Run.{Ran, Script}
use Rattle.hs_script.specs.Text.{text}
use Rattle.hs_run.specs.Going.{AreGone, IsFirstBy, IsGoneLine, Sight, ran_by}
use Rattle.hs_run.specs.Puts.{PutsLate}
use Rattle.hs_run.proofs.CutLemmas.{line_cut}
use Rattle.hs_run.proofs.RiseLemmas.{first_on}
use Rattle.hs_run.proofs.TellingLemmas.{followed_twice}

-- all events of some lines
abbrev pub events_of : List Events → Events
events_of lines = flat_map (λ line. line) lines

-- ---- more is put

module _ (s : Sight) (mid later : ℕ) (bytes : List ℕ) (got : Option (List (ℕ × ℕ))) (up : s.now ≤ mid) (late : PutsLate mid later bytes s.got got) (front : PutsFront (bytes_of s.got) bytes (bytes_of got)) where
  on_time_later : (at : LineAt) (es : Events) → IsFirstBy s.now es → IsOnTime (ran_by s.old s.got) at es → IsOnTime (ran_by s.old got) at es
  on_time_later at [] first h = tt
  on_time_later at (e ∷ es) first h = λ behind early.
      let low = first in
      ap bytes_of (late.same e.1 (omega (arith, low, up)) early) ∙ h behind early

  line_later : (at : LineAt) → IsGoneLine s at → IsGoneLine (record s { now = later; got = got }) at
  line_later at h = record {
    begun = record {
      going = h.begun.going;
      printed = record {
        on_time = on_time_later at at.events h.first h.begun.printed.on_time;
        rest = h.begun.printed.rest ++ take front.count bytes;
        put = front.put ∙ ap (λ (g : Option (List ℕ)). followed g (take front.count bytes)) h.begun.printed.put
            ∙ followed_twice (bytes_of s.old.got) (text at.core.journal ++ h.begun.printed.rest) (take front.count bytes)
            ∙ ap (followed (bytes_of s.old.got)) (append_assoc (text at.core.journal) h.begun.printed.rest (take front.count bytes));
      };
      events = h.begun.events;
    };
    first = first_on s.now later at.events (omega (arith, up, late.later)) h.first;
  }

  pub gone_later : (line : ℕ) (core : Core) (lines : List Events) → AreGone s line core lines → AreGone (record s { now = later; got = got }) line core lines
  gone_later line core [] h = tt
  gone_later line core (es ∷ rest) h = (line_later (record { line = line; core = core; events = es; whole = true }) h.0, gone_later (line + 1) (steps core es) rest h.1)

-- ---- one line more

pub gone_more : (s : Sight) (line : ℕ) (core : Core) (lines : List Events) (es : Events) (n : ℕ) (c : Core) → n ≡ line + length lines → c ≡ steps core (events_of lines)
    → AreGone s line core lines → IsGoneLine s (record { line = n; core = c; events = es; whole = true }) → AreGone s line core (lines ++ es ∷ [])
gone_more s line core [] es n c number same h last =
    let there : n ≡ line = omega (arith, number) in (
      subst (λ (k : ℕ). IsGoneLine s (record { line = k; core = core; events = es; whole = true })) there
          (subst (λ (d : Core). IsGoneLine s (record { line = n; core = d; events = es; whole = true })) same last),
      tt,
    )
gone_more s line core (l ∷ ls) es n c number same h last =
    (h.0, gone_more s (line + 1) (steps core l) ls es n c (omega (arith, number)) (same ∙ steps_append core l (events_of ls)) h.1 last)

-- ---- as the lines of a run

-- another run with the same beginning and the same sink
module _ (S : Script) (old : Objects) (got : Option (List (ℕ × ℕ))) (r : Ran) (begins : r.old ≡ old) (sinks : r.new.got ≡ got) where
  on_time_as : (at : LineAt) (es : Events) → IsOnTime (ran_by old got) at es → IsOnTime r at es
  on_time_as at [] h = tt
  on_time_as at (e ∷ es) h = λ behind early.
      ap (λ (g : Option (List (ℕ × ℕ))). bytes_of (got_by e.1 g)) sinks
      ∙ h (subst (λ (o : Objects). IsSinkBehind o) begins behind) early
      ∙ ap (λ (o : Objects). followed (bytes_of o.got) (text at.core.journal)) (sym begins)

  pub begun_same : (at : LineAt) → IsBegunLine S (ran_by old got) at → IsBegunLine S r at
  begun_same at h = record {
    going = h.going;
    printed = record {
      on_time = on_time_as at at.events h.printed.on_time;
      rest = h.printed.rest;
      put = ap bytes_of sinks ∙ h.printed.put ∙ ap (λ (o : Objects). followed (bytes_of o.got) (text at.core.journal ++ h.printed.rest)) (sym begins);
    };
    events = h.events;
  }

  on_time_cut : (line : ℕ) (core : Core) (es fs : Events) (whole : Bool) → IsOnTime r (record { line = line; core = core; events = es; whole = true }) fs → IsOnTime r (record { line = line; core = core; events = es; whole = whole }) fs
  on_time_cut line core es [] whole k = tt
  on_time_cut line core es (f ∷ fs) whole k = k

  -- the line however it was cut short
  begun_cut : (line : ℕ) (core : Core) (es : Events) (whole : Bool) → IsBegunLine S r (record { line = line; core = core; events = es; whole = true })
      → IsBegunLine S r (record { line = line; core = core; events = es; whole = whole })
  begun_cut line core es whole h = record {
    going = h.going;
    printed = record { on_time = on_time_cut line core es es whole h.printed.on_time; rest = h.printed.rest; put = h.printed.put };
    events = line_cut S.set.name line core es whole (S.commands line) h.events;
  }

  begun_as : (line : ℕ) (core : Core) (es : Events) (whole : Bool) → IsBegunLine S (ran_by old got) (record { line = line; core = core; events = es; whole = true })
      → IsBegunLine S r (record { line = line; core = core; events = es; whole = whole })
  begun_as line core es whole h = begun_cut line core es whole (begun_same (record { line = line; core = core; events = es; whole = true }) h)

  pub lines_as : (now : ℕ) (line : ℕ) (core : Core) (lines : List Events) → AreGone (record { script = S; old = old; now = now; got = got }) line core lines → AreLines S r line core lines
  lines_as now line core [] h = tt
  lines_as now line core (es ∷ []) h = begun_as line core es (ending_of r.ending).past h.0.begun
  lines_as now line core (es ∷ next ∷ rest) h = (begun_as line core es true h.0.begun, lines_as now (line + 1) (steps core es) (next ∷ rest) h.1)

  -- with a last line that may have been cut short
  pub lines_with : (now : ℕ) (line : ℕ) (core : Core) (lines : List Events) (es : Events) (n : ℕ) (c : Core) → n ≡ line + length lines → c ≡ steps core (events_of lines)
      → AreGone (record { script = S; old = old; now = now; got = got }) line core lines → IsBegunLine S r (record { line = n; core = c; events = es; whole = (ending_of r.ending).past })
      → AreLines S r line core (lines ++ es ∷ [])
  lines_with now line core [] es n c number same h last =
      let there : n ≡ line = omega (arith, number) in
      subst (λ (k : ℕ). IsBegunLine S r (record { line = k; core = core; events = es; whole = (ending_of r.ending).past })) there
      (subst (λ (d : Core). IsBegunLine S r (record { line = n; core = d; events = es; whole = (ending_of r.ending).past })) same last)
  lines_with now line core (l ∷ []) es n c number same h last =
      (begun_as line core l true h.0.begun, lines_with now (line + 1) (steps core l) [] es n c (omega (arith, number)) (same ∙ steps_append core l []) h.1 last)
  lines_with now line core (l ∷ m ∷ ls) es n c number same h last =
      (begun_as line core l true h.0.begun, lines_with now (line + 1) (steps core l) (m ∷ ls) es n c (omega (arith, number)) (same ∙ steps_append core l (events_of (m ∷ ls))) h.1 last)
