-- Which events a line of a script has, and that it comes behind all text so far.
use Rattle.std.specs.Prelude.{List, None, [], true, ℕ, ⊤, ◌++◌, ◌+◌, ◌-◌, ◌<◌, ◌^◌, ◌∷◌, ◌≡◌}
use Rattle.hs_core_words.specs.State.{Core}
use Rattle.hs_ports.specs.Sink.{bytes_of, followed}
use Rattle.hs_script.specs.Text.{text}
use Rattle.hs_promise.specs.Ending.{ending_of}
use Rattle.hs_events.specs.Commands.{AreOfLine, LineAt}
use Rattle.hs_events.specs.Course.{steps}
use Rattle.hs_events.specs.Due.{Events}
use Rattle.hs_ports.specs.Putting.{got_by}
use Rattle.hs_promise.specs.Run.{Ran, Script}
use Rattle.hs_ports.specs.Objects.{IsSinkBehind}

-- at the first event of a line the sink has got the text of all that was answered before, and no more; nothing is said of the last moment of a u64
abbrev pub IsOnTime : Ran → LineAt → Events → Type 0
IsOnTime r at [] = ⊤
IsOnTime r at (e ∷ es) = IsSinkBehind r.old → e.1 < 2 ^ 64 - 1 → bytes_of (got_by e.1 r.new.got) ≡ followed (bytes_of r.old.got) (text at.core.journal)

-- and in the end it has got that text, whether the line has events or not
pub record IsPrintedBefore (r : Ran) (at : LineAt) : Type 0 where
  pub on_time : IsOnTime r at at.events
  pub rest : List ℕ
  pub put : bytes_of r.new.got ≡ followed (bytes_of r.old.got) (text at.core.journal ++ rest)

-- a line is begun by a core that has not ended
pub record IsBegunLine (S : Script) (r : Ran) (at : LineAt) : Type 0 where
  pub going : at.core.ended ≡ None
  pub printed : IsPrintedBefore r at
  pub events : AreOfLine S.set.name at (S.commands at.line)

-- the lines from one on, each behind the one before; the last may be cut short
abbrev pub AreLines : Script → Ran → ℕ → Core → List Events → Type 0
AreLines S r line core [] = ⊤
AreLines S r line core (es ∷ []) = IsBegunLine S r (record { line = line; core = core; events = es; whole = (ending_of r.ending).past })
AreLines S r line core (es ∷ next ∷ rest) =
    IsBegunLine S r (record { line = line; core = core; events = es; whole = true }) × AreLines S r (line + 1) (steps core es) (next ∷ rest)
