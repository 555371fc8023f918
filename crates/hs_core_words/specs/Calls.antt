-- What is promised of an event: for the public call that does one.
use Rattle.std.specs.Prelude.{◌≡◌, ◌<◌, ℕ, Bool, false, ⊤, Option, Some, None, Result, Ok, Err, IfSome, is_none, unwrap_or}
use Rattle.hs_core_words.specs.declared.event.Event.{Event}
use Rattle.hs_core_words.specs.declared.event.Event.TheVariants as event
use Rattle.hs_core_words.specs.State.{Core}
use Rattle.hs_core_words.specs.Step.{step}
use Rattle.hs_desk.specs.declared.fault.CoreFault.{CoreFault}
use Rattle.hs_desk.specs.declared.fault.CoreFault.TheVariants as fault

-- ---- lines

-- the line that an event begins for a client
abbrev pub begun_line : Event → Option ℕ
begun_line (event.Line line o) = Some line
begun_line (event.Report peer done) = None
begun_line (event.Turn line peer) = None
begun_line (event.Deliver line message) = None
begun_line (event.Lose line message) = None
begun_line (event.Repeat line message) = None
begun_line (event.Nudge line peer) = None
begun_line (event.Fail line peer) = None
begun_line (event.Start line peer) = None

-- it is above the last one
abbrev pub IsNextLine : Core → Event → Type 0
IsNextLine core event = IfSome (begun_line event) (λ line. core.progress.last_line < line)

-- the last line once the event has begun
abbrev pub last_line_after : Event → Core → ℕ
last_line_after event core = unwrap_or (begun_line event) core.progress.last_line

-- ---- results

-- Ok exactly where the core goes on, and else why it has ended
abbrev pub outcome_of : Core → Result ⊤ CoreFault
outcome_of core = as_result core.ended
  where
    as_result : Option CoreFault → Result ⊤ CoreFault
    as_result None = Ok tt
    as_result (Some fault) = Err fault

-- whether there was no memory for the event of a core that went on
abbrev pub ran_out : Core → Result ⊤ CoreFault → Bool
ran_out core (Ok done) = false
ran_out core (Err fault.OpsFull) = false
ran_out core (Err (fault.ShardLost shard)) = false
ran_out core (Err fault.NoMemory) = is_none core.ended

-- ---- one event at a moment

-- where there was memory the core is what the event makes of it; the result tells whether it goes on
pub record Steps (event : Event) (moment : ℕ) (old new : Core) (result : Result ⊤ CoreFault) : Type 0 where
  pub done : ran_out old result ≡ false → new ≡ step event moment old
  pub outcome : result ≡ outcome_of new

-- where there was none the core has ended, and nothing is told of the event
pub record GivesUp (event : Event) (at : ℕ) (old new : Core) : Type 0 where
  pub ended : new.ended ≡ Some fault.NoMemory
  pub journal : new.journal ≡ old.journal
  pub refused : new.refused ≡ old.refused
  pub moment : new.moment ≡ at
  pub last_line : new.progress.last_line ≡ last_line_after event old
  pub limits : new.limits ≡ old.limits
  pub shape : new.members.shape ≡ old.members.shape

-- what an event leaves of a core, whatever it does
pub record GoesOn (event : Event) (at : ℕ) (old new : Core) : Type 0 where
  pub shape : new.members.shape ≡ old.members.shape
  pub limits : new.limits ≡ old.limits
  pub moment : old.ended ≡ None → new.moment ≡ at
  pub last_line : old.ended ≡ None → new.progress.last_line ≡ last_line_after event old
