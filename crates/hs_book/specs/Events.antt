-- The events that a book may make: lines, reports and deliveries.
use Rattle.std.specs.Option.{IsSomeAnd}
use Rattle.std.specs.Prelude.{◌≡◌, ℕ, ◌+◌, true, [], ◌∷◌, Some, None, length}
use Rattle.hs_core_words.specs.declared.event.Event.{Event}
use Rattle.hs_core_words.specs.declared.event.Event.TheVariants as event
use Rattle.hs_core_words.specs.Looking.{first_job, oldest_message}
use Rattle.hs_core_words.specs.Records.{HasRecordRoom}
use Rattle.hs_core_words.specs.State.{Core}
use Rattle.hs_core_words.specs.Step.{step}
use Rattle.hs_events.specs.Due.{Events, is_answer}
use Rattle.hs_members.specs.Members.{IsPeer}
use Rattle.hs_model.specs.declared.op.Op.{Op}
use Rattle.hs_model.specs.declared.op.Op.TheVariants as op

-- a write brings an address, of 32 bytes
abbrev pub HasWholeAddress : Op → Type 0
HasWholeAddress (op.Open name) = Unit {0}
HasWholeAddress (op.Close name) = Unit {0}
HasWholeAddress (op.Write name payload handles address) = IsSomeAnd address (λ a. length a.0 ≡ 32)
HasWholeAddress (op.Read name handle) = Unit {0}
HasWholeAddress (op.Look name key) = Unit {0}
HasWholeAddress (op.Root name key handle) = Unit {0}
HasWholeAddress (op.Drop key) = Unit {0}
HasWholeAddress (op.Forget name handle) = Unit {0}
HasWholeAddress (op.Name name handle) = Unit {0}
HasWholeAddress op.Delete = Unit {0}
HasWholeAddress op.Stat = Unit {0}

-- a client's line is the next one
pub record IsNextOperation (core : Core) (line : ℕ) (o : Op) : Type 0 where
  pub next : line ≡ core.progress.last_line + 1
  pub address : HasWholeAddress o

-- some peer has no job, and this is the oldest message for it
pub record IsHandling (core : Core) (line number : ℕ) : Type 0 where
  pub no_line : line ≡ 0
  pub peer : ℕ
  pub there : IsPeer core.members.shape peer
  pub no_job : first_job peer core ≡ None
  pub oldest : oldest_message peer core ≡ Some number

-- a book may make this event of this core; a report answers the first job of a peer
abbrev pub IsBookEvent : Core → Event → Type 0
IsBookEvent core (event.Line line o) = IsNextOperation core line o
IsBookEvent core (event.Report peer done) = IsPeer core.members.shape peer × (is_answer core peer done ≡ true)
IsBookEvent core (event.Turn line peer) = ⊥
IsBookEvent core (event.Deliver line number) = IsHandling core line number
IsBookEvent core (event.Lose line number) = ⊥
IsBookEvent core (event.Repeat line number) = ⊥
IsBookEvent core (event.Nudge line peer) = ⊥
IsBookEvent core (event.Fail line peer) = ⊥
IsBookEvent core (event.Start line peer) = ⊥

-- it is done while the core goes on, at the moment of the core; behind it no shard has more root records than it takes, where the core goes on
pub record IsBookStep (core : Core) (e : Event × ℕ) : Type 0 where
  pub going : core.ended ≡ None
  pub may : IsBookEvent core e.0
  pub moment : e.1 ≡ core.moment
  pub room : (step e.0 e.1 core).ended ≡ None → HasRecordRoom (step e.0 e.1 core)

-- so are some, one after another
abbrev pub AreBookSteps : Core → Events → Type 0
AreBookSteps core [] = Unit {0}
AreBookSteps core (e ∷ es) = IsBookStep core e × AreBookSteps (step e.0 e.1 core) es
