-- How an event changes who is good, joining or down.
use Rattle.std.specs.Prelude.{◌++◌, ◌≡◌, ℕ, [], ◌∷◌, None, true}
use Rattle.hs_core_words.specs.Asking.{no_peer, not_down, not_up}
use Rattle.hs_core_words.specs.declared.event.Event.{Event}
use Rattle.hs_core_words.specs.declared.event.Event.TheVariants as event
use Rattle.hs_core_words.specs.Looking.{status_of}
use Rattle.hs_core_words.specs.State.{Core}
use Rattle.hs_core_words.specs.Step.{step}
use Rattle.hs_desk.specs.declared.done.Done.{Done}
use Rattle.hs_desk.specs.declared.done.Done.TheVariants as done
use Rattle.hs_events.specs.Course.{steps}
use Rattle.hs_events.specs.Due.{Events, is_answer}
use Rattle.hs_limits.specs.declared.limits.PeerStatus.{PeerStatus}
use Rattle.hs_limits.specs.declared.limits.PeerStatus.TheVariants.{Down, Good, Joining}
use Rattle.hs_members.specs.Members.{become}
use Rattle.hs_model.specs.Refusals.{first}

-- not at all; a peer goes down by its line, which is not refused, or by a report that its disk has failed, which answers a first job; one starts to join by its line, which is not refused; or a joining peer becomes good with a report of its own
pub data TurnsBy (core : Core) (e : Event) (after : Core) : Type 0 where
  Stays : after.members ≡ core.members → TurnsBy core e after
  FailsByLine : (line peer : ℕ) → e ≡ event.Fail line peer → first (no_peer peer core ∷ not_up peer core ∷ []) ≡ None → after.members ≡ become peer Down core.members → TurnsBy core e after
  FailsByDisk : (by peer : ℕ) → e ≡ event.Report by (done.Failed peer) → is_answer core by (done.Failed peer) ≡ true → after.members ≡ become peer Down core.members → TurnsBy core e after
  Starts : (line peer : ℕ) → e ≡ event.Start line peer → first (no_peer peer core ∷ not_down peer core ∷ []) ≡ None → after.members ≡ become peer Joining core.members → TurnsBy core e after
  Joins : (peer : ℕ) (did : Done) → e ≡ event.Report peer did → status_of peer core ≡ Joining → after.members ≡ become peer Good core.members → TurnsBy core e after

-- ---- one peer

-- what became of a peer, and why
pub data TurnsTo (peer : ℕ) (core : Core) (e : Event) : PeerStatus → Type 0 where
  ByFail : (line : ℕ) → e ≡ event.Fail line peer → first (no_peer peer core ∷ not_up peer core ∷ []) ≡ None → TurnsTo peer core e Down
  ByDisk : (by : ℕ) → e ≡ event.Report by (done.Failed peer) → is_answer core by (done.Failed peer) ≡ true → TurnsTo peer core e Down
  ByStart : (line : ℕ) → e ≡ event.Start line peer → first (no_peer peer core ∷ not_down peer core ∷ []) ≡ None → TurnsTo peer core e Joining
  ByJoin : (did : Done) → e ≡ event.Report peer did → status_of peer core ≡ Joining → TurnsTo peer core e Good

-- its status is this before and behind each of some events
abbrev pub StaysAs : ℕ → PeerStatus → Core → Events → Type 0
StaysAs peer kind core [] = status_of peer core ≡ kind
StaysAs peer kind core (e ∷ es) = (status_of peer core ≡ kind) × StaysAs peer kind (step e.0 e.1 core) es

-- the last of some events that changed its status, or said it again
pub record LastTurn (peer : ℕ) (core : Core) (es : Events) : Type 0 where
  pub before : Events
  pub turn : Event × ℕ
  pub after : Events
  pub is : es ≡ before ++ turn ∷ after
  pub now : PeerStatus
  pub turns : TurnsTo peer (steps core before) turn.0 now
  pub stays : StaysAs peer now (step turn.0 turn.1 (steps core before)) after
