-- What is kept, and what is asked of events, as tests: for clauses, which range over tests.
use Rattle.std.specs.Prelude.{◌≡◌, ℕ, true, Bool, List, Option}
use Rattle.hs_standing.specs.Walks.{MayEvent, Walks, WalksOpen, WalksViews}
use Rattle.hs_awaiting.specs.declared.waiting.Waiting.{Waiting}
use Rattle.hs_core_words.specs.declared.event.Event.{Event}
use Rattle.hs_core_words.specs.State.{Core}
use Rattle.hs_limits.specs.declared.shape.Shape.{Shape}
use Rattle.hs_model.specs.declared.op.Op.{Op}

-- of a core, of a client's line, of bytes that a report tells, of a line that is no client's
pub record Tests : Type 0 where
  pub holds : Core → Bool
  pub may_line : ℕ → Op → Core → Bool
  pub may_tell : ℕ → Option (List ℕ) → Waiting → Core → Bool
  pub may_refuse : ℕ → Bool

-- each of the changes keeps what holds
abbrev pub AreKept : Tests → Type 0
AreKept tests =
    Walks (λ line o core. tests.may_line line o core ≡ true) (λ number bytes w core. tests.may_tell number bytes w core ≡ true) (λ line. tests.may_refuse line ≡ true) (λ core. tests.holds core ≡ true)

-- and so does a view that begins, in a store of this shape, of more than one copy a shard
abbrev pub AreKeptByViews : Tests → Shape → Type 0
AreKeptByViews tests shape = WalksViews shape (λ core. tests.holds core ≡ true)

-- and so does a first view
abbrev pub AreKeptOpen : Tests → Type 0
AreKeptOpen tests =
    WalksOpen (λ line o core. tests.may_line line o core ≡ true) (λ number bytes w core. tests.may_tell number bytes w core ≡ true) (λ line. tests.may_refuse line ≡ true) (λ core. tests.holds core ≡ true)

-- what is asked of an event holds
abbrev pub IsGranted : Tests → Event → Core → Type 0
IsGranted tests e core =
    MayEvent (λ line o core. tests.may_line line o core ≡ true) (λ number bytes w core. tests.may_tell number bytes w core ≡ true) (λ line. tests.may_refuse line ≡ true) e core
