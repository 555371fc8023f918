-- Which lines the entries above what took effect are of, and which lines have no answer yet.
use Rattle.std.specs.Prelude.{◌≡◌, ℕ, ◌≤◌, Bool, true, false, if◌then◌else◌, nat_eq, List, length, Option, Some, None}
use Rattle.std.specs.Prelude.{slice_get}
use Rattle.hs_copies.specs.Lists.{Item, IsFront, end_view}
use Rattle.hs_copies.specs.Machine.{Copies, CopyEvent, Propose, Send, CopyComes, Sealed, HaveComes, TakesEffect, Fail, GiveUp, Start, Cleared, Copying, Copied, Join, CanCome, after_event}
use Rattle.hs_copies.specs.Invariant.{reach}

-- the entry with n before it is of line k and above what took effect, in a list that has all that took effect
pub record IsLineEntry {X : Type 0} (line : X → Option ℕ) (took xs : List (Item X)) (n : ℕ) (k : ℕ) : Type 0 where
  pub entry : Item X
  pub has : IsFront took xs
  pub above : length took ≤ n
  pub here : slice_get xs n ≡ Some entry
  pub of_line : line entry.what ≡ Some k

-- every such entry of a line is of a line without an answer, and no list has two of one line
pub record AreLinesOpen {X : Type 0} (line : X → Option ℕ) (waits : ℕ → Bool) (s : Copies X) : Type 0 where
  pub waiting : (y n k : ℕ) → IsLineEntry line s.took (reach (s.peers y)) n k → waits k ≡ true
  pub once : (y m n k : ℕ) → IsLineEntry line s.took (reach (s.peers y)) m k
      → IsLineEntry line s.took (reach (s.peers y)) n k → m ≡ n

-- the copies, and which lines have no answer
pub record LinedCopies (X : Type 0) : Type 0 where
  pub copies : Copies X
  pub waits : ℕ → Bool

-- a step of the copies; a line that begins; one that is answered without an entry; one that is answered by its entry, which
-- takes effect
pub data LineEvent (X : Type 0) : Type 0 where
  Step : CopyEvent X → LineEvent X
  Begin : ℕ → LineEvent X
  Answer : ℕ → LineEvent X
  AnswerBy : Item X → ℕ → LineEvent X

-- with another answer for a line
abbrev pub set_waits : ℕ → Bool → (ℕ → Bool) → ℕ → Bool
set_waits k b waits j = if nat_eq j k then b else waits j

-- the entry of a new view is of no line; the entry of a line is of one that waits and has no other in the lead's list
abbrev pub ProposesRightly : {X : Type 0} (line : X → Option ℕ) → LinedCopies X → CopyEvent X → Type 0
ProposesRightly line w (Propose lead x) =
    (k : ℕ) → line x ≡ Some k → (w.waits k ≡ true) × ((n : ℕ) → IsLineEntry line w.copies.took w.copies.log n k → ⊥)
ProposesRightly line w (Fail p lead again x) = line x ≡ None
ProposesRightly line w (Join p lead x) = line x ≡ None
ProposesRightly line w (Send m) = Unit {0}
ProposesRightly line w (CopyComes to place x) = Unit {0}
ProposesRightly line w (Sealed p n) = Unit {0}
ProposesRightly line w (HaveComes p n) = Unit {0}
ProposesRightly line w (TakesEffect x) = Unit {0}
ProposesRightly line w (GiveUp p) = Unit {0}
ProposesRightly line w (Start p) = Unit {0}
ProposesRightly line w (Cleared p n) = Unit {0}
ProposesRightly line w (Copying p more) = Unit {0}
ProposesRightly line w (Copied p) = Unit {0}

-- when it may come. A line is answered without an entry where the current view has an entry in effect, and none of its
-- own waits
abbrev pub CanComeToLines : {X : Type 0} (line : X → Option ℕ) → LinedCopies X → LineEvent X → Type 0
CanComeToLines line w (Step e) = CanCome w.copies e × ProposesRightly line w e
CanComeToLines line w (Begin k) = Unit {0}
CanComeToLines line w (Answer k) =
    (end_view 0 w.copies.took ≡ w.copies.view) × ((n : ℕ) → IsLineEntry line w.copies.took w.copies.log n k → ⊥)
CanComeToLines line w (AnswerBy x k) = CanCome w.copies (TakesEffect x) × (line x.what ≡ Some k)

-- what it leaves
abbrev pub after_line_event : {X : Type 0} → LineEvent X → LinedCopies X → LinedCopies X
after_line_event (Step e) w = record w { copies = after_event e w.copies }
after_line_event (Begin k) w = record w { waits = set_waits k true w.waits }
after_line_event (Answer k) w = record w { waits = set_waits k false w.waits }
after_line_event (AnswerBy x k) w =
    record { copies = after_event (TakesEffect x) w.copies; waits = set_waits k false w.waits }
