-- A shard from its opening on, with its lines, and what is chosen where it stops.
use Rattle.std.specs.Prelude.{◌≡◌, ℕ, suc, Bool, true, false, List, [], ◌∷◌, Option, None}
use Rattle.hs_copies.specs.Lists.{Item, IsFront, end_view}
use Rattle.hs_copies.specs.Lines.{IsLineEntry, LinedCopies, LineEvent, Step, Begin, Answer, AnswerBy, CanComeToLines, after_line_event}
use Rattle.hs_copies.specs.Stamps.{view_told, ToldRises, TellsView}
use Rattle.hs_copies.specs.Opened.{stamped_alike}
use Rattle.hs_copies.specs.Opened.{opened_copies}

-- what entries tell: of which line one is, and the view behind one
pub record EntryReading (X : Type 0) : Type 0 where
  pub line : X → Option ℕ
  pub tells : ℕ → X → ℕ

-- entries of new views tell these, and no other tells one
abbrev pub TellsLineView : {X : Type 0} → EntryReading X → LinedCopies X → LineEvent X → Type 0
TellsLineView e w (Step d) = TellsView e.tells w.copies d
TellsLineView e w (Begin k) = Unit {0}
TellsLineView e w (Answer k) = Unit {0}
TellsLineView e w (AnswerBy x k) = Unit {0}

-- each event may come when it does
abbrev pub CanComeAllToLines : {X : Type 0} → EntryReading X → LinedCopies X → List (LineEvent X) → Type 0
CanComeAllToLines e w [] = Unit {0}
CanComeAllToLines e w (d ∷ ds) =
    CanComeToLines e.line w d × TellsLineView e w d × CanComeAllToLines e (after_line_event d w) ds

-- what they leave
abbrev pub after_line_events : {X : Type 0} → List (LineEvent X) → LinedCopies X → LinedCopies X
after_line_events [] w = w
after_line_events (d ∷ ds) w = after_line_events ds (after_line_event d w)

-- a shard that was opened with this list, and no line without an answer
abbrev pub opened_lined : {X : Type 0} → EntryReading X → List (Item X) → (ℕ → Bool) → ℕ → X → LinedCopies X
opened_lined e log good lead what =
    let view : ℕ = view_told e.tells 0 log in
    record { copies = opened_copies view (stamped_alike view log) good lead what; waits = λ k. false }

-- it was opened with a list whose views never fall, and only what may come has come
pub record IsSinceOpening {X : Type 0} (e : EntryReading X) (log : List (Item X)) (w : LinedCopies X) : Type 0 where
  pub good : ℕ → Bool
  pub lead : ℕ
  pub what : X
  pub deeds : List (LineEvent X)
  pub ascends : ToldRises e.tells 0 log
  pub leads : good lead ≡ true
  pub tells : (v : ℕ) → e.tells v what ≡ suc (view_told e.tells 0 log)
  pub no_line : e.line what ≡ None
  pub may : CanComeAllToLines e (opened_lined e log good lead what) deeds
  pub here : after_line_events deeds (opened_lined e log good lead what) ≡ w

-- the list has all that took effect. Of what more it has, each entry of a line is of one that has no answer, and no
-- line has two; and once the current view has an entry in effect, all of it is the lead's
pub record IsChosen {X : Type 0} (e : EntryReading X) (w : LinedCopies X) (list : List (Item X)) : Type 0 where
  pub has : IsFront w.copies.took list
  pub waits : (n k : ℕ) → IsLineEntry e.line w.copies.took list n k → w.waits k ≡ true
  pub once : (m n k : ℕ) → IsLineEntry e.line w.copies.took list m k
      → IsLineEntry e.line w.copies.took list n k → m ≡ n
  pub settled : end_view 0 w.copies.took ≡ w.copies.view → IsFront list w.copies.log
