-- What a run that ends early shows of its text and of its script.
use Rattle.std.specs.Prelude.{IsSome, List, [], flat_map, length, ◌++◌, ◌<◌, ◌∷◌, ◌≡◌}
use Rattle.hs_events.specs.Course.{steps}
use Rattle.hs_events.specs.Due.{Events}
use Rattle.hs_events.specs.Found.{first_core}
use Rattle.hs_promise.specs.declared.status.Status.TheVariants as status
use Rattle.hs_promise.specs.Run.{Ran, Script}
use Rattle.hs_promise.specs.Story.{Story}

-- the sink failed only in a text: the last line that was begun had lengthened the journal
abbrev pub FailsInText : Script → Ran → Story → Type 0
FailsInText S r story =
    r.ending ≡ status.WriteFault → (front : List Events) (es : Events) → story.lines ≡ front ++ es ∷ []
    → length (steps (first_core S.set story.found) (story.opening ++ flat_map (λ line. line) front)).journal < length r.journal

-- and where no line was begun opening had answered something
abbrev pub FailsInOpening : Ran → Story → Type 0
FailsInOpening r story = r.ending ≡ status.WriteFault → story.lines ≡ [] → 0 < length r.journal

-- where the core ended as it opened, nothing of the script was read
abbrev pub LeavesUnread : Script → Ran → Story → Type 0
LeavesUnread S r story = IsSome (first_core S.set story.found).ended → r.new.left ≡ r.old.left
