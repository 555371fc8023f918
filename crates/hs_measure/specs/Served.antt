-- What each core of a run keeps.
use Rattle.std.specs.Prelude.{◌≡◌, ℕ, None, take}
use Rattle.hs_clauses.specs.Asked.{start_of}
use Rattle.hs_events.specs.Course.{steps}
use Rattle.hs_events.specs.Found.{first_core}
use Rattle.hs_promise.specs.Run.{Ran, Script}
use Rattle.hs_promise.specs.Story.{Story, all_events}
use Rattle.hs_measure.specs.Promised.{KeepsPromise}

-- where the core of a run goes on behind its opening: behind each front of its events it keeps what is promised
abbrev pub EachCoreKeeps : Script → Ran → Story → Type 0
EachCoreKeeps S r story = (first_core S.set story.found).ended ≡ None → (n : ℕ) → KeepsPromise (start_of S r) (steps (first_core S.set story.found) (take n (all_events story)))
