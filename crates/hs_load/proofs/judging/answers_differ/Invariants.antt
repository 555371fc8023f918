-- So far the answers are each one's own.
use Rattle.std.proofs.Common.{◌≡◌, ◌<◌, ℕ, get_or}
use Rattle.hs_load.specs.Judged.{answers_by}
use Rattle.hs_load.specs.Team.{sessions_of}
use Rattle.hs_promise.specs.declared.load.Kept.{Kept}
use Rattle.hs_load.proofs.judging.answers_differ.Given as goal

abbrev pub invariant-loop-owner : goal.invariant-loop-owner
invariant-loop-owner l = (writers : ℕ) → l.sessions ≡ sessions_of writers → (owner : ℕ) (given : Kept) → owner < l.owner → (get_or l.kept owner given).answers ≡ answers_by writers owner l.journal
