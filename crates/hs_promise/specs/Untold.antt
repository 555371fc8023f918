-- How long a peer is good.
use Rattle.std.specs.Prelude.{Some, false, true, ℕ, ◌<◌, ◌≡◌, ◌≤◌}
use Rattle.hs_events.specs.Taken.{peer_count}
use Rattle.hs_fold.specs.Good.{IsBegun, is_good}
use Rattle.hs_fold.specs.Shards.Course.{was_good}
use Rattle.hs_journal.specs.Moments.{below}
use Rattle.hs_journal.specs.Notes.{is_first_noted, note_count}
use Rattle.hs_model.specs.declared.command.Command.TheVariants as command
use Rattle.hs_ports.specs.Objects.{IsDuring}
use Rattle.hs_promise.specs.Lost.{IsPast}
use Rattle.hs_promise.specs.Run.{Ran, Script}

-- no line that was begun asks a peer to fail
abbrev pub NoneFails : Script → Ran → ℕ → Type 0
NoneFails S r peer = (line : ℕ) → line ≤ r.line → S.commands line ≡ Some (command.Fail peer) → ⊥

-- whether a peer may count as good at a moment: with one copy a shard at each, as there is no core without it; else where a client's line was begun below, so that the core was open;
-- or where the peer was good below, and no note tells before any line that it is down: one that is told so may have failed before the core was opened, which tells it
pub data IsOpenTo (S : Script) (r : Ran) (m peer : ℕ) : Type 0 where
  Alone : S.set.shape.copies ≡ 1 → IsOpenTo S r m peer
  Begun : (line : ℕ) → IsBegun r.course line m → IsOpenTo S r m peer
  Was : was_good r.course m peer ≡ true → is_first_noted peer r.journal ≡ false → IsOpenTo S r m peer

-- where opening was gone past, such a peer is good at each moment of the call below which no note tells that it is down, where no line asks it to fail
abbrev pub IsGoodUntold : Script → Ran → Type 0
IsGoodUntold S r =
    IsPast r 0 → (m peer : ℕ) → IsDuring r.old r.new m → peer < peer_count S.set.shape → note_count peer (below m r.journal) ≡ 0 → NoneFails S r peer
    → IsOpenTo S r m peer → is_good r.course m peer ≡ true
