-- That hs_standing says what hs_promise asks.
use Rattle.std.proofs.Common.{ℕ, List}
use Rattle.std.specs.Prelude.{slice_index_or}
use Rattle.hs_clauses.specs.Asked.{start_of}
use Rattle.hs_fold.specs.Good.{IsBegun}
use Rattle.hs_fold.specs.Shards.Images.{Image}
use Rattle.hs_journal.specs.Moments.{below}
use Rattle.hs_promise.specs.Awaited.{IsAwaited as IsLeftOf}
use Rattle.hs_promise.specs.Entry.{counted_course, entry_store}
use Rattle.hs_promise.specs.Run.{Ran, Script}
use Rattle.hs_promise.specs.Stops.{Reopens as ReopensAt, pending_at, stop_at}
use Rattle.hs_standing.proofs.PendLemmas.{pend_from}
use Rattle.hs_standing.specs.Reopens.{Reopens}
use Rattle.hs_standing.specs.Start.{IsAwaited}

-- where the course of the run has each line that was begun in the course that counts
pub fits : (S : Script) (r : Ran) (m : ℕ) (images : List Image) → ((line : ℕ) → IsBegun (counted_course S r) line m → IsBegun r.course line m)
    → Reopens (start_of S r) (stop_at S r m) (below m r.journal) images → ReopensAt S (entry_store S r) r m images
fits S r m images same x = record {
  stands = x.stands;
  legal = x.legal;
  sound = x.sound;
  awaited = λ k d low. pend_from (IsAwaited (start_of S r) (stop_at S r m) (below m r.journal)) (IsLeftOf S r m) (λ line a. record { asks = a.asks; begun = same line a.begun; unanswered = a.unanswered }) (slice_index_or (pending_at S r m images) k d).0 (x.awaited k d low);
  once = x.once;
}
