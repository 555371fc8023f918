-- With any number of copies what the reports of a run tell, where a cluster shows it.
use Rattle.std.proofs.Common.{◌≡◌, inl, inr, ap, ℕ, ◌<◌, None, arith}
use Rattle.hs_clauses.proofs.ShownLemmas.{seen_as}
use Rattle.hs_clauses.specs.Shown.{IsBehindAtEntry, IsToldAs}
use Rattle.hs_cluster.specs.Disks.{stands_of}
use Rattle.hs_cluster.specs.Kept.{AreTold, Span}
use Rattle.hs_cluster.specs.RunsOn.{RunsOn}
use Rattle.hs_events.specs.Found.{first_core}
use Rattle.hs_events.specs.Taken.{peer_count}
use Rattle.hs_events.specs.Whole.{open_whole}
use Rattle.hs_known_copies.proofs.KnownLemmas.{whole_opens}
use Rattle.hs_ports.specs.Disk.{Standing}
use Rattle.hs_promise.specs.Found.{IsReadAs}
use Rattle.hs_promise.specs.Machine.{Went}
use Rattle.hs_promise.specs.Run.{Ran, Script}
use Rattle.hs_promise.specs.Story.{Story, all_events}
use Rattle.hs_standing.specs.Opening.{OpensSoundly}
use Rattle.hs_steady.proofs.ShowLemmas.{run_shows}

pub told_of : (tells : Type 0) (S : Script) (r : Ran) (story : Story) (span : Span) → tells → span.before ≡ r.old.moment → stands_of span.disks ≡ r.old.disks → RunsOn tells S.set span story.found (all_events story)
    → IsBehindAtEntry S r → Went S r story → ((peer : ℕ) → peer < peer_count S.set.shape → IsReadAs r story peer) → IsToldAs S r story
told_of tells S r story span told before old runs behind went read = record { went = went; read = read; rooms = runs.rooms; told = by behind }
  where
    by : IsBehindAtEntry S r → OpensSoundly S.set story.found → (first_core S.set story.found).ended ≡ None → AreTold (open_whole S.set story.found) (all_events story)
    by (inl one) soundly going = runs.told one told going
    by (inr called) soundly going =
        (run_shows tells S.set span story.found (all_events story) runs told
        (λ p. let last = ap (λ (d : Standing). d.last) (seen_as span.disks r.old.disks p old) in let low = called p in omega (arith, last, low, before))
        (whole_opens S.set story.found soundly) going).told
