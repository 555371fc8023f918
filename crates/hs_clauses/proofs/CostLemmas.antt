-- With any number of copies reads too cost what the reports of a run tell of failed calls, where it opens over sound lists: what is to be read stands in them.
use Rattle.std.proofs.Common.{◌≡◌, inl, inr, ap, None, arith}
use Rattle.hs_clauses.proofs.InStepReadLemmas.{in_step_all_stored}
use Rattle.hs_clauses.proofs.OpenLemmas.{first_numbered}
use Rattle.hs_clauses.proofs.SealedLemmas.{all_stored}
use Rattle.hs_clauses.proofs.ShownLemmas.{seen_as}
use Rattle.hs_clauses.specs.Shown.{IsBehindAtEntry}
use Rattle.hs_cluster.specs.Counts.{AreAllCounted}
use Rattle.hs_cluster.specs.Disks.{stands_of}
use Rattle.hs_cluster.specs.Kept.{Span}
use Rattle.hs_cluster.specs.RunsOn.{RunsOn}
use Rattle.hs_events.specs.Found.{first_core}
use Rattle.hs_events.specs.Whole.{open_whole}
use Rattle.hs_known_copies.proofs.KnownLemmas.{whole_opens}
use Rattle.hs_moments.proofs.OpeningLemmas.{opening_is_sane}
use Rattle.hs_ports.specs.Disk.{Standing}
use Rattle.hs_promise.specs.Run.{Ran, Script}
use Rattle.hs_promise.specs.Story.{Story, all_events}
use Rattle.hs_standing.specs.Opening.{OpensSoundly}
use Rattle.hs_steady.proofs.ShowLemmas.{run_reads}
use Rattle.hs_whole_copies.proofs.OpenLemmas.{opens_whole}

pub costs_of : (tells : Type 0) (S : Script) (r : Ran) (story : Story) (span : Span) → tells → span.before ≡ r.old.moment → stands_of span.disks ≡ r.old.disks → (runs : RunsOn tells S.set span story.found (all_events story))
    → IsBehindAtEntry S r → OpensSoundly S.set story.found → (first_core S.set story.found).ended ≡ None → AreAllCounted (first_core S.set story.found) (all_events story) runs.disks span.left
costs_of tells S r story span told before old runs behind soundly going = by behind
  where
    by : IsBehindAtEntry S r → AreAllCounted (first_core S.set story.found) (all_events story) runs.disks span.left
    by (inl one) = runs.read one told going
        (all_stored (open_whole S.set story.found) (all_events story) (opening_is_sane S.set story.found one going soundly.lists soundly.many) (first_numbered S.set story.found soundly.lists))
    by (inr called) =
        let whole = opens_whole S.set story.found (whole_opens S.set story.found soundly) going in
        run_reads tells S.set span story.found (all_events story) runs told
        (λ p. let last = ap (λ (d : Standing). d.last) (seen_as span.disks r.old.disks p old) in let low = called p in omega (arith, last, low, before))
        (whole_opens S.set story.found soundly) going
        (in_step_all_stored (open_whole S.set story.found) whole.0 (all_events story) whole.1 (first_numbered S.set story.found soundly.lists))
