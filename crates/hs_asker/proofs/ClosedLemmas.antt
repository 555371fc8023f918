-- No core was opened.
use Rattle.std.proofs.Common.{List, ◌≡◌, ◌∙◌, sym, subst, ℕ, ◌*◌, ◌<◌, ◌≤◌, [], Option, Err, refl, arith, length}
use Rattle.std.proofs.lemmas.List.{length-map}
use Rattle.hs_cluster.specs.Begins.{IsClosed}
use Rattle.hs_cluster.specs.Counts.{NoneFalls}
use Rattle.hs_cluster.specs.Disks.{DiskSeen, seen_at, stands_of}
use Rattle.hs_cluster.specs.Unopened.{LeavesAsTaken}
use Rattle.hs_cluster.specs.declared.fault.ClusterFault.{ClusterFault}
use Rattle.hs_cluster.specs.declared.fault.ClusterFault.TheVariants as cluster
use Rattle.hs_fold.specs.Shards.Setting.{Setting}
use Rattle.hs_limits.specs.Shape.{IsShape}
use Rattle.hs_limits.specs.declared.shape.Shape.{Shape}
use Rattle.hs_model.specs.declared.command.Command.{Command}
use Rattle.hs_moments.specs.Moments.{Since}
use Rattle.hs_side.specs.Headers.{own_header}
use Rattle.hs_taking.specs.Headed.{KeepsItsHeader}
use Rattle.hs_taking.specs.Shares.{Span as Taking}
use Rattle.hs_taking.specs.Spared.{SparesDisks}
use Rattle.hs_run.specs.Machine.{IsOfCluster, LeavesShards}
use Rattle.hs_run.specs.Stopping.{of_cluster, status_of}
use Rattle.hs_run.proofs.ClosedLemmas.{closed_hub}
use Rattle.hs_asker.specs.Going.{AtEntry}
use Rattle.hs_asker.specs.Silent.{IsOpenFault, silent, silent_run}
use Rattle.hs_asker.proofs.HubLemmas.{handed_so}

pub closed_run : (tells : Type 0) (e : AtEntry) (set : Setting) (span : Taking) (fault : ClusterFault) → e ≡ record { set = set; moment = span.before; disks = span.old } → IsClosed tells set.shape span.old span.new fault → span.before ≤ span.now
    → NoneFalls span.old span.new → (tells → Since (stands_of span.new)) → IsShape set.shape → length span.old ≡ set.shape.shards * set.shape.copies → length span.new ≡ length span.old
    → (set.shape.copies ≡ 1 → LeavesAsTaken tells span) → LeavesShards tells set.shape span → SparesDisks tells set.shape span
    → ((peer : ℕ) → peer < length span.old → KeepsItsHeader tells (own_header set.shape peer) span.before span.now (seen_at span.old peer) (seen_at span.new peer))
    → (commands : ℕ → Option Command) × IsOfCluster tells (record { set = e.set; commands = commands }) (silent_run (status_of (Err (of_cluster fault)) 0) 0 [] [] [] (silent e.moment e.disks) (silent span.now span.new))
closed_run tells e set span fault is closed later falls since shape count left taken shards spares headed =
    subst (λ (x : AtEntry). (commands : ℕ → Option Command) × IsOfCluster tells (record { set = x.set; commands = commands }) (silent_run (status_of (Err (of_cluster fault)) 0) 0 [] [] [] (silent x.moment x.disks) (silent span.now span.new))) (sym is)
    (closed_hub tells set span fault (silent span.before span.old) (silent span.now span.new) closed refl refl refl refl later (handed_so span.before span.old) (handed_so span.now span.new) falls since shape count
    (length-map span.old (λ (d : DiskSeen). d.stands)) left
    (length-map span.new (λ (d : DiskSeen). d.stands) ∙ left ∙ sym (length-map span.old (λ (d : DiskSeen). d.stands))) (omega arith) (omega arith) taken shards spares headed)

pub open_fault : (tells : Type 0) (shape : Shape) (old new : List DiskSeen) (fault : ClusterFault) → IsClosed tells shape old new fault → IsOpenFault fault
open_fault tells shape old new (cluster.WrongShape peer found) closed = tt
open_fault tells shape old new (cluster.ShardLost shard) closed = closed
open_fault tells shape old new cluster.OpsFull closed = closed
open_fault tells shape old new cluster.NoMemory closed = tt
