-- A load never ends as a faulty command line.
use Rattle.std.proofs.Common.{◌≡◌, ◌∙◌, ap, sym, subst, ℕ, Option, Some, None, List}
use Rattle.std.proofs.lemmas.Bool.{false≢true}
use Rattle.std.specs.Prelude.{is_some, ⊤}
use Rattle.hs_book.specs.Book.{Book}
use Rattle.hs_cluster.specs.declared.fault.ClusterFault.{ClusterFault}
use Rattle.hs_cluster.specs.declared.fault.ClusterFault.TheVariants as cluster
use Rattle.hs_core_words.specs.State.{Core}
use Rattle.hs_desk.specs.declared.fault.CoreFault.{CoreFault}
use Rattle.hs_desk.specs.declared.fault.CoreFault.TheVariants as core
use Rattle.hs_limits.specs.declared.address.Address.{Address}
use Rattle.hs_limits.specs.declared.shape.Shape.{Shape}
use Rattle.hs_load.specs.Judged.{Difference, Ended, IsJudged, IsTorn, Job, Load, Mismatched, Numbers, Team, TornAt, core_status, difference_in}
use Rattle.hs_load.specs.Loaded.{Close, Cut, Empty, EndsLoad, EndsTeam, EndsWork, Full, Handed, IsLoaded, Judged, Put, PutsSummary, Shut, Summed, Unopened, Unagreed, Unfit, Unput, Unsummed, Unworked, Wanting, Worked, cluster_status}
use Rattle.hs_peerlog.specs.Lists.{Keeping}
use Rattle.hs_promise.specs.Run.{Ran}
use Rattle.hs_promise.specs.declared.load.Stored.{Stored}
use Rattle.hs_promise.specs.declared.status.Status.{Status}
use Rattle.hs_promise.specs.declared.status.Status.TheVariants as status
use Rattle.hs_script.specs.declared.sums.WriterSum.{WriterSum}
use Rattle.hs_taking.specs.Disks.{DiskSeen}
use Rattle.hs_workers.specs.declared.fault.WorkFault.{WorkFault}
use Rattle.std.specs.Prelude.{Result}

-- a status is another one
abbrev IsOther : Status → Type 0
IsOther status.Usage = ⊥
IsOther other = ⊤

so : (s t : Status) → s ≡ t → IsOther t → IsOther s
so s t same other = subst IsOther (sym same) other

of_cluster : (f : ClusterFault) → IsOther (cluster_status f)
of_cluster (cluster.WrongShape peer found) = tt
of_cluster (cluster.ShardLost shard) = tt
of_cluster cluster.OpsFull = tt
of_cluster cluster.NoMemory = tt

of_core : (f : CoreFault) → IsOther (core_status f)
of_core core.OpsFull = tt
of_core (core.ShardLost shard) = tt
of_core core.NoMemory = tt

of_torn : (book : Book) (stored : List Stored) (stops : List (Option WorkFault)) (s : Status) → IsTorn book stored stops s → IsOther s
of_torn book stored stops s (Job peer place number next at is) = so s (status.Torn peer place (Some number) (Some next)) is tt
of_torn book stored stops s (Numbers peer place given at part is) = so s _ is tt

of_difference : (s : Status) (d : Difference) → difference_in s ≡ Some d → IsOther s
of_difference s d is = go s is
  where
    go : (s : Status) → difference_in s ≡ Some d → IsOther s
    go status.Usage is = false≢true (ap (λ (o : Option Difference). is_some o) is)
    go status.Done is = tt
    go (status.BadLine line) is = tt
    go (status.ShardLost shard) is = tt
    go status.ReadFault is = tt
    go status.WriteFault is = tt
    go status.NoMemory is = tt
    go (status.WrongShape peer found) is = tt
    go (status.Mismatch session place told kept) is = tt
    go status.OpsFull is = tt
    go (status.Torn peer place told kept) is = tt
    go (status.NotEmpty blocks roots) is = tt
    go status.InputFull is = tt
    go (status.Refused reply) is = tt
    go (status.NotATree address) is = tt
    go (status.NoSource peer) is = tt
    go (status.CopyFull blocks) is = tt

of_judged : (load : Load) (book : Book) (team : Team) (s : Status) → IsJudged load book team s → IsOther s
of_judged load book team s (TornAt torn) = of_torn book team.stored team.stops s torn
of_judged load book team s (Ended f ended is turn reported) = so s (core_status f) is (of_core f)
of_judged load book team s (Mismatched d is going turn reported mismatch) = of_difference s d is

of_summary : (writers : ℕ) (ends : List (Result WriterSum WorkFault)) (core : Core) (line : ℕ) (c : Close) → PutsSummary writers ends core line c → IsOther c.ending
of_summary writers ends core line c (Unsummed is none) = so c.ending status.NoMemory is tt
of_summary writers ends core line c (Unagreed sums are differs is none) = so c.ending status.NoMemory is tt
of_summary writers ends core line c (Put sums are tallied is put later) = so c.ending status.Done is tt
of_summary writers ends core line c (Unput sums are tallied is put risen later) = so c.ending status.WriteFault is tt

of_work : (tells : Type 0) (load : Load) (book : Book) (team : Team) (left new : List DiskSeen) (core : Core) (c : Close) → EndsWork tells load book team left new core c → IsOther c.ending
of_work tells load book team left new core c (Wanting is none same calm) = so c.ending status.NoMemory is tt
of_work tells load book team left new core c (Unfit same unfit is none at calm) = so c.ending status.NoMemory is tt
of_work tells load book team left new core c (Judged rested judged none same calm) = of_judged load book team c.ending judged
of_work tells load book team left new core c (Cut f same runs is none) = so c.ending (cluster_status f) is (of_cluster f)
of_work tells load book team left new core c (Summed same runs puts) = of_summary load.writers team.ends core book.core.progress.last_line c puts

of_team : (tells : Type 0) (load : Load) (start : Core) (slots : List (Option Keeping)) (disks new : List DiskSeen) (h : Handed) (c : Close) → EndsTeam tells load start slots disks new h c → IsOther c.ending
of_team tells load start slots disks new h c (Unworked is none kept stored) = so c.ending status.NoMemory is tt
of_team tells load start slots disks new h c (Worked w) = of_work tells load w.book w.team w.left new w.last c w.ends

of_load : (tells : Type 0) (load : Load) (before : ℕ) (old new : List DiskSeen) (h : Handed) (c : Close) → EndsLoad tells load before old new h c → IsOther c.ending
of_load tells load before old new h c (Unopened f closed falls is none same) = so c.ending (cluster_status f) is (of_cluster f)
of_load tells load before old new h c (Shut now cluster f opened is none same) = so c.ending (cluster_status f) is (of_cluster f)
of_load tells load before old new h c (Full now cluster opened some is none same) = so c.ending _ is tt
of_load tells load before old new h c (Empty now cluster disks opened blocks roots team) = of_team tells load cluster.core cluster.logs disks new h c team

pub never_usage : (tells : Type 0) (name : List ℕ → Address) (shape : Shape) (seed writers files : ℕ) (r : Ran) → IsLoaded tells name shape seed writers files r → r.ending ≡ status.Usage → ⊥
never_usage tells name shape seed writers files r loaded ends = subst IsOther ends (of_load tells _ _ _ _ _ _ loaded.ends)
