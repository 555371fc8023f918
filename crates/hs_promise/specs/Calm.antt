-- That a disk fails no call that nothing tells of, and that no call of a disk failed which is told to be of another store.
use Rattle.std.specs.Prelude.{false, ℕ, ◌++◌, ◌<◌, ◌≡◌}
use Rattle.hs_events.specs.Taken.{peer_count}
use Rattle.hs_journal.specs.Notes.{note_count}
use Rattle.hs_ports.specs.Objects.{faults_at}
use Rattle.hs_promise.specs.declared.status.Status.TheVariants as status
use Rattle.hs_promise.specs.Ending.{ending_of}
use Rattle.hs_promise.specs.Run.{Ran, Script}
use Rattle.hs_side.specs.declared.header.Header.{Header}

-- where a store was opened, and all that was answered was put, the count of a disk stands whose peer is not told to be down, in the journal or in what found it full
abbrev pub RisesAreTold : Script → Ran → Type 0
RisesAreTold S r =
    (ending_of r.ending).closed ≡ false → (ending_of r.ending).short ≡ false → (peer : ℕ) → peer < peer_count S.set.shape
    → note_count peer (r.journal ++ r.refused) ≡ 0 → faults_at r.new.disk_faults peer ≡ faults_at r.old.disk_faults peer

-- where a run ends on a disk of another store, the count of that disk stands
abbrev pub OthersStand : Ran → Type 0
OthersStand r = (peer : ℕ) (found : Header) → r.ending ≡ status.WrongShape peer found → faults_at r.new.disk_faults peer ≡ faults_at r.old.disk_faults peer

-- both
pub record EndsCalm (S : Script) (r : Ran) : Type 0 where
  pub told : RisesAreTold S r
  pub other : OthersStand r
