-- Those that begin to work beside each other, and what stands of each behind the joins.
use Rattle.std.specs.Prelude.{◌≡◌, ◌<◌, ℕ, ◌+◌, List, Option, Some, codes, length, slice_get}
use Rattle.hs_taking.specs.Disks.{DiskSeen, log_at, seen_as, seen_at}
use Rattle.hs_desk.specs.declared.slip.Slip.{Slip}
use Rattle.hs_desk.specs.declared.token.Token.{Token}
use Rattle.hs_peerlog.specs.Lists.{Keeping}
use Rattle.hs_ports.specs.declared.disk.Side.{Side}
use Rattle.hs_ports.specs.Disk.{Standing}
use Rattle.hs_script.specs.Loads.{session_name}
use Rattle.hs_workers.specs.Elements.{HasCome}
use Rattle.hs_workers.specs.declared.element.Element.{Element}
use Rattle.hs_workers.specs.declared.element.Element.TheVariants as element
use Rattle.hs_load.specs.declared.gathering.Answered.{Answered}
use Rattle.hs_load.specs.declared.gathering.Returned.{Returned}
use Rattle.hs_load.specs.Team.{AskerEnds, PeerEnds, Task, fresh_slip, fresh_token}

module _ {D : Type 0} (tells : Type 0) (size : D → Side → ℕ) (stands : D → Standing) (faults : D → ℕ) (slots : List (Option Keeping)) (disks : List DiskSeen) (now : ℕ) (task : Task) where
  -- the worker of a peer with its log and its disk; a writer with a pass of its own session; the deleter
  abbrev pub IsSeated : Element Slip Token D → Type 0
  IsSeated (element.Worker w) = (w.seat ≡ fresh_slip w.seat.peer) × (w.seat.peer < length disks) × (log_at slots w.seat.peer ≡ Some w.log)
      × (seen_at disks w.seat.peer ≡ seen_as (size w.disk) (stands w.disk) (faults w.disk)) × (w.watch ≡ now)
  IsSeated (element.Writer w) = (w.number < task.writers) × (w.pass ≡ fresh_token (session_name w.number))
  IsSeated (element.Deleter d) = d.pass ≡ fresh_token (codes "deleter")

  -- one that has worked, from one that was seated so
  pub record HasCameBack (new : Element Slip Token D) : Type 0 where
    pub old : Element Slip Token D
    pub seated : IsSeated old
    pub came : HasCome (λ seat. seat) (λ pass. pass) tells size stands faults task.name task.seed task.files old new

module _ {D : Type 0} (tells : Type 0) (size : D → Side → ℕ) (stands : D → Standing) (faults : D → ℕ) (slots : List (Option Keeping)) (disks : List DiskSeen) where
  -- what was gathered of a peer is its end
  abbrev pub IsBack : ℕ → Returned D → Type 0
  IsBack peer r = PeerEnds tells peer (log_at slots peer) (seen_at disks peer) (seen_as (size r.disk) (stands r.disk) (faults r.disk)) r.log r.stored r.stop

  -- and so is what was gathered at all
  pub record AreBack (back : List (Option (Returned D))) : Type 0 where
    pub each : (peer : ℕ) (r : Returned D) → slice_get back peer ≡ Some (Some r) → IsBack peer r

-- the same of those who asked
pub record AreAskers (task : Task) (told : List (Option Answered)) : Type 0 where
  pub each : (number : ℕ) (a : Answered) → slice_get told number ≡ Some (Some a) → AskerEnds task number a.kept a.end
