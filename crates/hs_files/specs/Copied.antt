-- What the command `copy` promises.
use Rattle.std.specs.Fmt.{decimal}
use Rattle.std.specs.Prelude.{◌≡◌, ◌+◌, ◌*◌, ◌++◌, ◌⊎◌, ◌≤◌, ℕ, List, Option, Some, codes, drop, min, take}
use Rattle.hs_asker.specs.Going.{AtEntry}
use Rattle.hs_asker.specs.Shows.{IsTold}
use Rattle.hs_asker.specs.Silent.{status_by}
use Rattle.hs_asking.specs.Shown.{Shown}
use Rattle.hs_copy.specs.Copying.{HasCopied, IsStopped}
use Rattle.hs_copy.specs.Due.{DeletesWhenDue}
use Rattle.hs_copy.specs.declared.fault.CopyFault.{CopyFault}
use Rattle.hs_copy.specs.declared.fault.CopyFault.TheVariants as fault
use Rattle.hs_desk.specs.declared.fault.CoreFault.{CoreFault}
use Rattle.hs_limits.specs.declared.address.Address.{Address}
use Rattle.hs_limits.specs.declared.shape.Shape.{Shape}
use Rattle.hs_model.specs.declared.command.Command.{Command}
use Rattle.hs_ports.specs.Fault.{HasRisen}
use Rattle.hs_ports.specs.Objects.{Objects}
use Rattle.hs_ports.specs.Putting.{PutsFront}
use Rattle.hs_ports.specs.Sink.{bytes_of, followed}
use Rattle.hs_promise.specs.Run.{Ran}
use Rattle.hs_promise.specs.declared.status.Status.{Status}
use Rattle.hs_promise.specs.declared.status.Status.TheVariants as status
use Rattle.hs_run.specs.Machine.{IsOfCluster}
use Rattle.hs_files.specs.Client.{AsksAsClient, DoesNothing, HasOtherShape, IsUnanswered, RunsNoLoad, beneath, client_script}
use Rattle.hs_files.specs.Fetched.{PutsNothing}
use Rattle.hs_files.specs.Put.{IsPutAs}

-- ---- two stores

-- the shapes of both: the disks of the first store come first
pub record Shapes : Type 0 where
  pub first : Shape
  pub second : Shape

abbrev pub peers_of : Shape → ℕ
peers_of shape = shape.shards * shape.copies

-- the disks of the first store, and those of the second
abbrev pub first_disks : Shape → Objects → Objects
first_disks shape objects = record objects { disks = take (peers_of shape) objects.disks; disk_faults = take (peers_of shape) objects.disk_faults }

abbrev pub second_disks : Shape → Objects → Objects
second_disks shape objects = record objects { disks = drop (peers_of shape) objects.disks; disk_faults = drop (peers_of shape) objects.disk_faults }

-- a run on the disks of one store, with an end of its own
pub record IsInFirst (shape : Shape) (r one : Ran) : Type 0 where
  pub old : one.old ≡ first_disks shape r.old
  pub new : one.new ≡ first_disks shape r.new

abbrev pub in_first : Shape → Status → Ran → Ran
in_first shape ending r = record r { ending = ending; old = first_disks shape r.old; new = first_disks shape r.new }

abbrev pub in_second : Shape → Status → Ran → Ran
in_second shape ending r = record r { ending = ending; old = second_disks shape r.old; new = second_disks shape r.new }

-- ---- statuses

-- a number that is counted on behind so many, in a byte
abbrev pub counted_on : ℕ → ℕ → ℕ
counted_on before number = min (before + number) 255

-- of the second store peers and shards count on behind those of the first
abbrev pub second_status : Shape → Status → Status
second_status first (status.WrongShape peer found) = status.WrongShape (counted_on (peers_of first) peer) found
second_status first (status.ShardLost shard) = status.ShardLost (counted_on first.shards shard)
second_status first other = other

-- that of a root which was not copied
abbrev pub fault_status : Shape → CopyFault → Status
fault_status first (fault.First ended) = status_by (Some ended)
fault_status first (fault.Second ended) = second_status first (status_by (Some ended))
fault_status first (fault.Refused told) = status.Refused told
fault_status first (fault.CopyFull blocks) = status.CopyFull blocks
fault_status first fault.NoMemory = status.NoMemory

-- what is put of a root which was
abbrev pub copied_text : ℕ → List ℕ
copied_text blocks = codes "copied " ++ (decimal blocks ++ codes "\n")

-- no core of one of the stores was opened, by a moment
pub record OpensNoCore (tells : Type 0) (name : List ℕ → Address) (shape : Shape) (r : Ran) : Type 0 where
  pub ending : HasOtherShape r.ending ⊎ (r.ending ≡ status.NoMemory)
  pub unanswered : IsUnanswered r
  pub commands : ℕ → Option Command
  pub until : ℕ
  pub later : until ≤ r.new.moment
  pub machine : IsOfCluster tells (client_script name shape commands) (beneath r until r.ending)

-- ---- how it ends

-- a root was copied, with deletions just where they are due
abbrev pub CopiesDuly : {P Q : Type 0} → (List ℕ → Address) → List ℕ → Option ℕ → Shown P → Shown P → Shown Q → Shown Q → ℕ → Type 0
CopiesDuly name key every s t u v blocks = HasCopied name key s t u v blocks × DeletesWhenDue every u v

-- a core had ended as it was opened: nothing was asked for
pub data HadOneEnded {P Q : Type 0} (s : Shown P) (u : Shown Q) (f : CopyFault) : Type 0 where
  InFirst : (core : CoreFault) → s.ended ≡ Some core → f ≡ fault.First core → HadOneEnded s u f
  InSecond : (core : CoreFault) → u.ended ≡ Some core → f ≡ fault.Second core → HadOneEnded s u f

-- both stores were opened; s, t and u, v: what was asked of the first and of the second, at the beginning and at the end
pub data EndsCopying {P Q : Type 0} (name : List ℕ → Address) (first : Shape) (key : List ℕ) (every : Option ℕ) (s t : Shown P) (u v : Shown Q) (r : Ran) : Type 0 where
  Had : (f : CopyFault) → HadOneEnded s u f → t ≡ s → v ≡ u → PutsNothing r → r.ending ≡ fault_status first f → EndsCopying name first key every s t u v r
  -- the root was copied, and this was put; or nothing, for want of memory, or a front of it, since the sink failed
  Copied : (blocks : ℕ) → CopiesDuly name key every s t u v blocks → bytes_of r.new.got ≡ followed (bytes_of r.old.got) (copied_text blocks) → r.ending ≡ status.Done → EndsCopying name first key every s t u v r
  Untold : (blocks : ℕ) → CopiesDuly name key every s t u v blocks → PutsNothing r → r.ending ≡ status.NoMemory → EndsCopying name first key every s t u v r
  Cut : (blocks : ℕ) → CopiesDuly name key every s t u v blocks → PutsFront (bytes_of r.old.got) (copied_text blocks) (bytes_of r.new.got) → HasRisen r.old.sink_faults r.new.sink_faults → r.ending ≡ status.WriteFault → EndsCopying name first key every s t u v r
  -- it stopped
  Stopped : (f : CopyFault) → IsStopped name key s t u v f → PutsNothing r → r.ending ≡ fault_status first f → EndsCopying name first key every s t u v r

-- all of it: before a disk was read, before one of the cores was opened, or with both
pub data EndsCopy (tells : Type 0) (name : List ℕ → Address) (shapes : Shapes) (key : List ℕ) (every : Option ℕ) (r : Ran) : Type 0 where
  Unbegun : DoesNothing r → EndsCopy tells name shapes key every r
  FirstUnopened : OpensNoCore tells name shapes.first (in_first shapes.first r.ending r) → second_disks shapes.first r.new ≡ record (second_disks shapes.first r.old) { moment = r.new.moment } → PutsNothing r → EndsCopy tells name shapes key every r
  SecondUnopened : (ending : Status) → OpensNoCore tells name shapes.second (in_second shapes.first ending r) → r.ending ≡ second_status shapes.first ending
      → (one : Ran) → IsInFirst shapes.first r one → (e : AtEntry) (s : Shown (IsTold tells e)) → AsksAsClient tells name shapes.first one e s s → PutsNothing r → EndsCopy tells name shapes key every r
  Opened : (one : Ran) → IsInFirst shapes.first r one → (e d : AtEntry) (s t : Shown (IsTold tells e)) (u v : Shown (IsTold tells d)) → AsksAsClient tells name shapes.first one e s t → AsksAsClient tells name shapes.second (in_second shapes.first r.ending r) d u v
      → EndsCopying name shapes.first key every s t u v r → EndsCopy tells name shapes key every r

-- the root of a key, with all that it reaches, is copied from the first store into the second, with a deletion there behind so many writes; what is handed back is the second's, and nothing is taken
pub record CopiesRoot (tells : Type 0) (name : List ℕ → Address) (shapes : Shapes) (key : List ℕ) (every : Option ℕ) (r : Ran) : Type 0 where
  pub runs : RunsNoLoad r
  pub unread : r.new.left ≡ r.old.left
  pub ends : EndsCopy tells name shapes key every r

-- ---- for private clauses

-- that a root is not copied, since a core had ended before, or since the copying stops
pub data HaltsCopy {P Q : Type 0} (name : List ℕ → Address) (key : List ℕ) (s t : Shown P) (u v : Shown Q) (f : CopyFault) : Type 0 where
  HadBoth : HadOneEnded s u f → t ≡ s → v ≡ u → HaltsCopy name key s t u v f
  StopsCopy : IsStopped name key s t u v f → HaltsCopy name key s t u v f

-- how many blocks were copied is put, or for want of memory nothing
pub data IsTextPut (blocks : ℕ) (got got' : Option (List (ℕ × ℕ))) (faults faults' : ℕ) (ending : Status) : Type 0 where
  TextPut : IsPutAs (copied_text blocks) got got' faults faults' ending → IsTextPut blocks got got' faults faults' ending
  TextUnput : ending ≡ status.NoMemory → got' ≡ got → faults' ≡ faults → IsTextPut blocks got got' faults faults' ending
