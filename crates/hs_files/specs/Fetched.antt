-- What the command `fetch` promises.
use Rattle.std.specs.Prelude.{List, Some, [], ℕ, ◌≡◌}
use Rattle.hs_asker.specs.Going.{AtEntry}
use Rattle.hs_asker.specs.Shows.{IsTold}
use Rattle.hs_asker.specs.Silent.{status_by}
use Rattle.hs_asking.specs.Shown.{Shown}
use Rattle.hs_desk.specs.declared.fault.CoreFault.{CoreFault}
use Rattle.hs_limits.specs.declared.address.Address.{Address}
use Rattle.hs_limits.specs.declared.shape.Shape.{Shape}
use Rattle.hs_ports.specs.Fault.{HasRisen}
use Rattle.hs_ports.specs.Putting.{PutsFront}
use Rattle.hs_ports.specs.Sink.{bytes_of, followed}
use Rattle.hs_promise.specs.Run.{Ran}
use Rattle.hs_promise.specs.declared.status.Status.TheVariants as status
use Rattle.hs_tree.specs.Fetching.{HasFetched, IsFetchStopped}
use Rattle.hs_tree.specs.declared.fault.TreeFault.{TreeFault}
use Rattle.hs_files.specs.Client.{AsksAsClient, DoesNothing, OpensNothing, RunsNoLoad, tree_status}

-- nothing was put
abbrev pub PutsNothing : Ran → Type 0
PutsNothing r = r.new.got ≡ r.old.got

-- how it ends
pub data EndsFetch (tells : Type 0) (name : List ℕ → Address) (shape : Shape) (key : List ℕ) (r : Ran) : Type 0 where
  -- before a disk was read
  Unbegun : DoesNothing r → EndsFetch tells name shape key r
  -- before a core was opened
  Unopened : OpensNothing tells name shape r → PutsNothing r → EndsFetch tells name shape key r
  -- the core had ended as it opened: nothing was asked for
  Ended : (e : AtEntry) (start : Shown (IsTold tells e)) → AsksAsClient tells name shape r e start start → (core : CoreFault) → start.ended ≡ Some core → PutsNothing r → r.ending ≡ status_by (Some core) → EndsFetch tells name shape key r
  -- the file of the key was put
  Fetched : (e : AtEntry) (start now : Shown (IsTold tells e)) → AsksAsClient tells name shape r e start now → (file : List ℕ) → HasFetched key start now [] file → bytes_of r.new.got ≡ followed (bytes_of r.old.got) file → r.ending ≡ status.Done → EndsFetch tells name shape key r
  -- or a front of it, since the sink failed
  Cut : (e : AtEntry) (start now : Shown (IsTold tells e)) → AsksAsClient tells name shape r e start now → (file : List ℕ) → HasFetched key start now [] file → PutsFront (bytes_of r.old.got) file (bytes_of r.new.got) → HasRisen r.old.sink_faults r.new.sink_faults → r.ending ≡ status.WriteFault
      → EndsFetch tells name shape key r
  -- it stopped, by a core that has ended, a refusal, a root that is no file, or for memory
  Stopped : (e : AtEntry) (start now : Shown (IsTold tells e)) → AsksAsClient tells name shape r e start now → (f : TreeFault) → IsFetchStopped key start now f → PutsNothing r → r.ending ≡ tree_status f → EndsFetch tells name shape key r

-- the file of a key is put, and nothing is taken
pub record FetchesFile (tells : Type 0) (name : List ℕ → Address) (shape : Shape) (key : List ℕ) (r : Ran) : Type 0 where
  pub runs : RunsNoLoad r
  pub unread : r.new.left ≡ r.old.left
  pub ends : EndsFetch tells name shape key r
