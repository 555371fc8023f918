-- What the command `store` promises.
use Rattle.std.specs.Prelude.{List, Some, ℕ, ◌≡◌}
use Rattle.hs_asker.specs.Going.{AtEntry}
use Rattle.hs_asker.specs.Shows.{IsTold}
use Rattle.hs_asker.specs.Silent.{status_by}
use Rattle.hs_asking.specs.Shown.{Shown}
use Rattle.hs_desk.specs.declared.fault.CoreFault.{CoreFault}
use Rattle.hs_limits.specs.declared.address.Address.{Address}
use Rattle.hs_limits.specs.declared.shape.Shape.{Shape}
use Rattle.hs_promise.specs.Run.{Ran}
use Rattle.hs_promise.specs.declared.status.Status.TheVariants as status
use Rattle.hs_tree.specs.Calls.{IsStoringFault}
use Rattle.hs_tree.specs.Growing.{IsStopped}
use Rattle.hs_tree.specs.Storing.{HasStored, IsUnfinished, our_session}
use Rattle.hs_tree.specs.declared.fault.TreeFault.{TreeFault}
use Rattle.hs_files.specs.Client.{AsksAsClient, DoesNothing, OpensNothing, RunsNoLoad, tree_status}

-- nothing was taken from the source
pub record TakesNothing (r : Ran) : Type 0 where
  pub left : r.new.left ≡ r.old.left
  pub count : r.new.source_faults ≡ r.old.source_faults

-- how it ends
pub data EndsStore (tells : Type 0) (name : List ℕ → Address) (shape : Shape) (key : List ℕ) (r : Ran) : Type 0 where
  -- before a disk was read
  Unbegun : DoesNothing r → EndsStore tells name shape key r
  -- before a core was opened
  Unopened : OpensNothing tells name shape r → TakesNothing r → EndsStore tells name shape key r
  -- the core had ended as it opened: nothing was asked for
  Ended : (e : AtEntry) (start : Shown (IsTold tells e)) → AsksAsClient tells name shape r e start start → (core : CoreFault) → start.ended ≡ Some core → TakesNothing r → r.ending ≡ status_by (Some core) → EndsStore tells name shape key r
  -- the source was taken to its end, and its file is stored under the key
  Stored : (e : AtEntry) (start now : Shown (IsTold tells e)) → AsksAsClient tells name shape r e start now → (bytes : ℕ) → HasStored name key start now r.old.left r.new.left bytes → r.ending ≡ status.Done → EndsStore tells name shape key r
  -- it stopped, by a core that has ended, the source, a refusal, or for memory: it had written a front of the tree of what was taken
  Stopped : (e : AtEntry) (start now : Shown (IsTold tells e)) → AsksAsClient tells name shape r e start now → (f : TreeFault) → IsStopped our_session key start now f → IsUnfinished name start now r.old.left r.new.left → IsStoringFault r.old.source_faults r.new.source_faults r.old.left f → r.ending ≡ tree_status f
      → EndsStore tells name shape key r

-- what the source gives is stored as a file under a key, and nothing is put
pub record StoresFile (tells : Type 0) (name : List ℕ → Address) (shape : Shape) (key : List ℕ) (r : Ran) : Type 0 where
  pub runs : RunsNoLoad r
  pub unput : r.new.got ≡ r.old.got
  pub ends : EndsStore tells name shape key r
