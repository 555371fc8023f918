-- What is shown of a run on a cluster in the words of hs_promise that need no law of the plain store.
use Rattle.std.specs.Prelude.{IfSome, IsSome, [], length, false, ℕ, ◌<◌, ◌≡◌, ◌≤◌}
use Rattle.hs_events.specs.Taken.{peer_count}
use Rattle.hs_ports.specs.Fault.{HasRisen}
use Rattle.hs_ports.specs.Objects.{CountsStand, IsDuring, IsSinkBehind, KeepsPast, KeepsTime}
use Rattle.hs_ports.specs.Putting.{IsPut, PutsFront, got_by}
use Rattle.hs_ports.specs.Sink.{bytes_of}
use Rattle.hs_journal.specs.Moments.{below}
use Rattle.hs_promise.specs.Calm.{OthersStand}
use Rattle.hs_promise.specs.declared.status.Status.TheVariants as status
use Rattle.hs_promise.specs.Ending.{ending_of}
use Rattle.hs_promise.specs.Ends.{Ends}
use Rattle.hs_promise.specs.Headers.{KeepsHeaders}
use Rattle.hs_promise.specs.Promise.{AreOfScript}
use Rattle.hs_promise.specs.Run.{IsNoLoad, Ran, Script}
use Rattle.hs_promise.specs.Shapes.{ShapeCause}
use Rattle.hs_script.specs.Text.{text}
use Rattle.hs_side.specs.declared.header.Header.{Header}

-- what was put is the journal's text, at each moment a front of what was answered below it
pub record PrintsText (S : Script) (r : Ran) : Type 0 where
  pub fits : length r.journal ≤ S.set.limits.ops
  pub printed : IsPut (ending_of r.ending).short (bytes_of r.old.got) (text r.journal) (bytes_of r.new.got)
  pub in_time : (m : ℕ) → IsSinkBehind r.old → IsDuring r.old r.new m → PutsFront (bytes_of r.old.got) (text (below m r.journal)) (bytes_of (got_by m r.new.got))

-- nothing was answered, and nothing happened
pub record IsEmpty (r : Ran) : Type 0 where
  pub journal : r.journal ≡ []
  pub course : r.course ≡ []

-- the causes that need no contents
pub record HasCauses (r : Ran) : Type 0 where
  pub refused : (ending_of r.ending).full ≡ false → r.refused ≡ []
  pub read : r.ending ≡ status.ReadFault → HasRisen r.old.source_faults r.new.source_faults
  pub write : r.ending ≡ status.WriteFault → HasRisen r.old.sink_faults r.new.sink_faults
  pub shape : (peer : ℕ) (found : Header) → r.ending ≡ status.WrongShape peer found → IsEmpty r

pub record Served (tells : Type 0) (S : Script) (r : Ran) : Type 0 where
  pub script : AreOfScript S r
  pub handed_back : length r.new.disks ≡ length r.old.disks
  pub prints : PrintsText S r
  pub time : KeepsTime r.old r.new
  pub counts : CountsStand r.old r.new
  pub no_load : IsNoLoad r
  pub causes : HasCauses r
  -- a disk of another store is that of a peer
  pub within : (peer : ℕ) (found : Header) → r.ending ≡ status.WrongShape peer found → peer < peer_count S.set.shape
  pub others : OthersStand r
  -- a source that tells what it has tells what it has left
  pub left : IsSome r.old.left → IsSome r.new.left
  pub ends : IfSome r.old.left (λ script. IfSome r.new.left (Ends r script))
  pub past : S.set.shape.copies ≡ 1 → tells → KeepsPast r.old r.new
  pub headers : tells → KeepsHeaders S r
  pub shape : tells → ShapeCause S r
