use Rattle.std.proofs.Common.{◌≡◌, ◌-◌, ◌^◌, ◌≤◌, length, take}
use Rattle.hs_ports.specs.Sink.{bytes_of, followed}
use Rattle.hs_run.specs.Puts.{IsStamped}
use Rattle.hs_run.proofs.LateLemmas.{Late}
use Rattle.hs_run.proofs.put.put_all.Given as goal

-- the front was put
abbrev pub invariant-putting : goal.invariant-putting
invariant-putting g l = record {
  within : l.done ≤ length l.bytes;
  put : bytes_of (g.K.Sink.got l.sink) ≡ followed (bytes_of (g.K.Sink.got l.fn.sink)) (take l.done l.bytes);
  late : Late (2 ^ 64 - 1) l.fn.watch l.watch l.done l.bytes (g.K.Sink.got l.fn.sink) (g.K.Sink.got l.sink);
  stamped : IsStamped l.fn.watch l.watch (g.K.Sink.got l.fn.sink) (g.K.Sink.got l.sink);
  counted : g.K.Sink.faults l.fn.sink ≤ g.K.Sink.faults l.sink;
}

abbrev pub decreases-putting : goal.decreases-putting
decreases-putting g l = length l.bytes - l.done
