use Rattle.std.proofs.Common.{subst, refl, ℕ, List, map}
use Rattle.hs_ports.specs.Objects.{handed}
use Rattle.hs_promise.specs.Run.{ran_of}
use Rattle.hs_files.proofs.FetchLemmas.{unbegun}
use Rattle.hs_files.specs.Fetched.{FetchesFile}
use Rattle.hs_files.proofs.fetching.run_fetch.Goals as goal

pub returns-in_default-clause-fetches : goal.returns-in_default-clause-fetches
returns-in_default-clause-fetches g c = λ source. unbegun _ _ _ _ _ (record { kept = c.closed.ensures.kept; stored = c.closed.ensures.stored }) (record {
  ending = c.closed.ensures.status;
  unanswered = record { journal = c.closed.ensures.journal; refused = c.closed.ensures.refused; course = c.closed.ensures.course; line = c.closed.ensures.line };
  same = refl;
})

pub returns-clause-fetches : goal.returns-clause-fetches
returns-clause-fetches g c = λ source. subst (λ (key : List ℕ). FetchesFile g.D.Disk.tells (g.A.Addresser.name c.args.naming.now) c.args.shape key
    (ran_of c.fetch_under.result
    (handed c.args.watch.now (map (λ disk. (g.D.Disk.stands disk, g.D.Disk.faults disk)) c.args.disks.now.items) (g.K.Sink.got c.args.sink.now, g.K.Sink.faults c.args.sink.now) source)
    (handed c.fetch_under.new.watch (map (λ disk. (g.D.Disk.stands disk, g.D.Disk.faults disk)) c.fetch_under.new.disks.items) (g.K.Sink.got c.fetch_under.new.sink, g.K.Sink.faults c.fetch_under.new.sink) source)))
    c.in-Ok.ensures (c.fetch_under.ensures.fetches source)
