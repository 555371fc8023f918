use Rattle.hs_measure.proofs.FailedLemmas.{machine_counts}
use Rattle.hs_measure.proofs.counted.reads_that_fail_are_counted.Goals as goal
use Rattle.hs_promise.specs.Run.{script_of}

pub returns : goal.returns
returns g c = λ naming wanted commands r machine one told.
    machine_counts c.what_is_read_is_sealed.ensures.opens g.D.Disk.tells (script_of (g.A.Addresser.name naming) wanted commands) r (g.A.Addresser.sized naming) machine one told
