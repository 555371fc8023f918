use Rattle.hs_measure.proofs.ShownLemmas.{if_shown}
use Rattle.hs_promise.specs.Run.{script_of}
use Rattle.hs_measure.proofs.machine.each_core_of_the_machines_run_keeps_the_promise.Goals as goal
use Rattle.hs_measure.specs.Served.{EachCoreKeeps}

pub returns : goal.returns
returns g c = λ naming wanted commands r machine one told sound.
    if_shown g.D.Disk.tells (script_of (g.A.Addresser.name naming) wanted commands) r (EachCoreKeeps (script_of (g.A.Addresser.name naming) wanted commands) r) (g.A.Addresser.sized naming) machine one told
    (λ story on shown. c.each_core_of_a_run_keeps_the_promise.ensures.disks (script_of (g.A.Addresser.name naming) wanted commands) r story on shown sound)
