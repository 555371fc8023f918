use Rattle.std.proofs.Common.{ap, map}
use Rattle.hs_asker.proofs.HeardLemmas.{asks_unheard}
use Rattle.hs_asker.proofs.work.Work.ask.Goals as goal

pub returns-then-not-has_room-clause-asks : goal.returns-then-not-has_room-clause-asks
returns-then-not-has_room-clause-asks g c =
    asks_unheard g.D.Disk.tells (g.A.Addresser.name c.args.naming.now) c.args.op _ _ _ _ _ c.ask_line.result c.in-Ok.told (ap (λ xs. map (λ said. said.value) xs) c.has_room.ensures.items) c.in-Ok.is c.ask_line.ensures.asks
