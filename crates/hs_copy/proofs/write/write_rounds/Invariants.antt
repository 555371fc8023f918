use Rattle.std.proofs.Common.{◌-◌, ◌≤◌}
use Rattle.hs_copy.specs.Due.{DeletesSo, count_of}
use Rattle.hs_copy.specs.Rounds.{RoundsBroken}
use Rattle.hs_copy.proofs.write.write_rounds.Given as goal

abbrev pub invariant-rounds : goal.invariant-rounds
invariant-rounds g l = record {
  broken : RoundsBroken (g.A.Addresser.name l.naming) l.key (g.B.Asker.shows l.fn.asker) (g.B.Asker.shows l.asker) l.placed l.broken l.fn.deleting.asked l.deleting.asked;
  due : DeletesSo (count_of l.fn.deleting) (count_of l.deleting) (g.B.Asker.shows l.fn.asker) (g.B.Asker.shows l.asker);
  most : l.broken ≤ 4;
  few : l.deleting.asked ≤ 4;
}

abbrev pub decreases-rounds : goal.decreases-rounds
decreases-rounds g l = 4 - l.broken
