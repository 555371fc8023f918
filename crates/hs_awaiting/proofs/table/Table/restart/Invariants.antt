use Rattle.std.proofs.Common.{◌≡◌, ◌-◌, ◌^◌, map}
use Rattle.hs_awaiting.specs.Indexing.{IsIndexed, rest_again}
use Rattle.hs_awaiting.specs.Views.{restarted}
use Rattle.hs_awaiting.proofs.table.Table.restart.Given as goal

abbrev pub invariant-loop-line : goal.invariant-loop-line
invariant-loop-line l = record {
  index : IsIndexed l.self;
  rest : rest_again l.shard l.last l.from l.self.map.entries ≡ map (λ e. (e.0, restarted l.shard l.last e.1)) l.initial.self.map.entries;
}

abbrev pub decreases-loop-line : goal.decreases-loop-line
decreases-loop-line l = 2 ^ 64 - l.from
