use Rattle.std.proofs.Common.{◌≡◌, drop}
use Rattle.hs_shard.specs.Rounds.{settle}
use Rattle.hs_shard.proofs.blocks.Blocks.settle.Given as goal

abbrev pub invariant-loop-delta : goal.invariant-loop-delta
invariant-loop-delta l = settle l.round (drop l.delta-index l.deltas) l.self ≡ settle l.round l.deltas l.initial.self
