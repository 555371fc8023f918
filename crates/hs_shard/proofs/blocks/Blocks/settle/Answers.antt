use Rattle.std.proofs.Common.{◌+◌, drop, ap, sym, ◌∙◌}
use Rattle.std.proofs.lemmas.List.{at_drop_more}
use Rattle.hs_shard.specs.Rounds.{settle}
use Rattle.hs_shard.proofs.blocks.Blocks.settle.Goals as goal

pub loop-delta-preserved : goal.loop-delta-preserved
loop-delta-preserved c =
    ap (λ bs. settle c.args.round (drop (c.loop-delta.delta-index + 1) c.args.deltas.now) bs) c.in_ok-move_count.ensures
    ∙ sym (at_drop_more (λ ds. settle c.args.round ds c.loop-delta.self) c.args.deltas.now c.loop-delta.delta-index _ c.loop-delta-test.true)
    ∙ c.loop-delta.invariant
