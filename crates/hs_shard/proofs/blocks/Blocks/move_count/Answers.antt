use Rattle.std.proofs.Common.{true, ap, ◌∙◌}
use Rattle.std.specs.Option.{option_map_or}
use Rattle.hs_shard.specs.Listed.{is_sound}
use Rattle.hs_shard.proofs.blocks.Blocks.move_count.Goals as goal

pub change-requires : goal.change-requires
change-requires c = ap (λ o. option_map_or is_sound o true) c.in-Some.ensures.value ∙ c.self.invariant.sound c.args.delta.address
