use Rattle.std.proofs.Common.{◌∙◌, sym}
use Rattle.hs_core_state.proofs.RecordLemmas.{each_has_room}
use Rattle.hs_core_state.proofs.state.State.record_room.Goals as goal

pub returns-in-None : goal.returns-in-None
returns-in-None c = each_has_room c.args.self.now c.shape-shape.ensures.kept (sym c.overfull_shard.ensures ∙ c.in-None.is)
