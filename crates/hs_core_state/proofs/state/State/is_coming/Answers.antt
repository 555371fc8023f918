use Rattle.std.proofs.Common.{◌∙◌}
use Rattle.hs_core_words.specs.Looking.{group_of}
use Rattle.hs_core_state.proofs.StoredLemmas.{coming_met}
use Rattle.hs_core_state.proofs.state.State.is_coming.Goals as goal

pub returns : goal.returns
returns c =
    let waiting = (group_of c.args.shard c.args.self.now).waiting in
    rw c.in-Some.is (c.is_some.ensures ∙ coming_met c.args.self.now c.in-Some.address waiting c.met-write.result c.met-write.ensures)
