use Rattle.std.proofs.Common.{◌∙◌, ap, ◌||◌}
use Rattle.hs_awaiting.specs.Indexing.{passes, waits_for}
use Rattle.hs_core_state.specs.Waking.{waits_for_block}
use Rattle.hs_core_state.proofs.WakeLemmas.{first_alike, passes_either}
use Rattle.hs_core_state.proofs.state.State.next_for_block.Goals as goal
use Rattle.hs_waits.specs.Lines.{IsFirstFrom}
use Rattle.hs_waits.specs.declared.cause.Cause.TheVariants as cause

pub returns : goal.returns
returns c =
    let es = c.self.inside.operations in
    let shard = c.args.shard in
    let from = c.args.from in
    let room = passes (waits_for (cause.BlockRoom shard)) es in
    let named = passes (waits_for_block shard c.args.address) es in
    let other = passes (waits_for (cause.Other shard)) es in
    let called : IsFirstFrom from named c.next_named.result = rw (← c.self.view_is) at c.next_named.ensures in
    rw (← c.self.view_is)
    (first_alike from (λ n. room n || (named n || other n)) (passes (λ w. waits_for (cause.BlockRoom shard) w || (waits_for_block shard c.args.address w || waits_for (cause.Other shard) w)) es) c.earlier-2.result
    (λ n. passes_either (waits_for (cause.BlockRoom shard)) (λ w. waits_for_block shard c.args.address w || waits_for (cause.Other shard) w) es n
    ∙ ap (λ b. room n || b) (passes_either (waits_for_block shard c.args.address) (waits_for (cause.Other shard)) es n))
    (c.earlier-2.ensures from room (λ n. named n || other n) c.first-room.ensures.first
    (c.earlier.ensures from named other called c.first-other.ensures.first)))
