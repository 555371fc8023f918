use Rattle.std.proofs.Common.{◌≡◌, ◌∙◌, arith, ◌+◌, ◌<◌, ◌≤◌, length}
use Rattle.std.proofs.lemmas.Grind.{common_steps}
use Rattle.std.proofs.lemmas.List.{length-set}
use Rattle.hs_core_state.specs.Renewing.{lead_in, lead_sealed, step_at}
use Rattle.hs_limits.specs.declared.shape.Shape.{Shape}
use Rattle.hs_limits.specs.Shape.{peer_of}
use Rattle.hs_core_state.proofs.StepLemmas.{home_between, home_high, one_inside, one_outside, peer_between}
use Rattle.hs_core_state.proofs.steps.renew_steps.Goals as goal

pub loop-peer-preserved : goal.loop-peer-preserved
loop-peer-preserved c =
    let shape : Shape = c.args.members.now.shape in
    let shard = c.args.shard in
    let peer = c.loop-peer.peer in
    let steps = c.loop-peer.steps.items in
    let low : peer_of shape shard 0 ≤ peer = grind (arith, common_steps) in
    let high : peer < peer_of shape shard 0 + shape.copies = grind (arith, common_steps) in
    let at = home_between shape shard peer low high in
    let is = peer_between shape shard peer c.requires.of.within low high in
    let long : peer < length steps = omega (arith, is, c.loop-peer.invariant.length, c.requires.steps) in
    rw c.from.ensures (record {
      length = length-set steps peer c.step_at.result ∙ c.loop-peer.invariant.length;
      inside = one_inside shape shard peer steps c.step_at.result (step_at c.args.members.now c.lead_of-lead.result c.sealed_by-sealed.result c.args.rejoins.now) long c.step_at.ensures c.loop-peer.invariant.inside;
      outside = λ k d. one_outside shape shard peer k steps c.step_at.result at d ∙ c.loop-peer.invariant.outside k d;
    })

pub returns-clause-renewed : goal.returns-clause-renewed
returns-clause-renewed c =
    let m = c.args.members.now in
    let shape : Shape = m.shape in
    let shard = c.args.shard in
    let lead : c.lead_of-lead.result ≡ lead_in m c.args.group.now shard = c.lead_of-lead.ensures.value in
    let sealed : c.sealed_by-sealed.result ≡ lead_sealed c.lead_of-lead.result c.args.group.now = c.sealed_by-sealed.ensures in
    let last : peer_of shape shard 0 + shape.copies ≤ c.loop-peer.peer = grind (arith, common_steps) in
    record {
      length = c.loop-peer.invariant.length;
      inside = λ peer h at.
          let high : peer < peer_of shape shard 0 + shape.copies = rw at at (home_high shape peer c.requires.of.valid.some_copy) in
          let before : peer < c.loop-peer.peer = omega (arith, high, last) in
          rw (← lead, ← sealed) (c.loop-peer.invariant.inside peer at before);
      outside = c.loop-peer.invariant.outside;
    }
