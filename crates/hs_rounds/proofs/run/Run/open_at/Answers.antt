use Rattle.std.proofs.Common.{◌≡◌, ◌≤◌, length, ap, ◌∙◌, arith, length-take, subst, sym}
use Rattle.std.proofs.lemmas.List.Elements.{All-cons, All-take}
use Rattle.std.specs.Prelude.{All}
use Rattle.hs_rounds.proofs.SentLemmas.{sent_to_each}
use Rattle.hs_rounds.specs.Rounds.{IsSent, Run, from_round}
use Rattle.hs_rounds.proofs.RunLemmas.{opened_is_run, received_opened}
use Rattle.hs_rounds.proofs.run.Run.open_at.Goals as goal

pub invariant_of-self-2 : goal.invariant_of-self-2
invariant_of-self-2 c =
    let run : Run = record { shape = c.self.inside.shape; shard = c.self.inside.shard; opened = c.self.inside.opened; gots = c.self.inside.gots; sent = c.self.inside.sent.items } in
    let gots : c.forget_before.new.self ≡ from_round c.args.epoch c.args.round c.self.inside.gots = c.forget_before.ensures ∙ ap (λ round. from_round c.args.epoch round c.self.inside.gots) c.from.ensures in
    let two : length c.truncate.new.self.items ≤ 2 = rw c.truncate.ensures.items (omega (arith, length-take 2 c.insert.new.self.items)) in
    let tells : All (IsSent c.self.inside.shape.shards) c.truncate.new.self.items =
    rw c.truncate.ensures.items (All-take (IsSent c.self.inside.shape.shards) 2 c.insert.new.self.items
    (rw c.in_ok-insert.ensures.items (All-cons (IsSent c.self.inside.shape.shards) (record { epoch = c.args.epoch; round = c.args.round; bodies = c.in_ok-bodies.bodies }) c.self.inside.sent.items
    (subst (λ bodies. IsSent c.self.inside.shape.shards (record { epoch = c.args.epoch; round = c.args.round; bodies = bodies })) (sym c.in_ok-bodies.ensures)
    (sent_to_each c.self.inside.shape.shards c.args.epoch c.args.round c.args.total c.args.deltas.now c.requires))
    c.self.invariant.0.sent))) in
    rw gots (
      opened_is_run run c.args.epoch c.args.round c.truncate.new.self.items c.self.invariant.0 tells two,
      c.in_ok-arrived.ensures ∙ received_opened c.self.inside.shape.shards c.args.epoch c.args.round c.self.inside.gots,
    )
