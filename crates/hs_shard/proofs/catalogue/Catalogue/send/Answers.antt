use Rattle.std.proofs.Common.{◌++◌, ap, sym, ◌∙◌, append_assoc}
use Rattle.hs_rounds.proofs.EachLemmas.{each_more}
use Rattle.hs_shard.specs.Rounds.{message_to, messages}
use Rattle.hs_shard.proofs.catalogue.Catalogue.send.Goals as goal

pub loop-to-preserved : goal.loop-to-preserved
loop-to-preserved c =
    c.in_ok-send_to.ensures.ok
    ∙ ap (λ sends. sends ++ message_to c.args.epoch c.args.round c.args.self.now.run c.loop-to.to) c.loop-to.invariant
    ∙ append_assoc c.args.sends.now (messages c.loop-to.to c.args.epoch c.args.round c.args.self.now.run) (message_to c.args.epoch c.args.round c.args.self.now.run c.loop-to.to)
    ∙ ap (λ more. c.args.sends.now ++ more) (sym (each_more (message_to c.args.epoch c.args.round c.args.self.now.run) c.loop-to.to))
