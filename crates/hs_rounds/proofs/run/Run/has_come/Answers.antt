use Rattle.std.proofs.Common.{◌≡◌, ◌∙◌, ap}
use Rattle.hs_rounds.specs.Rounds.{Run, has_come}
use Rattle.hs_rounds.proofs.ComeLemmas.{come_from_some}
use Rattle.hs_rounds.proofs.run.Run.has_come.Goals as goal

pub returns : goal.returns
returns c =
    let run : Run = record { shape = c.self.inside.shape; shard = c.self.inside.shard; opened = c.self.inside.opened; gots = c.self.inside.gots; sent = c.self.inside.sent.items } in
    c.has_some.ensures ∙ come_from_some run c.args.epoch c.args.round c.self.invariant.0 ∙ ap (has_come c.args.epoch c.args.round) c.self.view_is
