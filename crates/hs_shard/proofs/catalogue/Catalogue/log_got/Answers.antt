use Rattle.std.proofs.Common.{◌≡◌, ap, ◌∙◌}
use Rattle.hs_rounds.specs.Rounds.{Run, got}
use Rattle.hs_shard.specs.Facts.{Catalogue}
use Rattle.hs_shard.specs.Rounds.{log_got}
use Rattle.hs_shard.proofs.catalogue.Catalogue.log_got.Goals as goal

pub returns-clause-ok : goal.returns-clause-ok
returns-clause-ok c =
    let run : c.got.new.self ≡ got c.args.place (record { total = c.args.total; deltas = c.args.deltas.now }) c.self.inside.run =
    c.in_ok-got.ensures.ok ∙ ap (λ deltas. got c.args.place (record { total = c.args.total; deltas = deltas }) c.self.inside.run) (c.into_vec-deltas.ensures ∙ c.in_ok-copy.ensures) in
    let with_run : Run → Catalogue = λ run. record { shape = c.self.inside.shape; shard = c.self.inside.shard; blocks = c.self.inside.blocks; roots = c.self.inside.roots.roots; epoch = c.self.inside.epoch; swept = c.self.inside.swept; view = c.self.inside.view; run = run } in
    ap with_run run ∙ ap (λ v. log_got c.args.place (record { total = c.args.total; deltas = c.args.deltas.now }) v) c.self.view_is
