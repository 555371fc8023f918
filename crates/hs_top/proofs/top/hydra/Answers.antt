use Rattle.std.proofs.Common.{◌∙◌, sym}
use Rattle.hs_top.proofs.top.hydra.Goals as goal

pub returns-then-is_load : goal.returns-then-is_load
returns-then-is_load g c = record {
  called = c.load_with.ensures.called (sym c.is_load.ensures ∙ c.if-is_load.true) (g.S.Source.left c.args.source.now, g.S.Source.faults c.args.source.now);
}
