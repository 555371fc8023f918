use Rattle.std.proofs.Common.{◌∙◌, arith}
use Rattle.hs_script.proofs.SummaryLemmas.{lines_more}
use Rattle.hs_script.proofs.sums.put_writers.Goals as goal

pub loop-number-preserved : goal.loop-number-preserved
loop-number-preserved c = record {
  within = omega arith;
  lines = c.in_ok-put_writer.ensures ∙ lines_more c.loop-number.number c.args.writers.now _ c.args.out.now.items c.loop-number.out.items c.loop-number-test.true c.loop-number.invariant.lines;
}
