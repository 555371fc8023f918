use Rattle.std.proofs.Common.{◌∙◌, ◌/◌, ap, arith}
use Rattle.std.specs.Prelude.{slice_index_or}
use Rattle.hs_scrub.proofs.TextLemmas.{lines_more}
use Rattle.hs_scrub.proofs.text.put_lines.Goals as goal

pub loop-peer-preserved : goal.loop-peer-preserved
loop-peer-preserved c = record {
  within = omega arith;
  lines = c.in_ok-put_line.ensures ∙ lines_more c.args.copies c.args.lengths.now c.loop-peer.peer c.length_at-length.result c.args.marks.now _ c.args.out.now.items c.loop-peer.out.items c.loop-peer-test.true
      (c.length_at-length.ensures ∙ ap (λ n. slice_index_or c.args.lengths.now (c.loop-peer.peer / n) 0) c.from.ensures) c.loop-peer.invariant.lines;
}
