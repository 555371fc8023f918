use Rattle.std.proofs.Common.{◌∙◌, sym, ap, ◌+◌, ◌<◌, length, drop, arith}
use Rattle.std.proofs.lemmas.Grind.{common_steps}
use Rattle.std.proofs.lemmas.List.{at_drop_more}
use Rattle.hs_awaiting.specs.Words.{each}
use Rattle.hs_core_words.specs.Operating.{resume}
use Rattle.hs_core.proofs.KeptLemmas.{kept_then}
use Rattle.hs_core.proofs.resuming.resume_each.Goals as goal

pub loop-line-preserved : goal.loop-line-preserved
loop-line-preserved c =
    let xs = c.args.lines.now in
    let i = c.loop-line.line-index in
    let less : i < length xs = grind (arith, common_steps) in
    record {
      resumed =
          ap (λ x. each (drop (i + 1) xs) resume x) c.in_ok-resume.ensures.ok
          ∙ sym (at_drop_more (λ ys. each ys resume c.loop-line.core) xs i 0 less)
          ∙ c.loop-line.invariant.resumed;
      kept = kept_then c.args.core.now c.loop-line.core c.resume.new.core c.loop-line.invariant.kept c.in_ok-resume.ensures.kept;
    }
