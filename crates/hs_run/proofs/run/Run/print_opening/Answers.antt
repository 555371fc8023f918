use Rattle.std.proofs.Common.{◌<◌, ℕ, subst, drop, length}
use Rattle.hs_run.proofs.PutsLemmas.{ended_printed}
use Rattle.hs_run.proofs.run.Run.print_opening.Goals as goal
use Rattle.hs_script.specs.Text.{text}

pub returns-clause-puts : goal.returns-clause-puts
returns-clause-puts g c = record {
  put = c.print-put.result;
  puts = rw c.requires at c.print-put.ensures.puts;
  only = c.print-put.ensures.only;
  ended = c.end_of.ensures;
  some = λ is. subst (λ (k : ℕ). 0 < length (text (drop k c.args.self.now.cluster.core.journal))) c.requires (c.print-put.ensures.some is);
}

pub returns-clause-printed : goal.returns-clause-printed
returns-clause-printed g c = ended_printed c.args.did c.print-put.result _ _ c.end_of.ensures c.print-put.ensures.printed
