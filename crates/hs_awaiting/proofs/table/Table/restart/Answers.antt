use Rattle.std.proofs.Common.{◌∙◌, sym, ap, ◌+◌, arith}
use Rattle.hs_awaiting.specs.Indexing.{rest_again}
use Rattle.hs_awaiting.proofs.RestartLemmas.{rest_first, rest_next, rest_none}
use Rattle.hs_awaiting.proofs.table.Table.restart.Goals as goal

pub loop-line-init : goal.loop-line-init
loop-line-init c = record { index = c.requires; rest = rest_first c.args.shard c.args.last c.args.self.now.map.entries }

pub loop-line-preserved : goal.loop-line-preserved
loop-line-preserved c =
    let shard = c.args.shard in
    let last = c.args.last in
    let k = c.in-Some.line in
    let from = c.loop-line.from in
    let es = c.loop-line.self.map.entries in
    record {
      index = c.in_ok-restart_one.ensures.index;
      rest = rw c.in_ok-from.ensures.value
          (ap (rest_again shard last (k + 1)) c.in_ok-restart_one.ensures.map
          ∙ rest_next shard last from k es c.in-Some.ensures.ordered c.in-Some.ensures.first
          ∙ c.loop-line.invariant.rest);
    }

pub loop-line-smaller : goal.loop-line-smaller
loop-line-smaller c = omega (arith, c.in_ok-from.ensures.value, c.in_ok-from.ensures.fits, c.in-Some.ensures.first.0)

pub returns-clause-map : goal.returns-clause-map
returns-clause-map c =
    let shard = c.args.shard in
    let last = c.args.last in
    let from = c.loop-line.from in
    let es = c.loop-line.self.map.entries in
    sym (rest_none shard last from es c.first_of.ensures.ordered (rw c.in_default.is at c.first_of.ensures.first)) ∙ c.loop-line.invariant.rest
