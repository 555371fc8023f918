use Rattle.std.proofs.lemmas.Result.{on_ok_weaker}
use Rattle.hs_awaiting.proofs.IndexLemmas.{table_judged}
use Rattle.hs_awaiting.proofs.RestartLemmas.{sharded_judged}
use Rattle.hs_awaiting.proofs.StoredLemmas.{stored_judged}
use Rattle.hs_awaiting.proofs.table.Table.judge.Goals as goal

pub returns-clause-index : goal.returns-clause-index
returns-clause-index c =
    let how = c.args.how.now in
    let pointers = c.args.pointers.now in
    let v = c.args.view.now in
    let t = c.args.self.now in
    let next = c.judge_in.new.operations.entries in
    on_ok_weaker c.judge_in.result
    (λ made. record {
      index = table_judged how pointers v c.args.line t.map.entries next t.sessions t.waits c.requires.index made;
      stored = stored_judged how pointers v c.args.line t.map.entries next t.stored c.requires.stored made;
      shards = sharded_judged how pointers v c.args.line t.map.entries next t.shards c.requires.shards made;
    })
    c.judge_in.ensures.ok
