use Rattle.std.proofs.Common.{◌≡◌, ◌∙◌, Some, option_and_then, refl, sym, ap, arith}
use Rattle.std.proofs.lemmas.Grind.{common_steps}
use Rattle.hs_awaiting.specs.declared.table.Table.{Table}
use Rattle.hs_awaiting.specs.Indexing.{cause_of, found_in, wait_cause}
use Rattle.hs_awaiting.proofs.IndexLemmas.{table_waits}
use Rattle.hs_awaiting.proofs.RestartLemmas.{sharded_waits}
use Rattle.hs_awaiting.proofs.StoredLemmas.{stored_waits}
use Rattle.hs_awaiting.proofs.table.Table.set_wait.Goals as goal

pub returns-clause-index : goal.returns-clause-index
returns-clause-index c =
    let w = c.in-Some.waiting.now in
    let t = c.args.self.now in
    let u : Table = record t { waits = c.change.new.self } in
    let es = c.set_wait.new.map.entries in
    let found : found_in t.map.entries c.args.line ≡ Some w = sym c.in-Some.ensures in
    let before : option_and_then cause_of (found_in t.map.entries c.args.line) ≡ c.cause_of-old.result = ap (option_and_then cause_of) found ∙ sym c.cause_of-old.ensures in
    let cause : c.wait_cause-cause.result ≡ wait_cause w.shard w.operation.op c.args.what = grind (arith, common_steps) in
    record {
      index = table_waits c.args.line c.args.what t u es w c.wait_cause-cause.result c.requires.index found
          cause refl refl (λ are. c.in_ok-change.ensures (λ n. option_and_then cause_of (found_in t.map.entries n)) are before) c.set_wait.ensures;
      stored = stored_waits c.args.line c.args.what t u es w c.requires.stored found refl refl c.set_wait.ensures;
      shards = sharded_waits c.args.line c.args.what t u es w c.requires.shards found refl refl c.set_wait.ensures;
    }
