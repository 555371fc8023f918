use Rattle.std.proofs.Common.{sym, ap, option_and_then}
use Rattle.std.specs.Ordering.{nat_cmp}
use Rattle.hs_awaiting.specs.Indexing.{cause_of, found_in, session_in, shard_in, storing}
use Rattle.hs_awaiting.specs.declared.keys.Keys.{Keys}
use Rattle.hs_awaiting.proofs.IndexLemmas.{kept_moved, waits_moved}
use Rattle.hs_awaiting.proofs.table.Table.move_line.Goals as goal
use Rattle.hs_tokens.specs.Seats.{name_cmp}

pub returns-clause-index : goal.returns-clause-index
returns-clause-index c = λ before after put were own told changes.
    let line = c.args.line in
    record {
      index = record {
        sessions = kept_moved name_cmp session_in line put c.args.to.session before after c.change.new.self (ap (λ (k : Keys). k.session) told) changes
            (c.in_ok-change.ensures (λ n. option_and_then session_in (found_in before n)) were.index.sessions (sym (ap (λ (k : Keys). k.session) own)));
        waits = waits_moved cause_of line put c.args.to.cause before after c.change-2.new.self (ap (λ (k : Keys). k.cause) told) changes
            (c.in_ok-change-2.ensures (λ n. option_and_then cause_of (found_in before n)) were.index.waits (sym (ap (λ (k : Keys). k.cause) own)));
      };
      stored = waits_moved storing line put c.args.to.stored before after c.change-3.new.self (ap (λ (k : Keys). k.stored) told) changes
          (c.in_ok-change-3.ensures (λ n. option_and_then storing (found_in before n)) were.stored (sym (ap (λ (k : Keys). k.stored) own)));
      shards = kept_moved nat_cmp shard_in line put c.args.to.shard before after c.change-4.new.self (ap (λ (k : Keys). k.shard) told) changes
          (c.in_ok-change-4.ensures (λ n. option_and_then shard_in (found_in before n)) were.shards (sym (ap (λ (k : Keys). k.shard) own)));
    }
