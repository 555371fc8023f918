-- The lines of operations where one is put at its line: for private clauses.
use Rattle.std.specs.BTreeMap.{is_at}
use Rattle.std.specs.Option.{option_and_then}
use Rattle.std.specs.Ordering.{nat_cmp}
use Rattle.std.specs.Prelude.{◌≡◌, ℕ, cond, List, Option}
use Rattle.hs_awaiting.specs.declared.keys.Keys.{Keys}
use Rattle.hs_awaiting.specs.declared.table.Table.{Table}
use Rattle.hs_awaiting.specs.declared.waiting.Waiting.{Waiting}
use Rattle.hs_awaiting.specs.Indexing.{AreSharded, AreStored, IsIndexedBy, cause_of, found_in, session_in, shard_in, storing}

-- the operations, but that of this line is another
abbrev pub IsPutAt : ℕ → Option Waiting → List (ℕ × Waiting) → List (ℕ × Waiting) → Type 0
IsPutAt line new old es = (q : ℕ) → found_in es q ≡ cond (is_at (nat_cmp line) q) new (found_in old q)

-- the lines of a table stand by these operations
pub record IsIndexedIn (es : List (ℕ × Waiting)) (t : Table) : Type 0 where
  pub index : IsIndexedBy (found_in es) t.sessions t.waits
  pub stored : AreStored (found_in es) t.stored
  pub shards : AreSharded (found_in es) t.shards

-- the keys by which the line of an operation stands, where there is one
abbrev pub keys_in : Option Waiting → Keys
keys_in w = record {
  session = option_and_then session_in w;
  cause = option_and_then cause_of w;
  stored = option_and_then storing w;
  shard = option_and_then shard_in w;
}
