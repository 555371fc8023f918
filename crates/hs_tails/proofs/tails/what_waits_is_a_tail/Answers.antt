use Rattle.hs_tails.proofs.WaitsLemmas.{waits_open, waits_rest}
use Rattle.hs_tails.proofs.tails.what_waits_is_a_tail.Goals as goal

pub returns-clause-rests : goal.returns-clause-rests
returns-clause-rests c = λ by start core cs shard its room low. waits_rest by start core cs its room shard low

pub returns-clause-lines : goal.returns-clause-lines
returns-clause-lines c = λ name core shard orderly. waits_open c.no_line_waits_twice.ensures name core orderly shard
