use Rattle.std.proofs.Common.{ℕ, ◌<◌}
use Rattle.std.proofs.lemmas.List.Elements.{All-get_or}
use Rattle.hs_side.proofs.HeadLemmas.{bytes_within}
use Rattle.hs_side.proofs.SpellLemmas.{read_spelled, spelled_reads}
use Rattle.hs_side.proofs.laws.a_log_is_read_exactly_where_it_is_spelled.Goals as goal

pub returns : goal.returns
returns c bytes log fits =
    (read_spelled bytes log (bytes_within bytes (λ i low. All-get_or (λ (x : ℕ). x < 256) bytes i 0 low fits)), spelled_reads bytes log)
