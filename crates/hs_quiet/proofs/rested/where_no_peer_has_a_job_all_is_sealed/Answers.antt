use Rattle.hs_quiet.proofs.RestedLemmas.{lead_level, none_joins, nothing_waits_in, sealed_at}
use Rattle.hs_quiet.proofs.rested.where_no_peer_has_a_job_all_is_sealed.Goals as goal

pub returns : goal.returns
returns c = record {
  sealed = λ core all idle peer good. sealed_at core all idle peer good;
  leads = λ core all up idle shard peer low led. lead_level core all up idle shard low peer led;
  joins = λ core all up idle peer joins. none_joins core all up idle peer joins;
  waiting = λ core all up idle shard low front level. nothing_waits_in core all up idle shard low front level;
}
