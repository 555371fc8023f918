use Rattle.hs_core_words.specs.Step.{step}
use Rattle.hs_limits.specs.declared.limits.PeerStatus.TheVariants.{Joining}
use Rattle.hs_quiet.proofs.LastLemmas.{last_turn, lost_of, none_good, stays_at}
use Rattle.hs_quiet.proofs.lost.a_lost_shard_has_its_cause.Goals as goal

pub returns : goal.returns
returns c = record {
  lost = λ event moment core shard peer on lost low own good. none_good (step event moment core) shard peer (lost_of event moment core shard on lost).0 low own good;
  last = λ peer events core all. last_turn peer events core all;
  joins = λ peer before after core stays left. left.joins peer (stays_at peer Joining before after core stays);
}
