use Rattle.std.proofs.Common.{◌≡◌, length}
use Rattle.hs_core_words.specs.Changing.{post}
use Rattle.hs_core_words.specs.Effects.{round_messages}
use Rattle.hs_core_state.specs.Keeping.{KeepsCore}
use Rattle.hs_core_state.proofs.state.State.round_out.Given as goal

abbrev pub invariant-loop-sent : goal.invariant-loop-sent
invariant-loop-sent l = record {
  kept : KeepsCore l.initial.self l.self;
  sent : post (round_messages l.shard l.rest.items) l.self ≡ post (round_messages l.shard l.initial.rest.items) l.initial.self;
}

abbrev pub decreases-loop-sent : goal.decreases-loop-sent
decreases-loop-sent l = length l.rest.items
