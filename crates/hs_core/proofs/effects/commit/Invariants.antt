use Rattle.std.proofs.Common.{◌≡◌, ◌-◌}
use Rattle.hs_awaiting.specs.Words.{times}
use Rattle.hs_core_words.specs.Effects.{commit_next}
use Rattle.hs_core_state.specs.Keeping.{KeepsCore}
use Rattle.hs_core.proofs.effects.commit.Given as goal

abbrev pub invariant-loop-turn : goal.invariant-loop-turn
invariant-loop-turn l = record {
  kept : KeepsCore l.initial.core l.core;
  done : times (l.due - l._turn) (commit_next l.shard) l.core ≡ times l.due (commit_next l.shard) l.initial.core;
}
