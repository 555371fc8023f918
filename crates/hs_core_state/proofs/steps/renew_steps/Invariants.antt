use Rattle.std.proofs.Common.{◌≡◌, ◌≢◌, ℕ, ◌<◌, None, length}
use Rattle.std.specs.Prelude.{slice_index_or}
use Rattle.hs_core_state.specs.Renewing.{step_at}
use Rattle.hs_members.specs.Members.{home_of}
use Rattle.hs_core_state.proofs.steps.renew_steps.Given as goal

abbrev pub invariant-loop-peer : goal.invariant-loop-peer
invariant-loop-peer l = record {
  length : length l.steps.items ≡ length l.initial.steps.items;
  inside : (k : ℕ) → home_of l.members.shape k ≡ l.shard → k < l.peer → slice_index_or l.steps.items k None ≡ step_at l.members l.lead l.sealed l.rejoins k;
  outside : (k : ℕ) → home_of l.members.shape k ≢ l.shard → slice_index_or l.steps.items k None ≡ slice_index_or l.initial.steps.items k None;
}
