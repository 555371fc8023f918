use Rattle.std.proofs.Common.{◌≡◌, ◌∙◌, ap, sym, subst, ℕ, ◌<◌}
use Rattle.hs_core_state.specs.declared.aim.Aim.{Aim}
use Rattle.hs_core_state.specs.declared.state.State.TheView.{view}
use Rattle.hs_core_state.specs.Going.{aim_of}
use Rattle.hs_core_words.specs.State.{Core}
use Rattle.hs_core_state.proofs.AimLemmas.{aimed}
use Rattle.hs_core_state.proofs.JudgingLemmas.{judges_within}
use Rattle.hs_core_state.proofs.state.State.first_aim.Goals as goal
use Rattle.hs_limits.specs.declared.shape.Shape.{Shape}
use Rattle.hs_ops.specs.Speaking.{judging_shard}

pub returns-clause-value : goal.returns-clause-value
returns-clause-value c =
    let o = c.args.operation.now.op in
    let shards : ℕ = c.args.self.now.members.shape.shards in
    let seats = c.self.inside.sessions.seats in
    let judged : c.shard_for-shard.result ≡ judging_shard shards seats o
    = c.shard_for-shard.ensures seats c.address-address.ensures ∙ ap (λ (x : Shape). judging_shard x.shards seats o) c.shape.ensures.value in
    c.aim_by.ensures ∙ aimed o (view c.self.inside) c.shard_for-shard.result (judging_shard shards seats o) c.address-address.result c.op.result.now c.op.ensures judged c.address-address.ensures
    ∙ ap (λ (x : Core). aim_of (judging_shard shards x.sessions o) o x) c.self.view_is

pub returns-clause-shard : goal.returns-clause-shard
returns-clause-shard c =
    let o = c.args.operation.now.op in
    let shape = c.args.self.now.members.shape in
    let seats = c.self.inside.sessions.seats in
    let judged : c.shard_for-shard.result ≡ judging_shard shape.shards seats o
    = c.shard_for-shard.ensures seats c.address-address.ensures ∙ ap (λ (x : Shape). judging_shard x.shards seats o) c.shape.ensures.value in
    let same : c.aim_by.result.shard ≡ judging_shard shape.shards seats o = ap (λ (a : Aim). a.shard) c.aim_by.ensures ∙ judged in
    subst (λ (k : ℕ). k < shape.shards) (sym same) (judges_within shape seats o c.shape.ensures.kept.members.shape)
