use Rattle.std.proofs.Common.{sym, subst, ◌<◌}
use Rattle.hs_core_state.specs.declared.aim.Aim.{Aim}
use Rattle.hs_core_words.specs.State.{Core}
use Rattle.hs_core_state.proofs.PlacedLemmas.{found_within}
use Rattle.hs_core_state.proofs.state.State.aim_at.Goals as goal

pub returns-in-Some-clause-shard : goal.returns-in-Some-clause-shard
returns-in-Some-clause-shard c =
    let core : Core = c.args.self.now in
    let w = c.in-Some.waiting.now in
    let inside : w.shard < c.self.inside.members.shape.shards
    = found_within c.self.inside.members.shape.shards c.self.inside.operations c.args.line w c.self.invariant.placed (sym c.in-Some.ensures) in
    let within : w.shard < core.members.shape.shards = subst (λ (x : Core). w.shard < x.members.shape.shards) c.self.view_is inside in
    subst (λ (a : Aim). a.shard < core.members.shape.shards) (sym c.aim_of.ensures) within
