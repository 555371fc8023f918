use Rattle.std.proofs.Common.{◌≡◌, ◌<◌, ℕ, List, length, true, sym, subst}
use Rattle.hs_limits.specs.declared.delta.Delta.{Delta}
use Rattle.hs_limits.specs.Shape.{IsShape}
use Rattle.hs_rounds.specs.Rounds.{complete, finish, go_on}
use Rattle.hs_shard.specs.Clients.{Applied}
use Rattle.hs_shard.specs.Facts.{Catalogue}
use Rattle.hs_shard.specs.Rounds.{next_deltas, next_total}
use Rattle.hs_shard.proofs.AdvanceLemmas.{finished_fewer, gone_on_fewer}
use Rattle.hs_shard.proofs.OutcomeLemmas.{if_ok_map}
use Rattle.hs_shard.proofs.catalogue.Catalogue.end_round.Goals as goal

pub returns-then-last-clause-fewer : goal.returns-then-last-clause-fewer
returns-then-last-clause-fewer c =
    if_ok_map c.sweep.result _ _
    (λ _ e. subst (λ (a : Applied). length a.catalogue.run.gots < length c.args.self.now.run.gots) (sym e)
    (subst (λ (v : Catalogue). length (finish c.self.inside.run).gots < length v.run.gots) c.self.view_is
    (finished_fewer c.self.inside.run c.in-Some.epoch c.in-Some.round (subst IsShape (sym c.self.invariant.run) c.self.invariant.shape) (sym c.in-Some.ensures)
    (subst (λ (v : Catalogue). complete v.run ≡ true) (sym c.self.view_is) c.requires))))
    c.sweep.ensures.ok

pub returns-else-last-clause-fewer : goal.returns-else-last-clause-fewer
returns-else-last-clause-fewer c =
    let mid : Catalogue = record { shape = c.self.inside.shape; shard = c.self.inside.shard; blocks = c.settle.new.self; roots = c.self.inside.roots.roots; epoch = c.self.inside.epoch; swept = c.self.inside.swept; view = c.self.inside.view; run = c.self.inside.run } in
    let total : ℕ = next_total c.in-Some.epoch c.in-Some.round mid in
    let deltas : List Delta = next_deltas c.in-Some.epoch c.in-Some.round mid in
    if_ok_map c.search.result _ _
    (λ _ e. subst (λ (a : Applied). length a.catalogue.run.gots < length c.args.self.now.run.gots) (sym e)
    (subst (λ (v : Catalogue). length (go_on total deltas c.self.inside.run).gots < length v.run.gots) c.self.view_is
    (gone_on_fewer total deltas c.self.inside.run c.in-Some.epoch c.in-Some.round (subst IsShape (sym c.self.invariant.run) c.self.invariant.shape) (sym c.in-Some.ensures)
    (subst (λ (v : Catalogue). complete v.run ≡ true) (sym c.self.view_is) c.requires))))
    c.search.ensures.ok
