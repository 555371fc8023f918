use Rattle.std.proofs.Common.{◌≡◌, true, false, sym, subst, ◌∙◌}
use Rattle.hs_rounds.specs.Rounds.{complete}
use Rattle.hs_shard.specs.Clients.{applied}
use Rattle.hs_shard.specs.Facts.{Catalogue}
use Rattle.hs_shard.specs.Rounds.{advanced}
use Rattle.hs_shard.proofs.AdvanceLemmas.{advance_over, advance_step}
use Rattle.hs_shard.proofs.catalogue.Catalogue.advance.Goals as goal

pub loop-self-preserved : goal.loop-self-preserved
loop-self-preserved c =
    advance_step (applied c.loop-self.self c.loop-self.effect) (applied c.end_round.new.self c.end_round.new.effect) (advanced (applied c.args.self.now c.args.effect.now)) c.loop-self.invariant
    (subst (λ (v : Catalogue). complete v.run ≡ true) c.self.view_is (sym c.complete.ensures ∙ c.loop-self-test.true)) c.in_ok-end_round.ensures.ok c.in_ok-end_round.ensures.fewer

pub returns-clause-ok : goal.returns-clause-ok
returns-clause-ok c =
    advance_over (applied c.loop-self.self c.loop-self.effect) (advanced (applied c.args.self.now c.args.effect.now)) c.loop-self.invariant
    (subst (λ (v : Catalogue). complete v.run ≡ false) c.self.view_is (sym c.complete.ensures ∙ c.loop-self-test.false))
