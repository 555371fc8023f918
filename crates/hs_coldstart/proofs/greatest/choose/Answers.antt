use Rattle.std.proofs.Common.{◌≡◌, arith, rules, ◌∙◌}
use Rattle.std.specs.Option.{option_map}
use Rattle.hs_coldstart.proofs.ChooseLemmas.{chosen_at_end, found_at_end, so_far_more}
use Rattle.hs_coldstart.proofs.greatest.choose.Goals as goal

pub loop-place-preserved : goal.loop-place-preserved
loop-place-preserved c = rw c.better-best.ensures (so_far_more c.args.ranks.now c.loop-place.place c.loop-place.best c.loop-place.invariant)

pub returns-clause-value : goal.returns-clause-value
returns-clause-value c =
    let mapped : c.map.result ≡ option_map (λ x. x.0) c.loop-place.best = search rules in
    mapped ∙ chosen_at_end c.args.ranks.now c.loop-place.place c.loop-place.best (omega arith) c.loop-place.invariant

pub returns-clause-found : goal.returns-clause-found
returns-clause-found c = c.map.ensures.variant ∙ found_at_end c.args.ranks.now c.loop-place.place c.loop-place.best (omega arith) c.loop-place.invariant
