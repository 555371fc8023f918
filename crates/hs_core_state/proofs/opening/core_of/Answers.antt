use Rattle.std.proofs.Common.{◌≡◌, ◌∙◌, ◌*◌, ap, arith, length, replicate, None, Option}
use Rattle.std.proofs.lemmas.Grind.{common_steps}
use Rattle.std.proofs.lemmas.List.{length-replicate}
use Rattle.hs_rejoin.specs.Rejoin.{Rejoin}
use Rattle.hs_core_state.proofs.OpenLemmas.{fronts_of_all, kept_of_all, steps_of_none}
use Rattle.hs_core_state.proofs.PlacedLemmas.{within_none}
use Rattle.hs_core_state.proofs.opening.core_of.Goals as goal

pub invariant_of-result : goal.invariant_of-result
invariant_of-result c =
    let shape = c.args.lists.members.shape in
    let rejoins : c.in_ok-rejoins.rejoins.items ≡ replicate (shape.shards * shape.copies) None = grind (arith, common_steps) in
    let steps : c.in_ok-steps.steps.items ≡ replicate (shape.shards * shape.copies) None = grind (arith, common_steps) in
    let none : Option Rejoin = None in
    let count : length c.in_ok-rejoins.rejoins.items ≡ shape.shards * shape.copies = ap length rejoins ∙ length-replicate (shape.shards * shape.copies) none in
    record {
      kept = kept_of_all _ c.args.lists.fronts.items c.shape-shape.ensures.valid c.requires.all c.requires.logs count;
      fronts = fronts_of_all _ c.args.lists.fronts.items c.requires.all;
      steps = steps_of_none _ c.in_ok-steps.steps.items steps c.requires.joins;
      sessions = c.new.ensures.limits;
      journal = c.new-3.ensures.limit;
      placed = within_none _ c.new-2.result c.new-2.ensures;
    }
