use Rattle.std.proofs.Common.{◌≡◌, ◌++◌, ◌∷◌, [], ◌%◌, arith, rules}
use Rattle.hs_script.proofs.DrawnLemmas.{one_more}
use Rattle.hs_script.proofs.plan.draw_leaves.Goals as goal

pub loop-preserved : goal.loop-preserved
loop-preserved c =
    let pushed : c.push.new.self ≡ c.loop.leaves ++ (c.next_u64.result % 4096) ∷ [] = search rules in
    record {
      within = omega arith;
      drawn = rw pushed (one_more c.args.count c.loop.counter c.next_u64.result c.loop.leaves _ _ _ c.loop-test.true c.next_u64.ensures c.loop.invariant.drawn);
    }
