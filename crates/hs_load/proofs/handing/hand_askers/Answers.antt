use Rattle.std.proofs.Common.{rules, ◌≡◌, ◌++◌, [], ◌∷◌, Option, List, sym, subst}
use Rattle.hs_load.specs.declared.gathering.Answered.{Answered}
use Rattle.hs_load.specs.Seating.{AreAskers}
use Rattle.hs_load.proofs.GatherLemmas.{told_less}
use Rattle.hs_load.proofs.HandLemmas.{one_asker_more}
use Rattle.hs_load.proofs.ListLemmas.{snoc_length}
use Rattle.hs_load.proofs.handing.hand_askers.Goals as goal

pub loop-number-preserved : goal.loop-number-preserved
loop-number-preserved c =
    let kept : c.add.new.items.items ≡ c.loop-number.kept.items ++ c.in-Some.answered.kept ∷ [] = c.in_ok-add.ensures.ok in
    let ends : c.add-in-loop-number.new.items.items ≡ c.loop-number.ends.items ++ c.in-Some.answered.end ∷ [] = c.in_ok-add-2.ensures.ok in
    record {
      count = search rules;
      kept_count = snoc_length c.loop-number.kept.items c.add.new.items.items c.in-Some.answered.kept c.loop-number.number kept c.loop-number.invariant.kept_count;
      ends_count = snoc_length c.loop-number.ends.items c.add-in-loop-number.new.items.items c.in-Some.answered.end c.loop-number.number ends c.loop-number.invariant.ends_count;
      left = λ task all. subst (λ (xs : List (Option Answered)). AreAskers task xs) (sym c.take_at.ensures.rest) (told_less task c.loop-number.told.items c.loop-number.number (c.loop-number.invariant.left task all));
      each = λ task all. one_asker_more task c.loop-number.told.items c.loop-number.kept.items c.add.new.items.items c.loop-number.ends.items c.add-in-loop-number.new.items.items c.loop-number.number c.in-Some.answered
          (c.loop-number.invariant.left task all) c.in-Some.ensures.item kept ends c.loop-number.invariant.kept_count c.loop-number.invariant.ends_count (c.loop-number.invariant.each task all);
    }
