use Rattle.std.proofs.Common.{rules, ◌≡◌, ◌++◌, [], ◌∷◌, sym, arith}
use Rattle.hs_load.specs.Seating.{AreAskers, AreBack, HasCameBack}
use Rattle.hs_load.proofs.ListLemmas.{all_front, all_last}
use Rattle.hs_load.proofs.gathering.gather_all.Goals as goal

pub returns-in_err-gather_one-clause-back : goal.returns-in_err-gather_one-clause-back
returns-in_err-gather_one-clause-back g c = λ slots disks now task all start.
    let is : c.loop-turn.elements.items ≡ c.pop.new.self.items ++ c.in-Some.element ∷ [] = c.in-Some.ensures.items in
    let left = c.loop-turn.invariant.left slots disks now task all in
    c.gather_one.ensures.back slots disks now task
    (all_last (HasCameBack g.D.Disk.tells g.D.Disk.size g.D.Disk.stands g.D.Disk.faults slots disks now task) c.loop-turn.elements.items c.pop.new.self.items c.in-Some.element is left)
    (c.loop-turn.invariant.back slots disks now task all start)

pub returns-in_err-gather_one-clause-told : goal.returns-in_err-gather_one-clause-told
returns-in_err-gather_one-clause-told g c = λ slots disks now task count all start.
    let is : c.loop-turn.elements.items ≡ c.pop.new.self.items ++ c.in-Some.element ∷ [] = c.in-Some.ensures.items in
    let left = c.loop-turn.invariant.left slots disks now task all in
    c.gather_one.ensures.told slots disks now task count
    (all_last (HasCameBack g.D.Disk.tells g.D.Disk.size g.D.Disk.stands g.D.Disk.faults slots disks now task) c.loop-turn.elements.items c.pop.new.self.items c.in-Some.element is left)
    (c.loop-turn.invariant.told slots disks now task count all start)

pub loop-turn-preserved : goal.loop-turn-preserved
loop-turn-preserved g c =
    let is : c.loop-turn.elements.items ≡ c.pop.new.self.items ++ c.in-Some.element ∷ [] = c.in-Some.ensures.items in
    record {
      left = λ slots disks now task all.
          all_front (HasCameBack g.D.Disk.tells g.D.Disk.size g.D.Disk.stands g.D.Disk.faults slots disks now task) c.loop-turn.elements.items c.pop.new.self.items c.in-Some.element is (c.loop-turn.invariant.left slots disks now task all);
      back = λ slots disks now task all start. c.gather_one.ensures.back slots disks now task
          (all_last (HasCameBack g.D.Disk.tells g.D.Disk.size g.D.Disk.stands g.D.Disk.faults slots disks now task) c.loop-turn.elements.items c.pop.new.self.items c.in-Some.element is (c.loop-turn.invariant.left slots disks now task all))
          (c.loop-turn.invariant.back slots disks now task all start);
      told = λ slots disks now task count all start. c.gather_one.ensures.told slots disks now task count
          (all_last (HasCameBack g.D.Disk.tells g.D.Disk.size g.D.Disk.stands g.D.Disk.faults slots disks now task) c.loop-turn.elements.items c.pop.new.self.items c.in-Some.element is (c.loop-turn.invariant.left slots disks now task all))
          (c.loop-turn.invariant.told slots disks now task count all start);
      back_count = search rules;
      told_count = search rules;
      ticks = search rules;
    }
